-- The fate words of the dearest write, one by one, and how many there are. Assumes nothing.
use Prim.Native.Nat.{ℕ, zero, suc, ◌+◌, ◌-◌, ◌*◌, ◌≤◌, ◌<◌}
use mathlib.Core.List.{List}
use mathlib.Core.Path.{◌≡◌, refl, sym, ap, ◌∙◌}
use native.Mathlib.Nat.{mul-le-mul_right, suc-mul}
use native.Mathlib.Omega.{arith}
use borrow.Table.Steps.{cases}
use borrow.Author.Tests.{eqb-true, eqb-false, ltb-true, ltb-false}
use lib.Dec.{eqb, ltb}
use lib.ListN.{length, get_or, replicate, length-set, length-replicate, get_or-replicate}
use lib.Seq.{get_or-set_same, get_or-set_other, set_out}
use Rattle.geometry.specs.declared.Geometry.{Geometry}
use Rattle.dearest.specs.Dearest.{slow_word, fail_word, copy_operations, dearest_length, failing_to, dearest_fates}

-- two places of one fill are of the same fill
fill_before : (each j i m e : ℕ) → i < each → j < m → j * each + i ≡ m * each + e → ⊥
fill_before each j i m e h l q = omega (arith, mul-le-mul_right each l, suc-mul j each, q, h)

same_fill : (each j i m e : ℕ) → i < each → e < each → j * each + i ≡ m * each + e → j ≡ m
same_fill each j i m e h k q =
    cases (ltb j m)
    (λ t. absurd (fill_before each j i m e h (ltb-true j m t) q))
    (λ f.
    cases (ltb m j)
    (λ t. absurd (fill_before each m e j i k (ltb-true m j t) (sym q)))
    (λ g. omega (arith, ltb-false j m f, ltb-false m j g)))

module _ (each : ℕ) (some : 0 < each) (words : List ℕ) where
  pub length_failing : (n : ℕ) → length (failing_to each n words) ≡ length words
  unfolding failing_to
  length_failing zero = refl
  length_failing (suc n) = length-set (failing_to each n words) (n * each + (each - 1)) fail_word ∙ length_failing n

  -- word i of fill j, where it is not the last one of one of the first n fills
  pub word_kept : (n j i : ℕ) → i < each → (i + 1 ≡ each → n ≤ j) → get_or (failing_to each n words) (j * each + i) 0 ≡ get_or words (j * each + i) 0
  unfolding failing_to
  word_kept zero j i h late = refl
  word_kept (suc n) j i h late =
      get_or-set_other (failing_to each n words) (n * each + (each - 1)) (j * each + i) fail_word 0 other
      ∙ word_kept n j i h (λ e. omega (arith, late e))
    where
      other : j * each + i ≡ n * each + (each - 1) → ⊥
      other q =
          let same = same_fill each j i n (each - 1) h (omega (arith, some)) q in
          let here : j * each ≡ n * each = ap (λ (k : ℕ). k * each) same in
          omega (arith, same, late (omega (arith, here, q, some)))

  -- the last word of one of the first n
  pub word_fails : (n j : ℕ) → j < n → n * each ≤ length words → get_or (failing_to each n words) (j * each + (each - 1)) 0 ≡ fail_word
  unfolding failing_to
  word_fails zero j h room = absurd (omega (arith, h))
  word_fails (suc n) j h room =
      cases (eqb j n)
      (λ t.
      let same = eqb-true j n t in
      let place : j * each + (each - 1) ≡ n * each + (each - 1) = ap (λ (k : ℕ). k * each + (each - 1)) same in
      ap (λ (k : ℕ). get_or (failing_to each (suc n) words) k 0) place
      ∙ get_or-set_same (failing_to each n words) (n * each + (each - 1)) fail_word 0 (omega (arith, length_failing n, room, suc-mul n each, some)))
      (λ f.
      let less : j < n = omega (arith, h, eqb-false j n f) in
      get_or-set_other (failing_to each n words) (n * each + (each - 1)) (j * each + (each - 1)) fail_word 0
      (λ q. omega (arith, less, same_fill each j (each - 1) n (each - 1) (omega (arith, some)) (omega (arith, some)) q))
      ∙ word_fails n j less (omega (arith, room, suc-mul n each)))

-- no word has a bit past bit 16
small_slow : (n i : ℕ) → get_or (replicate n slow_word) i 0 < 131072
small_slow zero i = omega arith
small_slow (suc n) zero = omega arith
small_slow (suc n) (suc i) = small_slow n i

small-failing : (each : ℕ) (words : List ℕ) → ((i : ℕ) → get_or words i 0 < 131072) → (n i : ℕ) → get_or (failing_to each n words) i 0 < 131072
unfolding failing_to
small-failing each words small zero i = small i
small-failing each words small (suc n) i =
    let at = n * each + (each - 1) in
    let less = small-failing each words small n in
    cases (ltb at (length (failing_to each n words)))
    (λ t.
    cases (eqb i at)
    (λ e. rw (eqb-true i at e, get_or-set_same (failing_to each n words) at fail_word 0 (ltb-true at (length (failing_to each n words)) t)) (omega arith))
    (λ e. rw (get_or-set_other (failing_to each n words) at i fail_word 0 (eqb-false i at e)) (less i)))
    (λ f. rw (set_out (failing_to each n words) at fail_word (ltb-false at (length (failing_to each n words)) f)) (less i))

pub ignored_clear : (g : Geometry) (failed i : ℕ) → get_or (dearest_fates g failed) i 0 < 131072
unfolding dearest_fates
ignored_clear g failed = small-failing (copy_operations g) (replicate (dearest_length g failed) slow_word) (small_slow (dearest_length g failed)) failed

-- the last word of a fill lies in the list
pub last_place : (each n failed long : ℕ) → 0 < each → n < failed → failed * each ≤ long → n * each + (each - 1) < long
last_place each n failed long some h room = omega (arith, some, room, suc-mul n each, mul-le-mul_right each h)

pub words-room : (g : Geometry) (failed : ℕ) → failed * copy_operations g ≤ dearest_length g failed
unfolding dearest_length
words-room g failed = omega (arith, mul-le-mul_right {m = failed} {n = failed + 1} (copy_operations g) (omega arith))

-- the list of the dearest write
module _ (g : Geometry) (some : 0 < g.pages) (failed : ℕ) where
  abbrev fill : ℕ
  fill = copy_operations g

  pub length_fates : length (dearest_fates g failed) ≡ dearest_length g failed
  unfolding dearest_fates
  length_fates =
      length_failing fill (omega (arith, some)) (replicate (dearest_length g failed) slow_word) failed ∙ length-replicate {A = ℕ} (dearest_length g failed) slow_word

  -- every word is slow that is not the last one of a fill that fails
  pub slow_at : (j i : ℕ) → i < fill → (i + 1 ≡ fill → failed ≤ j) → j * fill + i < dearest_length g failed → get_or (dearest_fates g failed) (j * fill + i) 0 ≡ slow_word
  unfolding dearest_fates
  slow_at j i h late within =
      word_kept fill (omega (arith, some)) (replicate (dearest_length g failed) slow_word) failed j i h late
      ∙ get_or-replicate (dearest_length g failed) (j * fill + i) slow_word 0 within

  -- the last word of each fill that fails says so
  pub fails_at : (j : ℕ) → j < failed → get_or (dearest_fates g failed) (j * fill + (fill - 1)) 0 ≡ fail_word
  unfolding dearest_fates
  fails_at j h =
      word_fails fill (omega (arith, some)) (replicate (dearest_length g failed) slow_word) failed j h
      (omega (arith, length-replicate {A = ℕ} (dearest_length g failed) slow_word, words-room g failed))
