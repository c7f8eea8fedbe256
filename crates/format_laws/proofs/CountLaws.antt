-- The blocks that a formatting has left: counted by their marks, by the list carried over and by the failures in its trace. Assumes nothing.
use Prim.Native.Nat.{ℕ, zero, suc, ◌+◌, ◌≤◌, ◌<◌}
use mathlib.Core.Bool.{Bool, true, false, cond}
use mathlib.Core.List.{List, []}
use mathlib.Core.Path.{◌≡◌, refl, sym, ap, ◌∙◌}
use native.Mathlib.Omega.{arith}
use borrow.Table.Steps.{cases}
use borrow.Author.Tests.{eqb-true, eqb-false, ltb-true, ltb-false, lt-ltb, le-ltb}
use lib.Dec.{eqb, ltb}
use lib.ListN.{replicate}
use Rattle.geometry.specs.declared.Geometry.{Geometry}
use Rattle.bitmaps.specs.Bitmap.{bit_at}
use Rattle.operations.specs.Trace.{ArrayOperation}
use Rattle.copies.specs.Blocks.{block_in, is_marked}
use Rattle.copies.specs.Carried.{is_carried}
use Rattle.state_choose.specs.Choose.{permitted, count_permitted}
use Rattle.damage.specs.Run.{failed_in}
use Rattle.format_laws.specs.Formatting.{unfailed}
use Rattle.bitmaps.proofs.BitmapLaws.{blank-bit}

-- a block counts once at most
at_most_one : (a b c : Bool) → cond a 0 (cond b 0 (cond c 0 1)) ≤ 1
at_most_one true b c = omega arith
at_most_one false true c = omega arith
at_most_one false false true = omega arith
at_most_one false false false = omega arith

module _ (g : Geometry) (array : List ℕ) (trace : List ArrayOperation) where
  -- as many as are permitted by bitmaps of the marks and of the blocks carried over or failed
  pub count_unfailed : (marked invalid : List ℕ) (n : ℕ) → n ≤ 4096 → ((b : ℕ) → b < n → is_marked g (block_in g array b) ≡ bit_at marked b)
      → ((b : ℕ) → b < n → cond (is_carried g array b) true (failed_in b trace) ≡ bit_at invalid b) → unfailed g array trace n ≡ count_permitted marked invalid (replicate 512 0) n
  unfolding unfailed count_permitted permitted
  count_unfailed marked invalid zero room m f = refl
  count_unfailed marked invalid (suc n) room m f =
      let less = count_unfailed marked invalid n (omega (arith, room)) (λ b h. m b (omega (arith, h))) (λ b h. f b (omega (arith, h))) in
      let clear = blank-bit 512 n in
      let here = f n (omega arith) in
      cases (bit_at marked n)
      (λ y. rw (m n (omega arith), y, less))
      (λ y.
      cases (is_carried g array n)
      (λ t. let gone : bit_at invalid n ≡ true = sym here ∙ rw t in rw (m n (omega arith), y, t, gone, less))
      (λ t.
      cases (failed_in n trace)
      (λ u. let gone : bit_at invalid n ≡ true = sym here ∙ rw (t, u) in rw (m n (omega arith), y, t, u, gone, less))
      (λ u. let there : bit_at invalid n ≡ false = sym here ∙ rw (t, u) in rw (m n (omega arith), y, t, u, there, clear, less))))

  -- whether a block is one of them
  abbrev pub Counted : ℕ → Type 0
  Counted b = (is_marked g (block_in g array b) ≡ false) × ((is_carried g array b ≡ false) × (failed_in b trace ≡ false))

  counted_one : (b : ℕ) → Counted b → unfailed g array trace (suc b) ≡ unfailed g array trace b + 1
  unfolding unfailed
  counted_one b c = rw (c.0, c.1.0, c.1.1)

  none_first : (n : ℕ) → n ≤ 0 → unfailed g array trace n ≤ 0
  unfolding unfailed
  none_first zero h = omega arith
  none_first (suc n) h = absurd (omega (arith, h))

  grows : (n k : ℕ) → n ≤ k → unfailed g array trace n ≤ unfailed g array trace k
  unfolding unfailed
  grows n zero h = none_first n h
  grows n (suc k) h =
      cases (eqb n (suc k))
      (λ e. omega (arith, ap (unfailed g array trace) (eqb-true n (suc k) e)))
      (λ e. omega (arith, grows n k (omega (arith, h, eqb-false n (suc k) e))))

  -- some where one is, two where two are
  pub some_unfailed : (n b : ℕ) → b < n → Counted b → 0 < unfailed g array trace n
  some_unfailed n b h c = omega (arith, counted_one b c, grows (suc b) n (omega (arith, h)))

  pub two_unfailed : (n b c : ℕ) → b < n → c < n → (b ≡ c → ⊥) → Counted b → Counted c → 1 < unfailed g array trace n
  two_unfailed n b c h k x y z =
      cases (ltb b c)
      (λ t. omega (arith, counted_one b y, counted_one c z, grows (suc b) c (omega (arith, ltb-true b c t)), grows (suc c) n (omega (arith, k))))
      (λ t. omega (arith, counted_one b y, counted_one c z, grows (suc c) b (omega (arith, ltb-false b c t, x)), grows (suc b) n (omega (arith, h))))

  -- none but one where all others are marked, carried over or failed
  pub none-unfailed : (n x : ℕ) → ((b : ℕ) → b < n → (b ≡ x → ⊥) → is_marked g (block_in g array b) ≡ false → is_carried g array b ≡ false → failed_in b trace ≡ true) → unfailed g array trace n ≤ cond (ltb x n) 1 0
  unfolding unfailed
  none-unfailed zero x f = omega arith
  none-unfailed (suc n) x f =
      let less = none-unfailed n x (λ b h. f b (omega (arith, h))) in
      cases (eqb n x)
      (λ e.
      let same = eqb-true n x e in
      let past : ltb x n ≡ false = le-ltb x n (omega (arith, same)) in
      let here : ltb x (suc n) ≡ true = lt-ltb x (suc n) (omega (arith, same)) in
      rw here (omega (arith, rw past at less, at_most_one (is_marked g (block_in g array n)) (is_carried g array n) (failed_in n trace))))
      (λ e.
      let other = eqb-false n x e in
      let none : ◌≡◌ {A = ℕ} (cond (is_marked g (block_in g array n)) 0 (cond (is_carried g array n) 0 (cond (failed_in n trace) 0 1))) 0 =
      cases (is_marked g (block_in g array n)) (λ t. rw t)
      (λ t. cases (is_carried g array n) (λ u. rw (t, u)) (λ u. rw (t, u, f n (omega arith) other t u))) in
      cases (ltb x n)
      (λ t. rw (lt-ltb x (suc n) (omega (arith, ltb-true x n t))) (omega (arith, rw t at less, none)))
      (λ t. omega (arith, rw t at less, none)))

  -- all that are not carried over where none failed
  pub all_unfailed : (n : ℕ) → ((b : ℕ) → b < n → failed_in b trace ≡ false) → unfailed g array trace n ≡ unfailed g array [] n
  unfolding unfailed failed_in
  all_unfailed zero f = refl
  all_unfailed (suc n) f = rw (f n (omega arith), all_unfailed n (λ b h. f b (omega (arith, h))))

-- blocks that may be filled, one fewer: all but one are permitted as before
module _ (marked invalid held invalid' held' : List ℕ) (t : ℕ) (others : (b : ℕ) → (b ≡ t → ⊥) → permitted marked invalid' held' b ≡ permitted marked invalid held b) where
  count_before : (n : ℕ) → n ≤ t → count_permitted marked invalid' held' n ≡ count_permitted marked invalid held n
  unfolding count_permitted
  count_before zero h = refl
  count_before (suc n) h = rw (others n (λ e. omega (arith, e, h)), count_before n (omega (arith, h)))

  pub count_moved : permitted marked invalid held t ≡ true → permitted marked invalid' held' t ≡ false → (n : ℕ) → t < n → count_permitted marked invalid' held' n + 1 ≡ count_permitted marked invalid held n
  unfolding count_permitted
  count_moved was gone zero h = absurd (omega (arith, h))
  count_moved was gone (suc n) h =
      cases (eqb t n)
      (λ e.
      let same = eqb-true t n e in
      let here : permitted marked invalid' held' n ≡ false = ap (permitted marked invalid' held') (sym same) ∙ gone in
      let before : permitted marked invalid held n ≡ true = ap (permitted marked invalid held) (sym same) ∙ was in
      rw (here, before, count_before n (omega (arith, same))) (omega arith))
      (λ e.
      let x = eqb-false t n e in
      let less = count_moved was gone n (omega (arith, h, x)) in
      rw (others n (λ y. x (sym y))) (omega (arith, less)))
