-- What a quick mount reads tells of every complete copy, and its next number and block filled last follow the mount's rule. Assumes nothing.
use Prim.Native.Nat.{ℕ, zero, suc, ◌-◌, ◌≤◌, ◌<◌, max}
use mathlib.Core.Bool.{Bool, true, false, cond, false≢true}
use mathlib.Core.List.{List}
use mathlib.Core.Logic.{◌↔◌}
use mathlib.Core.Path.{◌≡◌, refl, sym, ap, subst, ◌∙◌}
use native.Mathlib.Omega.{arith}
use borrow.Table.Steps.{cases}
use borrow.Author.Tests.{eq-eqb, eqb-true, eqb-false}
use lib.Dec.{eqb}
use Rattle.geometry.specs.declared.Geometry.{Geometry}
use Rattle.bools.proofs.BoolLaws.{both, unless, clash}
use Rattle.copies.specs.Blocks.{block_in, whole_in, label_in, number_in, is_marked, is_complete, Complete, greatest_to, greatest}
use Rattle.copies.specs.Current.{number_at, greatest_below}
use Rattle.copies.specs.Numbers.{PagesRead, Holds, IsNext, IsLast}
use Rattle.copies.specs.Pick.{Pick}
use Rattle.copies.specs.Quick.{last_page, ends_whole, reads_page, number_on, quick_has, quick_greatest, quick_below, quick_number, quick_last, quick_pages}
use Rattle.copies.proofs.CompleteLaws.{complete_pages}
use Rattle.copies.proofs.NumberLaws.{Greatest, greatest_on, greatest_least, greatest_in, any_is, Kept, next_kept, last_kept, next_one, last_one}

-- a complete block: all its pages are read
module _ (g : Geometry) (some : 0 < g.pages) (x : List ℕ) (t : is_complete g x ≡ true) where
  complete : Complete g x
  complete = complete_pages g x t

  pub complete_ends : ends_whole g x ≡ true
  unfolding ends_whole
  complete_ends = rw (complete.is_whole 0 some, complete.is_whole (g.pages - 1) (omega (arith, some)))

  pub complete_has : quick_has g x ≡ true
  unfolding quick_has
  complete_has = rw (complete.unmarked, complete.is_whole 0 some)

  pub quick_number_fact : number_in g x ≤ quick_greatest g x
  unfolding quick_greatest
  quick_number_fact = rw (complete.unmarked, complete_ends) (greatest_least g x g.pages 0 some (complete.is_whole 0 some))

-- of the blocks of an array
pub quick_in : (g : Geometry) (array : List ℕ) (n b : ℕ) → b < n → quick_greatest g (block_in g array b) ≤ quick_below g array n
unfolding quick_below
quick_in g array zero b h = absurd (omega (arith, h))
quick_in g array (suc n) b h =
    cases (eqb b n)
    (λ e. omega (arith, ap (λ (k : ℕ). quick_greatest g (block_in g array k)) (eqb-true b n e)))
    (λ e. omega (arith, quick_in g array n b (omega (arith, h, eqb-false b n e))))

quick_up : (g : Geometry) (array : List ℕ) (n k : ℕ) → ((b : ℕ) → b < n → quick_greatest g (block_in g array b) ≤ k) → quick_below g array n ≤ k
unfolding quick_below
quick_up g array zero k f = omega arith
quick_up g array (suc n) k f = omega (arith, quick_up g array n k (λ b h. f b (omega (arith, h))), f n (omega arith))

-- the next number lies above every complete copy's, on every array
pub quick_above : (g : Geometry) → 0 < g.pages → (array : List ℕ) (b : ℕ) → b < g.blocks → is_complete g (block_in g array b) ≡ true → number_at g array b < quick_number g array
unfolding quick_number
quick_above g some array b h t =
    omega (arith, quick_number_fact g some (block_in g array b) t, quick_in g array g.blocks b h)

-- the number on a page
number_whole : (g : Geometry) (x : List ℕ) (i : ℕ) → whole_in g x i ≡ true → number_on g x i ≡ (label_in g x i).number
unfolding number_on
number_whole g x i t = rw t

number_none : (g : Geometry) (x : List ℕ) (i : ℕ) → whole_in g x i ≡ false → number_on g x i ≡ 0
unfolding number_on
number_none g x i f = rw f

pub number_most : (g : Geometry) (x : List ℕ) (n i : ℕ) → i < n → number_on g x i ≤ greatest_to g x n
number_most g x n i h =
    cases (whole_in g x i)
    (λ t. omega (arith, number_whole g x i t, greatest_least g x n i h t))
    (λ f. omega (arith, number_none g x i f))

-- none lies above what a full mount finds
quick_most : (g : Geometry) → 0 < g.pages → (x : List ℕ) → quick_greatest g x ≤ greatest g x
unfolding quick_greatest greatest
quick_most g some x =
    cases (is_marked g x)
    (λ m. rw m (omega arith))
    (λ m.
    cases (ends_whole g x)
    (λ e. rw (m, e) (omega arith))
    (λ e. rw (m, e) (omega (arith, number_most g x g.pages 0 some, number_most g x g.pages (last_page g) (omega (arith, some))))))

pub quick_below_lem : (g : Geometry) → 0 < g.pages → (array : List ℕ) → quick_below g array g.blocks ≤ greatest_below g array g.blocks
quick_below_lem g some array =
    quick_up g array g.blocks (greatest_below g array g.blocks)
    (λ b h. omega (arith, quick_most g some (block_in g array b), greatest_in g array g.blocks b h))

-- a block of which no page read is whole
pub none_quick : (g : Geometry) (x : List ℕ) → quick_has g x ≡ false → quick_greatest g x ≡ 0
unfolding quick_has quick_greatest ends_whole
none_quick g x f =
    cases (is_marked g x)
    (λ u. rw u)
    (λ u.
    cases (whole_in g x 0)
    (λ w. absurd (false≢true (sym f ∙ rw (u, w))))
    (λ w. rw (u, w) (omega (arith, number_none g x 0 w, number_none g x (last_page g) (sym (rw (u, w)) ∙ f)))))

-- the mount's rule over the whole pages read
module _ (g : Geometry) (some : 0 < g.pages) (array : List ℕ) where
  abbrev read : PagesRead
  read = quick_pages g array

  abbrev row : ℕ → List ℕ
  row b = block_in g array b

  abbrev has : ℕ → Bool
  has b = quick_has g (row b)

  abbrev most : ℕ → ℕ
  most b = quick_greatest g (row b)

  reads_end : (x : List ℕ) (i : ℕ) → cond (eqb i 0) true (eqb i (last_page g)) ≡ true → reads_page g x i ≡ true
  unfolding reads_page
  reads_end x i e = cases (ends_whole g x) (λ t. rw t) (λ t. rw t e)

  reads_any : (x : List ℕ) (i : ℕ) → ends_whole g x ≡ true → reads_page g x i ≡ true
  unfolding reads_page
  reads_any x i t = rw t

  -- block b holds the number of a whole page that is read
  holds : (b i m : ℕ) → is_marked g (row b) ≡ false → i < g.pages → reads_page g (row b) i ≡ true → whole_in g (row b) i ≡ true → (label_in g (row b) i).number ≡ m → Holds read b m
  holds b i m u h r w e = record { page = i; within = h; counts = rw (u, r, w); bears = e }

  all_held : (b : ℕ) → is_marked g (row b) ≡ false → ends_whole g (row b) ≡ true → Greatest g (row b) g.pages → Holds read b (most b)
  unfolding quick_greatest
  all_held b u e r = holds b r.page (most b) u r.within (reads_any (row b) r.page e) r.is_whole (r.bears ∙ rw (u, e))

  first_held : (b : ℕ) → is_marked g (row b) ≡ false → ends_whole g (row b) ≡ false → whole_in g (row b) 0 ≡ true → whole_in g (row b) (last_page g) ≡ false → Holds read b (most b)
  unfolding quick_greatest
  first_held b u e w f =
      holds b 0 (most b) u some (reads_end (row b) 0 refl) w
      (rw (u, e) (omega (arith, number_whole g (row b) 0 w, number_none g (row b) (last_page g) f)))

  last_held : (b : ℕ) → is_marked g (row b) ≡ false → ends_whole g (row b) ≡ false → whole_in g (row b) 0 ≡ false → whole_in g (row b) (last_page g) ≡ true → Holds read b (most b)
  unfolding quick_greatest
  last_held b u e f w =
      holds b (last_page g) (most b) u (omega (arith, some))
      (reads_end (row b) (last_page g) (rw (eq-eqb (last_page g) (last_page g) refl) (cases (eqb (last_page g) 0) (λ t. rw t) (λ t. rw t)))) w
      (rw (u, e) (omega (arith, number_none g (row b) 0 f, number_whole g (row b) (last_page g) w)))

  held_most : (b : ℕ) → has b ≡ true → Holds read b (most b)
  unfolding quick_has ends_whole
  held_most b t =
      let parts = unless (is_marked g (row b)) _ t in
      cases (whole_in g (row b) 0)
      (λ w.
      cases (whole_in g (row b) (last_page g))
      (λ l. all_held b parts.0 (rw (w, l)) (greatest_on g (row b) g.pages (any_is g (row b) g.pages 0 some w)))
      (λ l. first_held b parts.0 (rw (w, l)) w l))
      (λ w. last_held b parts.0 (rw w) w (sym (rw w) ∙ parts.1))

  -- a page that counts is an end, or both ends are whole
  ends_or : (x : List ℕ) (i : ℕ) → ends_whole g x ≡ false → reads_page g x i ≡ true → whole_in g x i ≡ true → (label_in g x i).number ≤ max (number_on g x 0) (number_on g x (last_page g))
  unfolding reads_page
  ends_or x i e r w =
      cases (eqb i 0)
      (λ z. omega (arith, number_whole g x i w, ap (number_on g x) (eqb-true i 0 z)))
      (λ z. omega (arith, number_whole g x i w, ap (number_on g x) (eqb-true i (last_page g) (sym (rw (e, z)) ∙ r))))

  each_most : (b m : ℕ) → Holds read b m → m ≤ most b
  unfolding quick_greatest
  each_most b m h =
      let x = row b in
      let parts = unless (is_marked g x) _ h.counts in
      let counts = both (reads_page g x h.page) _ parts.1 in
      cases (ends_whole g x)
      (λ e. rw (parts.0, e) (omega (arith, h.bears, greatest_least g x g.pages h.page h.within counts.1)))
      (λ e. rw (parts.0, e) (omega (arith, h.bears, ends_or x h.page e counts.0 counts.1)))

  end_has : (x : List ℕ) (i : ℕ) → reads_page g x i ≡ true → whole_in g x i ≡ true → cond (whole_in g x 0) true (whole_in g x (last_page g)) ≡ true
  unfolding reads_page ends_whole
  end_has x i r w =
      cases (whole_in g x 0)
      (λ t. rw t)
      (λ t.
      cases (eqb i 0)
      (λ z. clash (sym (ap (whole_in g x) (eqb-true i 0 z)) ∙ w) t)
      (λ z. rw t (sym (ap (whole_in g x) (eqb-true i (last_page g) (sym (rw (t, z)) ∙ r))) ∙ w)))

  each_has : (b m : ℕ) → Holds read b m → has b ≡ true
  unfolding quick_has
  each_has b m h =
      let x = row b in
      let parts = unless (is_marked g x) _ h.counts in
      let counts = both (reads_page g x h.page) _ parts.1 in
      rw parts.0 (end_has x h.page counts.0 counts.1)

  quick_kept : (b : ℕ) → b < g.blocks → Kept read has most b
  quick_kept b h = record { held = held_most b; each = λ m x. (each_has b m x, each_most b m x); none = none_quick g (row b) }

  next_is : IsNext read (quick_number g array)
  unfolding quick_number
  next_is = next_kept read has most quick_kept (quick_below g array g.blocks) (quick_in g array g.blocks) (quick_up g array g.blocks)

  last_is : IsLast read (quick_number g array) (quick_last g array)
  unfolding quick_number quick_last
  last_is = last_kept read has most quick_kept (quick_below g array g.blocks) (quick_in g array g.blocks) (quick_up g array g.blocks)

  -- a quick mount's next number, exactly
  pub quick_next_exactly : (n : ℕ) → (n ≡ quick_number g array) ↔ IsNext read n
  quick_next_exactly n = (λ e. subst (IsNext read) (sym e) next_is, λ x. next_one read n (quick_number g array) x next_is)

  -- and the block filled last
  pub quick_last_exactly : (o : Pick) → (o ≡ quick_last g array) ↔ IsLast read (quick_number g array) o
  quick_last_exactly o =
      (λ e. subst (IsLast read (quick_number g array)) (sym e) last_is, λ x. last_one read (quick_number g array) o (quick_last g array) x last_is)
