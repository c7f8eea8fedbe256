-- How a table is laid out, page after page; one that a mount takes is carried over by a formatting. Assumes nothing.
use Prim.Native.Nat.{ℕ, zero, suc, ◌<◌}
use mathlib.Core.Bool.{Bool, true, false, cond}
use mathlib.Core.List.{List}
use mathlib.Core.Path.{◌≡◌, refl, sym, subst}
use native.Mathlib.Omega.{arith}
use borrow.Author.Tests.{eqb-true, ne_eqb}
use lib.Dec.{eqb}
use Rattle.geometry.specs.declared.Geometry.{Geometry}
use Rattle.bools.proofs.BoolLaws.{both}
use Rattle.pages.specs.Layout.{label_of}
use Rattle.copies.specs.Blocks.{block_in, page_in, main_in, is_marked}
use Rattle.copies.specs.Pick.{Pick, nothing, at}
use Rattle.copies.specs.Table.{field_of, right_first, right_page, right_to, right_table, lists, with_logical, own_count, layout_to, right_with, laid_table}
use Rattle.copies.specs.Current.{current_table, clashes, judge_table, mount_answer}
use Rattle.copies.specs.Carried.{carried_by, carried_table}

module _ (g : Geometry) (block : List ℕ) where
  -- a table right for a number of logical blocks names that number
  first_names : right_first g.blocks g.logical (main_in g block 0) ≡ true → field_of (main_in g block 0) 2 ≡ g.logical
  unfolding right_first
  first_names t =
      eqb-true (field_of (main_in g block 0) 2) g.logical (both _ _ (both (eqb (field_of (main_in g block 0) 0) g.blocks) _ t).1).0

  page_names : right_page g 0 (page_in g block 0) ≡ true → field_of (main_in g block 0) 2 ≡ g.logical
  unfolding right_page
  page_names t = first_names (both (eqb (label_of g.main (page_in g block 0)).logical 0) _ t).1

  pub right_names : (n : ℕ) → right_to g block (suc n) ≡ true → field_of (main_in g block 0) 2 ≡ g.logical
  unfolding right_to
  right_names zero t = page_names (both (right_page g 0 (page_in g block 0)) _ t).0
  right_names (suc n) t = right_names n (both (right_page g (suc n) (page_in g block (suc n))) _ t).1

module _ (g : Geometry) (some : 0 < g.pages) (marked : ℕ → Bool) (block : List ℕ) where
  names : (k : ℕ) → 0 < k → right_to g block k ≡ true → field_of (main_in g block 0) 2 ≡ g.logical
  names zero h t = absurd (omega (arith, h))
  names (suc k) h t = right_names g block k t

  parts : right_table g marked block ≡ true → right_to g block g.pages ≡ true
  unfolding right_table
  parts t = (both (right_to g block g.pages) _ t).0

  -- so it is laid out
  pub right_laid : right_table g marked block ≡ true → laid_table g marked block ≡ true
  unfolding laid_table
  right_laid t =
      subst (λ (n : ℕ). right_table (with_logical n g) marked block ≡ true)
      (sym (names g.pages some (parts t))) t

-- one page more: page 0 tells which number it is right for, the others are right for any
first_layout : (b c : Bool) → ◌≡◌ {A = ℕ} (cond b 1 (cond c 2 0)) (cond (cond b true false) 1 (cond (cond c true false) 2 0))
first_layout true c = refl
first_layout false true = refl
first_layout false false = refl

later_layout : (a l b : Bool) → ◌≡◌ {A = ℕ} (cond (eqb (cond a 1 (cond l 2 0)) 0) 0 (cond b (cond a 1 (cond l 2 0)) (cond b 2 0))) (cond (cond b a false) 1 (cond (cond b l false) 2 0))
later_layout true l true = refl
later_layout true l false = refl
later_layout false true true = refl
later_layout false true false = refl
later_layout false false true = refl
later_layout false false false = refl

later-page : (g : Geometry) (k i : ℕ) → (i ≡ 0 → ⊥) → (page : List ℕ) → right_page (with_logical k g) i page ≡ right_page g i page
unfolding right_page
later-page g k i z page = rw (ne_eqb i 0 z)

pub layout_one : (g : Geometry) (block : List ℕ) (i : ℕ) → (i ≡ 0 → ⊥) → (a l : Bool)
    → right_with g i (page_in g block i) (cond a 1 (cond l 2 0))
    ≡ cond (cond (right_page g i (page_in g block i)) a false) 1 (cond (cond (right_page (own_count g block) i (page_in g block i)) l false) 2 0)
unfolding right_with
layout_one g block i z a l =
    rw (later-page g (field_of (main_in g block 0) 2) i z (page_in g block i), later-page g (field_of (main_in g block i) 2) i z (page_in g block i))
    (later_layout a l (right_page g i (page_in g block i)))

pub layout_next : (g : Geometry) (block : List ℕ) (n : ℕ) → right_with g n (page_in g block n) (layout_to g block n) ≡ layout_to g block (suc n)
unfolding right_with right_to
layout_next g block zero = first_layout (right_page g 0 (page_in g block 0)) (right_page (own_count g block) 0 (page_in g block 0))
layout_next g block (suc n) = layout_one g block (suc n) (λ z. omega (arith, z)) (right_to g block (suc n)) (right_to (own_count g block) block (suc n))

-- the answers of a judgement by its tests
judged_parts : (a b c : Bool) → ◌≡◌ {A = ℕ} (cond a (cond b 5 (cond c 6 0)) 5) 0 → (a ≡ true) × (b ≡ false)
judged_parts true true c e = absurd (omega (arith, e))
judged_parts true false true e = absurd (omega (arith, e))
judged_parts true false false e = (refl, refl)
judged_parts false b c e = absurd (omega (arith, e))

module _ (g : Geometry) (some : 0 < g.pages) (array : List ℕ) where
  by_judge : (o : Pick) → judge_table g array o ≡ 0 → carried_by g array o ≡ o
  unfolding judge_table carried_by
  by_judge nothing e = absurd (omega (arith, e))
  by_judge (at t) e =
      let parts = judged_parts (right_table g (λ b. is_marked g (block_in g array b)) (block_in g array t)) (lists g (block_in g array t) t) (clashes g array t g.blocks) e in
      rw (right_laid g some (λ b. is_marked g (block_in g array b)) (block_in g array t) parts.0, parts.1)

  -- where a mount is answered 0 the current table's list is the one carried over
  pub mount_carries : mount_answer g array ≡ 0 → carried_table g array ≡ current_table g array
  unfolding mount_answer
  mount_carries e = by_judge (current_table g array) e
