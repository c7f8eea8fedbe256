-- Complete blocks by their pages, and two blocks with the same pages. Assumes nothing.
use Prim.Native.Nat.{ℕ, zero, suc, ◌≤◌, ◌<◌}
use mathlib.Core.Bool.{true, false, cond, true≢false}
use mathlib.Core.List.{List}
use mathlib.Core.Path.{◌≡◌, refl, ap, ap₂}
use native.Mathlib.Omega.{arith}
use borrow.Table.Steps.{cases}
use borrow.Author.Tests.{eqb-true}
use lib.Dec.{eqb}
use lib.ListN.{get_or, take}
use Rattle.geometry.specs.declared.Geometry.{Geometry}
use Rattle.geometry.specs.Limits.{Valid}
use Rattle.bools.proofs.BoolLaws.{both, unless}
use Rattle.pages.specs.Layout.{label_of}
use Rattle.copies.specs.Blocks.{whole_in, label_in, main_in, number_in, mark_byte, is_marked, agrees, complete_to, is_complete, Complete, is_table, is_data, is_copy_of, greatest, SamePages}
use Rattle.copies.proofs.PickLaws.{up_to}
use Rattle.copies.proofs.NumberLaws.{greatest_least}

-- a block without a mark has FFh in the mark's place of its first two pages
pub mark_bytes : (g : Geometry) (x : List ℕ) → is_marked g x ≡ false → (mark_byte g x 0 ≡ 255) × (mark_byte g x 1 ≡ 255)
unfolding is_marked
mark_bytes g x f =
    cases (eqb (mark_byte g x 0) 255)
    (λ t.
    cases (eqb (mark_byte g x 1) 255)
    (λ u. (eqb-true _ _ t, eqb-true _ _ u))
    (λ u. absurd (true≢false (rw (t, u) at f))))
    (λ t. absurd (true≢false (rw t at f)))

-- a complete block, page by page
complete_to_lem : (g : Geometry) (x : List ℕ) (n : ℕ) → complete_to g x n ≡ true → (i : ℕ) → i < n → (whole_in g x i ≡ true) × (agrees (label_in g x 0) i (label_in g x i) ≡ true)
unfolding complete_to
complete_to_lem g x zero t i h = absurd (omega (arith, h))
complete_to_lem g x (suc n) t i h =
    let here = both (whole_in g x n) (cond (agrees (label_in g x 0) n (label_in g x n)) (complete_to g x n) false) t in
    let rest = both (agrees (label_in g x 0) n (label_in g x n)) (complete_to g x n) here.1 in
    up_to (λ (k : ℕ). (whole_in g x k ≡ true) × (agrees (label_in g x 0) k (label_in g x k) ≡ true)) n i h (complete_to_lem g x n rest.1 i) (here.0, rest.0)

pub complete_pages : (g : Geometry) (x : List ℕ) → is_complete g x ≡ true → Complete g x
unfolding is_complete
complete_pages g x t =
    let parts = unless (is_marked g x) (complete_to g x g.pages) t in
    record {
      unmarked = parts.0;
      is_whole = λ i h. (complete_to_lem g x g.pages parts.1 i h).0;
      in_place = λ i h. (complete_to_lem g x g.pages parts.1 i h).1;
    }

-- a table, a data copy and a copy of a logical block are complete
pub table_complete : (g : Geometry) (x : List ℕ) → is_table g x ≡ true → is_complete g x ≡ true
unfolding is_table
table_complete g x t = (both (is_complete g x) _ t).0

pub data_complete : (g : Geometry) (x : List ℕ) → is_data g x ≡ true → is_complete g x ≡ true
unfolding is_data
data_complete g x t = (both (is_complete g x) _ t).0

pub copy_data : (g : Geometry) (l : ℕ) (x : List ℕ) → is_copy_of g l x ≡ true → (is_data g x ≡ true) × ((label_in g x 0).logical ≡ l)
unfolding is_copy_of
copy_data g l x t =
    let parts = both (is_data g x) _ t in
    (parts.0, eqb-true (label_in g x 0).logical l parts.1)

-- its number is none above the greatest
pub complete_number : (g : Geometry) → Valid g → (x : List ℕ) → is_complete g x ≡ true → number_in g x ≤ greatest g x
unfolding greatest
complete_number g v x t =
    let c = complete_pages g x t in
    let first : 0 < g.pages = omega (arith, v.pages_least) in
    rw c.unmarked (greatest_least g x g.pages 0 first (c.is_whole 0 first))

-- blocks with the same pages hold the same
module _ (g : Geometry) (v : Valid g) (x y : List ℕ) (same : SamePages g x y) where
  first : 0 < g.pages
  first = omega (arith, v.pages_least)

  pub main_same : (i : ℕ) → i < g.pages → main_in g x i ≡ main_in g y i
  main_same i h = ap (take g.main) (same i h)

  pub label_same : label_in g x 0 ≡ label_in g y 0
  label_same = ap (label_of g.main) (same 0 first)

  pub number_same : number_in g x ≡ number_in g y
  number_same = ap (λ (p : List ℕ). (label_of g.main p).number) (same 0 first)

  pub marked_same : is_marked g x ≡ is_marked g y
  unfolding is_marked
  marked_same =
      ap₂ (λ (p q : List ℕ). cond (eqb (get_or p g.main 0) 255) (cond (eqb (get_or q g.main 0) 255) false true) true) (same 0 first) (same 1 (omega (arith, v.pages_least)))

  to_same : (n : ℕ) → n ≤ g.pages → complete_to g x n ≡ complete_to g y n
  unfolding complete_to
  to_same zero h = refl
  to_same (suc n) h = rw (same n (omega (arith, h)), same 0 first, to_same n (omega (arith, h)))

  pub complete_same : is_complete g x ≡ is_complete g y
  unfolding is_complete
  complete_same = rw (marked_same, to_same g.pages (omega arith))

  pub table_same : is_table g x ≡ is_table g y
  unfolding is_table
  table_same = rw (complete_same, same 0 first)

  pub data_same : is_data g x ≡ is_data g y
  unfolding is_data
  data_same = rw (complete_same, same 0 first)

  pub copy_same : (l : ℕ) → is_copy_of g l x ≡ is_copy_of g l y
  unfolding is_copy_of
  copy_same l = rw (data_same, same 0 first)
