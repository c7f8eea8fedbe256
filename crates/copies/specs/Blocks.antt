-- What one block holds. Each definition takes the block's bytes, so that a block that stays is one equation.
use Rattle.std.specs.Prelude.{ℕ, zero, suc, ◌*◌, ◌<◌, max, Bool, true, false, cond, List, ◌≡◌, eqb, get_or, take}
use Rattle.geometry.specs.declared.Geometry.{Geometry}
use Rattle.geometry.specs.Sizes.{page_size, block_size}
use Rattle.cells.specs.Part.{part}
use Rattle.whitening.specs.Whitened.{whitened}
use Rattle.pages.specs.Layout.{Label, whole, label_of, is_data_kind, is_table_kind, is_white_kind}

-- the bytes of a block, and of a page in it
abbrev pub block_in : Geometry → List ℕ → ℕ → List ℕ
block_in g array b = part (b * block_size g) (block_size g) array

abbrev pub page_in : Geometry → List ℕ → ℕ → List ℕ
page_in g block p = part (p * page_size g) (page_size g) block

abbrev pub mark_byte : Geometry → List ℕ → ℕ → ℕ
mark_byte g block p = get_or (page_in g block p) g.main 0

-- a factory mark: spare byte 0 of page 0 or page 1 is not FFh
unfoldable pub is_marked : Geometry → List ℕ → Bool
is_marked g block = cond (eqb (mark_byte g block 0) 255) (cond (eqb (mark_byte g block 1) 255) false true) true

abbrev pub whole_in : Geometry → List ℕ → ℕ → Bool
whole_in g block p = whole g.main (page_in g block p)

abbrev pub label_in : Geometry → List ℕ → ℕ → Label
label_in g block p = label_of g.main (page_in g block p)

-- a page's label agrees with that of its copy: kind, logical block and number, and its own place
unfoldable pub agrees : Label → ℕ → Label → Bool
agrees first p l =
    cond (eqb l.kind first.kind)
    (cond (eqb l.logical first.logical) (cond (eqb l.number first.number) (eqb l.page p) false) false)
    false

-- the first n pages are whole and agree
unfoldable pub complete_to : Geometry → List ℕ → ℕ → Bool
complete_to g block zero = true
complete_to g block (suc n) =
    let less = complete_to g block n in
    cond (whole_in g block n) (cond (agrees (label_in g block 0) n (label_in g block n)) less false) false

-- complete: no factory mark, and all pages whole with equal kind, logical block and number, each with its own place
unfoldable pub is_complete : Geometry → List ℕ → Bool
is_complete g block = cond (is_marked g block) false (complete_to g block g.pages)

-- the same, page by page
pub record Complete (g : Geometry) (block : List ℕ) : Type 0 where
  pub unmarked : is_marked g block ≡ false
  pub is_whole : (i : ℕ) → i < g.pages → whole_in g block i ≡ true
  pub in_place : (i : ℕ) → i < g.pages → agrees (label_in g block 0) i (label_in g block i) ≡ true

abbrev pub number_in : Geometry → List ℕ → ℕ
number_in g block = (label_in g block 0).number

unfoldable pub is_table : Geometry → List ℕ → Bool
is_table g block = cond (is_complete g block) (is_table_kind (label_in g block 0).kind) false

unfoldable pub is_data : Geometry → List ℕ → Bool
is_data g block = cond (is_complete g block) (is_data_kind (label_in g block 0).kind) false

-- a complete copy of a logical block
unfoldable pub is_copy_of : Geometry → ℕ → List ℕ → Bool
is_copy_of g logical block = cond (is_data g block) (eqb (label_in g block 0).logical logical) false

-- whether one of the first n pages is whole, and the greatest number on a whole page among them, 0 if there is none
unfoldable pub any_to : Geometry → List ℕ → ℕ → Bool
any_to g block zero = false
any_to g block (suc n) = let less = any_to g block n in cond (whole_in g block n) true less

unfoldable pub greatest_to : Geometry → List ℕ → ℕ → ℕ
greatest_to g block zero = 0
greatest_to g block (suc n) =
    let less = greatest_to g block n in cond (whole_in g block n) (max less (label_in g block n).number) less

-- of a block without a factory mark
unfoldable pub has_number : Geometry → List ℕ → Bool
has_number g block = cond (is_marked g block) false (any_to g block g.pages)

unfoldable pub greatest : Geometry → List ℕ → ℕ
greatest g block = cond (is_marked g block) 0 (greatest_to g block g.pages)

-- the main bytes of a page, as they are stored
abbrev pub main_in : Geometry → List ℕ → ℕ → List ℕ
main_in g block p = take g.main (page_in g block p)

-- the main bytes of page p as a kind stores them; the same once more gives them back
unfoldable pub formed : ℕ → ℕ → List ℕ → List ℕ
formed kind p main = cond (is_white_kind kind) (whitened p main) main

-- the main bytes of a page of a copy, as its writer gave them
abbrev pub plain_in : Geometry → List ℕ → ℕ → List ℕ
plain_in g block p = formed (label_in g block 0).kind p (main_in g block p)

-- two blocks with the same pages
abbrev pub SamePages : Geometry → List ℕ → List ℕ → Type 0
SamePages g x y = (i : ℕ) → i < g.pages → page_in g x i ≡ page_in g y i
