-- A chip as an older store sees and leaves it, which knows fewer kinds of pages. The definitions of pages, blocks and mounts are today's in all else.
use Rattle.std.specs.Prelude.{ℕ, zero, suc, ◌<◌, Bool, true, false, cond, List, [], ◌∷◌, ◌≡◌, eqb, leb, length}
use Rattle.geometry.specs.declared.Geometry.{Geometry}
use Rattle.geometry.specs.Limits.{Valid}
use Rattle.geometry.specs.Sizes.{chip_size}
use Rattle.pages.specs.Layout.{among, is_data_kind, is_table_kind, kind_of, whole}
use Rattle.pages.specs.Over.{Over}
use Rattle.copies.specs.Blocks.{block_in, page_in, is_marked, label_in, agrees}
use Rattle.copies.specs.Pick.{Pick, nothing, at, pick, some_below}
use Rattle.copies.specs.Table.{lists, right_table}
use Rattle.copies.specs.Current.{number_at, unlisted}

-- the kinds that a store knew before numbers of eight bytes, and before whitened pages
abbrev pub before_wide : List ℕ
before_wide = 68 ∷ 84 ∷ []

abbrev pub before_white : List ℕ
before_white = 68 ∷ 84 ∷ 100 ∷ 116 ∷ []

-- a whole page of one of these kinds
abbrev pub older_whole : List ℕ → Geometry → List ℕ → Bool
older_whole kinds g p = cond (among kinds (kind_of g.main p)) (whole g.main p) false

-- a complete block: the first n pages, then all of them
unfoldable pub older_to : List ℕ → Geometry → List ℕ → ℕ → Bool
older_to kinds g block zero = true
older_to kinds g block (suc n) =
    let less = older_to kinds g block n in
    cond (older_whole kinds g (page_in g block n)) (cond (agrees (label_in g block 0) n (label_in g block n)) less false) false

unfoldable pub older_complete : List ℕ → Geometry → List ℕ → Bool
older_complete kinds g block = cond (is_marked g block) false (older_to kinds g block g.pages)

unfoldable pub older_table : List ℕ → Geometry → List ℕ → Bool
older_table kinds g block = cond (older_complete kinds g block) (is_table_kind (label_in g block 0).kind) false

unfoldable pub older_data : List ℕ → Geometry → List ℕ → Bool
older_data kinds g block = cond (older_complete kinds g block) (is_data_kind (label_in g block 0).kind) false

-- the current table
unfoldable pub older_current : List ℕ → Geometry → List ℕ → Pick
older_current kinds g array = pick (λ b. older_table kinds g (block_in g array b)) (number_at g array) g.blocks

-- a clash at block b
abbrev pub older_counts : List ℕ → Geometry → List ℕ → ℕ → ℕ → Bool
older_counts kinds g array table b = cond (unlisted g array table b) (older_complete kinds g (block_in g array b)) false

unfoldable pub older_shares : List ℕ → Geometry → List ℕ → ℕ → ℕ → ℕ → Bool
older_shares kinds g array table number n =
    some_below (λ b. cond (older_counts kinds g array table b) (eqb (number_at g array b) number) false) n

unfoldable pub older_clashes_at : List ℕ → Geometry → List ℕ → ℕ → ℕ → Bool
older_clashes_at kinds g array table b =
    cond (older_counts kinds g array table b)
    (cond (cond (older_data kinds g (block_in g array b)) (leb g.logical (label_in g (block_in g array b) 0).logical) false)
    true
    (older_shares kinds g array table (number_at g array b) b))
    false

-- a mount's answer
unfoldable pub older_judge : List ℕ → Geometry → List ℕ → Pick → ℕ
older_judge kinds g array nothing = 4
older_judge kinds g array (at t) =
    cond (right_table g (λ b. is_marked g (block_in g array b)) (block_in g array t))
    (cond (lists g (block_in g array t) t) 5 (cond (some_below (older_clashes_at kinds g array t) g.blocks) 6 0))
    5

abbrev pub older_answer : List ℕ → Geometry → List ℕ → ℕ
older_answer kinds g array = older_judge kinds g array (older_current kinds g array)

-- a page that its programs and erases can leave: a whole page with bits raised; FFh is one
pub record OlderLeft (kinds : List ℕ) (g : Geometry) (x : List ℕ) : Type 0 where
  pub page : List ℕ
  pub is_whole : older_whole kinds g page ≡ true
  pub is_over : Over page x

-- a chip between two calls: a mount succeeds, and every page of an unmarked block that the current table does not list is one that it can leave
pub record OlderStored (kinds : List ℕ) (g : Geometry) (array : List ℕ) : Type 0 where
  pub is_valid : Valid g
  pub array_long : length array ≡ chip_size g
  pub mounts : older_answer kinds g array ≡ 0
  pub left : (t b i : ℕ) → older_current kinds g array ≡ at t → b < g.blocks → i < g.pages → is_marked g (block_in g array b) ≡ false → lists g (block_in g array t) b ≡ false
      → OlderLeft kinds g (page_in g (block_in g array b) i)

-- what is assumed beyond that: a block that the table lists may hold anything but a whole page of another kind
abbrev pub ListedOlder : List ℕ → Geometry → List ℕ → Type 0
ListedOlder kinds g array =
    (t b i : ℕ) → older_current kinds g array ≡ at t → b < g.blocks → i < g.pages → is_marked g (block_in g array b) ≡ false → lists g (block_in g array t) b ≡ true
    → whole g.main (page_in g (block_in g array b) i) ≡ true → older_whole kinds g (page_in g (block_in g array b) i) ≡ true
