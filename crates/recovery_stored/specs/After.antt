-- What one fill leaves of an array, whether it passed or not, and what becomes of the current table and copies.
use Rattle.std.specs.Prelude.{ℕ, ◌<◌, true, false, List, ◌≡◌, length}
use Rattle.geometry.specs.declared.Geometry.{Geometry}
use Rattle.geometry.specs.Limits.{Valid}
use Rattle.geometry.specs.Sizes.{chip_size}
use Rattle.bitmaps.specs.Bitmap.{bit_at}
use Rattle.copies.specs.Blocks.{block_in, page_in, whole_in, is_marked, is_complete}
use Rattle.copies.specs.Pick.{at}
use Rattle.copies.specs.Table.{lists}
use Rattle.pages.specs.Layout.{data_kind}
use Rattle.copies.specs.Current.{current_table, current_copy, kind_at, number_at, reading}
use Rattle.recovery_stored.specs.Stored.{Left, Stored}

-- every other block is as it was; in block b only the pages y can be whole, and all are pages that this store can leave
pub record After (g : Geometry) (before after : List ℕ) (b : ℕ) (y : ℕ → List ℕ) : Type 0 where
  pub long : length after ≡ chip_size g
  pub others : (c : ℕ) → c < g.blocks → (c ≡ b → ⊥) → block_in g after c ≡ block_in g before c
  pub only : (i : ℕ) → i < g.pages → whole_in g (block_in g after b) i ≡ true → page_in g (block_in g after b) i ≡ y i
  pub left : (i : ℕ) → i < g.pages → Left g (page_in g (block_in g after b) i)
  pub unmarked : is_marked g (block_in g after b) ≡ false

-- every complete block bears a number below n
abbrev pub Below : Geometry → List ℕ → ℕ → Type 0
Below g array n = (b : ℕ) → b < g.blocks → is_complete g (block_in g array b) ≡ true → number_at g array b < n

-- a block that may be filled while table t is current: on the chip, unmarked, not listed, and it holds nothing current
pub record Free (g : Geometry) (array : List ℕ) (t b : ℕ) : Type 0 where
  pub below : b < g.blocks
  pub unmarked : is_marked g (block_in g array b) ≡ false
  pub unlisted : lists g (block_in g array t) b ≡ false
  pub off_table : b ≡ t → ⊥
  pub off_copies : (l : ℕ) → l < g.logical → current_copy g array t l ≡ at b → ⊥

-- what erases and fills ask of a block b while table t is current: it is on the chip, unmarked and not the table's, and its pages are
-- ones that this store can leave
pub record Based (g : Geometry) (array : List ℕ) (t b : ℕ) : Type 0 where
  pub is_valid : Valid g
  pub array_long : length array ≡ chip_size g
  pub table_is : current_table g array ≡ at t
  pub below : b < g.blocks
  pub unmarked : is_marked g (block_in g array b) ≡ false
  pub off_table : b ≡ t → ⊥
  pub left : (i : ℕ) → i < g.pages → Left g (page_in g (block_in g array b) i)

-- marks stay
abbrev pub MarksSame : Geometry → List ℕ → List ℕ → Type 0
MarksSame g before after = (c : ℕ) → c < g.blocks → is_marked g (block_in g after c) ≡ is_marked g (block_in g before c)

-- nothing new is complete: the table, the copies and every reading stay
pub record Calm (g : Geometry) (before after : List ℕ) (t : ℕ) : Type 0 where
  pub stored : Stored g after
  pub marks : MarksSame g before after
  pub table_is : current_table g after ≡ at t
  pub table_same : block_in g after t ≡ block_in g before t
  pub copies : (l : ℕ) → l < g.logical → current_copy g after t l ≡ current_copy g before t l
  pub kinds : (l : ℕ) → l < g.logical → kind_at g after (current_copy g after t l) ≡ kind_at g before (current_copy g before t l)
  pub reads : (l p : ℕ) → l < g.logical → p < g.pages → reading g after t l p ≡ reading g before t l p

-- block b is complete as the new copy of one logical block, whose pages now read as main
pub record Renewed (g : Geometry) (before after : List ℕ) (t logical b : ℕ) (main : ℕ → List ℕ) : Type 0 where
  pub stored : Stored g after
  pub marks : MarksSame g before after
  pub table_is : current_table g after ≡ at t
  pub table_same : block_in g after t ≡ block_in g before t
  pub copy_is : current_copy g after t logical ≡ at b
  pub kind_new : kind_at g after (current_copy g after t logical) ≡ data_kind
  pub copies : (l : ℕ) → l < g.logical → (l ≡ logical → ⊥) → current_copy g after t l ≡ current_copy g before t l
  pub kinds : (l : ℕ) → l < g.logical → (l ≡ logical → ⊥) → kind_at g after (current_copy g after t l) ≡ kind_at g before (current_copy g before t l)
  pub reads_new : (p : ℕ) → p < g.pages → reading g after t logical p ≡ main p
  pub reads : (l p : ℕ) → l < g.logical → p < g.pages → (l ≡ logical → ⊥) → reading g after t l p ≡ reading g before t l p

-- block b is complete as a new table that lists some invalid blocks: it is current, and copies and readings stay
pub record Listed (g : Geometry) (before after : List ℕ) (t b : ℕ) (invalid : List ℕ) : Type 0 where
  pub stored : Stored g after
  pub marks : MarksSame g before after
  pub table_is : current_table g after ≡ at b
  pub lists_are : (c : ℕ) → c < g.blocks → lists g (block_in g after b) c ≡ bit_at invalid c
  pub copies : (l : ℕ) → l < g.logical → current_copy g after b l ≡ current_copy g before t l
  pub kinds : (l : ℕ) → l < g.logical → kind_at g after (current_copy g after b l) ≡ kind_at g before (current_copy g before t l)
  pub reads : (l p : ℕ) → l < g.logical → p < g.pages → reading g after b l p ≡ reading g before t l p
