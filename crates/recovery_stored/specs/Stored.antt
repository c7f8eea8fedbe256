-- What this store's programs and erases can leave of a chip, said page by page.
use Rattle.std.specs.Prelude.{ℕ, ◌<◌, true, false, List, ◌≡◌, length}
use Rattle.geometry.specs.declared.Geometry.{Geometry}
use Rattle.geometry.specs.Limits.{Valid}
use Rattle.geometry.specs.Sizes.{page_size, chip_size}
use Rattle.pages.specs.Layout.{whole}
use Rattle.pages.specs.Over.{Over}
use Rattle.copies.specs.Blocks.{block_in, page_in, is_marked}
use Rattle.copies.specs.Pick.{at}
use Rattle.copies.specs.Table.{lists}
use Rattle.copies.specs.Current.{current_table, mount_answer}

-- a page that programs and erases of this store can leave: a whole page with bits raised; FFh is one
pub record Left (g : Geometry) (x : List ℕ) : Type 0 where
  pub page : List ℕ
  pub long : length page ≡ page_size g
  pub is_whole : whole g.main page ≡ true
  pub is_over : Over page x

-- a chip between two calls: a mount succeeds, and every page of an unmarked block that the current table does not list is
-- one that this store can leave
pub record Stored (g : Geometry) (array : List ℕ) : Type 0 where
  pub is_valid : Valid g
  pub array_long : length array ≡ chip_size g
  pub mounts : mount_answer g array ≡ 0
  pub left : (t b i : ℕ) → current_table g array ≡ at t → b < g.blocks → i < g.pages → is_marked g (block_in g array b) ≡ false → lists g (block_in g array t) b ≡ false
      → Left g (page_in g (block_in g array b) i)
