-- A chip whose table of invalid blocks is not forgotten: what formattings keep, wherever they are cut.
use Rattle.std.specs.Prelude.{ℕ, ◌<◌, Bool, true, false, List, ◌≡◌, length}
use Rattle.geometry.specs.declared.Geometry.{Geometry}
use Rattle.geometry.specs.Limits.{Valid}
use Rattle.geometry.specs.Sizes.{chip_size}
use Rattle.copies.specs.Blocks.{block_in, page_in, is_marked}
use Rattle.copies.specs.Pick.{at}
use Rattle.copies.specs.Table.{lists, laid_table}
use Rattle.copies.specs.Current.{current_table}
use Rattle.recovery_stored.specs.Stored.{Left}

-- the current table t is rightly laid out whatever its number of logical blocks, does not list its own block and lists every block of these; every page of
-- an unmarked block that it does not list is one that this store can leave
pub record Remembers (g : Geometry) (array : List ℕ) (keeps : ℕ → Bool) (t : ℕ) : Type 0 where
  pub is_valid : Valid g
  pub array_long : length array ≡ chip_size g
  pub table_is : current_table g array ≡ at t
  pub laid : laid_table g (λ b. is_marked g (block_in g array b)) (block_in g array t) ≡ true
  pub own : lists g (block_in g array t) t ≡ false
  pub left : (b i : ℕ) → b < g.blocks → i < g.pages → is_marked g (block_in g array b) ≡ false → lists g (block_in g array t) b ≡ false → Left g (page_in g (block_in g array b) i)
  pub kept : (b : ℕ) → b < g.blocks → keeps b ≡ true → lists g (block_in g array t) b ≡ true
