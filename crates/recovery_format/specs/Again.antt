-- Formattings of one chip, one after the other, each with a number of logical blocks of its own, with power lost at any places between them.
use Rattle.std.specs.Prelude.{ℕ, ◌<◌, true, false, List, [], ◌∷◌, ◌≡◌}
use Rattle.geometry.specs.declared.Geometry.{Geometry}
use Rattle.cells.specs.Bytes.{Bytes}
use Rattle.chip_interface.specs.Interface.{powered_on}
use Rattle.chip_array.specs.Device.{Device, device}
use Rattle.copies.specs.Blocks.{block_in, page_in, is_marked}
use Rattle.copies.specs.Carried.{listed_by}
use Rattle.copies.specs.Current.{current_table}
use Rattle.copies.specs.Pick.{at}
use Rattle.copies.specs.Table.{lists, with_logical, laid_table}
use Rattle.state.specs.declared.State.{State}
use Rattle.recovery_stored.specs.Stored.{Left}
use Rattle.format.specs.Format.{formatting}
use Rattle.recovery.specs.Calls.{Lent, Store, setting_of, chip_of}

-- a formatting for so many logical blocks, with what it is lent and the base state that it is handed; or power is lost, and the page register holds
-- anything
pub data Again : Type 0 where
  formatted : ℕ → Lent → State → Again
  power_lost : List ℕ → Again

-- nothing is assumed but that bytes are bytes
abbrev pub Typed : Again → Type 0
Typed (formatted logical a st) = Bytes a.mask
Typed (power_lost register) = Unit {0}

unfoldable pub AllTyped : List Again → Type 0
AllTyped [] = Unit {0}
AllTyped (f ∷ fs) = Typed f × AllTyped fs

-- the chip that each leaves, whatever the answer
abbrev pub chip_after : Geometry → Again → Device → Device
chip_after g (formatted logical a st) d = (formatting (setting_of (with_logical logical g) a) (chip_of a d) a.allowed st).chip
chip_after g (power_lost register) d = device powered_on d.array register d.history

unfoldable pub reformatted : Geometry → List Again → Device → Device
reformatted g [] d = d
reformatted g (f ∷ fs) d = reformatted g fs (chip_after g f d)

-- an array has a current table that is rightly laid out for its blocks, does not list its own block, and lists every block that the current
-- table of another array lists
pub record Unforgotten (g : Geometry) (before after : List ℕ) : Type 0 where
  pub table : ℕ
  pub table_is : current_table g after ≡ at table
  pub laid : laid_table g (λ b. is_marked g (block_in g after b)) (block_in g after table) ≡ true
  pub own : lists g (block_in g after table) table ≡ false
  pub kept : (b : ℕ) → b < g.blocks → listed_by g before (current_table g before) b ≡ true → lists g (block_in g after table) b ≡ true

-- every page of an unmarked block is one that this store's programs and erases can leave, finished or not
abbrev pub PagesLeft : Geometry → List ℕ → Type 0
PagesLeft g array = (b i : ℕ) → b < g.blocks → i < g.pages → is_marked g (block_in g array b) ≡ false → Left g (page_in g (block_in g array b) i)

-- after every list of further formattings no entry of the table is forgotten
abbrev pub ForgetsNone : Geometry → Store → Type 0
ForgetsNone g y = (fs : List Again) → AllTyped fs → Unforgotten g y.chip.array (reformatted g fs y.chip).array
