-- The chip: its interface, array, page register and program history; what confirm cycles start and a ready status completes.
use Rattle.std.specs.Prelude.{ℕ, ◌+◌, ◌*◌, ◌/◌, ◌%◌, Bool, false, cond, List, ◌≡◌, eqb, leb, length, get_or, set, replicate}
use Rattle.geometry.specs.declared.Geometry.{Geometry}
use Rattle.geometry.specs.Limits.{valid, Valid}
use Rattle.geometry.specs.Sizes.{page_size, block_size, chip_size}
use Rattle.cells.specs.Cells.{programmed, weakened, raised}
use Rattle.cells.specs.Part.{part, put}
use Rattle.chip_interface.specs.declared.Interface.{Interface}
use Rattle.chip_interface.specs.Interface.{refused, in_phase, started, unstarted, row_of_address, read_address_phase, program_data_phase, erase_address_phase, status_phase}

-- history has a byte for each block: the lowest page that may be programmed, 255 where the last erase did not pass
pub record Device : Type 0 where
  pub interface : Interface
  pub array : List ℕ
  pub register : List ℕ
  pub history : List ℕ

abbrev pub device : Interface → List ℕ → List ℕ → List ℕ → Device
device i a r h = record { interface = i; array = a; register = r; history = h }

-- what a call brings along: the geometry, the mask for operations that do not pass, and the fate words
pub record Setting : Type 0 where
  pub geometry : Geometry
  pub mask : List ℕ
  pub fates : List ℕ

abbrev pub setting : Geometry → List ℕ → List ℕ → Setting
setting g m f = record { geometry = g; mask = m; fates = f }

abbrev pub with_interface : Interface → Device → Device
with_interface i d = record { interface = i; array = d.array; register = d.register; history = d.history }

abbrev pub illegal_cycle : Device → Device
illegal_cycle d = with_interface (refused d.interface) d

-- the row, block and page that the address register names
abbrev pub row_at : Interface → ℕ
row_at i = row_of_address i.address

abbrev pub block_at : Geometry → Interface → ℕ
block_at g i = row_at i / g.pages

abbrev pub page_at : Geometry → Interface → ℕ
page_at g i = row_at i % g.pages

-- array, register and history have the lengths that a valid geometry asks
unfoldable pub fitting : Geometry → ℕ → ℕ → ℕ → Bool
fitting g a r h =
    cond (valid g) (cond (eqb a (chip_size g)) (cond (eqb r (page_size g)) (eqb h g.blocks) false) false) false

pub record Fitting (g : Geometry) (a r h : ℕ) : Type 0 where
  pub is_valid : Valid g
  pub array_long : a ≡ chip_size g
  pub register_long : r ≡ page_size g
  pub history_long : h ≡ g.blocks

abbrev pub lengths_fit : Geometry → Device → Bool
lengths_fit g d = fitting g (length d.array) (length d.register) (length d.history)

-- the page and the block at the address, and the array with them replaced
abbrev pub addressed_page : Geometry → Device → List ℕ
addressed_page g d = part (row_at d.interface * page_size g) (page_size g) d.array

abbrev pub with_page : Geometry → Device → List ℕ → List ℕ
with_page g d ys = put (row_at d.interface * page_size g) ys d.array

abbrev pub block_of : Geometry → Device → List ℕ
block_of g d = part (block_at g d.interface * block_size g) (block_size g) d.array

abbrev pub with_block : Geometry → Device → List ℕ → List ℕ
with_block g d ys = put (block_at g d.interface * block_size g) ys d.array

-- 30h after five address bytes: the page goes to the register
unfoldable pub read_started : Setting → Device → Device
read_started s d =
    cond (eqb d.interface.phase read_address_phase)
    (cond (eqb d.interface.count 5)
    (device (started 1 s.fates d.interface) d.array (addressed_page s.geometry d) d.history)
    (illegal_cycle d))
    (illegal_cycle d)

-- 10h after a whole page of data, on a page above all that were programmed since the block's erase: those bits are
-- cleared that the data has clear and the mask has set
unfoldable pub program_started : Setting → Device → Device
program_started s d =
    cond (eqb d.interface.phase program_data_phase)
    (cond (eqb d.interface.first 0)
    (cond (eqb d.interface.column (page_size s.geometry))
    (cond (leb (get_or d.history (block_at s.geometry d.interface) 0) (page_at s.geometry d.interface))
    (cond (eqb d.interface.protected 0)
    (device
    (started 2 s.fates d.interface)
    (with_page s.geometry d (programmed (addressed_page s.geometry d) (weakened d.register s.mask)))
    d.register
    (set d.history (block_at s.geometry d.interface) (page_at s.geometry d.interface + 1)))
    (with_interface (unstarted 2 d.interface) d))
    (illegal_cycle d))
    (illegal_cycle d))
    (illegal_cycle d))
    (illegal_cycle d)

-- D0h after three row bytes: those bits of the block are set that the mask has set
unfoldable pub erase_started : Setting → Device → Device
erase_started s d =
    cond (eqb d.interface.phase erase_address_phase)
    (cond (eqb d.interface.count 5)
    (cond (eqb d.interface.protected 0)
    (device
    (started 3 s.fates d.interface)
    (with_block s.geometry d (raised (block_of s.geometry d) s.mask))
    d.register
    (set d.history (block_at s.geometry d.interface) 255))
    (with_interface (unstarted 3 d.interface) d))
    (illegal_cycle d))
    (illegal_cycle d)

abbrev pub page_loaded : Interface → Interface
page_loaded i =
    record { phase = status_phase; count = i.count; address = i.address; first = i.first; column = i.column; operation = i.operation; busy = i.busy; failed = i.failed; loaded = 1; fate = i.fate; illegal = i.illegal; protected = i.protected }

-- ready is reported: a passed program clears every bit that the data has clear, a passed erase sets every bit of the block
unfoldable pub completed : Geometry → Device → Device
completed g d =
    cond (eqb d.interface.operation 1) (with_interface (page_loaded d.interface) d)
    (cond (eqb d.interface.failed 0)
    (cond (eqb d.interface.operation 2)
    (device (in_phase 1 d.interface) (with_page g d (programmed (addressed_page g d) d.register)) d.register d.history)
    (cond (eqb d.interface.operation 3)
    (device
    (in_phase 1 d.interface)
    (with_block g d (replicate (block_size g) 255))
    d.register
    (set d.history (block_at g d.interface) 0))
    (illegal_cycle d)))
    (with_interface (in_phase 1 d.interface) d))
