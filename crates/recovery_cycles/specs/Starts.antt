-- The array operations that cycles start on a chip, told by their confirm cycles, and the operations of a trace beside them.
use Rattle.std.specs.Prelude.{ℕ, ◌<◌, Bool, true, false, cond, List, [], ◌∷◌, ◌++◌, ◌⊎◌, ◌≡◌, eqb}
use Rattle.geometry.specs.declared.Geometry.{Geometry}
use Rattle.chip_interface.specs.Interface.{read_confirm, program_confirm, erase_confirm, program_code, erase_code}
use Rattle.chip_array.specs.Device.{Device, Setting, block_at, page_at}
use Rattle.chip.specs.Chip.{Cycle, exec, is_confirm, status_shown}
use Rattle.chip.specs.Chip.Cycle.{command, address, data_in, data_out, status, parameter_address, parameter_out}
use Rattle.bus.specs.Line.{run}
use Rattle.bus_polling.specs.Outcomes.{is_failed}
use Rattle.operations.specs.Trace.{ArrayOperation}
use Rattle.progress.specs.Progress.{Progress}
use Rattle.damage.specs.Touched.{Some, Programs}

-- a confirm cycle, 30h, 10h or D0h, that is not answered illegal
unfoldable pub takes : Setting → Device → Cycle → Bool
takes s d (command code) = cond (is_confirm code) (eqb (exec s d (command code)).interface.illegal 0) false
takes s d (address byte) = false
takes s d (data_in byte) = false
takes s d data_out = false
takes s d status = false
takes s d (parameter_address byte) = false
takes s d (parameter_out page) = false

-- a status read that gives E1h
unfoldable pub gives_failed : Device → Cycle → Bool
gives_failed d (command code) = false
gives_failed d (address byte) = false
gives_failed d (data_in byte) = false
gives_failed d data_out = false
gives_failed d status = eqb (status_shown d.interface) 225
gives_failed d (parameter_address byte) = false
gives_failed d (parameter_out page) = false

-- whether cycles from chip d on read E1h before the next confirm cycle that is taken
unfoldable pub fails_next : Setting → Device → List Cycle → Bool
fails_next s d [] = false
fails_next s d (c ∷ cs) = cond (takes s d c) false (cond (gives_failed d c) true (fails_next s (exec s d c) cs))

-- a confirm cycle that is taken: its code, the chip just before it, and whether E1h is read after it and before the next one
pub record Start : Type 0 where
  pub code : ℕ
  pub chip : Device
  pub failed : Bool

abbrev pub start : ℕ → Device → Bool → Start
start code d failed = record { code = code; chip = d; failed = failed }

unfoldable pub starts_at : Setting → Device → Cycle → Bool → List Start
starts_at s d (command code) failed = cond (takes s d (command code)) (start code d failed ∷ []) []
starts_at s d (address byte) failed = []
starts_at s d (data_in byte) failed = []
starts_at s d data_out failed = []
starts_at s d status failed = []
starts_at s d (parameter_address byte) failed = []
starts_at s d (parameter_out page) failed = []

-- those of a list of cycles that begins on chip d
unfoldable pub starts_in : Setting → Device → List Cycle → List Start
starts_in s d [] = []
starts_in s d (c ∷ cs) = starts_at s d c (fails_next s (exec s d c) cs) ++ starts_in s (exec s d c) cs

-- 1 read, 2 program, 3 erase
unfoldable pub kind_of : ℕ → ℕ
kind_of code = cond (eqb code read_confirm) 1 (cond (eqb code program_confirm) 2 3)

-- an operation is the one that a confirm cycle started: of its kind, with the array just before it; a program of a block
-- of the chip is of the block and page that the address register names, with the bytes of the page register, and an erase
-- of the block that the address register names; it failed exactly if E1h was read, and a read does not fail
pub record StartedAt (g : Geometry) (t : Start) (o : ArrayOperation) : Type 0 where
  pub confirms : is_confirm t.code ≡ true
  pub kind_is : o.kind ≡ kind_of t.code
  pub before_is : o.before ≡ t.chip.array
  pub program_is : t.code ≡ program_confirm → o.block < g.blocks → Programs (block_at g t.chip.interface) (page_at g t.chip.interface) t.chip.register o
  pub erase_is : t.code ≡ erase_confirm → o.block < g.blocks → o.block ≡ block_at g t.chip.interface
  pub failed_is : is_failed o.answer ≡ t.failed
  pub read_unfailed : t.code ≡ read_confirm → t.failed ≡ false

-- the operations of a trace are those that the confirm cycles started, one by one
unfoldable pub Traced : Geometry → List Start → List ArrayOperation → Type 0
Traced g [] [] = Unit {0}
Traced g [] (o ∷ os) = ⊥
Traced g (t ∷ ts) [] = ⊥
Traced g (t ∷ ts) (o ∷ os) = StartedAt g t o × Traced g ts os

-- so it is with the cycles that a request has sent since chip d and the operations of its trace
abbrev pub TracedFrom : Setting → Device → Progress → Type 0
TracedFrom s d p = Traced s.geometry (starts_in s d p.cycles) p.started

-- a trace divided at the operation that a confirm cycle started, behind those of the confirm cycles before it
pub record Divided (g : Geometry) (before : List Start) (t : Start) (started : List ArrayOperation) : Type 0 where
  pub earlier : List ArrayOperation
  pub operation : ArrayOperation
  pub later : List ArrayOperation
  pub started_is : started ≡ earlier ++ (operation ∷ later)
  pub earlier_traced : Traced g before earlier
  pub here : StartedAt g t operation

-- at that of a confirm cycle sent between others from chip d on
abbrev pub TracedAt : Setting → Device → List Cycle → ℕ → List Cycle → List ArrayOperation → Type 0
TracedAt s d before code after started =
    Divided s.geometry (starts_in s d before) (start code (run s d before) (fails_next s (exec s (run s d before) (command code)) after)) started

-- whether E1h was read for a block: after a confirm cycle whose chip names it, and before the next one
unfoldable pub failed_read : Geometry → ℕ → List Start → Bool
failed_read g b [] = false
failed_read g b (t ∷ ts) = cond (cond (eqb (block_at g t.chip.interface) b) t.failed false) true (failed_read g b ts)

-- an operation is a read, or of a block of the chip
abbrev pub OnChip : Geometry → ArrayOperation → Type 0
OnChip g o = (o.kind ≡ 1) ⊎ (o.block < g.blocks)

-- 10h and D0h
abbrev pub Changes : ℕ → Type 0
Changes code = (code ≡ program_confirm) ⊎ (code ≡ erase_confirm)

-- 80h, 60h, 10h and D0h: the commands of a program and of an erase
abbrev pub Modifies : ℕ → Type 0
Modifies code = (code ≡ program_code) ⊎ ((code ≡ erase_code) ⊎ Changes code)

-- the program or erase that a 10h or D0h cycle starts on a chip
pub record ChangeOn (g : Geometry) (code : ℕ) (d : Device) (o : ArrayOperation) : Type 0 where
  pub kind_is : o.kind ≡ kind_of code
  pub before_is : o.before ≡ d.array
  pub block_is : o.block ≡ block_at g d.interface
  pub program_is : code ≡ program_confirm → Programs (block_at g d.interface) (page_at g d.interface) d.register o

-- each 10h and each D0h cycle of a list that begins on chip d has its operation in a trace
abbrev pub TracesEach : Setting → Device → List Cycle → List ArrayOperation → Type 0
TracesEach s d cycles started =
    (xs ys : List Cycle) (code : ℕ) → cycles ≡ xs ++ (command code ∷ ys) → Changes code
    → Some (ChangeOn s.geometry code (run s d xs)) started
