-- Data cycles, status reads and confirm cycles that the chip refuses before the interface or the array is asked: a table of those rules of
-- docs/CHIP-MODEL.md, on the small chip.
use Rattle.std.specs.Prelude.{ℕ, List, [], ◌∷◌, ◌++◌, map, replicate}
use Rattle.chip_interface.specs.declared.Interface.{Interface}
use Rattle.chip_interface.specs.Interface.{powered_on, read_confirm, program_confirm, erase_confirm, output_phase, parameters_operation}
use Rattle.chip_interface.specs.Refused.{small, read_addressed, program_addressed, erase_addressed, status_is_shown, read_busy, program_busy, erase_busy, parameters_begun, parameters_busy, busy_shown, output_at}
use Rattle.chip_array.specs.Device.{Device, Setting, device, setting, page_loaded}
use Rattle.chip_array.specs.Refused.{call, erased_chip, data_at}
use Rattle.chip.specs.Chip.{Cycle, exec}
use Rattle.chip.specs.Chip.Cycle.{command, data_in, data_out, status, parameter_out}

-- a call, a chip, and the cycles looked at there, each for itself
pub record ChipRow : Type 0 where
  pub setting : Setting
  pub chip : Device
  pub cycles : List Cycle

abbrev pub chip_row : Setting → Device → List Cycle → ChipRow
chip_row s d cs = record { setting = s; chip = d; cycles = cs }

abbrev pub chip_at : Interface → List Cycle → ChipRow
chip_at i cs = chip_row (call []) (erased_chip i) cs

-- the flag of illegal answers after each of these cycles, and the flags where all are refused
unfoldable pub flags_after : Setting → Device → List Cycle → List ℕ
flags_after s d [] = []
flags_after s d (c ∷ cs) = (exec s d c).interface.illegal ∷ flags_after s d cs

abbrev pub flags_of : ChipRow → List ℕ
flags_of r = flags_after r.setting r.chip r.cycles

abbrev pub all_refused : ChipRow → List ℕ
all_refused r = map (λ (c : Cycle). 1) r.cycles

-- the parameter page lent, and its output that has come to a column
abbrev pub parameter_page : List ℕ
parameter_page = replicate 768 79

abbrev pub parameters_at : ℕ → Interface
parameters_at column =
    record { phase = output_phase; count = 1; address = 0; first = 0; column = column; operation = parameters_operation; busy = 0; failed = 0; loaded = 1; fate = 0; illegal = 0; protected = 0 }

-- the chip with these lengths of array, register and history, and a call with a mask of this length
abbrev pub long : Interface → ℕ → ℕ → ℕ → Device
long i a r h = device i (replicate a 255) (replicate r 255) (replicate h 0)

abbrev pub masked : ℕ → Setting
masked n = setting small (replicate n 0) []

-- confirm cycles with these lengths of mask, array, register and history
abbrev pub unfit : ℕ → ℕ → ℕ → ℕ → List ChipRow
unfit m a r h =
    chip_row (masked m) (long read_addressed a r h) (command read_confirm ∷ [])
    ∷ chip_row (masked m) (long (data_at 0 0 48) a r h) (command program_confirm ∷ [])
    ∷ chip_row (masked m) (long erase_addressed a r h) (command erase_confirm ∷ [])
    ∷ []

-- a status read that would report ready, with these lengths of array, register and history
abbrev pub finished_with : ℕ → ℕ → ℕ → ChipRow
finished_with a r h = chip_row (call []) (long (busy_shown read_busy) a r h) (status ∷ [])

abbrev pub chip_rows : List ChipRow
chip_rows =
    -- nothing begun, or status shown; a page read and no 00h after it
    chip_at powered_on (data_in 0 ∷ data_out ∷ status ∷ [])
    ∷ chip_at status_is_shown (data_in 0 ∷ data_out ∷ [])
    ∷ chip_at (page_loaded read_busy) (data_in 0 ∷ data_out ∷ [])
    -- data output: no status without 70h, nothing past the last column
    ∷ chip_at (output_at 0) (data_in 0 ∷ status ∷ [])
    ∷ chip_at (output_at 48) (data_out ∷ [])
    -- in the middle of an operation, and data in past the last column
    ∷ chip_at read_addressed (data_in 0 ∷ data_out ∷ status ∷ [])
    ∷ chip_at program_addressed (data_out ∷ status ∷ [])
    ∷ chip_at (data_at 0 0 48) (data_in 0 ∷ data_out ∷ status ∷ [])
    ∷ chip_at erase_addressed (data_in 0 ∷ data_out ∷ status ∷ [])
    -- while busy, before 70h and after it
    ∷ chip_at read_busy (data_in 0 ∷ data_out ∷ status ∷ [])
    ∷ chip_at program_busy (data_in 0 ∷ data_out ∷ status ∷ [])
    ∷ chip_at erase_busy (data_in 0 ∷ data_out ∷ status ∷ [])
    ∷ chip_at (busy_shown read_busy) (data_in 0 ∷ data_out ∷ [])
    ∷ chip_at (busy_shown program_busy) (data_in 0 ∷ data_out ∷ [])
    ∷ chip_at (busy_shown erase_busy) (data_in 0 ∷ data_out ∷ [])
    -- after ECh, while the parameter page is fetched, and with status shown after it
    ∷ chip_at parameters_begun (data_in 0 ∷ data_out ∷ status ∷ parameter_out parameter_page ∷ [])
    ∷ chip_at parameters_busy (data_in 0 ∷ data_out ∷ status ∷ parameter_out parameter_page ∷ [])
    ∷ chip_at (busy_shown parameters_busy) (data_in 0 ∷ data_out ∷ parameter_out parameter_page ∷ [])
    ∷ chip_at (page_loaded parameters_busy) (data_in 0 ∷ data_out ∷ parameter_out parameter_page ∷ [])
    -- its output: no status without 70h, not the page register, nothing past the last byte; and it alone puts out the parameter page
    ∷ chip_at (parameters_at 0) (data_in 0 ∷ status ∷ data_out ∷ [])
    ∷ chip_at (parameters_at 768) (parameter_out parameter_page ∷ [])
    ∷ chip_at (output_at 0) (parameter_out parameter_page ∷ [])
    ∷ chip_at powered_on (parameter_out parameter_page ∷ [])
    ∷ chip_at read_addressed (parameter_out parameter_page ∷ [])
    ∷ chip_at (data_at 0 0 48) (parameter_out parameter_page ∷ [])
    -- a status read that would report ready, where array, register or history has another length than the geometry asks
    ∷ finished_with 767 48 4
    ∷ finished_with 768 49 4
    ∷ finished_with 768 48 3
    -- confirm cycles where mask, array, register or history has another length
    ∷ (unfit 191 768 48 4 ++ (unfit 192 767 48 4 ++ (unfit 192 768 49 4 ++ unfit 192 768 48 3)))
