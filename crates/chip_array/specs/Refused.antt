-- The confirm cycles that are refused on a chip whose lengths fit: a table of the rules of docs/CHIP-MODEL.md that the array and its
-- history decide, on the small chip.
use Rattle.std.specs.Prelude.{ℕ, ◌*◌, ◌+◌, List, [], ◌∷◌, ◌++◌, map, replicate}
use Rattle.chip_interface.specs.declared.Interface.{Interface}
use Rattle.chip_interface.specs.Interface.{powered_on, program_data_phase, read_code, program_code, erase_code}
use Rattle.chip_interface.specs.Refused.{small, begun_with, read_addressed, program_addressed, erase_addressed, status_is_shown, read_busy, program_busy, erase_busy, busy_shown}
use Rattle.chip_array.specs.Device.{Device, Setting, device, setting, read_started, program_started, erase_started}

-- a call that brings fate words, and the small chip, erased, with this interface
abbrev pub call : List ℕ → Setting
call fates = setting small (replicate 192 0) fates

abbrev pub erased_chip : Interface → Device
erased_chip i = device i (replicate 768 255) (replicate 48 255) (replicate 4 0)

-- after 80h, an address and data for the columns from `first` to below `column`
abbrev pub data_at : ℕ → ℕ → ℕ → Interface
data_at row first column =
    record { phase = program_data_phase; count = 5; address = row * 65536 + first; first = first; column = column; operation = 0; busy = 0; failed = 0; loaded = 0; fate = 0; illegal = 0; protected = 0 }

-- a whole page of data for a row, after a program of another row and after an erase that did not pass
abbrev pub program_again : ℕ → ℕ → Device
program_again other row =
    device (data_at row 0 48) (replicate 768 255) (replicate 48 255) (program_started (call []) (erased_chip (data_at other 0 48))).history

abbrev pub program_unerased : ℕ → Device
program_unerased row =
    device (data_at row 0 48) (replicate 768 255) (replicate 48 255) (erase_started (call []) (erased_chip erase_addressed)).history

-- no operation begun, and one whose confirm cycle was sent
abbrev pub unbegun : List Interface
unbegun =
    powered_on ∷ status_is_shown ∷ read_busy ∷ program_busy ∷ erase_busy ∷ busy_shown read_busy ∷ busy_shown program_busy ∷ busy_shown erase_busy ∷ []

-- 30h: nothing begun, fewer than five address bytes, another operation
abbrev pub refused_reads : List Device
refused_reads =
    map erased_chip
    (begun_with read_code (0 ∷ 0 ∷ 0 ∷ 0 ∷ []) ∷ program_addressed ∷ data_at 0 0 48 ∷ erase_addressed ∷ unbegun)

-- 10h: the same; fewer than main + spare bytes; as many from a later column on; a page at or below the last one programmed; a
-- block whose erase did not pass
abbrev pub refused_programs : List Device
refused_programs =
    map erased_chip
    (begun_with program_code (0 ∷ 0 ∷ 0 ∷ 0 ∷ []) ∷ program_addressed ∷ data_at 0 0 47 ∷ data_at 0 1 48 ∷ read_addressed ∷ erase_addressed ∷ unbegun)
    ++ (program_again 1 1 ∷ program_again 1 0 ∷ program_unerased 0 ∷ program_unerased 3 ∷ [])

-- D0h: nothing begun, fewer than three row bytes, another operation
abbrev pub refused_erases : List Device
refused_erases =
    map erased_chip
    (begun_with erase_code (0 ∷ 0 ∷ []) ∷ read_addressed ∷ program_addressed ∷ data_at 0 0 48 ∷ unbegun)

-- the flag of illegal answers after each of them, and the flags where all are refused
abbrev pub flags_of : (Setting → Device → Device) → List Device → List ℕ
flags_of starts ds = map (λ (d : Device). (starts (call []) d).interface.illegal) ds

abbrev pub confirm_flags : List (List ℕ)
confirm_flags =
    flags_of read_started refused_reads ∷ flags_of program_started refused_programs ∷ flags_of erase_started refused_erases ∷ []

abbrev pub all_refused : List (List ℕ)
all_refused = map (λ (ds : List Device). map (λ (d : Device). 1) ds) (refused_reads ∷ refused_programs ∷ refused_erases ∷ [])
