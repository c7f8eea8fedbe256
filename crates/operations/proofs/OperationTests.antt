-- The definitions computed on the small chip: 32 main and 16 spare bytes, 4 pages, 4 blocks, erased.
use Prim.Native.Nat.{ℕ}
use mathlib.Core.List.{List, [], ◌∷◌}
use mathlib.Core.Path.{◌≡◌, refl}
use lib.ListN.{length, replicate}
use Rattle.geometry.specs.declared.Geometry.{Geometry}
use Rattle.cells.specs.Cells.{programmed, weakened, raised}
use Rattle.cells.specs.Part.{put}
use Rattle.chip_interface.specs.Interface.{powered_on, begun, status_mode, read_mode, plain_command, address_fits, latched, addressed, fate_word, next_fate, started}
use Rattle.chip_array.specs.Device.{Setting, device, setting, fitting, read_started, program_started, erase_started, completed}
use Rattle.chip.specs.Chip.{is_confirm, confirmed, confirmable, commanded, data_taken, data_given, data_byte, finished, status_read, exec}
use Rattle.chip.specs.Chip.Cycle.{command, address, status}
use Rattle.bus.specs.Line.{Line, may_go, cut_after, send, send_all, sent, goes_on, byte_out, uncut_line}
use Rattle.bus_polling.specs.Polling.{waiting, polls, outcome_of, answer_of}
use Rattle.bus_polling.specs.Outcomes.{is_passed, guarded}
use Rattle.bus_sequences.specs.Cycles.{read_cycles, read_outputs, put_out, program_cycles, erase_cycles}
use Rattle.operations.specs.Trace.{erase_sends, program_sends, read_sends}
use Rattle.bus_polling.specs.declared.Outcome.TheVariants.{Passed, Silent, Cut, Illegal, Protected}

abbrev small : Geometry
small = record { main = 32; spare = 16; pages = 4; blocks = 4; logical = 2 }

-- a call with these fates whose mask lets nothing through
abbrev call : List ℕ → Setting
call fates = setting small (replicate 192 0) fates

abbrev fresh : ℕ → Line
fresh allowed = uncut_line (device powered_on (replicate 768 255) (replicate 48 255) (replicate 4 0)) allowed

abbrev zeros : List ℕ
zeros = replicate 48 0

-- an erase of block 1: 60h, the row, D0h, 70h, one status read
erase_sends_lem : erase_sends (call []) (fresh 100) 4 ≡ command 96 ∷ address 4 ∷ address 0 ∷ address 0 ∷ command 208 ∷ command 112 ∷ status ∷ []
unfolding sent send_all send may_go exec commanded is_confirm plain_command begun status_mode addressed latched address_fits confirmable fitting confirmed erase_started started fate_word next_fate raised put status_read finished completed polls waiting
erase_sends_lem = refl

-- the mark byte of a page is read in 11 cycles
mark_read_sends : length (read_sends (call []) (fresh 100) 0 32 1) ≡ 11
unfolding sent send_all send may_go exec commanded is_confirm plain_command read_mode begun status_mode addressed latched address_fits confirmable fitting confirmed read_started started fate_word next_fate status_read finished completed polls waiting read_cycles is_passed outcome_of data_given
mark_read_sends = refl

-- a page of 48 bytes is programmed in 57 cycles
program_sends_lem : length (program_sends (call []) (fresh 100) 0 zeros) ≡ 57
unfolding sent send_all send may_go exec commanded is_confirm plain_command begun status_mode addressed latched address_fits confirmable fitting confirmed program_started started fate_word next_fate data_taken programmed weakened put status_read finished completed polls waiting
program_sends_lem = refl

-- 255 busy status reads pass, 256 are silent
busy_255 : outcome_of (send_all (call (255 ∷ [])) (fresh 1000) (erase_cycles (call (255 ∷ [])) (fresh 1000) 0)) ≡ Passed
unfolding send_all send may_go exec commanded is_confirm plain_command begun status_mode addressed latched address_fits confirmable fitting confirmed erase_started started fate_word next_fate raised put status_read finished completed polls waiting outcome_of
busy_255 = refl

busy_256 : outcome_of (send_all (call (256 ∷ [])) (fresh 1000) (erase_cycles (call (256 ∷ [])) (fresh 1000) 0)) ≡ Silent
unfolding send_all send may_go exec commanded is_confirm plain_command begun status_mode addressed latched address_fits confirmable fitting confirmed erase_started started fate_word next_fate raised put status_read finished completed polls waiting outcome_of
busy_256 = refl

-- an allowance of seven cycles is enough for an erase, one of six is not
allowed_7 : outcome_of (send_all (call []) (fresh 7) (erase_cycles (call []) (fresh 7) 0)) ≡ Passed
unfolding send_all send may_go cut_after exec commanded is_confirm plain_command begun status_mode addressed latched address_fits confirmable fitting confirmed erase_started started fate_word next_fate raised put status_read finished completed polls waiting outcome_of
allowed_7 = refl

allowed_6 : outcome_of (send_all (call []) (fresh 6) (erase_cycles (call []) (fresh 6) 0)) ≡ Cut
unfolding send_all send may_go cut_after exec commanded is_confirm plain_command begun status_mode addressed latched address_fits confirmable fitting confirmed erase_started started fate_word next_fate raised put status_read finished completed polls waiting outcome_of
allowed_6 = refl

-- a second program of one page is refused
abbrev once : Line
once = send_all (call []) (fresh 1000) (program_cycles (call []) (fresh 1000) 0 zeros)

programmed-twice : outcome_of (send_all (call []) once (program_cycles (call []) once 0 zeros)) ≡ Illegal
unfolding send_all send may_go cut_after exec commanded is_confirm plain_command begun status_mode addressed latched address_fits confirmable fitting confirmed program_started started fate_word next_fate data_taken programmed weakened put status_read finished completed polls waiting outcome_of
programmed-twice = refl

-- what was programmed is read back, here from byte 46 of row 0 on
read_back : read_outputs (call []) once 0 46 2 ≡ 0 ∷ 0 ∷ []
unfolding send_all send may_go cut_after exec commanded is_confirm plain_command read_mode begun status_mode addressed latched address_fits confirmable fitting confirmed read_started program_started started fate_word next_fate data_taken data_given data_byte programmed weakened put status_read finished completed polls waiting outcome_of is_passed read_outputs put_out byte_out goes_on
read_back = refl

-- with the write-protect line low an erase and a program are answered protected, and an erase sends seven cycles
abbrev low : ℕ → Line
low allowed =
    uncut_line (device (record { phase = 0; count = 0; address = 0; first = 0; column = 0; operation = 0; busy = 0; failed = 0; loaded = 0; fate = 0; illegal = 0; protected = 1 }) (replicate 768 255) (replicate 48 255) (replicate 4 0)) allowed

protected_erase : answer_of (send_all (call []) (low 100) (erase_cycles (call []) (low 100) 0)) ≡ Protected
unfolding send_all send may_go cut_after exec commanded is_confirm plain_command begun status_mode addressed latched address_fits confirmable fitting confirmed erase_started status_read polls waiting outcome_of guarded
protected_erase = refl

protected_erase_sends : erase_sends (call []) (low 100) 4 ≡ command 96 ∷ address 4 ∷ address 0 ∷ address 0 ∷ command 208 ∷ command 112 ∷ status ∷ []
unfolding sent send_all send may_go exec commanded is_confirm plain_command begun status_mode addressed latched address_fits confirmable fitting confirmed erase_started status_read polls waiting
protected_erase_sends = refl

protected_program : answer_of (send_all (call []) (low 100) (program_cycles (call []) (low 100) 0 zeros)) ≡ Protected
unfolding send_all send may_go cut_after exec commanded is_confirm plain_command begun status_mode addressed latched address_fits confirmable fitting confirmed program_started data_taken status_read polls waiting outcome_of guarded
protected_program = refl
