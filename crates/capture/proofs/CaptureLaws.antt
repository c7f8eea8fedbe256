-- The cycles that the operations send are those that are captured, with as many status reads as the chip is polled. Assumes
-- nothing.
use Prim.Native.Nat.{ℕ}
use mathlib.Core.Bool.{true, false}
use mathlib.Core.List.{List, ◌++◌, append-nil}
use mathlib.Core.Path.{◌≡◌, refl}
use Rattle.chip_interface.specs.Interface.{read_confirm, program_confirm, erase_confirm}
use Rattle.chip_array.specs.Device.{Setting}
use Rattle.chip.specs.Chip.{Cycle}
use Rattle.bus.specs.Line.{Line, send_all}
use Rattle.bus_polling.specs.Polling.{polls, outcome_of}
use Rattle.bus_polling.specs.Outcomes.{is_passed}
use Rattle.bus_sequences.specs.Cycles.{read_address, program_data, erase_address, confirm_cycles, program_cycles, erase_cycles, page_line, read_cycles}
use Rattle.capture.specs.Capture.{program_capture, erase_capture, fetch_capture, read_capture}

-- the status reads of an operation from a line l, told by its first cycles and its confirm cycle
abbrev pub polls_after : Setting → Line → List Cycle → ℕ → ℕ
polls_after s l first code = polls s 256 (send_all s l (first ++ confirm_cycles code)).chip

module _ (s : Setting) (l : Line) (row : ℕ) where
  pub program_captured : (bytes : List ℕ) → program_cycles s l row bytes ≡ program_capture row bytes (polls_after s l (program_data row bytes) program_confirm)
  program_captured bytes = refl

  pub erase_captured : erase_cycles s l row ≡ erase_capture row (polls_after s l (erase_address row) erase_confirm)
  erase_captured = refl

  -- a read that passed, and one that did not
  pub read_captured : (column n : ℕ) → is_passed (outcome_of (page_line s l row column)) ≡ true → read_cycles s l row column n ≡ read_capture row column n (polls_after s l (read_address row column) read_confirm)
  unfolding read_cycles
  read_captured column n e = rw e

  pub fetch_captured : (column n : ℕ) → is_passed (outcome_of (page_line s l row column)) ≡ false → read_cycles s l row column n ≡ fetch_capture row column (polls_after s l (read_address row column) read_confirm)
  unfolding read_cycles
  fetch_captured column n e =
      rw e (append-nil (fetch_capture row column (polls_after s l (read_address row column) read_confirm)))
