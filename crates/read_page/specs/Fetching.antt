-- A page of a block read into the caller's buffer and undone by the kind of its copy, as the only operation of a call.
use Rattle.std.specs.Prelude.{ℕ, cond, List, []}
use Rattle.geometry.specs.Sizes.{row_of}
use Rattle.chip_array.specs.Device.{Device, Setting}
use Rattle.bus.specs.Line.{Line}
use Rattle.bus_polling.specs.Outcomes.{is_passed}
use Rattle.bus_polling.specs.declared.Outcome.TheVariants.{Passed}
use Rattle.bus_sequences.specs.Cycles.{read_outcome, read_outputs}
use Rattle.copies.specs.Blocks.{formed}
use Rattle.progress.specs.Progress.{Progress, progress, read_on}
use Rattle.state.specs.declared.State.{State}
use Rattle.request.specs.Call.{Result, call_line, end_at, answer_for, state_for}

-- what a read hands back, and the caller's buffer as it is left
pub record ReadResult : Type 0 where
  pub returned : Result
  pub buffer : List ℕ

abbrev pub read_result : Result → List ℕ → ReadResult
read_result r buffer = record { returned = r; buffer = buffer }

-- a buffer after the main bytes of a row were read, that of a page of a copy of this kind: those that the chip put out, undone, if the read passed, else as
-- it was
unfoldable pub fetched : Setting → Line → ℕ → ℕ → ℕ → List ℕ → List ℕ
fetched s l row form page buffer =
    cond (is_passed (read_outcome s l row 0 s.geometry.main)) (formed form page (read_outputs s l row 0 s.geometry.main)) buffer

-- the main bytes of a page of a block are read, as the only operation of a call that may send n cycles
abbrev pub page_progress : Setting → Device → ℕ → ℕ → ℕ → Progress
page_progress s d n block page =
    read_on s (row_of s.geometry block page) 0 s.geometry.main (progress (call_line d n) Passed [] [])

-- a page of a block whose copy is of this kind
unfoldable pub reading_block : Setting → Device → ℕ → State → ℕ → ℕ → ℕ → List ℕ → ReadResult
reading_block s d n state block form page buffer =
    read_result
    (end_at n (answer_for (page_progress s d n block page).outcome) (state_for (page_progress s d n block page).outcome state)
    (page_progress s d n block page).line)
    (fetched s (call_line d n) (row_of s.geometry block page) form page buffer)
