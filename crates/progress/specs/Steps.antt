-- Erases and programs as steps of a request.
use Rattle.std.specs.Prelude.{ℕ, true, cond, List, ◌++◌, ◌≡◌}
use Rattle.geometry.specs.Sizes.{row_of}
use Rattle.chip_array.specs.Device.{Setting}
use Rattle.chip.specs.Chip.{Cycle}
use Rattle.bus.specs.Line.{Line, send_all}
use Rattle.bus_polling.specs.Outcomes.{is_passed, answered}
use Rattle.bus_polling.specs.Polling.{answer_of}
use Rattle.bus_polling.specs.declared.Outcome.{Outcome}
use Rattle.bus_polling.specs.declared.Outcome.TheVariants.{Passed}
use Rattle.bus_sequences.specs.Cycles.{erase_cycles, program_cycles}
use Rattle.operations.specs.Ends.{Called}
use Rattle.operations.specs.Trace.{ArrayOperation, erase_sends, erase_starts, program_sends, program_starts}
use Rattle.progress.specs.Progress.{Progress, progress}

-- a block is erased, if all before it passed
unfoldable pub erase_on : Setting → ℕ → Progress → Progress
erase_on s block p =
    cond (is_passed p.outcome)
    (progress
    (send_all s p.line (erase_cycles s p.line (row_of s.geometry block 0)))
    (answer_of (send_all s p.line (erase_cycles s p.line (row_of s.geometry block 0))))
    (p.cycles ++ erase_sends s p.line (row_of s.geometry block 0))
    (p.started ++ erase_starts s p.line (row_of s.geometry block 0)))
    p

-- a page is programmed, if all before it passed
unfoldable pub program_on : Setting → ℕ → ℕ → List ℕ → Progress → Progress
program_on s block page bytes p =
    cond (is_passed p.outcome)
    (progress
    (send_all s p.line (program_cycles s p.line (row_of s.geometry block page) bytes))
    (answer_of (send_all s p.line (program_cycles s p.line (row_of s.geometry block page) bytes)))
    (p.cycles ++ program_sends s p.line (row_of s.geometry block page) bytes)
    (p.started ++ program_starts s p.line (row_of s.geometry block page) bytes))
    p

-- the request goes on after an operation that failed
abbrev pub resumed : Progress → Progress
resumed p = progress p.line Passed p.cycles p.started

-- a part of a request that comes from line l to line m with outcome o; once ready was reported the chip takes the next command
pub record ComesTo (s : Setting) (steps : Progress → Progress) (l m : Line) (o : Outcome) : Type 0 where
  pub line_is : (cs : List Cycle) (os : List ArrayOperation) → m ≡ (steps (progress l Passed cs os)).line
  pub outcome_is : (cs : List Cycle) (os : List ArrayOperation) → o ≡ (steps (progress l Passed cs os)).outcome
  pub next_called : answered o ≡ true → Called s m
