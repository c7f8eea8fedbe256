-- Table fills of a formatting as they were performed on the chip.
use Rattle.std.specs.Prelude.{ℕ, ◌<◌, List, ◌≡◌}
use Rattle.chip_array.specs.Device.{Setting}
use Rattle.chip.specs.Chip.{Cycle}
use Rattle.bus.specs.Line.{Line}
use Rattle.bus_polling.specs.declared.Outcome.TheVariants.{Passed}
use Rattle.operations.specs.Ends.{Called}
use Rattle.operations.specs.Trace.{ArrayOperation}
use Rattle.progress.specs.Progress.{progress}
use Rattle.state.specs.declared.State.{State}
use Rattle.format.specs.Format.{tables_from}

-- from state st and line l they came to line m with an answer and a next state; once one passed the chip takes the next command
pub record TablesDone (s : Setting) (st : State) (l m : Line) (answer : ℕ) (next : State) : Type 0 where
  pub line_is : (cs : List Cycle) (os : List ArrayOperation) → m ≡ (tables_from s st (progress l Passed cs os)).progress.line
  pub answer_is : (cs : List Cycle) (os : List ArrayOperation) → answer ≡ (tables_from s st (progress l Passed cs os)).answer
  pub state_is : (cs : List Cycle) (os : List ArrayOperation) → next ≡ (tables_from s st (progress l Passed cs os)).state
  pub next_called : answer ≡ 0 → Called s m × (next.last < s.geometry.blocks)
