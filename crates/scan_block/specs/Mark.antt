-- The byte in the place of a factory mark, read alone.
use Rattle.std.specs.Prelude.{ℕ, true, List, ◌≡◌}
use Rattle.geometry.specs.Sizes.{row_of}
use Rattle.chip_array.specs.Device.{Setting}
use Rattle.bus_polling.specs.Outcomes.{is_passed}
use Rattle.bus_polling.specs.declared.Outcome.{Outcome}
use Rattle.bus_polling.specs.declared.Outcome.TheVariants.{Passed}
use Rattle.chip.specs.Chip.{Cycle}
use Rattle.bus.specs.Line.{Line}
use Rattle.operations.specs.Ends.{Called}
use Rattle.operations.specs.Trace.{ArrayOperation}
use Rattle.copies.specs.Blocks.{block_in, mark_byte}
use Rattle.progress.specs.Progress.{progress, read_on}

-- the byte in the place of a factory mark was read
pub record MarkRead (s : Setting) (l m : Line) (o : Outcome) (block place byte : ℕ) : Type 0 where
  pub line_is : (cs : List Cycle) (os : List ArrayOperation) → m ≡ (read_on s (row_of s.geometry block place) s.geometry.main 1 (progress l Passed cs os)).line
  pub outcome_is : (cs : List Cycle) (os : List ArrayOperation) → o ≡ (read_on s (row_of s.geometry block place) s.geometry.main 1 (progress l Passed cs os)).outcome
  pub same_array : m.chip.array ≡ l.chip.array
  pub same_history : m.chip.history ≡ l.chip.history
  pub next : is_passed o ≡ true → Called s m
  pub byte_is : is_passed o ≡ true → byte ≡ mark_byte s.geometry (block_in s.geometry l.chip.array block) place
