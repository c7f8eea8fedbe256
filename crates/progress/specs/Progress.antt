-- A request on its way: the line it has reached, how its last operation ended, and its trace.
use Rattle.std.specs.Prelude.{ℕ, cond, List, ◌++◌}
use Rattle.chip_array.specs.Device.{Setting}
use Rattle.chip.specs.Chip.{Cycle}
use Rattle.bus.specs.Line.{Line, send_all, sent}
use Rattle.bus_polling.specs.Outcomes.{is_passed}
use Rattle.bus_polling.specs.Polling.{ended_as}
use Rattle.bus_sequences.specs.Cycles.{reset_cycles, status_cycles, read_cycles, read_outcome}
use Rattle.operations.specs.Ends.{status_end}
use Rattle.bus_polling.specs.declared.Outcome.{Outcome}
use Rattle.operations.specs.Trace.{ArrayOperation, read_sends, read_starts}

-- cycles: those sent. started: the array operations
pub record Progress : Type 0 where
  pub line : Line
  pub outcome : Outcome
  pub cycles : List Cycle
  pub started : List ArrayOperation

abbrev pub progress : Line → Outcome → List Cycle → List ArrayOperation → Progress
progress l o cs os = record { line = l; outcome = o; cycles = cs; started = os }

-- the word of the write-protect line: 0 where it is high
abbrev pub line_of : Progress → ℕ
line_of p = p.line.chip.interface.protected

-- n bytes of a row are read from a column on, if all before it passed
unfoldable pub read_on : Setting → ℕ → ℕ → ℕ → Progress → Progress
read_on s row column n p =
    cond (is_passed p.outcome)
    (progress
    (send_all s p.line (read_cycles s p.line row column n))
    (read_outcome s p.line row column n)
    (p.cycles ++ read_sends s p.line row column n)
    (p.started ++ read_starts s p.line row column))
    p

-- the chip is reset
unfoldable pub reset_on : Setting → Progress → Progress
reset_on s p =
    cond (is_passed p.outcome)
    (progress
    (send_all s p.line reset_cycles)
    (ended_as (send_all s p.line reset_cycles))
    (p.cycles ++ sent s p.line reset_cycles)
    p.started)
    p

-- the chip is asked for its status, before a request changes anything
unfoldable pub status_on : Setting → Progress → Progress
status_on s p =
    cond (is_passed p.outcome)
    (progress
    (send_all s p.line status_cycles)
    (status_end (send_all s p.line status_cycles))
    (p.cycles ++ sent s p.line status_cycles)
    p.started)
    p
