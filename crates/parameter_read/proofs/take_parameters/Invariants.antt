-- `parameter_read::take_parameters` meets its contract: the cycles that are left, from the present line, leave what all leave from the first, and fill the buffer from the present place on as all fill it. Assumes nothing.
use Prim.Native.Nat.{ℕ, ◌-◌, ◌≤◌}
use mathlib.Core.List.{List}
use mathlib.Core.Path.{◌≡◌}
use lib.ListN.{length, replicate}
use Rattle.cells.specs.Cells.{over}
use Rattle.chip_array.specs.Device.{Setting}
use Rattle.chip.specs.Chip.{Cycle}
use Rattle.bus.specs.Line.{line, send_all, parameter_byte_out}
use Rattle.parameter_read.specs.Cycles.{page_outputs}
use Rattle.bus_sequences.proofs.DataLaws.{filled}
use Rattle.parameter_read.proofs.take_parameters.Given as goal

abbrev pub invariant-loop-i : goal.invariant-loop-i
invariant-loop-i l = (l.i ≤ length l.initial.buffer) × (length l.buffer ≡ length l.initial.buffer)
    × ((s : Setting) (a p h : List ℕ) → send_all s (line l.b a p h) (replicate (length l.initial.buffer - l.i) (Cycle.parameter_out l.page)) ≡ send_all s (line l.initial.b a p h) (replicate (length l.initial.buffer) (Cycle.parameter_out l.page)))
    × ((s : Setting) (a p h : List ℕ) → filled s (Cycle.parameter_out l.page) (parameter_byte_out l.page) (length l.initial.buffer - l.i) (line l.b a p h) l.i l.buffer ≡ over (page_outputs s l.page (length l.initial.buffer) (line l.initial.b a p h)) l.initial.buffer)

abbrev pub decreases-loop-i : goal.decreases-loop-i
decreases-loop-i l = length l.initial.buffer - l.i
