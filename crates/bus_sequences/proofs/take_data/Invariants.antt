-- `bus_sequences::take_data` meets its contract: the cycles that are left, from the present line, leave what all leave from the first, and fill the buffer from the present place on as all fill it. Assumes nothing.
use Prim.Native.Nat.{ℕ, ◌-◌, ◌≤◌}
use mathlib.Core.List.{List}
use mathlib.Core.Path.{◌≡◌}
use lib.ListN.{length, replicate}
use Rattle.cells.specs.Cells.{over}
use Rattle.chip_array.specs.Device.{Setting}
use Rattle.chip.specs.Chip.{Cycle}
use Rattle.bus.specs.Line.{line, send_all, byte_out}
use Rattle.bus_sequences.specs.Cycles.{outputs}
use Rattle.bus_sequences.proofs.DataLaws.{filled}
use Rattle.bus_sequences.proofs.take_data.Given as goal

abbrev pub invariant-loop-i : goal.invariant-loop-i
invariant-loop-i l = (l.i ≤ length l.initial.buffer) × (length l.buffer ≡ length l.initial.buffer)
    × ((s : Setting) (a h : List ℕ) → send_all s (line l.b a l.register h) (replicate (length l.initial.buffer - l.i) Cycle.data_out) ≡ send_all s (line l.initial.b a l.register h) (replicate (length l.initial.buffer) Cycle.data_out))
    × ((s : Setting) (a h : List ℕ) → filled s Cycle.data_out byte_out (length l.initial.buffer - l.i) (line l.b a l.register h) l.i l.buffer ≡ over (outputs s (length l.initial.buffer) (line l.initial.b a l.register h)) l.initial.buffer)

abbrev pub decreases-loop-i : goal.decreases-loop-i
decreases-loop-i l = length l.initial.buffer - l.i
