-- `bus_sequences::send_data` meets its contract: what is left of the data, sent from the present line, leaves what all of it leaves from the first. Assumes nothing.
use Prim.Native.Nat.{ℕ, ◌-◌, ◌≤◌}
use mathlib.Core.List.{List, map}
use mathlib.Core.Path.{◌≡◌}
use lib.ListN.{length, drop}
use Rattle.chip_array.specs.Device.{Setting}
use Rattle.chip.specs.Chip.{Cycle}
use Rattle.bus.specs.Line.{line, send_all}
use Rattle.bus_sequences.proofs.send_data.Given as goal

abbrev pub invariant-loop-i : goal.invariant-loop-i
invariant-loop-i l = (l.i ≤ length l.«data») × (length l.register ≡ length l.initial.register)
    × ((s : Setting) (a h : List ℕ) → send_all s (line l.b a l.register h) (map Cycle.data_in (drop l.i l.«data»)) ≡ send_all s (line l.initial.b a l.initial.register h) (map Cycle.data_in l.«data»))

abbrev pub decreases-loop-i : goal.decreases-loop-i
decreases-loop-i l = length l.«data» - l.i
