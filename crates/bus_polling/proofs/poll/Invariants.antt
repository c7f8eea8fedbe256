-- `bus_polling::poll` meets its contract: as many reads as are left, from the present line, leave what 256 leave from the first, and the chip is busy after the first of them. Assumes nothing.
use Prim.Native.Nat.{ℕ, ◌-◌, ◌≤◌, ◌<◌}
use mathlib.Core.List.{List}
use mathlib.Core.Path.{◌≡◌}
use lib.ListN.{length}
use Rattle.chip_array.specs.Device.{setting}
use Rattle.bus.specs.Line.{line}
use Rattle.bus_polling.specs.Polling.{polled, outcome_of}
use Rattle.bus_polling.specs.declared.Outcome.TheVariants.{Silent}
use Rattle.bus_polling.proofs.poll.Given as goal

abbrev pub invariant-loop-reads : goal.invariant-loop-reads
invariant-loop-reads l = (l.reads ≤ 256) × (length l.array ≡ length l.initial.array) × (length l.history ≡ length l.initial.history)
    × ((m f : List ℕ) → polled (setting l.g m f) (256 - l.reads) (line l.b l.array l.register l.history) ≡ polled (setting l.g m f) 256 (line l.initial.b l.initial.array l.register l.initial.history))
    × (0 < l.reads → outcome_of (line l.b l.array l.register l.history) ≡ Silent)

abbrev pub decreases-loop-reads : goal.decreases-loop-reads
decreases-loop-reads l = 256 - l.reads
