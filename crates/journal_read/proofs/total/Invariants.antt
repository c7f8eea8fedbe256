-- `journal_read::total` meets its contract. Assumes nothing.
use Prim.Native.Nat.{◌-◌, ◌≤◌}
use mathlib.Core.Path.{◌≡◌}
use lib.ListN.{length}
use Rattle.chip_array.specs.Device.{setting}
use Rattle.bus.specs.Line.{line}
use Rattle.journal_read.specs.Reads.{pages_by}
use Rattle.journal_read.proofs.SumLaws.{Adding}
use Rattle.journal_read.proofs.total.Given as goal

abbrev pub invariant-loop-k : goal.invariant-loop-k
invariant-loop-k l = (l.k ≤ l.records) × (length l.array ≡ length l.initial.array) × (length l.register ≡ length l.initial.register) × (length l.history ≡ length l.initial.history)
    × Adding (setting l.g l.mask l.fates) l.map (pages_by l.g l.initial.array l.map l.kinds) l.records (line l.initial.b l.initial.array l.initial.register l.initial.history) (line l.b l.array l.register l.history) l.k l.sum

abbrev pub decreases-loop-k : goal.decreases-loop-k
decreases-loop-k l = l.records - l.k
