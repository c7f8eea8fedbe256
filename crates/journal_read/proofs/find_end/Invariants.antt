-- `journal_read::find_end` meets its contract: after each record the pass is in the middle that PassLaws tells. Assumes nothing.
use Prim.Native.Nat.{◌-◌, ◌≤◌}
use mathlib.Core.Path.{◌≡◌}
use lib.ListN.{length}
use Rattle.chip_array.specs.Device.{setting}
use Rattle.bus.specs.Line.{line}
use Rattle.journal_read.specs.Reads.{pages_by}
use Rattle.journal_read.proofs.PassLaws.{Middle}
use Rattle.journal_read.proofs.find_end.Given as goal

abbrev pub invariant-loop-n : goal.invariant-loop-n
invariant-loop-n l = (l.n ≤ l.most) × (length l.array ≡ length l.initial.array) × (length l.register ≡ length l.initial.register) × (length l.history ≡ length l.initial.history) × (length l.page ≡ length l.initial.page) × (length l.replaced ≡ length l.initial.replaced)
    × Middle (setting l.g l.mask l.fates) l.map (pages_by l.g l.initial.array l.map l.kinds) (line l.initial.b l.initial.array l.initial.register l.initial.history) (line l.b l.array l.register l.history) l.n l.replaced

abbrev pub decreases-loop-n : goal.decreases-loop-n
decreases-loop-n l = l.most - l.n
