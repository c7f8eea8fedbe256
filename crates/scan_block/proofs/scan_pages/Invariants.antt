-- `scan_block::scan_pages` meets its contract: after each page the scan is in the middle that ScanLaws tells. Assumes nothing.
use Prim.Native.Nat.{◌-◌, ◌≤◌}
use mathlib.Core.Path.{◌≡◌}
use lib.ListN.{length}
use Rattle.chip_array.specs.Device.{setting}
use Rattle.bus.specs.Line.{line}
use Rattle.scan_block.specs.Gathered.{gathered}
use Rattle.scan_block.proofs.ScanLaws.{Middle}
use Rattle.scan_block.proofs.scan_pages.Given as goal

abbrev pub invariant-loop-done : goal.invariant-loop-done
invariant-loop-done l = (l.done ≤ l.count) × (length l.array ≡ length l.initial.array) × (length l.register ≡ length l.initial.register) × (length l.history ≡ length l.initial.history)
    × (length l.page ≡ length l.initial.page) × (length l.bits ≡ length l.initial.bits)
    × Middle (setting l.g l.mask l.fates) (line l.initial.b l.initial.array l.initial.register l.initial.history) (line l.b l.array l.register l.history) l.block l.first l.done (gathered l.initial.summary l.initial.right l.initial.bits l.initial.page) (gathered l.summary l.right l.bits l.page)

abbrev pub decreases-loop-done : goal.decreases-loop-done
decreases-loop-done l = l.count - l.done
