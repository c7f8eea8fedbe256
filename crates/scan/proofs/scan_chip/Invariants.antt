-- `scan::scan_chip` meets its contract: after each block the scan has come through as ChipLaws tells. Assumes nothing.
use Prim.Native.Nat.{◌-◌, ◌≤◌}
use mathlib.Core.Path.{◌≡◌}
use lib.ListN.{length}
use Rattle.chip_array.specs.Device.{setting}
use Rattle.bus.specs.Line.{line}
use Rattle.scan_found.specs.Contents.{contents}
use Rattle.scan.proofs.ChipLaws.{Through}
use Rattle.scan.proofs.scan_chip.Given as goal

abbrev pub invariant-loop-block : goal.invariant-loop-block
invariant-loop-block l = (l.block ≤ l.g.blocks) × (length l.array ≡ length l.initial.array) × (length l.register ≡ length l.initial.register) × (length l.history ≡ length l.initial.history)
    × (length l.page ≡ length l.initial.page) × (length l.kinds ≡ length l.initial.kinds) × (length l.logicals ≡ length l.initial.logicals) × (length l.numbers ≡ length l.initial.numbers)
    × Through l.depth (setting l.g l.mask l.fates) (line l.initial.b l.initial.array l.initial.register l.initial.history) (line l.b l.array l.register l.history) l.block l.found (contents l.initial.kinds l.initial.logicals l.initial.numbers) (contents l.kinds l.logicals l.numbers)

abbrev pub decreases-loop-block : goal.decreases-loop-block
decreases-loop-block l = l.g.blocks - l.block
