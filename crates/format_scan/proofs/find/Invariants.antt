-- `format_scan::find` meets its contract: after each block the scan has come through as that of a mount does. Assumes nothing.
use Prim.Native.Nat.{◌-◌, ◌≤◌}
use mathlib.Core.List.{[]}
use mathlib.Core.Path.{◌≡◌}
use lib.ListN.{length}
use Rattle.chip_array.specs.Device.{setting}
use Rattle.bus.specs.Line.{line}
use Rattle.scan_summary.specs.declared.Depth.TheVariants.{Full}
use Rattle.scan_found.specs.Contents.{Contents, contents, contents_to}
use Rattle.scan.proofs.ChipLaws.{Through}
use Rattle.format_scan.proofs.find.Given as goal

abbrev none : Contents
none = contents [] [] []

abbrev pub invariant-loop-block : goal.invariant-loop-block
invariant-loop-block l = (l.block ≤ l.g.blocks) × (length l.array ≡ length l.initial.array) × (length l.register ≡ length l.initial.register) × (length l.history ≡ length l.initial.history) × (length l.page ≡ length l.initial.page)
    × Through Full (setting l.g l.mask l.fates) (line l.initial.b l.initial.array l.initial.register l.initial.history) (line l.b l.array l.register l.history) l.block l.found none (contents_to Full l.g l.initial.array none l.block)

abbrev pub decreases-loop-block : goal.decreases-loop-block
decreases-loop-block l = l.g.blocks - l.block
