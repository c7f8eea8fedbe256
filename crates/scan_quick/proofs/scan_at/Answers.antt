-- `scan_quick::scan_at` meets its contract. Assumes nothing.
use Rattle.chip_array.specs.Device.{setting}
use Rattle.bus.specs.Line.{line}
use Rattle.scan_summary.proofs.DepthLaws.{full_by_tag, quick_by_tag}
use Rattle.scan_quick.proofs.QuickScanLaws.{full_scan, at_depth}
use Rattle.scan_quick.proofs.scan_at.Goals as goal

pub returns-in_default : goal.returns-in_default
returns-in_default c =
    at_depth (quick_by_tag c.args.depth c.in_default.in_default-own.keys2) c.scan_quick.ensures

pub returns : goal.returns
returns c =
    at_depth (full_by_tag c.args.depth c.in-Full.in-Full-own.keys1)
    (full_scan (setting c.args.g c.args.mask.now c.args.fates.now) (line c.args.from c.args.array.now c.args.register.now c.args.history.now) _ _ c.args.block _ _ c.args.bits.now _ c.scan_block.ensures.history_after c.scan_block.ensures.outcome_value c.scan_block.ensures.array_unchanged c.scan_block.ensures.history_unchanged c.scan_block.ensures.called_2 c.scan_block.ensures.summary_value c.scan_block.ensures.right_value c.scan_block.ensures.bits_after)
