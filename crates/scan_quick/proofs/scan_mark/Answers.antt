-- `scan_quick::scan_mark` meets its contract. Assumes nothing.
use native.Mathlib.Omega.{arith}
use Rattle.chip_array.specs.Device.{setting}
use Rattle.bus.specs.Line.{line}
use Rattle.bus_polling.proofs.OutcomeLaws.{passed_by_is, other_by_not, is_passed_lem}
use Rattle.scan_quick.proofs.QuickScanLaws.{mark_none, mark_scanned}
use Rattle.scan_quick.proofs.scan_mark.Goals as goal

pub returns-in_default : goal.returns-in_default
returns-in_default c =
    mark_none (setting c.args.g c.args.mask.now c.args.fates.now) (line c.args.from.bus c.args.array.now c.args.register.now c.args.history.now) c.args.from.outcome c.args.block c.args.from.summary c.args.from.right (other_by_not _ c.in_default.not-Passed)

pub read_mark-mark-requires : goal.read_mark-mark-requires
read_mark-mark-requires c =
    let called = c.requires.called (passed_by_is _ c.in-Passed.is) in record { called = called; block_lt_blocks = c.requires.block_lt_blocks; place_lt_pages = omega (arith, called.is_valid.pages_least) }

pub returns : goal.returns
returns c =
    mark_scanned (setting c.args.g c.args.mask.now c.args.fates.now) (line c.args.from.bus c.args.array.now c.args.register.now c.args.history.now) _ c.args.from.outcome _ c.args.block _ c.args.from.summary _ c.args.from.right (is_passed_lem _ (passed_by_is _ c.in-Passed.is)) c.read_mark-mark.ensures c.mark.ensures
