-- `scan_block::scan_block` meets its contract. Assumes nothing.
use Prim.Native.Nat.{◌≤◌}
use mathlib.Core.Path.{refl}
use native.Mathlib.Omega.{arith}
use Rattle.chip_array.specs.Device.{setting}
use Rattle.bus.specs.Line.{line}
use Rattle.scan_block.proofs.ScanLaws.{block_line, block_outcome, block_summary, block_right, block_bits}
use Rattle.scan_block.proofs.scan_block.Goals as goal

pub scan_pages-requires : goal.scan_pages-requires
scan_pages-requires c = record { called = λ t. c.requires.called; block_lt_blocks = c.requires.block_lt_blocks; count_bound = omega arith; page_len = c.requires.page_len; blocks_in_bounds = c.requires.blocks_in_bounds }

pub returns : goal.returns
returns c =
    let set = setting c.args.g c.args.mask.now c.args.fates.now in
    let l = line c.args.from c.args.array.now c.args.register.now c.args.history.now in
    let some : 1 ≤ c.args.g.pages = omega (arith, c.requires.called.is_valid.pages_least) in record { history_after = block_line set l _ _ c.args.block _ _ some c.scan_pages.ensures; outcome_value = block_outcome set l _ _ c.args.block _ _ some c.scan_pages.ensures; array_unchanged = c.scan_pages.ensures.ran.same_array; history_unchanged = c.scan_pages.ensures.ran.same_history; called_2 = c.scan_pages.ensures.ran.next; summary_value = block_summary set l _ _ c.args.block _ _ some c.scan_pages.ensures c.blank.ensures; right_value = block_right set l _ _ c.args.block _ _ some c.scan_pages.ensures refl; bits_after = block_bits set l _ _ c.args.block _ _ some c.scan_pages.ensures }
