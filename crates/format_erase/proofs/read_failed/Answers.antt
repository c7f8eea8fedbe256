-- `format_erase::read_failed` meets its contract. Assumes nothing.
use mathlib.Core.Path.{◌∙◌}
use native.Mathlib.Omega.{arith}
use Rattle.chip_array.specs.Device.{setting}
use Rattle.bus.specs.Line.{line}
use Rattle.format_erase.proofs.RoundLaws.{flag_is, after_failed}
use Rattle.format_erase.proofs.read_failed.Goals as goal

pub scan_block-scanned-requires : goal.scan_block-scanned-requires
scan_block-scanned-requires c = record { called = c.requires.called; block_lt_blocks = c.requires.block_lt_blocks; page_len = c.requires.page_len; blocks_in_bounds = omega (arith, c.requires.called.is_valid.blocks_most) }

pub returns : goal.returns
returns c =
    rw (c.from.ensures ∙ flag_is c.scan_block-scanned.result.summary.any)
    (after_failed (setting c.args.g c.args.mask.now c.args.fates.now) (line c.args.from c.args.array.now c.args.register.now c.args.history.now) c.args.block c.requires.called _ c.scan_block-scanned.result.outcome c.scan_block-scanned.result.summary c.scan_block-scanned.ensures.history_after c.scan_block-scanned.ensures.outcome_value c.scan_block-scanned.ensures.called_2 c.scan_block-scanned.ensures.summary_value)
