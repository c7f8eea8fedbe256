-- `scan_block::read_mark` meets its contract. Assumes nothing.
use mathlib.Core.Path.{refl}
use lib.ListN.{replicate}
use Rattle.chip_array.specs.Device.{setting}
use Rattle.bus.specs.Line.{line}
use Rattle.scan_block.proofs.MarkLaws.{mark_read_fact}
use Rattle.scan_block.proofs.read_mark.Goals as goal

pub returns : goal.returns
returns c =
    mark_read_fact (setting c.args.g c.args.mask.now c.args.fates.now) (line c.args.from c.args.array.now c.args.register.now c.args.history.now) c.args.block c.args.place c.requires.called c.requires.block_lt_blocks c.requires.place_lt_pages c.row_of-row.result c.row_of-row.ensures _ c.read-done.result.outcome (replicate 1 0) _ refl c.read-done.ensures.history_after c.read-done.ensures.outcome_value c.read-done.ensures.buffer_after refl
