-- `table::is_right_first` meets its contract. Assumes nothing.
use Rattle.std.proofs.Common.{arith}
use Rattle.std.proofs.lemmas.Grind.{common_steps}
use Rattle.copies.specs.Table.{right_first}
use Rattle.table.proofs.TableLaws.{bits_are, rest_is}
use Rattle.table.proofs.is_right_first.Goals as goal

pub returns-then-is_clear_from : goal.returns-then-is_clear_from
unfolding right_first
returns-then-is_clear_from c = grind (arith, common_steps, bits_are c.args.blocks c.bitmap_bytes-size.result c.args.main.now c.bitmap_bytes-size.ensures, rest_is c.args.blocks c.bitmap_bytes-size.result c.args.main.now c.bitmap_bytes-size.ensures)

pub returns-else-is_clear_from : goal.returns-else-is_clear_from
unfolding right_first
returns-else-is_clear_from c = grind (arith, common_steps, bits_are c.args.blocks c.bitmap_bytes-size.result c.args.main.now c.bitmap_bytes-size.ensures, rest_is c.args.blocks c.bitmap_bytes-size.result c.args.main.now c.bitmap_bytes-size.ensures)
