-- `table::copy_bitmap` meets its contract. Assumes nothing.
use Rattle.std.proofs.Common.{arith}
use Rattle.std.proofs.lemmas.Grind.{common_steps}
use Rattle.copies.specs.Table.{bits_with}
use Rattle.table.proofs.TableLaws.{bitmap_copied}
use Rattle.table.proofs.copy_bitmap.Goals as goal

pub returns-then-place-ne0 : goal.returns-then-place-ne0
unfolding bits_with
returns-then-place-ne0 c = grind (arith, common_steps)

pub returns : goal.returns
returns c =
    bitmap_copied c.args.g c.args.place c.args.page.now c.args.bits.now c.requires.valid c.requires.page_len c.bitmap_bytes-size.result _ c.if-place-ne0.false c.bitmap_bytes-size.ensures c.copy.ensures
