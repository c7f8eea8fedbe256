-- `geometry::row_of` meets its contract. Assumes nothing.
use native.Mathlib.Omega.{arith}
use Rattle.geometry.proofs.SizeLaws.{row_count_most, row_below}
use Rattle.geometry.proofs.row_of.Goals as goal

pub overflow_mul-result : goal.overflow_mul-result
overflow_mul-result c = omega (arith, row_below c.args.g c.requires.valid c.args.block c.args.page c.requires.block_lt_blocks c.requires.page_lt_pages, row_count_most c.args.g c.requires.valid)

pub overflow_add-result : goal.overflow_add-result
overflow_add-result c = omega (arith, row_below c.args.g c.requires.valid c.args.block c.args.page c.requires.block_lt_blocks c.requires.page_lt_pages, row_count_most c.args.g c.requires.valid)
