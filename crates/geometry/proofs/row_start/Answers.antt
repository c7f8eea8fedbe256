-- `geometry::row_start` meets its contract. Assumes nothing.
use Rattle.geometry.proofs.SizeLaws.{row_within, chip_size_most}
use native.Mathlib.Omega.{arith}
use Rattle.geometry.proofs.row_start.Goals as goal

pub overflow_mul-result : goal.overflow_mul-result
overflow_mul-result c = rw c.page_size.ensures (omega (arith, row_within c.args.g c.requires.valid c.args.row c.requires.row_bound, chip_size_most c.args.g c.requires.valid))
