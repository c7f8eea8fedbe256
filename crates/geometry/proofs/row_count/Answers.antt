-- `geometry::row_count` meets its contract. Assumes nothing.
use native.Mathlib.Omega.{arith}
use Rattle.geometry.proofs.SizeLaws.{row_count_most}
use Rattle.geometry.proofs.row_count.Goals as goal

pub overflow_mul-result : goal.overflow_mul-result
overflow_mul-result c = omega (arith, row_count_most c.args.g c.requires)
