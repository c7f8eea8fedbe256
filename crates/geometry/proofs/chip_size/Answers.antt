-- `geometry::chip_size` meets its contract. Assumes nothing.
use native.Mathlib.Omega.{arith}
use Rattle.geometry.proofs.SizeLaws.{chip_size_most}
use Rattle.geometry.proofs.chip_size.Goals as goal

pub overflow_mul-result : goal.overflow_mul-result
overflow_mul-result c = rw c.block_size.ensures (omega (arith, chip_size_most c.args.g c.requires))
