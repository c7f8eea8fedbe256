-- `geometry::block_size` meets its contract. Assumes nothing.
use native.Mathlib.Omega.{arith}
use Rattle.geometry.proofs.SizeLaws.{block_size_most}
use Rattle.geometry.proofs.block_size.Goals as goal

pub overflow_mul-result : goal.overflow_mul-result
overflow_mul-result c = rw c.page_size.ensures (omega (arith, block_size_most c.args.g c.requires))
