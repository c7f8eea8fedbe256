-- `geometry::block_start` meets its contract. Assumes nothing.
use Rattle.geometry.proofs.SizeLaws.{block_within, chip_size_most}
use native.Mathlib.Omega.{arith}
use Rattle.geometry.proofs.block_start.Goals as goal

pub overflow_mul-result : goal.overflow_mul-result
overflow_mul-result c = rw c.block_size.ensures (omega (arith, block_within c.args.g c.requires.valid c.args.block c.requires.block_lt_blocks, chip_size_most c.args.g c.requires.valid))
