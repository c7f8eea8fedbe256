-- `chip_effects::erase_part` meets its contract: the block's bytes are lent, and come back raised as far as the mask goes.
-- Assumes nothing.
use native.Mathlib.Omega.{arith}
use Rattle.geometry.proofs.SizeLaws.{chip_size_most}
use Rattle.cells.specs.Cells.{raised}
use Rattle.cells.proofs.CellLaws.{length-raised}
use Rattle.chip_effects.proofs.LentLaws.{lent, block_lies}
use Rattle.chip_effects.proofs.erase_part.Goals as goal

pub overflow_add-end : goal.overflow_add-end
overflow_add-end c =
    omega (arith, block_lies c.args.g c.requires.valid c.block_start-at.result c.block_size.result _ c.requires.array_len c.args.block c.requires.block_lt_blocks c.block_start-at.ensures c.block_size.ensures, chip_size_most c.args.g c.requires.valid)

pub slice_bounds-erase_masked-end : goal.slice_bounds-erase_masked-end
slice_bounds-erase_masked-end c = block_lies c.args.g c.requires.valid c.block_start-at.result c.block_size.result _ c.requires.array_len c.args.block c.requires.block_lt_blocks c.block_start-at.ensures c.block_size.ensures

pub returns : goal.returns
returns c =
    let lies = block_lies c.args.g c.requires.valid c.block_start-at.result c.block_size.result _ c.requires.array_len c.args.block c.requires.block_lt_blocks c.block_start-at.ensures c.block_size.ensures in
    rw (← c.block_start-at.ensures, ← c.block_size.ensures) (lent _ _ (λ zs. raised zs c.args.mask.now) _ _ lies (λ zs. length-raised zs _) c.erase_masked.ensures)
