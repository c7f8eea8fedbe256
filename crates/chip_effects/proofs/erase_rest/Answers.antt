-- `chip_effects::erase_rest` meets its contract: the block's bytes are lent, and come back all 255.
-- Assumes nothing.
use mathlib.Core.Path.{◌∙◌}
use native.Mathlib.Omega.{arith}
use lib.ListN.{length, replicate, length-replicate}
use Rattle.geometry.proofs.SizeLaws.{chip_size_most}
use Rattle.cells.proofs.PartLaws.{length_part}
use Rattle.chip_effects.proofs.LentLaws.{lent, block_lies}
use Rattle.chip_effects.proofs.erase_rest.Goals as goal

pub overflow_add-end : goal.overflow_add-end
overflow_add-end c =
    omega (arith, block_lies c.args.g c.requires.valid c.block_start-at.result c.block_size.result _ c.requires.array_len c.args.block c.requires.block_lt_blocks c.block_start-at.ensures c.block_size.ensures, chip_size_most c.args.g c.requires.valid)

pub slice_bounds-erase_whole-end : goal.slice_bounds-erase_whole-end
slice_bounds-erase_whole-end c = block_lies c.args.g c.requires.valid c.block_start-at.result c.block_size.result _ c.requires.array_len c.args.block c.requires.block_lt_blocks c.block_start-at.ensures c.block_size.ensures

pub returns : goal.returns
returns c =
    let lies = block_lies c.args.g c.requires.valid c.block_start-at.result c.block_size.result _ c.requires.array_len c.args.block c.requires.block_lt_blocks c.block_start-at.ensures c.block_size.ensures in
    rw (← c.block_start-at.ensures, ← c.block_size.ensures) (lent _ _ (λ zs. replicate (length zs) 255) _ _ lies (λ zs. length-replicate _ _) c.erase_whole.ensures ∙ rw (length_part c.block_start-at.result c.block_size.result c.args.array.now lies))
