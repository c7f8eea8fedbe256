-- `chip_effects::program_rest` meets its contract: the row's bytes are lent, and come back programmed.
-- Assumes nothing.
use native.Mathlib.Omega.{arith}
use Rattle.geometry.proofs.SizeLaws.{chip_size_most}
use Rattle.cells.specs.Cells.{programmed}
use Rattle.cells.proofs.CellLaws.{length-programmed}
use Rattle.chip_effects.proofs.LentLaws.{lent, row_lies}
use Rattle.chip_effects.proofs.program_rest.Goals as goal

pub overflow_add-end : goal.overflow_add-end
overflow_add-end c =
    omega (arith, row_lies c.args.g c.requires.valid c.row_start-at.result c.page_size.result _ c.requires.array_len c.args.row c.requires.row_bound c.row_start-at.ensures c.page_size.ensures, chip_size_most c.args.g c.requires.valid)

pub slice_bounds-program_whole-end : goal.slice_bounds-program_whole-end
slice_bounds-program_whole-end c = row_lies c.args.g c.requires.valid c.row_start-at.result c.page_size.result _ c.requires.array_len c.args.row c.requires.row_bound c.row_start-at.ensures c.page_size.ensures

pub returns : goal.returns
returns c =
    let lies = row_lies c.args.g c.requires.valid c.row_start-at.result c.page_size.result _ c.requires.array_len c.args.row c.requires.row_bound c.row_start-at.ensures c.page_size.ensures in
    rw (← c.row_start-at.ensures, ← c.page_size.ensures) (lent _ _ (λ zs. programmed zs c.args.«data».now) _ _ lies (λ zs. length-programmed zs _) c.program_whole.ensures)
