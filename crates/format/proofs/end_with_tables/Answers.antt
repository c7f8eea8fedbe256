-- `format::end_with_tables` meets its contract. Assumes nothing.
use mathlib.Core.Path.{◌∙◌}
use native.Mathlib.Omega.{arith}
use Rattle.chip_array.specs.Device.{setting}
use Rattle.bus.specs.Line.{line}
use Rattle.format.proofs.EndLaws.{tables_left, tables_end}
use Rattle.format.proofs.end_with_tables.Goals as goal

pub fill_tables-ran-requires : goal.fill_tables-ran-requires
fill_tables-ran-requires c = record { called = c.requires.called; last_lt_blocks = c.requires.last_lt_blocks; page_len = c.requires.page_len }

pub end-requires : goal.end-requires
end-requires c =
    let set = setting c.args.g c.args.mask.now c.args.fates.now in
    let l = line c.args.from c.args.array.now c.args.register.now c.args.history.now in
    omega (arith, c.requires.left_le_allowed, tables_left set c.args.allowed c.args.state l _ _ _ c.fill_tables-ran.ensures)

pub returns : goal.returns
returns c =
    let set = setting c.args.g c.args.mask.now c.args.fates.now in
    let l = line c.args.from c.args.array.now c.args.register.now c.args.history.now in
    λ cs os. c.end.ensures _ _ _ ∙ tables_end set c.args.allowed c.args.state l _ _ _ c.fill_tables-ran.ensures cs os
