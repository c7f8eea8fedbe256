-- `fill::program_page` meets its contract. Assumes nothing.
use Prim.Native.Nat.{ℕ}
use mathlib.Core.List.{List}
use mathlib.Core.Path.{ap₂, ◌∙◌}
use Rattle.chip_array.specs.Device.{setting}
use Rattle.bus.specs.Line.{line, send_all}
use Rattle.bus_sequences.specs.Cycles.{program_cycles}
use Rattle.fill.proofs.PageLaws.{as_page}
use Rattle.fill.proofs.program_page.Goals as goal

pub returns : goal.returns
returns c =
    let set = setting c.args.g c.args.mask.now c.args.fates.now in
    let l = line c.args.from c.args.array.now c.args.register.now c.args.history.now in
    let bytes = as_page c.args.g c.args.content.kind c.args.content.logical c.args.content.number c.args.place c.args.page.now _ c.requires.page-long c.finish_page.ensures in record { history_after = c.program.ensures.history_after ∙ ap₂ (λ (x : ℕ) (y : List ℕ). send_all set l (program_cycles set l x y)) c.row_of-row.ensures bytes; outcome_value = c.program.ensures.outcome_value }
