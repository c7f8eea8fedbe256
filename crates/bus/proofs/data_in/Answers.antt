-- `bus::data_in` meets its contract. Assumes nothing.
use Rattle.bus.proofs.LineLaws.{left_of_admits, line_sent, line_kept}
use Rattle.bus.specs.Line.{line}
use Rattle.chip.specs.Chip.{exec}
use mathlib.Core.List.{[]}
use mathlib.Core.Path.{refl, sym, ◌∙◌}
use Rattle.bus.proofs.data_in.Goals as goal

pub overflow_sub-bus : goal.overflow_sub-bus
overflow_sub-bus c = left_of_admits (line c.args.bus [] [] []) (sym c.admits.ensures ∙ c.if-admits.true)

pub returns-then-admits : goal.returns-then-admits
unfolding exec
returns-then-admits c = λ s a h. line_sent s c.args.bus a _ h _ refl (c.data_in-next.ensures a h) (sym c.admits.ensures ∙ c.if-admits.true)

pub returns : goal.returns
returns c = λ s a h. line_kept _ c.args.bus _ c.block.ensures (sym c.admits.ensures ∙ c.if-admits.false)
