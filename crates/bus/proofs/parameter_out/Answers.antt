-- `bus::parameter_out` meets its contract: a cycle that may go is the chip's, and one that may not leaves the chip alone. Assumes nothing.
use mathlib.Core.Path.{sym, ◌∙◌}
use mathlib.Core.List.{[]}
use Rattle.chip.specs.Chip.{exec}
use Rattle.bus.specs.Line.{line, parameter_byte_out}
use Rattle.bus.proofs.LineLaws.{left_of_admits, line_sent, line_kept}
use Rattle.bus.proofs.parameter_out.Goals as goal

pub spend-requires : goal.spend-requires
spend-requires c = left_of_admits (line c.args.bus [] [] []) (sym c.admits.ensures ∙ c.if-admits.true)

pub returns-then-admits : goal.returns-then-admits
unfolding exec parameter_byte_out
returns-then-admits c = record { h_value = λ s a p h. line_sent _ c.args.bus _ _ _ _ c.spend.ensures (c.parameter_out-shown.ensures.by_index a p h) (sym c.admits.ensures ∙ c.if-admits.true); by_index = λ a p h. rw (sym c.admits.ensures ∙ c.if-admits.true) c.parameter_out-shown.ensures.byte_value }

pub returns : goal.returns
unfolding parameter_byte_out
returns c = record { h_value = λ s a p h. line_kept _ c.args.bus _ c.block.ensures (sym c.admits.ensures ∙ c.if-admits.false); by_index = λ a p h. rw (sym c.admits.ensures ∙ c.if-admits.false) }
