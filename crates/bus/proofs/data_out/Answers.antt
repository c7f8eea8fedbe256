-- `bus::data_out` meets its contract: a cycle that may go is the chip's, and one that may not leaves the chip alone. Assumes nothing.
use mathlib.Core.Path.{sym, ◌∙◌}
use mathlib.Core.List.{[]}
use Rattle.chip.specs.Chip.{exec}
use Rattle.bus.specs.Line.{line, byte_out}
use Rattle.bus.proofs.LineLaws.{left_of_admits, line_sent, line_kept}
use Rattle.bus.proofs.data_out.Goals as goal

pub spend-requires : goal.spend-requires
spend-requires c = left_of_admits (line c.args.bus [] [] []) (sym c.admits.ensures ∙ c.if-admits.true)

pub returns-then-admits : goal.returns-then-admits
unfolding exec byte_out
returns-then-admits c = record { h_value = λ s a h. line_sent _ c.args.bus _ _ _ _ c.spend.ensures (c.data_out-shown.ensures.by_index a h) (sym c.admits.ensures ∙ c.if-admits.true); by_index = λ a h. rw (sym c.admits.ensures ∙ c.if-admits.true) (c.data_out-shown.ensures.by_index_2 a h) }

pub returns : goal.returns
unfolding byte_out
returns c = record { h_value = λ s a h. line_kept _ c.args.bus _ c.block.ensures (sym c.admits.ensures ∙ c.if-admits.false); by_index = λ a h. rw (sym c.admits.ensures ∙ c.if-admits.false) }
