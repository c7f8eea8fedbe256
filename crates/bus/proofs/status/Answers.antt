-- `bus::status` meets its contract: a cycle that may go is the chip's, and one that may not leaves the chip alone. Assumes nothing.
use mathlib.Core.Path.{sym, ◌∙◌}
use mathlib.Core.List.{[]}
use Rattle.chip.specs.Chip.{exec}
use Rattle.bus.specs.Line.{line, status_out}
use Rattle.bus.proofs.LineLaws.{left_of_admits, line_sent, line_kept}
use Rattle.bus.proofs.status.Goals as goal

pub spend-requires : goal.spend-requires
spend-requires c =
    left_of_admits (line c.args.bus [] [] []) (sym c.admits.ensures ∙ c.if-admits.true)

pub returns-then-admits : goal.returns-then-admits
unfolding exec status_out
returns-then-admits c = record { by_index = λ m f. line_sent _ c.args.bus _ _ _ _ c.spend.ensures c.status-shown.ensures.history_after (sym c.admits.ensures ∙ c.if-admits.true); by_index_2 = λ a p h. rw (sym c.admits.ensures ∙ c.if-admits.true) c.status-shown.ensures.byte_value }

pub returns : goal.returns
unfolding status_out
returns c = record { by_index = λ m f. line_kept _ c.args.bus _ c.block.ensures (sym c.admits.ensures ∙ c.if-admits.false); by_index_2 = λ a p h. rw (sym c.admits.ensures ∙ c.if-admits.false) }
