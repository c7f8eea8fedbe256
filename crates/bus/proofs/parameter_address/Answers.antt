-- `bus::parameter_address` meets its contract: a cycle that may go is the chip's, and one that may not leaves the chip alone. Assumes nothing.
use mathlib.Core.Path.{sym, ap, ◌∙◌}
use mathlib.Core.List.{[]}
use Rattle.chip_interface.specs.declared.Interface.{Interface}
use Rattle.chip_array.specs.Device.{device}
use Rattle.chip.specs.Chip.{exec}
use Rattle.bus.specs.Line.{line}
use Rattle.bus.proofs.LineLaws.{left_of_admits, line_sent, line_kept}
use Rattle.bus.proofs.parameter_address.Goals as goal

pub spend-requires : goal.spend-requires
spend-requires c = left_of_admits (line c.args.bus [] [] []) (sym c.admits.ensures ∙ c.if-admits.true)

pub returns-then-admits : goal.returns-then-admits
unfolding exec
returns-then-admits c = λ g m a p h. line_sent _ c.args.bus _ _ _ _ c.spend.ensures (ap (λ (i : Interface). device i a p h) c.parameter_address-next.ensures) (sym c.admits.ensures ∙ c.if-admits.true)

pub returns : goal.returns
returns c = λ g m a p h. line_kept _ c.args.bus _ c.block.ensures (sym c.admits.ensures ∙ c.if-admits.false)
