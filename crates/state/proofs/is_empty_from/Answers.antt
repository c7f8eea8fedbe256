-- `state::is_empty_from` meets its contract: what is other than empty and the entries left decide as all do. Assumes nothing.
use mathlib.Core.Path.{refl, ◌∙◌}
use native.Mathlib.Omega.{arith}
use Rattle.state.proofs.StateLaws.{empty_on, empty-over}
use Rattle.state.proofs.is_empty_from.Goals as goal

pub loop-l-init : goal.loop-l-init
loop-l-init c = refl

pub loop-l-preserved : goal.loop-l-preserved
loop-l-preserved c =
    empty_on c.args.map.now 4096 c.loop-l.l c.loop-l.other (omega arith) (omega (arith, c.type_inv.map c.loop-l.l)) ∙ c.loop-l.invariant

pub returns : goal.returns
returns c = empty-over c.args.map.now 4096 c.loop-l.l c.loop-l.other (omega arith) ∙ c.loop-l.invariant
