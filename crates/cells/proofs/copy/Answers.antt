-- `cells::copy` meets its contract: `into` is rewritten by `from`.
use native.Mathlib.Omega.{arith}
use mathlib.Core.Path.{refl}
use Rattle.cells.proofs.RewriteLaws.{rewritten_none, rewritten_more, rewritten_all}
use Rattle.cells.proofs.copy.Goals as goal

pub loop-i-init : goal.loop-i-init
loop-i-init c = rewritten_none _ _

pub loop-i-preserved : goal.loop-i-preserved
loop-i-preserved c = rewritten_more _ c.loop-i.invariant (omega arith) (omega arith) refl

pub shape_of-into : goal.shape_of-into
shape_of-into c = c.loop-i.invariant.same

pub returns : goal.returns
returns c = rewritten_all c.loop-i.invariant (omega arith)
