-- `cells::erase_masked` meets its contract: `block` is rewritten by what the erase makes of it.
use mathlib.Core.Path.{◌∙◌}
use native.Mathlib.Omega.{arith}
use Rattle.cells.proofs.CellLaws.{length-raised, get_or-raised}
use Rattle.cells.proofs.RewriteLaws.{rewritten_none, rewritten_next, rewritten_more, rewritten_whole}
use Rattle.cells.proofs.erase_masked.Goals as goal

pub loop-i-init : goal.loop-i-init
loop-i-init c = rewritten_none _ _

pub loop-i-preserved : goal.loop-i-preserved
loop-i-preserved c =
    rewritten_more _ c.loop-i.invariant (rw length-raised (omega arith)) (omega arith)
    (get_or-raised _ _ _ (omega arith) ∙ rw (rewritten_next c.loop-i.invariant))

pub returns : goal.returns
returns c = rewritten_whole c.loop-i.invariant (length-raised _ _) (omega arith)
