-- `whitening::mix` meets its contract: the bytes are rewritten by what the XOR makes of them. Assumes nothing.
use mathlib.Core.Path.{◌∙◌}
use native.Mathlib.Omega.{arith}
use Rattle.cells.proofs.RewriteLaws.{rewritten_none, rewritten_next, rewritten_more, rewritten_whole}
use Rattle.whitening.proofs.WhitenedLaws.{length-xored, get_or-xored}
use Rattle.whitening.proofs.mix.Goals as goal

pub loop-i-init : goal.loop-i-init
loop-i-init c = rewritten_none _ _

pub loop-i-preserved : goal.loop-i-preserved
loop-i-preserved c =
    rewritten_more _ c.loop-i.invariant (rw length-xored (omega arith)) (omega arith)
    (get_or-xored _ _ _ (omega arith) ∙ rw (rewritten_next c.loop-i.invariant))

pub returns : goal.returns
returns c = rewritten_whole c.loop-i.invariant (length-xored _ _) (omega arith)
