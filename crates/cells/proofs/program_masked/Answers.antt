-- `cells::program_masked` meets its contract: `page` is rewritten by what the program leaves of it.
use mathlib.Core.Path.{◌∙◌}
use native.Mathlib.Omega.{arith}
use Rattle.cells.proofs.CellLaws.{length-programmed, get_or_any, get_or-programmed, get_or-weakened}
use Rattle.cells.proofs.RewriteLaws.{rewritten_none, rewritten_next, rewritten_more, rewritten_whole}
use Rattle.cells.proofs.program_masked.Goals as goal

pub loop-i-init : goal.loop-i-init
loop-i-init c = rewritten_none _ _

pub loop-i-preserved : goal.loop-i-preserved
loop-i-preserved c =
    let ds = c.args.«data».now in
    rewritten_more _ c.loop-i.invariant (rw length-programmed (omega arith)) (omega arith)
    (get_or-programmed _ _ _ ∙ rw (rewritten_next c.loop-i.invariant, get_or-weakened ds _ c.loop-i.i (omega arith), get_or_any ds c.loop-i.i 255 0 (omega arith)))

pub returns : goal.returns
returns c = rewritten_whole c.loop-i.invariant (length-programmed _ _) (omega arith)
