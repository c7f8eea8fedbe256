-- `cells::copy` meets its contract: `into` is rewritten by `from`.
use Rattle.cells.proofs.RewriteLaws.{Rewritten}
use Rattle.cells.proofs.copy.Given as goal

abbrev pub invariant-loop-i : goal.invariant-loop-i
invariant-loop-i l = Rewritten l.from l.initial.into l.into l.i
