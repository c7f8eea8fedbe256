-- `cells::erase_masked` meets its contract: `block` is rewritten by what the erase makes of it.
use Rattle.cells.specs.Cells.{raised}
use Rattle.cells.proofs.RewriteLaws.{Rewritten}
use Rattle.cells.proofs.erase_masked.Given as goal

abbrev pub invariant-loop-i : goal.invariant-loop-i
invariant-loop-i l = Rewritten (raised l.initial.block l.mask) l.initial.block l.block l.i
