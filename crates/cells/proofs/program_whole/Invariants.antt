-- `cells::program_whole` meets its contract: `page` is rewritten by what the program leaves of it.
use Rattle.cells.specs.Cells.{programmed}
use Rattle.cells.proofs.RewriteLaws.{Rewritten}
use Rattle.cells.proofs.program_whole.Given as goal

abbrev pub invariant-loop-i : goal.invariant-loop-i
invariant-loop-i l = Rewritten (programmed l.initial.page l.«data») l.initial.page l.page l.i
