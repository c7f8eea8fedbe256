use Rattle.demo_journal.specs.Sales.{Reached}
use Rattle.demo_journal.proofs.serve_all.Given as goal

abbrev pub invariant-loop : goal.invariant-loop
invariant-loop g l = Reached l.store
