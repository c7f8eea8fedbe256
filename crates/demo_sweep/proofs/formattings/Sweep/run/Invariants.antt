use Rattle.std.proofs.Common.{◌≤◌}
use Rattle.demo_sweep.proofs.formattings.Sweep.run.Given as goal

abbrev pub invariant-loop-allowed : goal.invariant-loop-allowed
invariant-loop-allowed g l = (l.old ≤ l.allowed) × (l.new ≤ l.allowed) × (l.losing ≤ l.allowed)
