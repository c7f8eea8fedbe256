use Rattle.std.proofs.Common.{◌≤◌}
use Rattle.demo_sweep.proofs.cuts.sweep.Given as goal

abbrev pub invariant-loop-allowed : goal.invariant-loop-allowed
invariant-loop-allowed g l = (l.old ≤ l.allowed-counter) × (l.new ≤ l.allowed-counter) × (l.other ≤ l.allowed-counter)
