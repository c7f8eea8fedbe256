-- `dearest::fail_last`: so far the last words of the first n fills say fail. Assumes nothing.
use Rattle.std.proofs.Common.{◌≡◌}
use Rattle.dearest.specs.Dearest.{failing_to}
use Rattle.dearest.proofs.fail_last.Given as goal

abbrev pub invariant-loop-n : goal.invariant-loop-n
invariant-loop-n l = l.fates ≡ failing_to l.each l.n l.initial.fates
