-- `dearest::fail_last` meets its contract. Assumes nothing.
use Rattle.std.proofs.Common.{refl, add-one}
use Rattle.dearest.specs.Dearest.{failing_to}
use Rattle.dearest.proofs.fail_last.Goals as goal

pub loop-n-init : goal.loop-n-init
unfolding failing_to
loop-n-init c = refl

pub loop-n-preserved : goal.loop-n-preserved
unfolding failing_to
loop-n-preserved c = rw (c.loop-n.invariant, add-one)
