-- `scan_summary::Summary::whole_step` meets its contract. Assumes nothing.
use Rattle.std.proofs.Common.{arith}
use Rattle.std.proofs.lemmas.Grind.{common_steps}
use Rattle.scan_summary.specs.Summary.{whole_step}
use Rattle.pages.specs.Layout.{label_of}
use Rattle.scan_summary.proofs.Summary.whole_step.Goals as goal

pub returns-then-place-eq0 : goal.returns-then-place-eq0
unfolding whole_step label_of
returns-then-place-eq0 c = grind (arith, common_steps)

pub returns-then-not-agrees : goal.returns-then-not-agrees
unfolding whole_step label_of
returns-then-not-agrees c = grind (arith, common_steps)

pub returns-else-not-agrees : goal.returns-else-not-agrees
unfolding whole_step label_of
returns-else-not-agrees c = grind (arith, common_steps)
