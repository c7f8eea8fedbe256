-- `scan_summary::Summary::step` meets its contract. Assumes nothing.
use Rattle.std.proofs.Common.{arith}
use Rattle.std.proofs.lemmas.Grind.{common_steps}
use Rattle.scan_summary.specs.Summary.{stepped}
use Rattle.scan_summary.proofs.Summary.step.Goals as goal

pub returns-then-is_whole : goal.returns-then-is_whole
unfolding stepped
returns-then-is_whole c = grind (arith, common_steps)

pub returns : goal.returns
unfolding stepped
returns c = grind (arith, common_steps)
