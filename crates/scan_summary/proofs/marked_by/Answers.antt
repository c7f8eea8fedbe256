-- `scan_summary::marked_by` meets its contract. Assumes nothing.
use Rattle.std.proofs.Common.{arith}
use Rattle.std.proofs.lemmas.Grind.{common_steps}
use Rattle.scan_summary.specs.Summary.{marked_by}
use Rattle.scan_summary.proofs.marked_by.Goals as goal

pub returns-then-marked : goal.returns-then-marked
unfolding marked_by
returns-then-marked c = grind (arith, common_steps)

pub returns-then-place-lt2 : goal.returns-then-place-lt2
unfolding marked_by
returns-then-place-lt2 c = grind (arith, common_steps)

pub returns-else-place-lt2 : goal.returns-else-place-lt2
unfolding marked_by
returns-else-place-lt2 c = grind (arith, common_steps)
