-- `scan_summary::Summary::mark` meets its contract. Assumes nothing.
use Rattle.std.proofs.Common.{arith}
use Rattle.std.proofs.lemmas.Grind.{common_steps}
use Rattle.scan_summary.specs.Quick.{marking}
use Rattle.scan_summary.proofs.Summary.mark.Goals as goal

pub returns-then-byte-ne255 : goal.returns-then-byte-ne255
unfolding marking
returns-then-byte-ne255 c = grind (arith, common_steps)

pub returns-else-byte-ne255 : goal.returns-else-byte-ne255
unfolding marking
returns-else-byte-ne255 c = grind (arith, common_steps)
