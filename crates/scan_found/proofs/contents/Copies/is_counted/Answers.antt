-- `scan_found::contents::Copies::is_counted` meets its contract. Assumes nothing.
use Rattle.std.proofs.Common.{arith}
use Rattle.std.proofs.lemmas.Grind.{common_steps}
use Rattle.scan_found.specs.Contents.{counted}
use Rattle.scan_found.proofs.contents.Copies.is_counted.Goals as goal

pub returns-then-not-is_set : goal.returns-then-not-is_set
unfolding counted
returns-then-not-is_set c = grind (arith, common_steps)

pub returns-else-not-is_set : goal.returns-else-not-is_set
unfolding counted
returns-else-not-is_set c = grind (arith, common_steps)
