-- `scan_found::contents::Copies::is_clashing` meets its contract. Assumes nothing.
use Rattle.std.proofs.Common.{arith}
use Rattle.std.proofs.lemmas.Grind.{common_steps}
use Rattle.scan_found.specs.Contents.{clashing}
use Rattle.scan_found.proofs.contents.Copies.is_clashing.Goals as goal

pub returns-then-is_past_last : goal.returns-then-is_past_last
unfolding clashing
returns-then-is_past_last c = grind (arith, common_steps)

pub returns-else-is_past_last : goal.returns-else-is_past_last
unfolding clashing
returns-else-is_past_last c = grind (arith, common_steps)

pub returns-else-is_counted : goal.returns-else-is_counted
unfolding clashing
returns-else-is_counted c = grind (arith, common_steps)
