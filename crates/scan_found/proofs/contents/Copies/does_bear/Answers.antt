-- `scan_found::contents::Copies::does_bear` meets its contract. Assumes nothing.
use Rattle.std.proofs.Common.{arith}
use Rattle.std.proofs.lemmas.Grind.{common_steps}
use Rattle.scan_found.specs.Contents.{bears}
use Rattle.scan_found.proofs.contents.Copies.does_bear.Goals as goal

pub returns-then-is_counted : goal.returns-then-is_counted
unfolding bears
returns-then-is_counted c = grind (arith, common_steps)

pub returns-else-is_counted : goal.returns-else-is_counted
unfolding bears
returns-else-is_counted c = grind (arith, common_steps)
