-- `scan_found::contents::Copies::is_candidate` meets its contract. Assumes nothing.
use Rattle.std.proofs.Common.{arith}
use Rattle.std.proofs.lemmas.Grind.{common_steps}
use Rattle.scan_found.specs.Contents.{is_candidate}
use Rattle.scan_found.proofs.contents.Copies.is_candidate.Goals as goal

pub returns-then-is_data : goal.returns-then-is_data
unfolding is_candidate
returns-then-is_data c = grind (arith, common_steps)

pub returns-else-is_data : goal.returns-else-is_data
unfolding is_candidate
returns-else-is_data c = grind (arith, common_steps)
