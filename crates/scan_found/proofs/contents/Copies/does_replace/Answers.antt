-- `scan_found::contents::Copies::does_replace` meets its contract. Assumes nothing.
use Rattle.std.proofs.Common.{arith}
use Rattle.std.proofs.lemmas.Grind.{common_steps}
use Rattle.scan_found.specs.Contents.{replaces}
use Rattle.scan_found.proofs.contents.Copies.does_replace.Goals as goal

pub returns-then-blocks-old : goal.returns-then-blocks-old
unfolding replaces
returns-then-blocks-old c = grind (arith, common_steps)

pub returns-else-blocks-old : goal.returns-else-blocks-old
unfolding replaces
returns-else-blocks-old c = grind (arith, common_steps)
