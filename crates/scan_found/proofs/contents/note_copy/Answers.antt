-- `scan_found::contents::note_copy` meets its contract. Assumes nothing.
use Rattle.std.proofs.Common.{arith}
use Rattle.std.proofs.lemmas.Grind.{common_steps}
use Rattle.scan_found.specs.Contents.{copy_noted}
use Rattle.scan_found.proofs.contents.note_copy.Goals as goal

pub returns-then-is_complete : goal.returns-then-is_complete
unfolding copy_noted
returns-then-is_complete c = grind (arith, common_steps)

pub returns-else-is_complete : goal.returns-else-is_complete
unfolding copy_noted
returns-else-is_complete c = grind (arith, common_steps)
