-- `scan_found::Found::note_mark` meets its contract. Assumes nothing.
use Rattle.std.proofs.Common.{arith}
use Rattle.std.proofs.lemmas.Grind.{common_steps}
use Rattle.scan_found.specs.Found.{mark_noted}
use Rattle.scan_found.proofs.Found.note_mark.Goals as goal

pub returns-then-summary : goal.returns-then-summary
unfolding mark_noted
returns-then-summary c = grind (arith, common_steps)

pub returns-else-summary : goal.returns-else-summary
unfolding mark_noted
returns-else-summary c = grind (arith, common_steps)
