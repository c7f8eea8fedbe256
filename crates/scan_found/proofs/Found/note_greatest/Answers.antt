-- `scan_found::Found::note_greatest` meets its contract. Assumes nothing.
use Rattle.std.proofs.Common.{arith}
use Rattle.std.proofs.lemmas.Grind.{common_steps}
use Rattle.scan_found.specs.Found.{greatest_noted}
use Rattle.scan_found.proofs.Found.note_greatest.Goals as goal

pub returns-then-is_greater : goal.returns-then-is_greater
unfolding greatest_noted
returns-then-is_greater c = grind (arith, common_steps)

pub returns-else-has_number : goal.returns-else-has_number
unfolding greatest_noted
returns-else-has_number c = grind (arith, common_steps)
