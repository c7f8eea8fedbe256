-- `scan_found::Found::note_table` meets its contract. Assumes nothing.
use Rattle.std.proofs.Common.{arith}
use Rattle.std.proofs.lemmas.Grind.{common_steps}
use Rattle.scan_found.specs.Found.{table_noted}
use Rattle.scan_found.proofs.Found.note_table.Goals as goal

pub returns-then-is_newer : goal.returns-then-is_newer
unfolding table_noted
returns-then-is_newer c = grind (arith, common_steps)

pub returns-else-is_complete : goal.returns-else-is_complete
unfolding table_noted
returns-else-is_complete c = grind (arith, common_steps)
