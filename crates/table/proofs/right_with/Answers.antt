-- `table::right_with` meets its contract. Assumes nothing.
use Rattle.std.proofs.Common.{arith}
use Rattle.std.proofs.lemmas.Grind.{common_steps}
use Rattle.copies.specs.Table.{right_with}
use Rattle.table.proofs.right_with.Goals as goal

pub returns-then-right-eq0 : goal.returns-then-right-eq0
unfolding right_with
returns-then-right-eq0 c = grind (arith, common_steps)

pub returns-then-is_right_page : goal.returns-then-is_right_page
unfolding right_with
returns-then-is_right_page c = grind (arith, common_steps)

pub returns-then-is_right_page-2 : goal.returns-then-is_right_page-2
unfolding right_with
returns-then-is_right_page-2 c = grind (arith, common_steps)

pub returns : goal.returns
unfolding right_with
returns c = grind (arith, common_steps)
