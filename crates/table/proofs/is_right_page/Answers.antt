-- `table::is_right_page` meets its contract. Assumes nothing.
use Rattle.std.proofs.Common.{arith}
use Rattle.std.proofs.lemmas.Grind.{common_steps}
use Rattle.copies.specs.Table.{right_page}
use Rattle.table.proofs.is_right_page.Goals as goal

pub returns-then-place-ne0 : goal.returns-then-place-ne0
unfolding right_page
returns-then-place-ne0 c = grind (arith, common_steps)

pub returns-then-logical_of-eq0 : goal.returns-then-logical_of-eq0
unfolding right_page
returns-then-logical_of-eq0 c = grind (arith, common_steps)

pub returns-else-logical_of-eq0 : goal.returns-else-logical_of-eq0
unfolding right_page
returns-else-logical_of-eq0 c = grind (arith, common_steps)
