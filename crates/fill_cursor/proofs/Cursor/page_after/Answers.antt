-- `fill_cursor::Cursor::page_after` meets its contract. Assumes nothing.
use borrow.Author.Tests.{eq-eqb, ne_eqb}
use Rattle.fill_cursor.specs.Cursor.{page_after}
use Rattle.fill_cursor.proofs.Cursor.page_after.Goals as goal

pub returns-then-self-eq1 : goal.returns-then-self-eq1
unfolding page_after
returns-then-self-eq1 c = search eq-eqb

pub returns-else-self-eq1 : goal.returns-else-self-eq1
unfolding page_after
returns-else-self-eq1 c = search ne_eqb
