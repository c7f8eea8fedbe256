-- `fill_cursor::Cursor::is_open` meets its contract. Assumes nothing.
use borrow.Author.Tests.{eq-eqb, ne_eqb}
use Rattle.fill_cursor.specs.Cursor.{is_open_now}
use Rattle.fill_cursor.proofs.Cursor.is_open.Goals as goal

pub returns-then-left-ne0 : goal.returns-then-left-ne0
unfolding is_open_now
returns-then-left-ne0 c = search ne_eqb

pub returns-else-left-ne0 : goal.returns-else-left-ne0
unfolding is_open_now
returns-else-left-ne0 c = search eq-eqb
