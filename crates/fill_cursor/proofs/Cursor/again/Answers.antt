-- `fill_cursor::Cursor::again` meets its contract. Assumes nothing.
use mathlib.Core.Path.{refl}
use Rattle.fill_cursor.proofs.Cursor.again.Goals as goal

pub returns : goal.returns
returns c = refl
