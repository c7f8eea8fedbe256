-- `fill_cursor::Cursor::programs` meets its contract. Assumes nothing.
use mathlib.Core.Path.{◌∙◌}
use borrow.Table.Steps.{cases}
use lib.Dec.{eqb}
use Rattle.fill_cursor.specs.Cursor.{programs}
use Rattle.fill_cursor.proofs.Cursor.programs.Goals as goal

pub returns : goal.returns
unfolding programs
returns c = c.from.ensures ∙ cases (eqb c.args.self.step 2) (λ t. rw t) (λ f. rw f)
