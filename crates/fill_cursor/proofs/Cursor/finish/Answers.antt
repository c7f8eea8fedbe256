-- `fill_cursor::Cursor::finish` meets its contract. Assumes nothing.
use mathlib.Core.Logic.{⊎_elim}
use mathlib.Core.Path.{◌∙◌}
use Rattle.fill_cursor.proofs.NextLaws.{whole_table, whole_copy, whole_failed}
use Rattle.fill_cursor.proofs.Cursor.finish.Goals as goal

pub returns-then-self-ne0 : goal.returns-then-self-ne0
returns-then-self-ne0 c = c.again.ensures ∙ whole_failed c.args.self c.if-self-eq0.true c.if-self-ne0.true

pub returns-else-self-eq0 : goal.returns-else-self-eq0
returns-else-self-eq0 c =
    c.end.ensures ∙ ⊎_elim (λ x. whole_copy c.args.self x.0 x.1) (λ x. whole_table c.args.self x) c.else-self-eq0.either
