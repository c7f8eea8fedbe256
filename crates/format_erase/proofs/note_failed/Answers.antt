-- `format_erase::note_failed` meets its contract. Assumes nothing.
use mathlib.Core.Path.{◌∙◌}
use borrow.Author.Tests.{eq-eqb, ne_eqb}
use Rattle.format_erase.proofs.note_failed.Goals as goal

pub returns-then-failed-ne0 : goal.returns-then-failed-ne0
returns-then-failed-ne0 c = c.set_bit.ensures ∙ rw (ne_eqb c.args.failed 0 c.if-failed-ne0.true)

pub returns-else-failed-ne0 : goal.returns-else-failed-ne0
returns-else-failed-ne0 c = rw (eq-eqb c.args.failed 0 c.if-failed-ne0.false)
