-- `format_scan::take_over` meets its contract. Assumes nothing.
use mathlib.Core.Path.{sym, ◌∙◌}
use Rattle.format_scan.specs.Survey.{survey_of}
use Rattle.format_scan.proofs.take_over.Goals as goal

pub returns-then-does_carry : goal.returns-then-does_carry
unfolding survey_of
returns-then-does_carry c = rw (sym c.does_carry.ensures ∙ c.if-does_carry.true)

pub returns : goal.returns
unfolding survey_of
returns c = rw (sym c.does_carry.ensures ∙ c.if-does_carry.false)
