-- `parameters::judge` meets its contract. Assumes nothing.
use mathlib.Core.Path.{sym, ◌∙◌}
use Rattle.parameters.specs.Page.{judged}
use Rattle.parameters.proofs.judge.Goals as goal

pub returns-then-is_valid : goal.returns-then-is_valid
unfolding judged
returns-then-is_valid c = rw (sym c.is_valid.ensures ∙ c.if-is_valid.true)

pub returns-else-is_valid : goal.returns-else-is_valid
unfolding judged
returns-else-is_valid c = rw (sym c.is_valid.ensures ∙ c.if-is_valid.false)
