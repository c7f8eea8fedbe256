-- `fill::stay_white` meets its contract. Assumes nothing.
use mathlib.Core.Path.{refl, sym, ◌∙◌}
use Rattle.fill.proofs.stay_white.Goals as goal

pub returns-then-is_white : goal.returns-then-is_white
returns-then-is_white c = rw (sym c.is_white.ensures ∙ c.if-is_white.true) c.is_white-then-is_white.ensures

pub returns : goal.returns
returns c = rw (sym c.is_white.ensures ∙ c.if-is_white.false) refl
