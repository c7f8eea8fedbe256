-- `chip::is_confirm` meets its contract: each test answers as the one of the definition. Assumes nothing.
use mathlib.Core.Path.{refl}
use borrow.Author.Tests.{eq-eqb, ne_eqb}
use Rattle.chip.specs.Chip.{is_confirm}
use Rattle.chip.proofs.is_confirm.Goals as goal

pub returns-then-code-eq48 : goal.returns-then-code-eq48
unfolding is_confirm
returns-then-code-eq48 c = search eq-eqb

pub returns-then-code-eq16 : goal.returns-then-code-eq16
unfolding is_confirm
returns-then-code-eq16 c = search (eq-eqb, ne_eqb)

pub returns : goal.returns
unfolding is_confirm
returns c = rw (ne_eqb _ _ c.if-code-eq48.false, ne_eqb _ _ c.if-code-eq16.false) refl
