-- `read_page::undo` meets its contract. Assumes nothing.
use mathlib.Core.Path.{refl, sym, ◌∙◌}
use Rattle.copies.specs.Blocks.{formed}
use Rattle.read_page.proofs.undo.Goals as goal

pub returns-then-is_white : goal.returns-then-is_white
unfolding formed
returns-then-is_white c =
    rw (sym c.is_white.ensures ∙ c.if-is_white.true) c.whiten.ensures

pub returns-else-is_white : goal.returns-else-is_white
unfolding formed
returns-else-is_white c = rw (sym c.is_white.ensures ∙ c.if-is_white.false) refl
