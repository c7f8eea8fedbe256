-- `fill::form_main` meets its contract. Assumes nothing.
use mathlib.Core.Path.{sym, ◌∙◌}
use Rattle.copies.specs.Blocks.{formed}
use Rattle.copies.proofs.FormLaws.{formed-plain}
use Rattle.fill.proofs.form_main.Goals as goal

pub returns-then-is_white : goal.returns-then-is_white
unfolding formed
returns-then-is_white c =
    rw (sym c.is_white.ensures ∙ c.if-is_white.true) c.whiten_main.ensures

pub returns-else-is_white : goal.returns-else-is_white
returns-else-is_white c =
    sym (formed-plain c.args.kind c.args.place _ (sym c.is_white.ensures ∙ c.if-is_white.false))
