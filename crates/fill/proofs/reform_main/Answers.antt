-- `fill::reform_main` meets its contract. Assumes nothing.
use mathlib.Core.List.{List}
use Prim.Native.Nat.{ℕ}
use mathlib.Core.Path.{sym, ap, ◌∙◌}
use Rattle.copies.specs.Blocks.{formed}
use Rattle.fill.proofs.MainLaws.{white_stays}
use Rattle.fill.proofs.reform_main.Goals as goal

pub returns-then-stay_white : goal.returns-then-stay_white
returns-then-stay_white c =
    white_stays c.args.form c.args.kind c.args.place _ (sym c.stay_white.ensures ∙ c.if-stay_white.true)

pub returns : goal.returns
returns c =
    c.form_main-2.ensures ∙ ap (λ (xs : List ℕ). formed c.args.kind c.args.place xs) c.form_main.ensures
