-- `journal::is_next` meets its contract. Assumes nothing.
use mathlib.Core.Path.{sym, ◌∙◌, ap}
use native.Mathlib.Omega.{arith}
use borrow.Author.Tests.{leb-true, leb-false, ne_eqb}
use Rattle.bools.proofs.BoolLaws.{clash}
use Rattle.pages.proofs.ByteLaws.{take_rest}
use Rattle.pages.specs.Layout.{all_ones}
use Rattle.journal.proofs.CodeLaws.{next_other, next_later, next_tail}
use Rattle.journal.proofs.is_next.Goals as goal
use Rattle.journal.proofs.is_next.Goals.{then-pair_at-before, else-pair_at-before}

pub returns-then-replaces_of-before : goal.returns-then-replaces_of-before
returns-then-replaces_of-before c =
    elim c.if-pair_at-before.branch [
      | then-pair_at-before w ↦
          c.all_ones.ensures
          ∙ ap all_ones (take_rest 11 c.args.page.now)
          ∙ next_tail c.args.page.now c.args.before (sym c.pair_at.ensures ∙ w.if-pair_at-before.true) (omega (arith, leb-true _ _ (sym w.value-is ∙ c.if-replaces_of-before.true), w.replaces_of.ensures.0))
      | else-pair_at-before w ↦ clash c.if-replaces_of-before.true (w.value-is ∙ ne_eqb _ _ w.if-pair_at-before.false)
    ]

pub returns-else-replaces_of-before : goal.returns-else-replaces_of-before
returns-else-replaces_of-before c =
    elim c.if-pair_at-before.branch [
      | then-pair_at-before w ↦
          c.if-replaces_of-before.false
          ∙ next_later c.args.page.now c.args.before (sym c.pair_at.ensures ∙ w.if-pair_at-before.true) (omega (arith, leb-false _ _ (sym w.value-is ∙ c.if-replaces_of-before.false), w.replaces_of.ensures.0))
      | else-pair_at-before w ↦
          c.if-replaces_of-before.false ∙ next_other c.args.page.now c.args.before (λ e. w.if-pair_at-before.false (c.pair_at.ensures ∙ e))
    ]
