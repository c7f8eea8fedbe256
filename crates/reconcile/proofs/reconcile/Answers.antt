-- `reconcile::reconcile` meets its contract. Assumes nothing.
use Rattle.std.proofs.Common.{sym, ◌∙◌}
use Rattle.reconcile.proofs.ReconcileLaws.{box_refused, mechanism_refused, both_accepted}
use Rattle.reconcile.proofs.reconcile.Goals as goal
use Rattle.reconcile.proofs.reconcile.Goals.{then-not-is_accepted-via-then-not-is_accepted, then-not-is_accepted-via-else-not-is_accepted+then-not-is_accepted-2}

pub returns-then-not-is_accepted : goal.returns-then-not-is_accepted
returns-then-not-is_accepted c =
    elim c.then-not-is_accepted.branch [
      | then-not-is_accepted-via-then-not-is_accepted w ↦ box_refused _ _ _ _ (sym c.is_accepted.ensures ∙ w.if-not-is_accepted.true)
      | then-not-is_accepted-via-else-not-is_accepted+then-not-is_accepted-2 w ↦ mechanism_refused _ _ _ _ (sym c.is_accepted.ensures ∙ w.if-not-is_accepted.false) (sym w.is_accepted-else-not-is_accepted.ensures ∙ w.if-not-is_accepted-2.true)
    ]

pub returns : goal.returns
returns c =
    c.gather.ensures
    ∙ both_accepted _ _ _ _ (sym c.is_accepted.ensures ∙ c.if-not-is_accepted.false) (sym c.is_accepted-else-not-is_accepted.ensures ∙ c.if-not-is_accepted-2.false)
