-- `c_sales::reconcile` meets its contract. Assumes nothing.
use Rattle.std.proofs.Common.{◌≡◌, length, rules}
use mir.Syntax.{w64}
use mir.Val.{SFits}
use mir.Facts.{to_z-of_z}
use Rattle.reconcile.specs.Told.{reconciled_as}
use Rattle.reconcile.specs.Totals.{refused}
use Rattle.c_sales.proofs.SalesLaws.{totals_refused, difference_refused, sales_stored}
use Rattle.c_sales.proofs.reconcile.Goals as goal
use Rattle.c_sales.proofs.reconcile.Goals.{then-totals-ne3-via-then-totals-ne3, then-totals-ne3-via-else-totals-ne3+then-difference-ne1}

pub returns-then-totals-ne3 : goal.returns-then-totals-ne3
returns-then-totals-ne3 c =
    elim c.then-totals-ne3.branch [
      | then-totals-ne3-via-then-totals-ne3 w ↦ totals_refused _ _ _ _ _ _ w.if-totals-ne3.true
      | then-totals-ne3-via-else-totals-ne3+then-difference-ne1 w ↦ difference_refused _ _ _ _ _ _ w.if-totals-ne3.false w.if-difference-ne1.true
    ]

pub returns-in-Ok : goal.returns-in-Ok
returns-in-Ok c =
    let fits : SFits w64 c.in-Ok.r.difference = search rules in
    rw (c.copy_from_slice.ensures.after, to_z-of_z fits)
    (sales_stored _ _ _ _ c.args.totals.now c.args.difference.now c.if-totals-ne3.false c.if-difference-ne1.false (reconciled_as c.in-Ok.r) c.in-Ok.ensures)

pub returns-in-Err : goal.returns-in-Err
returns-in-Err c =
    let three : length c.args.totals.now ≡ 3 = c.if-totals-ne3.false in
    rw (c.number.ensures, c.fill.ensures.after, three)
    (sales_stored _ _ _ _ c.args.totals.now c.args.difference.now three c.if-difference-ne1.false refused c.in-Err.ensures)
