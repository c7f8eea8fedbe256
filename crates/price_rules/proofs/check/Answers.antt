-- `price_rules::check` meets its contract. Assumes nothing.
use Rattle.std.proofs.Common.{sym, ◌∙◌, arith}
use Rattle.std.proofs.lemmas.Result.{err_from_is_err_and}
use Rattle.price_rules.proofs.FaultLaws.{none_at, fault_at, fault_on, fault_over, shaped_facts, checked_shaped, checked_unshaped}
use Rattle.price_rules.proofs.check.Goals as goal

pub returns-then-not-is_shaped : goal.returns-then-not-is_shaped
returns-then-not-is_shaped c = checked_unshaped c.args.first.now c.args.last.now c.args.price.now (sym c.is_shaped.ensures ∙ c.if-not-is_shaped.true)

pub check_selection-requires : goal.check_selection-requires
check_selection-requires c = (shaped_facts _ _ _ (sym c.is_shaped.ensures ∙ c.if-not-is_shaped.false)).last_each

pub returns-in_err-check_selection : goal.returns-in_err-check_selection
returns-in_err-check_selection c =
    let told = err_from_is_err_and c.from_residual.result c.from_residual.ensures.1 in
    rw (told.1, told.2)
    (fault_at c.args.first.now c.args.last.now c.loop-s.s _ (omega arith) c.in_err-check_selection.ensures
    ∙ c.loop-s.invariant
    ∙ checked_shaped c.args.first.now c.args.last.now c.args.price.now (sym c.is_shaped.ensures ∙ c.if-not-is_shaped.false))

pub loop-s-preserved : goal.loop-s-preserved
loop-s-preserved c =
    fault_on c.args.first.now c.args.last.now c.loop-s.s (omega arith) (none_at c.args.first.now c.args.last.now c.loop-s.s c.in_ok-check_selection.ensures)
    ∙ c.loop-s.invariant

pub returns : goal.returns
returns c =
    fault_over c.args.first.now c.args.last.now c.loop-s.s (omega arith)
    ∙ c.loop-s.invariant
    ∙ checked_shaped c.args.first.now c.args.last.now c.args.price.now (sym c.is_shaped.ensures ∙ c.if-not-is_shaped.false)
