-- `price_rules::price_of` meets its contract. Assumes nothing.
use Rattle.std.proofs.Common.{◌≡◌, sym, ap, ◌∙◌}
use Rattle.std.proofs.lemmas.Result.{err_from_is_err_and}
use Rattle.price_rules.specs.Faults.{Checked, checking, sold}
use Rattle.price_rules.proofs.FaultLaws.{shaped_facts, accepted_shaped, price_outside, price_refused_by, price_found}
use Rattle.price_rules.proofs.price_of.Goals as goal

pub returns-then-not-is_selectable-clause-told : goal.returns-then-not-is_selectable-clause-told
returns-then-not-is_selectable-clause-told c = price_outside c.args.first.now c.args.last.now c.args.price.now c.args.selection (sym c.is_selectable.ensures ∙ c.if-not-is_selectable.true)

pub returns-in_err-check-clause-told : goal.returns-in_err-check-clause-told
returns-in_err-check-clause-told c =
    let told = err_from_is_err_and c.from_residual.result c.from_residual.ensures.1 in
    rw (told.1, told.2)
    (price_refused_by c.args.first.now c.args.last.now c.args.price.now c.args.selection (sym c.is_selectable.ensures ∙ c.if-not-is_selectable.false) _ c.in_err-check.ensures)

pub price_at-requires : goal.price_at-requires
price_at-requires c =
    let accepted : (checking c.args.first.now c.args.last.now c.args.price.now).answer ≡ 0 = sym (ap (λ (k : Checked). k.answer) c.in_ok-check.ensures) in
    let shape = shaped_facts _ _ _ (accepted_shaped c.args.first.now c.args.last.now c.args.price.now accepted) in
    record { last_len = shape.last_each; price_len = shape.price_each }

pub returns-clause-told : goal.returns-clause-told
returns-clause-told c =
    let accepted : (checking c.args.first.now c.args.last.now c.args.price.now).answer ≡ 0 = sym (ap (λ (k : Checked). k.answer) c.in_ok-check.ensures) in
    ap (sold 0) c.price_at.ensures ∙ price_found c.args.first.now c.args.last.now c.args.price.now c.args.selection (sym c.is_selectable.ensures ∙ c.if-not-is_selectable.false) accepted
