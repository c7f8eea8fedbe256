-- `c_prices::price_of` meets its contract. Assumes nothing.
use mathlib.Core.Path.{ap, ◌∙◌}
use Rattle.price_rules.specs.Faults.{Priced, pricing}
use Rattle.price_rules.specs.Told.{number_of}
use Rattle.c_prices.specs.Prices.{result_in}
use Rattle.c_prices.proofs.PriceLaws.{result_written, result_kept}
use Rattle.c_prices.proofs.price_of.Goals as goal

pub returns-then-found-ne1 : goal.returns-then-found-ne1
returns-then-found-ne1 c = result_kept c.args.found.now (pricing c.args.first.now c.args.last.now c.args.price.now c.args.selection).answer (pricing c.args.first.now c.args.last.now c.args.price.now c.args.selection).price c.if-found-ne1.true

pub returns-in-Ok : goal.returns-in-Ok
returns-in-Ok c = result_written c.args.found.now 0 c.in-Ok.price c.if-found-ne1.false ∙ ap (λ (k : Priced). result_in c.args.found.now k.answer k.price) c.in-Ok.ensures.told

pub returns-in-Err : goal.returns-in-Err
returns-in-Err c = rw c.number.ensures (result_written c.args.found.now (number_of c.in-Err.refusal) 0 c.if-found-ne1.false ∙ ap (λ (k : Priced). result_in c.args.found.now k.answer k.price) c.in-Err.ensures.told)
