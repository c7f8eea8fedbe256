-- `c_prices::check` meets its contract. Assumes nothing.
use mathlib.Core.Path.{ap, ◌∙◌}
use Rattle.price_rules.specs.Faults.{Checked, checking}
use Rattle.price_rules.specs.Told.{number_of, place_of}
use Rattle.c_prices.specs.Prices.{result_in}
use Rattle.c_prices.proofs.PriceLaws.{result_written, result_kept}
use Rattle.c_prices.proofs.check.Goals as goal

pub returns-then-fault-ne1 : goal.returns-then-fault-ne1
returns-then-fault-ne1 c = result_kept c.args.fault.now (checking c.args.first.now c.args.last.now c.args.price.now).answer (checking c.args.first.now c.args.last.now c.args.price.now).fault c.if-fault-ne1.true

pub returns-in-Ok : goal.returns-in-Ok
returns-in-Ok c = result_written c.args.fault.now 0 0 c.if-fault-ne1.false ∙ ap (λ (k : Checked). result_in c.args.fault.now k.answer k.fault) c.in-Ok.ensures

pub returns-in-Err : goal.returns-in-Err
returns-in-Err c = rw (c.number.ensures, c.selection.ensures) (result_written c.args.fault.now (number_of c.in-Err.refusal) (place_of c.in-Err.refusal) c.if-fault-ne1.false ∙ ap (λ (k : Checked). result_in c.args.fault.now k.answer k.fault) c.in-Err.ensures)
