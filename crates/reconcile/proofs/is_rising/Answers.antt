-- `reconcile::is_rising` meets its contract. Assumes nothing.
use Rattle.std.proofs.Common.{ltb, rules, tests}
use Rattle.std.proofs.lemmas.List.Sorted.{answers_always}
use Rattle.reconcile.proofs.SaleLaws.{rises-from_sorted}
use Rattle.reconcile.proofs.is_rising.Goals as goal

pub returns : goal.returns
returns c = rises-from_sorted c.args.numbers.now c.is_sorted_by.result (c.is_sorted_by.ensures.cases ltb (answers_always _ _ _ (λ f a r g k. search (rules, tests))))
