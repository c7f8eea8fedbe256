-- `price_rules::check`: what is left of the search. Assumes nothing.
use Rattle.std.proofs.Common.{◌≡◌, ◌-◌}
use Rattle.price_rules.specs.Faults.{fault_from}
use Rattle.price_rules.proofs.check.Given as goal

abbrev pub invariant-loop-s : goal.invariant-loop-s
invariant-loop-s l = fault_from l.first l.last l.s (100 - l.s) ≡ fault_from l.first l.last 1 99
