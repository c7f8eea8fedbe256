-- `price_rules::price_at`: the price among the first rules. Assumes nothing.
use Rattle.std.proofs.Common.{◌≡◌, length}
use Rattle.price_rules.specs.Rules.{price_among}
use Rattle.price_rules.proofs.price_at.Given as goal

abbrev pub invariant-loop-from : goal.invariant-loop-from
invariant-loop-from l = l.found ≡ price_among l.first l.last l.price l.s (length l.yielded)
