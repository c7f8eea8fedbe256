-- `price_rules::check_selection`: what holds after so many rules. Assumes nothing.
use Rattle.std.proofs.Common.{◌≡◌, ◌≤◌, false, length}
use Rattle.price_rules.specs.Rules.{covering, any_faulted}
use Rattle.price_rules.proofs.check_selection.Given as goal

abbrev pub invariant-loop-from : goal.invariant-loop-from
invariant-loop-from l =
    record {
      counted : l.covered ≡ covering l.first l.last l.s (length l.yielded);
      none_wrong : any_faulted l.first l.last l.s (length l.yielded) ≡ false;
      fits : l.covered ≤ length l.yielded;
    }
