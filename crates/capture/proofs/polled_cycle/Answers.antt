-- `capture::polled_cycle` meets its contract: two commands, then status reads up to their number. Assumes nothing.
use Rattle.std.proofs.Common.{sym, ◌∙◌, arith}
use Rattle.capture.proofs.AtLaws.{at_status}
use Rattle.capture.proofs.polled_cycle.Goals as goal

pub returns-in_default : goal.returns-in_default
returns-in_default c = c.then_some.ensures ∙ sym (at_status c.args.code c.args.polls c.args.i (omega arith))
