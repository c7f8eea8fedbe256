-- `capture::output_cycle` meets its contract: 00h, then bytes out up to their number. Assumes nothing.
use Rattle.std.proofs.Common.{sym, ◌∙◌, arith}
use Rattle.capture.proofs.AtLaws.{at_output}
use Rattle.capture.proofs.output_cycle.Goals as goal

pub returns-in_default : goal.returns-in_default
returns-in_default c = c.then_some.ensures ∙ sym (at_output c.args.moved c.args.i (omega arith))
