-- `request::answer_for` meets its contract. Assumes nothing.
use mathlib.Core.Path.{◌∙◌}
use Rattle.bus_polling.proofs.OutcomeLaws.{passed_by_is, other_by_not}
use Rattle.request.proofs.answer_for.Goals as goal

pub returns-in_default : goal.returns-in_default
returns-in_default c = c.stop_answer.ensures ∙ rw (other_by_not _ c.in_default.not-Passed)

pub returns : goal.returns
returns c = rw (passed_by_is _ c.in-Passed.is)
