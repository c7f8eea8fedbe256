-- `request::status_answer` meets its contract. Assumes nothing.
use mathlib.Core.Path.{◌∙◌}
use Rattle.bus_polling.proofs.OutcomeLaws.{protected_by_is, unprotected_by_not}
use Rattle.request.specs.Call.{status_answer}
use Rattle.request.proofs.status_answer.Goals as goal

pub returns-in_default : goal.returns-in_default
unfolding status_answer
returns-in_default c = c.stop_answer.ensures ∙ rw (unprotected_by_not _ c.in_default.not-Protected)

pub returns : goal.returns
unfolding status_answer
returns c = rw (protected_by_is _ c.in-Protected.is)
