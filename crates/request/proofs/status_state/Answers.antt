-- `request::status_state` meets its contract. Assumes nothing.
use mathlib.Core.Path.{◌∙◌}
use Rattle.bus_polling.proofs.OutcomeLaws.{protected_by_is, unprotected_by_not}
use Rattle.request.specs.Call.{status_state}
use Rattle.request.proofs.status_state.Goals as goal

pub returns-in_default : goal.returns-in_default
unfolding status_state
returns-in_default c = c.blank.ensures ∙ rw (unprotected_by_not _ c.in_default.not-Protected)

pub returns : goal.returns
unfolding status_state
returns c = rw (protected_by_is _ c.in-Protected.is)
