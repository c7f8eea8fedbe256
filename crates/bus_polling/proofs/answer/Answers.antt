-- `bus_polling::answer` meets its contract. Assumes nothing.
use mathlib.Core.Path.{sym, ◌∙◌}
use Rattle.bus_polling.proofs.answer.Goals as goal

pub returns-then-is_writable : goal.returns-then-is_writable
returns-then-is_writable c = rw (sym c.is_writable.ensures ∙ c.if-is_writable.true)

pub returns : goal.returns
returns c = rw (sym c.is_writable.ensures ∙ c.if-is_writable.false) c.guard.ensures
