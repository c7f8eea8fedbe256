-- `chip::status` meets its contract: each phase answers as the definition says. Assumes nothing.
use mathlib.Core.Path.{◌∙◌}
use borrow.Author.Tests.{eq-eqb, ne_eqb}
use Rattle.chip.specs.Chip.{status_read, status_shown}
use Rattle.chip.proofs.status.Goals as goal

pub returns-then-phase-eq-STATUS : goal.returns-then-phase-eq-STATUS
unfolding status_read status_shown
returns-then-phase-eq-STATUS c = record { history_after = search eq-eqb; byte_value = rw c.status_byte.ensures (search eq-eqb) }

pub returns-then-phase-ne-BUSY_STATUS : goal.returns-then-phase-ne-BUSY_STATUS
unfolding status_read status_shown
returns-then-phase-ne-BUSY_STATUS c = record { history_after = rw c.refuse.ensures (search ne_eqb); byte_value = search ne_eqb }

pub returns-then-busy-ne0 : goal.returns-then-busy-ne0
unfolding status_read status_shown
returns-then-busy-ne0 c = record { history_after = rw c.less_busy.ensures (search (eq-eqb, ne_eqb)); byte_value = rw c.status_byte-then-busy-ne0.ensures (search (eq-eqb, ne_eqb)) }

pub returns : goal.returns
unfolding status_read status_shown
returns c = record { history_after = c.finish.ensures ∙ search (eq-eqb, ne_eqb); byte_value = rw c.status_byte-2.ensures (search (eq-eqb, ne_eqb)) }
