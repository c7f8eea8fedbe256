-- `chip_interface::status_byte` meets its contract. Assumes nothing.
use Rattle.chip_interface.specs.Interface.{status_byte}
use borrow.Author.Tests.{eq-eqb, ne_eqb, le-leb, lt-leb, lt-ltb, le-ltb}
use Rattle.chip_interface.proofs.status_byte.Goals as goal

pub returns-then-protected-ne0 : goal.returns-then-protected-ne0
unfolding status_byte
returns-then-protected-ne0 c = rw c.protected_byte.ensures (search (eq-eqb, ne_eqb))

pub returns-then-ready-eq0 : goal.returns-then-ready-eq0
unfolding status_byte
returns-then-ready-eq0 c = search (eq-eqb, ne_eqb, le-leb, lt-leb, lt-ltb, le-ltb)

pub returns-then-failed-eq0 : goal.returns-then-failed-eq0
unfolding status_byte
returns-then-failed-eq0 c = search (eq-eqb, ne_eqb, le-leb, lt-leb, lt-ltb, le-ltb)

pub returns : goal.returns
unfolding status_byte
returns c = search (eq-eqb, ne_eqb, le-leb, lt-leb, lt-ltb, le-ltb)
