-- `chip_interface::Interface::show_status` meets its contract. Assumes nothing.
use Rattle.chip_interface.specs.Interface.{status_mode}
use borrow.Author.Tests.{eq-eqb, ne_eqb, le-leb, lt-leb, lt-ltb, le-ltb}
use Rattle.chip_interface.proofs.Interface.show_status.Goals as goal

pub returns-then-now-le-DATA_OUT : goal.returns-then-now-le-DATA_OUT
unfolding status_mode
returns-then-now-le-DATA_OUT c = rw c.enter.ensures (search (eq-eqb, ne_eqb, le-leb, lt-leb, lt-ltb, le-ltb))

pub returns-then-now-eq-BUSY : goal.returns-then-now-eq-BUSY
unfolding status_mode
returns-then-now-eq-BUSY c = rw c.enter-then-now-eq-BUSY.ensures (search (eq-eqb, ne_eqb, le-leb, lt-leb, lt-ltb, le-ltb))

pub returns-then-now-eq-BUSY_STATUS : goal.returns-then-now-eq-BUSY_STATUS
unfolding status_mode
returns-then-now-eq-BUSY_STATUS c = search (eq-eqb, ne_eqb, le-leb, lt-leb, lt-ltb, le-ltb)

pub returns : goal.returns
unfolding status_mode
returns c = rw c.refuse.ensures (search (eq-eqb, ne_eqb, le-leb, lt-leb, lt-ltb, le-ltb))
