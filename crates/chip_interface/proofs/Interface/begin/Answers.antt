-- `chip_interface::Interface::begin` meets its contract. Assumes nothing.
use Rattle.chip_interface.specs.Interface.{begun}
use borrow.Author.Tests.{eq-eqb, ne_eqb, le-leb, lt-leb, lt-ltb, le-ltb}
use Rattle.chip_interface.proofs.Interface.begin.Goals as goal

pub returns-then-present-gt-DATA_OUT : goal.returns-then-present-gt-DATA_OUT
unfolding begun
returns-then-present-gt-DATA_OUT c = rw c.refuse.ensures (search (eq-eqb, ne_eqb, le-leb, lt-leb, lt-ltb, le-ltb))

pub returns : goal.returns
unfolding begun
returns c = search (eq-eqb, ne_eqb, le-leb, lt-leb, lt-ltb, le-ltb)
