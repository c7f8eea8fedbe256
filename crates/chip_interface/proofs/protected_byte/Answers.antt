-- `chip_interface::protected_byte` meets its contract. Assumes nothing.
use Rattle.chip_interface.specs.Interface.{protected_byte}
use borrow.Author.Tests.{eq-eqb, ne_eqb, le-leb, lt-leb, lt-ltb, le-ltb}
use Rattle.chip_interface.proofs.protected_byte.Goals as goal

pub returns-then-ready-eq0 : goal.returns-then-ready-eq0
unfolding protected_byte
returns-then-ready-eq0 c = search (eq-eqb, ne_eqb, le-leb, lt-leb, lt-ltb, le-ltb)

pub returns-then-failed-eq0 : goal.returns-then-failed-eq0
unfolding protected_byte
returns-then-failed-eq0 c = search (eq-eqb, ne_eqb, le-leb, lt-leb, lt-ltb, le-ltb)

pub returns : goal.returns
unfolding protected_byte
returns c = search (eq-eqb, ne_eqb, le-leb, lt-leb, lt-ltb, le-ltb)
