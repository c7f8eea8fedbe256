-- `chip_interface::Interface::full_address` meets its contract. Assumes nothing.
use borrow.Author.Tests.{eq-eqb, ne_eqb, le-leb, lt-leb, lt-ltb, le-ltb}
use Rattle.chip_interface.proofs.Interface.full_address.Goals as goal

pub returns-then-phase-eq-PROGRAM_ADDRESS : goal.returns-then-phase-eq-PROGRAM_ADDRESS
returns-then-phase-eq-PROGRAM_ADDRESS c = rw (c.enter.ensures, c.low_half-column.ensures) (search (eq-eqb, ne_eqb, le-leb, lt-leb, lt-ltb, le-ltb))

pub returns : goal.returns
returns c = rw c.low_half-column.ensures (search (eq-eqb, ne_eqb, le-leb, lt-leb, lt-ltb, le-ltb))
