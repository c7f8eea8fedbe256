-- `chip_interface::Interface::start` meets its contract. Assumes nothing.
use Rattle.chip_interface.specs.Interface.{started}
use borrow.Author.Tests.{eq-eqb, ne_eqb, le-leb, lt-leb, lt-ltb, le-ltb}
use Rattle.chip_interface.proofs.Interface.start.Goals as goal

pub returns-then-operation-eq-READ : goal.returns-then-operation-eq-READ
unfolding started
returns-then-operation-eq-READ c = rw (c.next_fate-next.ensures, c.low_half-busy.ensures, c.fate_word-word.ensures) (search (eq-eqb, ne_eqb, le-leb, lt-leb, lt-ltb, le-ltb))

pub returns-else-operation-eq-READ : goal.returns-else-operation-eq-READ
unfolding started
returns-else-operation-eq-READ c = rw (c.next_fate-next.ensures, c.fail_bit-failed.ensures, c.low_half-busy.ensures, c.fate_word-word.ensures) (search (eq-eqb, ne_eqb, le-leb, lt-leb, lt-ltb, le-ltb))
