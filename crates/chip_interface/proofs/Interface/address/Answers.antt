-- `chip_interface::Interface::address` meets its contract. Assumes nothing.
use native.Mathlib.Omega.{arith}
use Rattle.chip_interface.specs.Interface.{addressed, begun}
use borrow.Author.Tests.{eq-eqb, ne_eqb, le-leb, lt-leb, lt-ltb, le-ltb}
use Rattle.chip_interface.proofs.Interface.address.Goals as goal

pub returns-then-now-eq-READ_ADDRESS : goal.returns-then-now-eq-READ_ADDRESS
unfolding addressed
returns-then-now-eq-READ_ADDRESS c = rw c.latch.ensures (search (eq-eqb, ne_eqb, le-leb, lt-leb, lt-ltb, le-ltb))

pub returns-then-now-eq-PROGRAM_ADDRESS : goal.returns-then-now-eq-PROGRAM_ADDRESS
unfolding addressed
returns-then-now-eq-PROGRAM_ADDRESS c = rw c.latch-then-now-eq-PROGRAM_ADDRESS.ensures (search (eq-eqb, ne_eqb, le-leb, lt-leb, lt-ltb, le-ltb))

pub returns-then-now-eq-ERASE_ADDRESS : goal.returns-then-now-eq-ERASE_ADDRESS
unfolding addressed
returns-then-now-eq-ERASE_ADDRESS c = rw c.latch-then-now-eq-ERASE_ADDRESS.ensures (search (eq-eqb, ne_eqb, le-leb, lt-leb, lt-ltb, le-ltb))

pub returns-then-now-ne-DATA_OUT : goal.returns-then-now-ne-DATA_OUT
unfolding addressed
returns-then-now-ne-DATA_OUT c = rw c.refuse.ensures (search (eq-eqb, ne_eqb, le-leb, lt-leb, lt-ltb, le-ltb))

pub returns-then-first-column : goal.returns-then-first-column
unfolding addressed
returns-then-first-column c = rw c.refuse-then-first-column.ensures (search (eq-eqb, ne_eqb, le-leb, lt-leb, lt-ltb, le-ltb))

pub returns : goal.returns
unfolding addressed begun
returns c = rw (c.latch-2.ensures, c.begin-fresh.ensures, le-leb c.args.self.phase 2 (omega arith)) (search (eq-eqb, ne_eqb, le-leb, lt-leb, lt-ltb, le-ltb))
