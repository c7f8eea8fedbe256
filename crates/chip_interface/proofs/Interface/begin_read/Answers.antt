-- `chip_interface::Interface::begin_read` meets its contract. Assumes nothing.
use native.Mathlib.Omega.{arith}
use Rattle.chip_interface.specs.Interface.{read_mode, begun}
use borrow.Author.Tests.{eq-eqb, ne_eqb, le-leb, lt-leb, lt-ltb, le-ltb}
use Rattle.chip_interface.proofs.Interface.begin_read.Goals as goal

pub returns-then-now-gt-DATA_OUT : goal.returns-then-now-gt-DATA_OUT
unfolding read_mode
returns-then-now-gt-DATA_OUT c = rw c.refuse.ensures (search (eq-eqb, ne_eqb, le-leb, lt-leb, lt-ltb, le-ltb))

pub returns-then-loaded-eq1 : goal.returns-then-loaded-eq1
unfolding read_mode
returns-then-loaded-eq1 c = rw c.resume_output.ensures (search (eq-eqb, ne_eqb, le-leb, lt-leb, lt-ltb, le-ltb))

pub returns : goal.returns
unfolding read_mode begun
returns c = rw (c.begin.ensures, le-leb c.args.self.phase 2 (omega arith)) (search (eq-eqb, ne_eqb, le-leb, lt-leb, lt-ltb, le-ltb))
