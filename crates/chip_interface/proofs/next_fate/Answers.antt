-- `chip_interface::next_fate` meets its contract. Assumes nothing.
use Rattle.chip_interface.specs.Interface.{next_fate}
use borrow.Author.Tests.{eq-eqb, ne_eqb, le-leb, lt-leb, lt-ltb, le-ltb}
use Rattle.chip_interface.proofs.next_fate.Goals as goal

pub returns-then-at-fates : goal.returns-then-at-fates
unfolding next_fate
returns-then-at-fates c = search (eq-eqb, ne_eqb, le-leb, lt-leb, lt-ltb, le-ltb)

pub returns : goal.returns
unfolding next_fate
returns c = search (eq-eqb, ne_eqb, le-leb, lt-leb, lt-ltb, le-ltb)
