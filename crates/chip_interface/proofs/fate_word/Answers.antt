-- `chip_interface::fate_word` meets its contract. Assumes nothing.
use Rattle.chip_interface.specs.Interface.{fate_word}
use borrow.Author.Tests.{eq-eqb, ne_eqb, le-leb, lt-leb, lt-ltb, le-ltb}
use Rattle.chip_interface.proofs.fate_word.Goals as goal

pub returns-then-at-fates : goal.returns-then-at-fates
unfolding fate_word
returns-then-at-fates c = rw c.wide_word.ensures (search (eq-eqb, ne_eqb, le-leb, lt-leb, lt-ltb, le-ltb))

pub returns : goal.returns
unfolding fate_word
returns c = search (eq-eqb, ne_eqb, le-leb, lt-leb, lt-ltb, le-ltb)
