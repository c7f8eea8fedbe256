-- `chip_interface::Interface::latch` meets its contract. Assumes nothing.
use mathlib.Core.Path.{sym, ◌∙◌}
use Rattle.chip_interface.specs.Interface.{latched}
use borrow.Author.Tests.{eq-eqb, ne_eqb, le-leb, lt-leb, lt-ltb, le-ltb}
use Rattle.chip_interface.proofs.Interface.latch.Goals as goal

pub returns-then-count-ge5 : goal.returns-then-count-ge5
unfolding latched
returns-then-count-ge5 c = rw c.refuse.ensures (search (eq-eqb, ne_eqb, le-leb, lt-leb, lt-ltb, le-ltb))

pub returns-then-count-lt4 : goal.returns-then-count-lt4
unfolding latched
returns-then-count-lt4 c = rw (c.more_address.ensures, c.shift_in-address.ensures) (search (eq-eqb, ne_eqb, le-leb, lt-leb, lt-ltb, le-ltb))

pub returns-then-is_on_chip : goal.returns-then-is_on_chip
unfolding latched
returns-then-is_on_chip c = rw (c.full_address.ensures, ← c.shift_in-address.ensures, sym c.is_on_chip.ensures ∙ c.if-is_on_chip.true) (search (eq-eqb, ne_eqb, le-leb, lt-leb, lt-ltb, le-ltb))

pub returns : goal.returns
unfolding latched
returns c = rw (c.refuse-2.ensures, ← c.shift_in-address.ensures, sym c.is_on_chip.ensures ∙ c.if-is_on_chip.false) (search (eq-eqb, ne_eqb, le-leb, lt-leb, lt-ltb, le-ltb))
