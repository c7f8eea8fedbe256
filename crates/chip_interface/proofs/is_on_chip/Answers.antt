-- `chip_interface::is_on_chip` meets its contract. Assumes nothing.
use mathlib.Core.Path.{sym, ◌∙◌}
use Rattle.geometry.proofs.LimitLaws.{limits}
use Rattle.chip_interface.specs.Interface.{address_fits}
use borrow.Author.Tests.{eq-eqb, ne_eqb, le-leb, lt-leb, lt-ltb, le-ltb}
use Rattle.chip_interface.proofs.is_on_chip.Goals as goal

pub page_size-size-requires : goal.page_size-size-requires
page_size-size-requires c = limits c.args.g (sym c.is_valid.ensures ∙ c.if-is_valid.true)

pub returns-then-size-low_half : goal.returns-then-size-low_half
unfolding address_fits
returns-then-size-low_half c = rw (sym c.is_valid.ensures ∙ c.if-is_valid.true, ← c.page_size-size.ensures, ← c.low_half.ensures) (search (eq-eqb, ne_eqb, le-leb, lt-leb, lt-ltb, le-ltb))

pub row_count-rows-requires : goal.row_count-rows-requires
row_count-rows-requires c = limits c.args.g (sym c.is_valid.ensures ∙ c.if-is_valid.true)

pub returns-then-is_valid : goal.returns-then-is_valid
unfolding address_fits
returns-then-is_valid c = rw (sym c.is_valid.ensures ∙ c.if-is_valid.true, ← c.page_size-size.ensures, ← c.low_half.ensures, ← c.row_count-rows.ensures, ← c.row_of_address.ensures) (search (eq-eqb, ne_eqb, le-leb, lt-leb, lt-ltb, le-ltb))

pub returns : goal.returns
unfolding address_fits
returns c = rw (sym c.is_valid.ensures ∙ c.if-is_valid.false)
