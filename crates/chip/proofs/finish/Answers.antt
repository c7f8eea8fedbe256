-- `chip::finish` meets its contract: the tests of the operation, the lengths and of the row give what the rest of the operation requires.
-- Assumes nothing.
use mathlib.Core.Path.{sym, ◌∙◌}
use borrow.Author.Tests.{eq-eqb, ne_eqb, lt-ltb, le-ltb}
use Rattle.chip.specs.Chip.{finished}
use Rattle.chip_array.proofs.DeviceLaws.{fits}
use Rattle.chip.proofs.finish.Goals as goal

pub returns-then-operation-eq-PARAMETERS : goal.returns-then-operation-eq-PARAMETERS
unfolding finished
returns-then-operation-eq-PARAMETERS c = rw c.page_loaded.ensures (search eq-eqb)

pub row_count-rows-requires : goal.row_count-rows-requires
row_count-rows-requires c = (fits _ _ _ _ (sym c.is_fitting.ensures ∙ c.if-is_fitting.true)).is_valid

pub complete-requires : goal.complete-requires
complete-requires c = record { fitting = fits _ _ _ _ (sym c.is_fitting.ensures ∙ c.if-is_fitting.true); i_bound = rw (← c.row_of_address.ensures, ← c.row_count-rows.ensures) c.if-row_of_address-rows.true }

pub returns-then-row_of_address-rows : goal.returns-then-row_of_address-rows
unfolding finished
returns-then-row_of_address-rows c =
    c.complete.ensures ∙ rw (sym c.is_fitting.ensures ∙ c.if-is_fitting.true, ← c.row_of_address.ensures, ← c.row_count-rows.ensures) (search (ne_eqb, lt-ltb))

pub returns-then-is_fitting : goal.returns-then-is_fitting
unfolding finished
returns-then-is_fitting c = rw (c.refuse.ensures, sym c.is_fitting.ensures ∙ c.if-is_fitting.true, ← c.row_of_address.ensures, ← c.row_count-rows.ensures) (search (ne_eqb, le-ltb))

pub returns : goal.returns
unfolding finished
returns c = rw (c.refuse-2.ensures, sym c.is_fitting.ensures ∙ c.if-is_fitting.false) (search ne_eqb)
