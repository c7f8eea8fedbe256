-- `chip::is_fitting` meets its contract: each test answers as the one of the definition. Assumes nothing.
use mathlib.Core.Path.{sym, ◌∙◌}
use borrow.Author.Tests.{eq-eqb, ne_eqb}
use Rattle.geometry.proofs.LimitLaws.{limits}
use Rattle.chip_array.specs.Device.{fitting}
use Rattle.chip.proofs.is_fitting.Goals as goal

pub chip_size-requires : goal.chip_size-requires
chip_size-requires c = limits _ (sym c.is_valid.ensures ∙ c.if-is_valid.true)

pub returns-then-array-chip_size : goal.returns-then-array-chip_size
unfolding fitting
returns-then-array-chip_size c = rw (sym c.is_valid.ensures ∙ c.if-is_valid.true, ← c.chip_size.ensures) (search ne_eqb)

pub page_size-requires : goal.page_size-requires
page_size-requires c = limits _ (sym c.is_valid.ensures ∙ c.if-is_valid.true)

pub returns-then-register-page_size : goal.returns-then-register-page_size
unfolding fitting
returns-then-register-page_size c = rw (sym c.is_valid.ensures ∙ c.if-is_valid.true, ← c.chip_size.ensures, ← c.page_size.ensures) (search (eq-eqb, ne_eqb))

pub returns-then-is_valid : goal.returns-then-is_valid
unfolding fitting
returns-then-is_valid c = rw (sym c.is_valid.ensures ∙ c.if-is_valid.true, ← c.chip_size.ensures, ← c.page_size.ensures) (search eq-eqb)

pub returns : goal.returns
unfolding fitting
returns c = rw (sym c.is_valid.ensures ∙ c.if-is_valid.false)
