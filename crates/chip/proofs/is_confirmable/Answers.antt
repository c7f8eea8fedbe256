-- `chip::is_confirmable` meets its contract: each test answers as the one of the definition. Assumes nothing.
use mathlib.Core.Path.{sym, ◌∙◌}
use borrow.Author.Tests.{eq-eqb, ne_eqb}
use Rattle.chip.specs.Chip.{confirmable}
use Rattle.chip_array.proofs.DeviceLaws.{fits}
use Rattle.chip.proofs.is_confirmable.Goals as goal

pub block_size-requires : goal.block_size-requires
block_size-requires c = (fits _ _ _ _ (sym c.is_fitting.ensures ∙ c.if-is_fitting.true)).is_valid

pub returns-then-mask-block_size : goal.returns-then-mask-block_size
unfolding confirmable
returns-then-mask-block_size c = λ f. rw (sym c.is_fitting.ensures ∙ c.if-is_fitting.true, ← c.block_size.ensures) (search ne_eqb)

pub row_count-rows-requires : goal.row_count-rows-requires
row_count-rows-requires c = (fits _ _ _ _ (sym c.is_fitting.ensures ∙ c.if-is_fitting.true)).is_valid

pub returns-then-is_fitting : goal.returns-then-is_fitting
unfolding confirmable
returns-then-is_fitting c = λ f. rw (sym c.is_fitting.ensures ∙ c.if-is_fitting.true, ← c.block_size.ensures, ← c.row_count-rows.ensures, ← c.row_of_address.ensures) (search eq-eqb)

pub returns : goal.returns
unfolding confirmable
returns c = λ f. rw (sym c.is_fitting.ensures ∙ c.if-is_fitting.false)
