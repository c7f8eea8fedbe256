-- `request::is_sized` meets its contract. Assumes nothing.
use mathlib.Core.Path.{sym, ◌∙◌}
use Rattle.chip_array.proofs.DeviceLaws.{fits}
use Rattle.request.specs.Call.{sized}
use Rattle.request.proofs.is_sized.Goals as goal

pub block_size-requires : goal.block_size-requires
block_size-requires c = (fits c.args.g c.args.array c.args.register c.args.history (sym c.is_fitting.ensures ∙ c.if-is_fitting.true)).is_valid

pub returns-then-is_fitting : goal.returns-then-is_fitting
unfolding sized
returns-then-is_fitting c = rw (← c.block_size.ensures, sym c.is_fitting.ensures ∙ c.if-is_fitting.true)

pub returns : goal.returns
unfolding sized
returns c = rw (sym c.is_fitting.ensures ∙ c.if-is_fitting.false)
