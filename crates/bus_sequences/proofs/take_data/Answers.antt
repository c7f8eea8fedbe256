-- `bus_sequences::take_data` meets its contract: the cycles that are left, from the present line, leave what all leave from the first, and fill the buffer from the present place on as all fill it. Assumes nothing.
use Prim.Native.Nat.{◌-◌}
use mathlib.Core.Path.{refl, sym, ◌∙◌}
use native.Mathlib.Nat.{sub-zero}
use native.Mathlib.Omega.{arith}
use borrow.Author.Rules.{rules}
use Rattle.chip.specs.Chip.{Cycle}
use Rattle.bus.specs.Line.{byte_out}
use Rattle.bus_sequences.proofs.DataLaws.{repeat_goes, repeat_stops, repeat_done, fill_goes, fill_stops, fill_done}
use Rattle.bus_sequences.proofs.take_data.Goals as goal

pub loop-i-init : goal.loop-i-init
loop-i-init c = (omega arith, refl, λ s a h. rw sub-zero, λ s a h. rw sub-zero)

pub returns-then-not-goes_on : goal.returns-then-not-goes_on
returns-then-not-goes_on c = record { h_value = λ s a h. repeat_stops s _ _ _ c.loop-i.i (omega arith) (c.data_out-out.ensures.h_value s a h) (sym (c.goes_on.ensures _ _ _) ∙ c.if-not-goes_on.true) ∙ c.loop-i.invariant.2 s a h; buffer_after = λ s a h. fill_stops s Cycle.data_out byte_out _ _ c.loop-i.i _ (omega arith) (c.data_out-out.ensures.h_value s a h) (sym (c.goes_on.ensures _ _ _) ∙ c.if-not-goes_on.true) ∙ c.loop-i.invariant.3 s a h }

pub loop-i-preserved : goal.loop-i-preserved
loop-i-preserved c = (
  omega arith,
  search rules,
  λ s a h. repeat_goes s _ _ _ c.loop-i.i (omega arith) (c.data_out-out.ensures.h_value s a h) ∙ c.loop-i.invariant.2 s a h,
  λ s a h. fill_goes s Cycle.data_out byte_out _ _ c.loop-i.i _ (omega arith) (omega arith) (c.data_out-out.ensures.h_value s a h) (c.data_out-out.ensures.by_index a h) (sym (c.goes_on.ensures _ _ _) ∙ c.if-not-goes_on.false) ∙ c.loop-i.invariant.3 s a h,
)

pub returns : goal.returns
returns c = record { h_value = λ s a h. repeat_done s _ _ _ c.loop-i.i (omega arith) ∙ c.loop-i.invariant.2 s a h; buffer_after = λ s a h. fill_done s Cycle.data_out byte_out _ _ c.loop-i.i _ (omega arith) ∙ c.loop-i.invariant.3 s a h }
