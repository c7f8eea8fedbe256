-- `parameter_read::take_parameters` meets its contract: the cycles that are left, from the present line, leave what all leave from the first, and fill the buffer from the present place on as all fill it. Assumes nothing.
use Prim.Native.Nat.{◌-◌}
use mathlib.Core.Path.{refl, sym, ◌∙◌}
use native.Mathlib.Nat.{sub-zero}
use native.Mathlib.Omega.{arith}
use borrow.Author.Rules.{rules}
use Rattle.bus_sequences.proofs.DataLaws.{repeat_goes, repeat_stops, repeat_done, fill_goes, fill_stops, fill_done}
use Rattle.parameter_read.proofs.take_parameters.Goals as goal

pub loop-i-init : goal.loop-i-init
loop-i-init c = (omega arith, refl, λ s a p h. rw sub-zero, λ s a p h. rw sub-zero)

pub returns-then-not-goes_on : goal.returns-then-not-goes_on
returns-then-not-goes_on c = record { h_value = λ s a p h. repeat_stops s _ _ _ c.loop-i.i (omega arith) (c.parameter_out-out.ensures.h_value s a p h) (sym (c.goes_on.ensures _ _ _) ∙ c.if-not-goes_on.true) ∙ c.loop-i.invariant.2 s a p h; buffer_after = λ s a p h. fill_stops s _ _ _ _ c.loop-i.i _ (omega arith) (c.parameter_out-out.ensures.h_value s a p h) (sym (c.goes_on.ensures _ _ _) ∙ c.if-not-goes_on.true) ∙ c.loop-i.invariant.3 s a p h }

pub loop-i-preserved : goal.loop-i-preserved
loop-i-preserved c = (
  omega arith,
  search rules,
  λ s a p h. repeat_goes s _ _ _ c.loop-i.i (omega arith) (c.parameter_out-out.ensures.h_value s a p h) ∙ c.loop-i.invariant.2 s a p h,
  λ s a p h. fill_goes s _ _ _ _ c.loop-i.i _ (omega arith) (omega arith) (c.parameter_out-out.ensures.h_value s a p h) (c.parameter_out-out.ensures.by_index a p h) (sym (c.goes_on.ensures _ _ _) ∙ c.if-not-goes_on.false) ∙ c.loop-i.invariant.3 s a p h,
)

pub returns : goal.returns
returns c = record { h_value = λ s a p h. repeat_done s _ _ _ c.loop-i.i (omega arith) ∙ c.loop-i.invariant.2 s a p h; buffer_after = λ s a p h. fill_done s _ _ _ _ c.loop-i.i _ (omega arith) ∙ c.loop-i.invariant.3 s a p h }
