-- `bus_sequences::send_data` meets its contract: what is left of the data, sent from the present line, leaves what all of it leaves from the first. Assumes nothing.
use Prim.Native.Nat.{◌-◌}
use mathlib.Core.Path.{refl, sym, ◌∙◌}
use native.Mathlib.Omega.{arith}
use borrow.Author.Rules.{rules}
use Rattle.bus_sequences.proofs.DataLaws.{data_goes, data_stops, data_done}
use Rattle.bus_sequences.proofs.send_data.Goals as goal

pub loop-i-init : goal.loop-i-init
loop-i-init c = (omega arith, refl, λ s a h. refl)

pub returns-then-not-goes_on : goal.returns-then-not-goes_on
returns-then-not-goes_on c = λ s a h.
    data_stops s _ _ c.loop-i.i (omega arith) (c.data_in-b.ensures s a h) (sym (c.goes_on.ensures _ _ _) ∙ c.if-not-goes_on.true)
    ∙ c.loop-i.invariant.2 s a h

pub loop-i-preserved : goal.loop-i-preserved
loop-i-preserved c = (
  omega arith,
  search rules,
  λ s a h.
      data_goes s _ _ c.loop-i.i (omega arith) (c.data_in-b.ensures s a h)
      ∙ c.loop-i.invariant.2 s a h,
)

pub returns : goal.returns
returns c = λ s a h. data_done s _ _ c.loop-i.i (omega arith) ∙ c.loop-i.invariant.2 s a h
