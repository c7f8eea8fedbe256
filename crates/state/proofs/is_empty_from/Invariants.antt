-- `state::is_empty_from` meets its contract: what is other than empty and the entries left decide as all do. Assumes nothing.
use Prim.Native.Nat.{◌-◌}
use mathlib.Core.Bool.{cond, false}
use mathlib.Core.Path.{◌≡◌}
use lib.Dec.{eqb}
use Rattle.state.specs.State.{empty_from}
use Rattle.state.proofs.is_empty_from.Given as goal

abbrev pub invariant-loop-l : goal.invariant-loop-l
invariant-loop-l l = cond (eqb l.other 0) (empty_from l.map l.l (4096 - l.l)) false ≡ empty_from l.map l.logical (4096 - l.logical)
