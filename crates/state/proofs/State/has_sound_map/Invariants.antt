-- `state::State::has_sound_map` meets its contract: what is unsound so far and the entries left decide as all do. Assumes nothing.
use Prim.Native.Nat.{◌-◌}
use mathlib.Core.Bool.{cond, false}
use mathlib.Core.Path.{◌≡◌}
use lib.Dec.{eqb}
use lib.ListN.{length}
use Rattle.state.proofs.TakenLaws.{takes_from}
use Rattle.state.proofs.State.has_sound_map.Given as goal

abbrev pub invariant-loop-l : goal.invariant-loop-l
invariant-loop-l l =
    (cond (eqb l.unsound 0) (takes_from l.map l.blocks l.taken l.l (l.logical - l.l)) false ≡ takes_from l.map l.blocks l.initial.taken 0 l.logical)
    × (length l.taken ≡ 4096)
