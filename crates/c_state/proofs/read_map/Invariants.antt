-- `c_state::read_map` meets its contract. Assumes nothing.
use Rattle.c_state.proofs.PieceLaws.{Loaded}
use Rattle.c_state.proofs.read_map.Given as goal

abbrev pub invariant-loop-l : goal.invariant-loop-l
invariant-loop-l l = Loaded l.bytes l.initial.map l.map l.l
