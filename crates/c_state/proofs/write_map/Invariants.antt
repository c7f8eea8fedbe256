-- `c_state::write_map` meets its contract. Assumes nothing.
use Rattle.c_state.proofs.PieceLaws.{Stored}
use Rattle.c_state.proofs.write_map.Given as goal

abbrev pub invariant-loop-l : goal.invariant-loop-l
invariant-loop-l l = Stored l.initial.bytes l.map l.bytes l.l
