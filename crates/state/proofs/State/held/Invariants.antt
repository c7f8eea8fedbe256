-- `state::State::held` meets its contract: the bits are those of the table and of the entries passed. Assumes nothing.
use mathlib.Core.Path.{◌≡◌}
use lib.ListN.{length, replicate}
use Rattle.state.specs.State.{add_block, copy_bits}
use Rattle.state.proofs.State.held.Given as goal

abbrev pub invariant-loop-l : goal.invariant-loop-l
invariant-loop-l l = (l.bits ≡ copy_bits l.map l.l (add_block l.fn.self.table (replicate 512 0))) × (length l.bits ≡ 512)
