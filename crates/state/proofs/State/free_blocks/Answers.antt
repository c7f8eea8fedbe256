-- `state::State::free_blocks` meets its contract. Assumes nothing.
use Rattle.std.proofs.Common.{arith}
use Rattle.std.proofs.lemmas.Grind.{common_steps}
use Rattle.state.specs.State.{free_blocks}
use Rattle.state.proofs.State.free_blocks.Goals as goal

pub returns-then-not-is_mounted : goal.returns-then-not-is_mounted
unfolding free_blocks
returns-then-not-is_mounted c = grind (arith, common_steps)

pub returns : goal.returns
unfolding free_blocks
returns c = grind (arith, common_steps)
