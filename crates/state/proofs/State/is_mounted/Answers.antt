-- `state::State::is_mounted` meets its contract, one test after the other. Assumes nothing.
use Rattle.std.proofs.Common.{arith}
use Rattle.std.proofs.lemmas.Grind.{common_steps}
use Rattle.state.specs.State.{mounted}
use Rattle.state.proofs.State.is_mounted.Goals as goal

pub returns-then-is_never_both : goal.returns-then-is_never_both
unfolding mounted
returns-then-is_never_both c = grind (arith, common_steps)

pub returns-else-is_never_both : goal.returns-else-is_never_both
unfolding mounted
returns-else-is_never_both c = grind (arith, common_steps)
