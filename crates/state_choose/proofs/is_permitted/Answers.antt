-- `state_choose::is_permitted` meets its contract. Assumes nothing.
use Rattle.std.proofs.Common.{arith}
use Rattle.std.proofs.lemmas.Grind.{common_steps}
use Rattle.state_choose.specs.Choose.{permitted}
use Rattle.state_choose.proofs.is_permitted.Goals as goal

pub returns-then-not-is_set-2 : goal.returns-then-not-is_set-2
unfolding permitted
returns-then-not-is_set-2 c = grind (arith, common_steps)

pub returns-else-not-is_set-2 : goal.returns-else-not-is_set-2
unfolding permitted
returns-else-not-is_set-2 c = grind (arith, common_steps)
