-- `mount_judge::judge` meets its contract. Assumes nothing.
use Rattle.std.proofs.Common.{arith}
use Rattle.std.proofs.lemmas.Grind.{common_steps}
use Rattle.mount_judge.specs.Judging.{judged_by}
use Rattle.mount_judge.proofs.judge.Goals as goal

pub returns-then-not-found : goal.returns-then-not-found
unfolding judged_by
returns-then-not-found c = grind (arith, common_steps)

pub returns-then-found-ne1 : goal.returns-then-found-ne1
unfolding judged_by
returns-then-found-ne1 c = grind (arith, common_steps)

pub returns-then-is_clash : goal.returns-then-is_clash
unfolding judged_by
returns-then-is_clash c = grind (arith, common_steps)

pub returns : goal.returns
unfolding judged_by
returns c = grind (arith, common_steps)
