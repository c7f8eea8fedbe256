-- `state_choose::count_permitted` meets its contract: the count is that of the blocks passed. Assumes nothing.
use Rattle.std.proofs.Common.{arith, refl, sym, ◌∙◌}
use Rattle.state_choose.specs.Choose.{count_permitted}
use Rattle.state_choose.proofs.ChooseLaws.{count_permitted_fact, count_refused}
use Rattle.state_choose.proofs.count_permitted.Goals as goal
use Rattle.state_choose.proofs.count_permitted.Goals.{then-is_permitted, else-is_permitted}

pub loop-b-init : goal.loop-b-init
unfolding count_permitted
loop-b-init c = (refl, omega arith)

pub loop-b-preserved : goal.loop-b-preserved
loop-b-preserved c = elim c.if-is_permitted.branch [
  | then-is_permitted w ↦
      let t = sym c.is_permitted.ensures ∙ w.if-is_permitted.true in
      (omega (arith, count_permitted_fact c.args.marked.now c.args.invalid.now c.args.held.now c.loop-b.b t), omega arith)
  | else-is_permitted w ↦
      let t = sym c.is_permitted.ensures ∙ w.if-is_permitted.false in
      (omega (arith, count_refused c.args.marked.now c.args.invalid.now c.args.held.now c.loop-b.b t), omega arith)
]
