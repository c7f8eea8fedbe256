-- `bitmaps::flags` meets its contract: the bytes of the blocks passed are their flags, the others 0. Assumes nothing.
use mathlib.Core.Path.{◌∙◌}
use native.Mathlib.Omega.{arith}
use Rattle.bitmaps.proofs.ByteLaws.{flagged_start, flagged_zero, flagged_spread, flagged_all}
use Rattle.bitmaps.proofs.flags.Goals as goal
use Rattle.bitmaps.proofs.flags.Goals.{then-either-ne0, else-either-ne0}

pub loop-at-init : goal.loop-at-init
loop-at-init c = flagged_start c.args.first.now c.args.second.now

pub returns : goal.returns
returns c = flagged_all c.args.first.now c.args.second.now c.loop-at.flags c.loop-at.at (omega arith) c.loop-at.invariant

pub loop-at-preserved : goal.loop-at-preserved
loop-at-preserved c = elim c.if-either-ne0.branch [
  | then-either-ne0 w ↦
      flagged_spread c.args.first.now c.args.second.now c.loop-at.flags c.if-either-ne0.flags c.loop-at.at c.loop-at-test.true c.loop-at.invariant (w.flags-is ∙ w.spread.ensures)
  | else-either-ne0 w ↦
      flagged_zero c.args.first.now c.args.second.now c.loop-at.flags c.if-either-ne0.flags c.loop-at.at c.loop-at-test.true c.loop-at.invariant w.if-either-ne0.false w.flags-is
]
