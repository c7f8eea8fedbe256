-- `bitmaps::count_set` meets its contract. Assumes nothing.
use Rattle.bitmaps.proofs.BitLaws.{count_set, count_clear}
use mathlib.Core.Path.{refl, sym, ap, ◌∙◌}
use Rattle.bitmaps.specs.Bitmap.{count_bits}
use native.Mathlib.Omega.{arith}
use Rattle.bitmaps.proofs.count_set.Goals as goal
use Rattle.bitmaps.proofs.count_set.Goals.{then-is_set, else-is_set}

pub loop-block-init : goal.loop-block-init
unfolding count_bits
loop-block-init c = (refl, omega arith)

pub returns : goal.returns
returns c = c.loop-block.invariant.0 ∙ ap (count_bits c.args.bits.now) (omega arith)

pub loop-block-preserved : goal.loop-block-preserved
loop-block-preserved c = elim c.if-is_set.branch [
  | then-is_set w ↦
      let t = sym c.is_set.ensures ∙ w.if-is_set.true in
      (omega (arith, w.count-is, c.loop-block.invariant.0, count_set c.args.bits.now c.loop-block.block t), omega (arith, w.count-is))
  | else-is_set w ↦
      let t = sym c.is_set.ensures ∙ w.if-is_set.false in
      (omega (arith, w.count-is, c.loop-block.invariant.0, count_clear c.args.bits.now c.loop-block.block t), omega (arith, w.count-is))
]
