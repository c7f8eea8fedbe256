-- `bitmaps::is_never_both` meets its contract: the blocks left to look at decide as all do. Assumes nothing.
use Prim.Native.Nat.{◌*◌}
use mathlib.Core.Path.{◌≡◌, sym, ap, ◌∙◌}
use native.Mathlib.Omega.{arith}
use Rattle.bitmaps.specs.Bitmap.{never_both}
use Rattle.bitmaps.proofs.BitLaws.{never_hit, never_first, never_second}
use Rattle.bitmaps.proofs.is_never_both.Goals as goal
use Rattle.bitmaps.proofs.is_never_both.Goals.{else-is_set-via-then-is_set+else-is_set-2, else-is_set-via-else-is_set}

pub returns-then-is_set-2 : goal.returns-then-is_set-2
returns-then-is_set-2 c =
    never_hit c.args.first.now c.args.second.now c.loop-block.block (omega arith)
    (sym c.is_set.ensures ∙ c.if-is_set.true)
    (sym c.is_set-then-is_set.ensures ∙ c.if-is_set-2.true)
    ∙ c.loop-block.invariant.1

pub loop-block-preserved : goal.loop-block-preserved
loop-block-preserved c = elim c.else-is_set.branch [
  | else-is_set-via-then-is_set+else-is_set-2 w ↦
      (omega arith, never_second c.args.first.now c.args.second.now c.loop-block.block (omega arith) (sym w.is_set-then-is_set.ensures ∙ w.if-is_set-2.false) ∙ c.loop-block.invariant.1)
  | else-is_set-via-else-is_set w ↦
      (omega arith, never_first c.args.first.now c.args.second.now c.loop-block.block (omega arith) (sym c.is_set.ensures ∙ w.if-is_set.false) ∙ c.loop-block.invariant.1)
]

pub returns : goal.returns
returns c =
    let e : 8 * c.byte_of-bytes.result ≡ c.loop-block.block = omega arith in
    c.share_no_bit.ensures ∙ ap (never_both c.args.first.now c.args.second.now) e ∙ c.loop-block.invariant.1
