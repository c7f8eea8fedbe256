-- `format_scan::add_bits` meets its contract: the bits of the blocks passed are added. Assumes nothing.
use Prim.Native.Nat.{ℕ}
use mathlib.Core.Path.{refl, sym, ap, ◌∙◌}
use native.Mathlib.Omega.{arith}
use lib.ListN.{length}
use Rattle.format_scan.specs.Survey.{union_to}
use Rattle.format_scan.proofs.UnionLaws.{union_long, union_added, union_kept}
use Rattle.format_scan.proofs.add_bits.Goals as goal
use Rattle.format_scan.proofs.add_bits.Goals.{then-is_set, else-is_set}

pub loop-block-init : goal.loop-block-init
unfolding union_to
loop-block-init c = (omega arith, refl, c.requires.bits_len)

pub loop-block-preserved : goal.loop-block-preserved
loop-block-preserved c =
    elim c.if-is_set.branch [
      | then-is_set w ↦
          let next = union_added c.args.bits.now c.args.more.now c.loop-block.block c.loop-block.bits c.if-is_set.bits (sym c.is_set.ensures ∙ w.if-is_set.true) c.loop-block.invariant.1 (w.bits-is ∙ w.set_bit.ensures) in
          (omega arith, next, ap length next ∙ union_long c.args.bits.now c.args.more.now _ ∙ sym (union_long c.args.bits.now c.args.more.now c.loop-block.block) ∙ sym (ap length c.loop-block.invariant.1) ∙ c.loop-block.invariant.2)
      | else-is_set w ↦
          let next = union_kept c.args.bits.now c.args.more.now c.loop-block.block c.loop-block.bits c.if-is_set.bits (sym c.is_set.ensures ∙ w.if-is_set.false) c.loop-block.invariant.1 w.bits-is in
          (omega arith, next, ap length w.bits-is ∙ c.loop-block.invariant.2)
    ]

pub returns : goal.returns
returns c =
    c.loop-block.invariant.1 ∙ ap (λ (n : ℕ). union_to c.args.bits.now c.args.more.now n) (omega arith)
