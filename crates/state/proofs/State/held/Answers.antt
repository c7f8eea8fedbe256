-- `state::State::held` meets its contract: the bits are those of the table and of the entries passed. Assumes nothing.
use Prim.Native.Nat.{ℕ}
use mathlib.Core.List.{List}
use mathlib.Core.Path.{◌≡◌, refl, ap, ◌∙◌}
use lib.ListN.{length, replicate, get_or}
use Rattle.state.specs.State.{add_block, copy_bits}
use Rattle.state.proofs.StateLaws.{with_length, add_block_lem, add_none, copy_next}
use Rattle.state.proofs.State.held.Goals as goal
use Rattle.state.proofs.State.held.Goals.{then-self-lt4096, else-self-lt4096, then-block-lt4096, else-block-lt4096}

pub loop-l-init : goal.loop-l-init
unfolding copy_bits
loop-l-init c =
    let start : List ℕ = replicate 512 0 in
    elim c.if-self-lt4096.branch [
      | then-self-lt4096 w ↦ (
        add_block_lem start c.if-self-lt4096.bits c.args.self.table w.if-self-lt4096.true (w.bits-is ∙ w.set_bit.ensures),
        with_length start c.if-self-lt4096.bits c.args.self.table 512 (w.bits-is ∙ w.set_bit.ensures) refl,
      )
      | else-self-lt4096 w ↦
          (add_none start c.if-self-lt4096.bits c.args.self.table w.if-self-lt4096.false w.bits-is, ap length w.bits-is)
    ]

pub loop-l-preserved : goal.loop-l-preserved
loop-l-preserved c =
    let start = add_block c.args.self.table (replicate 512 0) in
    let block = c.from-block.result in
    let at : block ≡ get_or c.args.self.map c.loop-l.l 0 = c.from-block.ensures in
    let next = copy_next c.args.self.map start c.loop-l.bits c.if-block-lt4096.bits c.loop-l.l block at c.loop-l.invariant.0 in
    elim c.if-block-lt4096.branch [
      | then-block-lt4096 w ↦ (
        next (add_block_lem c.loop-l.bits c.if-block-lt4096.bits block w.if-block-lt4096.true (w.bits-is ∙ w.set_bit-then-block-lt4096.ensures)),
        with_length c.loop-l.bits c.if-block-lt4096.bits block 512 (w.bits-is ∙ w.set_bit-then-block-lt4096.ensures) c.loop-l.invariant.1,
      )
      | else-block-lt4096 w ↦ (
        next (add_none c.loop-l.bits c.if-block-lt4096.bits block w.if-block-lt4096.false w.bits-is),
        ap length w.bits-is ∙ c.loop-l.invariant.1,
      )
    ]
