-- `state_choose::choose` meets its contract: the blocks left decide as all do. Assumes nothing.
use Prim.Native.Nat.{◌+◌, ◌-◌}
use mathlib.Core.Path.{sym, ap, ◌∙◌}
use native.Mathlib.Omega.{arith}
use Rattle.std.specs.Prelude.{Some}
use Rattle.state_choose.specs.Choose.{permitted, search_after}
use Rattle.state_choose.proofs.ChooseLaws.{next_below, search_found, search_on, search_over}
use Rattle.state_choose.proofs.choose.Goals as goal

pub returns-then-is_permitted : goal.returns-then-is_permitted
returns-then-is_permitted c =
    let test = permitted c.args.marked.now c.args.invalid.now c.args.held.now in
    ap Some c.next_block-block.ensures
    ∙ search_found test c.args.blocks c.args.blocks c.loop.counter c.loop.block c.loop-test.true (ap test (sym c.next_block-block.ensures) ∙ sym c.is_permitted.ensures ∙ c.if-is_permitted.true)
    ∙ c.loop.invariant.1

pub loop-preserved : goal.loop-preserved
loop-preserved c =
    let test = permitted c.args.marked.now c.args.invalid.now c.args.held.now in (
      rw c.next_block-block.ensures (next_below c.args.blocks c.loop.block c.loop.invariant.0),
      ap (search_after test c.args.blocks (c.args.blocks - (c.loop.counter + 1))) c.next_block-block.ensures
          ∙ search_on test c.args.blocks c.args.blocks c.loop.counter c.loop.block c.loop-test.true (ap test (sym c.next_block-block.ensures) ∙ sym c.is_permitted.ensures ∙ c.if-is_permitted.false)
          ∙ c.loop.invariant.1,
    )

pub returns : goal.returns
returns c =
    search_over (permitted c.args.marked.now c.args.invalid.now c.args.held.now) c.args.blocks c.args.blocks c.loop.counter c.loop.block (omega arith)
    ∙ c.loop.invariant.1
