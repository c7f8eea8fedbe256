-- `state::State::has_sound_map` meets its contract: what is unsound so far and the entries left decide as all do. Assumes nothing.
use Prim.Native.Nat.{◌<◌}
use mathlib.Core.Path.{◌≡◌, ap, ◌∙◌}
use native.Mathlib.Omega.{arith}
use borrow.Author.Rules.{rules}
use lib.ListN.{length, get_or, length-set}
use Rattle.state.proofs.TakenLaws.{takes_block, takes_past, takes_none, takes-over, takes_all}
use Rattle.state.proofs.State.has_sound_map.Goals as goal
use Rattle.state.proofs.State.has_sound_map.Goals.{then-block-blocks, else-block-blocks+then-block-ne65535, else-block-blocks+else-block-ne65535}

pub loop-l-preserved : goal.loop-l-preserved
loop-l-preserved c =
    let block = c.from-block.result in
    let taken = c.loop-l.taken in
    let next = c.if-block-blocks.taken in
    let below : c.loop-l.l < c.args.logical = c.loop-l-test.true in
    let at : block ≡ get_or c.args.self.map c.loop-l.l 0 = c.from-block.ensures in
    let on = takes_block c.args.self.map c.args.blocks taken next c.args.logical c.loop-l.l c.loop-l.unsound c.if-block-blocks.unsound block below at in
    let past = takes_past c.args.self.map c.args.blocks taken next c.args.logical c.loop-l.l c.loop-l.unsound c.if-block-blocks.unsound block below at in
    let none = takes_none c.args.self.map c.args.blocks taken next c.args.logical c.loop-l.l c.loop-l.unsound c.if-block-blocks.unsound block below at in
    elim c.if-block-blocks.branch [
      | then-block-blocks w ↦
          (on w.if-block-blocks.true w.taken-is w.unsound-is ∙ c.loop-l.invariant.0, ap length w.taken-is ∙ length-set taken block 1 ∙ c.loop-l.invariant.1)
      | else-block-blocks+then-block-ne65535 w ↦
          (past w.if-block-blocks.false w.if-block-ne65535.true w.unsound-is ∙ c.loop-l.invariant.0, ap length w.taken-is ∙ c.loop-l.invariant.1)
      | else-block-blocks+else-block-ne65535 w ↦
          (none w.if-block-blocks.false w.if-block-ne65535.false w.taken-is w.unsound-is ∙ c.loop-l.invariant.0, ap length w.taken-is ∙ c.loop-l.invariant.1)
    ]

pub returns : goal.returns
returns c =
    let size : length c.flags-taken.result ≡ 4096 = search rules in
    takes-over c.args.self.map c.args.blocks c.loop-l.taken c.args.logical c.loop-l.l c.loop-l.unsound (omega arith)
    ∙ c.loop-l.invariant.0
    ∙ takes_all c.args.self c.args.blocks c.args.logical c.flags-taken.result (omega arith) (omega arith) size c.flags-taken.ensures
