-- `format_erase::erase_all` meets its contract: after each block the round is on its way as RoundLaws tells. Assumes nothing.
use mathlib.Core.Path.{refl, ◌∙◌}
use native.Mathlib.Omega.{arith}
use borrow.Author.Rules.{rules}
use Rattle.chip_array.specs.Device.{setting}
use Rattle.bus.specs.Line.{line}
use Rattle.bus_polling.proofs.OutcomeLaws.{passed_by_is, other_by_not}
use Rattle.format_erase.proofs.RoundLaws.{round_begins, round_stops, round_goes, round-ends}
use Rattle.format_erase.proofs.erase_all.Goals as goal

pub loop-block-init : goal.loop-block-init
loop-block-init c =
    (omega arith, refl, refl, refl, refl, round_begins (setting c.args.g c.args.mask.now c.args.fates.now) c.args.marked.now (line c.args.from c.args.array.now c.args.register.now c.args.history.now) c.requires.called c.none-numbers.ensures)

pub erase_block-done-requires : goal.erase_block-done-requires
erase_block-done-requires c = record { called = c.loop-block.invariant.5.called; block_lt_blocks = c.loop-block-test.true; page_len = c.loop-block.invariant.4 ∙ c.requires.page_len }

pub shape_of-array-in_default : goal.shape_of-array-in_default
shape_of-array-in_default c =
    c.array-1.given ∙ c.loop-block.invariant.1

pub shape_of-register-in_default : goal.shape_of-register-in_default
shape_of-register-in_default c =
    c.register-1.given ∙ c.loop-block.invariant.2

pub shape_of-history-in_default : goal.shape_of-history-in_default
shape_of-history-in_default c =
    c.history-1.given ∙ c.loop-block.invariant.3

pub shape_of-page-in_default : goal.shape_of-page-in_default
shape_of-page-in_default c =
    c.page-1.given ∙ c.loop-block.invariant.4

pub returns-in_default : goal.returns-in_default
returns-in_default c =
    round_stops (setting c.args.g c.args.mask.now c.args.fates.now) c.args.marked.now (line c.args.from c.args.array.now c.args.register.now c.args.history.now) (line c.loop-block.b c.loop-block.array c.loop-block.register c.loop-block.history) c.loop-block.block c.loop-block.invalid c.loop-block.numbers c.loop-block-test.true c.loop-block.invariant.5 _ c.erase_block-done.result.outcome _ _ c.erase_block-done.ensures (other_by_not _ c.in_default.not-Passed) _ _

pub note_failed-requires : goal.note_failed-requires
note_failed-requires c =
    omega (arith, c.loop-block-test.true, c.loop-block.invariant.5.called.is_valid.blocks_most)

pub overflow_add-block : goal.overflow_add-block
overflow_add-block c =
    search (rules, c.loop-block-test.true, c.loop-block.invariant.5.called.is_valid.blocks_most)

pub loop-block-smaller : goal.loop-block-smaller
loop-block-smaller c =
    omega (arith, c.loop-block-test.true)

pub loop-block-preserved : goal.loop-block-preserved
loop-block-preserved c = (
  omega (arith, c.loop-block-test.true),
  c.array-1.given ∙ c.loop-block.invariant.1,
  c.register-1.given ∙ c.loop-block.invariant.2,
  c.history-1.given ∙ c.loop-block.invariant.3,
  c.page-1.given ∙ c.loop-block.invariant.4,
  round_goes (setting c.args.g c.args.mask.now c.args.fates.now) c.args.marked.now (line c.args.from c.args.array.now c.args.register.now c.args.history.now) (line c.loop-block.b c.loop-block.array c.loop-block.register c.loop-block.history) c.loop-block.block c.loop-block.invalid c.loop-block.numbers c.loop-block-test.true c.loop-block.invariant.5 _ c.erase_block-done.result.outcome _ _ c.erase_block-done.ensures (passed_by_is _ c.in-Passed.is) c.note_failed.ensures c.join-numbers.ensures,
)

pub shape_of-array : goal.shape_of-array
shape_of-array c = c.loop-block.invariant.1

pub shape_of-register : goal.shape_of-register
shape_of-register c = c.loop-block.invariant.2

pub shape_of-history : goal.shape_of-history
shape_of-history c = c.loop-block.invariant.3

pub shape_of-page : goal.shape_of-page
shape_of-page c = c.loop-block.invariant.4

pub returns : goal.returns
returns c =
    round-ends _ _ _ _ c.loop-block.block c.loop-block.invalid c.loop-block.numbers (omega arith) c.loop-block.invariant.5
