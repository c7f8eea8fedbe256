-- `format::erase_and_fill` meets its contract. Assumes nothing.
use mathlib.Core.Path.{◌≡◌, ◌∙◌}
use native.Mathlib.Omega.{arith}
use lib.ListN.{length}
use Rattle.chip_array.specs.Device.{setting}
use Rattle.bus.specs.Line.{line}
use Rattle.bus_polling.proofs.OutcomeLaws.{passed_by_is, other_by_not}
use Rattle.format.proofs.WholeLaws.{round-left, round_stop, round_goes_on}
use borrow.Author.Rules.{rules}
use Rattle.format.proofs.erase_and_fill.Goals as goal

pub erase_all-erased-requires : goal.erase_all-erased-requires
erase_all-erased-requires c = record { called = c.requires.called; page_len = c.requires.page_len }

pub end-requires : goal.end-requires
end-requires c =
    let set = setting c.args.g c.args.mask.now c.args.fates.now in
    let l = line c.args.from c.args.array.now c.args.register.now c.args.history.now in
    omega (arith, c.requires.left_le_allowed, round-left set _ l _ _ _ _ c.erase_all-erased.ensures)

pub returns-in_default : goal.returns-in_default
returns-in_default c =
    let set = setting c.args.g c.args.mask.now c.args.fates.now in
    let l = line c.args.from c.args.array.now c.args.register.now c.args.history.now in
    λ cs os. c.end.ensures _ _ _ ∙ round_stop set c.args.allowed c.args.survey _ c.passed_over-skip.ensures l _ c.erase_all-erased.result.outcome _ _ c.erase_all-erased.ensures (other_by_not _ c.in_default.not-Passed) _ _ c.stop_answer.ensures c.blank.ensures cs os

pub add_bits-requires : goal.add_bits-requires
add_bits-requires c =
    let carried_long : length c.args.survey.carried ≡ 512 = search rules in
    record { blocks_bound = omega (arith, c.requires.called.is_valid.blocks_most); bits_len = carried_long }

pub fill_first-requires : goal.fill_first-requires
fill_first-requires c =
    let set = setting c.args.g c.args.mask.now c.args.fates.now in
    let l = line c.args.from c.args.array.now c.args.register.now c.args.history.now in record { called = c.erase_all-erased.ensures.next (passed_by_is _ c.in-Passed.is); page_len = c.page-1.given ∙ c.requires.page_len; left_le_allowed = omega (arith, c.requires.left_le_allowed, round-left set _ l _ _ _ _ c.erase_all-erased.ensures) }

pub shape_of-array : goal.shape_of-array
shape_of-array c = c.array-2-1.given ∙ c.array-1.given

pub shape_of-register : goal.shape_of-register
shape_of-register c = c.register-2-1.given ∙ c.register-1.given

pub shape_of-history : goal.shape_of-history
shape_of-history c = c.history-2-1.given ∙ c.history-1.given

pub shape_of-page : goal.shape_of-page
shape_of-page c = c.page-2-1.given ∙ c.page-1.given

pub returns : goal.returns
returns c =
    let set = setting c.args.g c.args.mask.now c.args.fates.now in
    let l = line c.args.from c.args.array.now c.args.register.now c.args.history.now in
    λ cs os. round_goes_on set c.args.allowed c.args.survey _ c.passed_over-skip.ensures l _ c.erase_all-erased.result.outcome _ _ c.erase_all-erased.ensures (passed_by_is _ c.in-Passed.is) _ c.add_bits.ensures _ c.greater-greatest.ensures _ c.fill_first.ensures cs os
