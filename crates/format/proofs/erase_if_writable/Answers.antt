-- `format::erase_if_writable` meets its contract. Assumes nothing.
use mathlib.Core.Path.{◌∙◌}
use native.Mathlib.Omega.{arith}
use borrow.Author.Rules.{rules}
use Rattle.geometry.proofs.SizeLaws.{page_size_most}
use Rattle.chip_array.specs.Device.{setting}
use Rattle.bus.specs.Line.{line}
use Rattle.bus_polling.proofs.OutcomeLaws.{passed_by_is, other_by_not}
use Rattle.request.proofs.CallLaws.{lent-page}
use Rattle.fill_tables.proofs.StatusLaws.{status_stops, status_goes}
use Rattle.format.specs.Format.{round_run, status_run}
use Rattle.format.proofs.WholeLaws.{status_left, status_called}
use Rattle.format.proofs.erase_if_writable.Goals as goal

pub end-requires : goal.end-requires
end-requires c =
    omega (arith, c.requires.left_le_allowed, status_left (setting c.args.g c.args.mask.now c.args.fates.now) (line c.args.from c.args.array.now c.args.register.now c.args.history.now) _ c.read_status-shown.ensures.history_after)

pub returns-in_default : goal.returns-in_default
unfolding status_run
returns-in_default c =
    λ cs os. c.end.ensures _ _ _ ∙ status_stops (setting c.args.g c.args.mask.now c.args.fates.now) c.args.allowed c.args.state (line c.args.from c.args.array.now c.args.register.now c.args.history.now) _ c.read_status-shown.result.outcome c.read_status-shown.ensures.history_after c.read_status-shown.ensures.outcome_value _ _ (other_by_not _ c.in_default.not-Passed) c.status_answer-answer.ensures c.status_state.ensures cs os _

pub slice_bounds-page-end : goal.slice_bounds-page-end
slice_bounds-page-end c =
    search (rules, c.page_size-size.ensures, page_size_most c.args.g c.requires.called.is_valid)

pub erase_and_fill-requires : goal.erase_and_fill-requires
erase_and_fill-requires c =
    let set = setting c.args.g c.args.mask.now c.args.fates.now in
    let l = line c.args.from c.args.array.now c.args.register.now c.args.history.now in record { called = status_called set l _ _ c.read_status-shown.ensures.history_after c.read_status-shown.ensures.outcome_value (passed_by_is _ c.in-Passed.is) c.requires.called; page_len = lent-page _ _ (omega (arith, c.page_size-size.ensures, page_size_most c.args.g c.requires.called.is_valid)) c.page_size-size.ensures; left_le_allowed = omega (arith, c.requires.left_le_allowed, status_left set l _ c.read_status-shown.ensures.history_after) }

pub shape_of-array : goal.shape_of-array
shape_of-array c = c.array-2-1.given ∙ c.array-1.given

pub shape_of-register : goal.shape_of-register
shape_of-register c = c.register-2-1.given ∙ c.register-1.given

pub shape_of-history : goal.shape_of-history
shape_of-history c = c.history-2-1.given ∙ c.history-1.given

pub returns : goal.returns
unfolding status_run
returns c =
    let set = setting c.args.g c.args.mask.now c.args.fates.now in
    λ cs os. status_goes set c.args.allowed c.args.state (line c.args.from c.args.array.now c.args.register.now c.args.history.now) _ c.read_status-shown.result.outcome c.read_status-shown.ensures.history_after c.read_status-shown.ensures.outcome_value (round_run set c.args.survey) _ (passed_by_is _ c.in-Passed.is) c.erase_and_fill.ensures cs os
