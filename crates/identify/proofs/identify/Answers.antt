-- `identify::identify` meets its contract. Assumes nothing.
use Prim.Native.Nat.{ℕ}
use mathlib.Core.List.{List}
use mathlib.Core.Path.{ap, ap₂, ◌∙◌}
use borrow.Author.Tests.{ne_eqb}
use lib.ListN.{length}
use Rattle.chip_array.specs.Device.{device}
use Rattle.bus_polling.proofs.OutcomeLaws.{passed_by_is, other_by_not}
use Rattle.parameters.specs.Page.{told}
use Rattle.request.specs.Call.{Result, result_of}
use Rattle.identify.specs.Identify.{identified, identify_request}
use Rattle.identify.proofs.FetchLaws.{ends-stopped, ends_told}
use Rattle.identify.proofs.identify.Goals as goal

pub returns-then-parameters-ne-PARAMETERS : goal.returns-then-parameters-ne-PARAMETERS
unfolding result_of identify_request
returns-then-parameters-ne-PARAMETERS c = ap₂ identified (c.unchanged.ensures _ _ _) c.no_sizes.ensures ∙ rw (ne_eqb (length c.args.parameters.now) 768 c.if-parameters-ne-PARAMETERS.true)

pub returns-in_default : goal.returns-in_default
returns-in_default c =
    let d = device c.args.interface c.args.array.now c.args.register.now c.args.history.now in
    let stopped = other_by_not c.fetch-done.result.outcome c.in_default.not-Passed in
    ap (λ (x : Result). identified x c.no_sizes-in_default.result) (c.end.ensures _ _ _)
    ∙ ends-stopped c.args.mask.now c.args.fates.now d c.args.allowed c.args.state c.args.parameters.now c.args.logical c.if-parameters-ne-PARAMETERS.false _ c.fetch-done.result.outcome c.fetch-done.ensures.history_after c.fetch-done.ensures.outcome_value stopped _ _ _ c.stop_answer-answer.ensures c.blank.ensures c.no_sizes-in_default.ensures

pub returns : goal.returns
returns c =
    let d = device c.args.interface c.args.array.now c.args.register.now c.args.history.now in
    let passed = passed_by_is c.fetch-done.result.outcome c.in-Passed.is in
    let ended = rw c.answer_by.ensures at (c.end-2.ensures c.fetch-done.new.array c.fetch-done.new.register c.fetch-done.new.history) in
    ap₂ identified ended c.sizes_by.ensures
    ∙ ends_told c.args.mask.now c.args.fates.now d c.args.allowed c.args.state c.args.parameters.now c.args.logical c.if-parameters-ne-PARAMETERS.false _ c.fetch-done.result.outcome c.fetch-done.ensures.history_after c.fetch-done.ensures.outcome_value passed _ (c.tell-told.ensures ∙ ap (λ (xs : List ℕ). told xs c.args.logical) (c.fetch-done.ensures.fact.0 passed))
