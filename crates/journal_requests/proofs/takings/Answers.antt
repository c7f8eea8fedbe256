-- `journal_requests::takings` meets its contract. Assumes nothing.
use mathlib.Core.Path.{refl, sym, ◌∙◌}
use Rattle.chip_array.specs.Device.{device, setting}
use Rattle.bus_polling.proofs.OutcomeLaws.{passed_by_is, other_by_not}
use Rattle.journal.specs.Records.{room}
use Rattle.journal_requests.specs.Requests.{journal_pages}
use Rattle.journal_requests.proofs.EndLaws.{accepted, records-most, told_here, summed_here, takings_refused, takings_stops, takings_ends}
use Rattle.journal_requests.proofs.takings.Goals as goal

pub returns-then-refused-ne0 : goal.returns-then-refused-ne0
returns-then-refused-ne0 c =
    let set = (setting c.args.g c.args.mask.now c.args.fates.now) in
    let d = (device c.args.interface c.args.array.now c.args.register.now c.args.history.now) in
    takings_refused set d c.args.allowed c.args.state c.refusal-refused.result c.refusal-refused.ensures c.if-refused-ne0.true (c.unchanged.ensures _ _ _)

pub survey-found-requires : goal.survey-found-requires
survey-found-requires c =
    let set = (setting c.args.g c.args.mask.now c.args.fates.now) in
    let d = (device c.args.interface c.args.array.now c.args.register.now c.args.history.now) in
    let a = accepted c.args.g _ c.args.state (sym c.refusal-refused.ensures ∙ c.if-refused-ne0.false) in record { mask_value = a.0; logical_value = a.1; replaced_value = refl }

pub returns-in_default : goal.returns-in_default
returns-in_default c =
    let set = (setting c.args.g c.args.mask.now c.args.fates.now) in
    let d = (device c.args.interface c.args.array.now c.args.register.now c.args.history.now) in
    let a = accepted c.args.g _ c.args.state (sym c.refusal-refused.ensures ∙ c.if-refused-ne0.false) in
    takings_stops set d c.args.allowed c.args.state c.refusal-refused.result c.refusal-refused.ensures c.if-refused-ne0.false _ c.survey-found.result.outcome c.survey-found.result.records _ c.survey-found.ensures (other_by_not _ c.in_default.not-Passed) (c.stop.ensures _ _ _)

pub add_up-requires : goal.add_up-requires
add_up-requires c =
    let set = (setting c.args.g c.args.mask.now c.args.fates.now) in
    let d = (device c.args.interface c.args.array.now c.args.register.now c.args.history.now) in
    let a = accepted c.args.g _ c.args.state (sym c.refusal-refused.ensures ∙ c.if-refused-ne0.false) in
    let t = passed_by_is _ c.in-Passed.is in record { lent = c.survey-found.ensures.ran.next t; left_le_allowed = c.survey-found.ensures.ran.left_most; logical_value = a.1; replaced_len = (c.replaced-2-1.given, records-most (journal_pages set d c.args.state) (room c.args.g) c.survey-found.result.records (c.survey-found.ensures.records_are t)); told = told_here c.args.g c.args.state.map c.args.state.kinds c.survey-found.result.records _ c.survey-found.ensures.ran.same_array (c.survey-found.ensures.bits_are t) }

pub returns : goal.returns
returns c =
    let set = (setting c.args.g c.args.mask.now c.args.fates.now) in
    let d = (device c.args.interface c.args.array.now c.args.register.now c.args.history.now) in
    let a = accepted c.args.g _ c.args.state (sym c.refusal-refused.ensures ∙ c.if-refused-ne0.false) in
    let t = passed_by_is _ c.in-Passed.is in
    takings_ends set d c.args.allowed c.args.state c.refusal-refused.result c.refusal-refused.ensures c.if-refused-ne0.false _ c.survey-found.result.outcome c.survey-found.result.records _ c.survey-found.ensures t (summed_here set c.args.allowed c.args.state c.survey-found.result.records _ c.survey-found.ensures.ran.same_array c.add_up.ensures)
