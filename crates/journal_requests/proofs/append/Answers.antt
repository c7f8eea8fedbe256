-- `journal_requests::append` meets its contract. Assumes nothing.
use Prim.Native.Nat.{ℕ}
use mathlib.Core.Path.{refl, sym, ap₂, ◌∙◌}
use Rattle.chip_array.specs.Device.{device, setting}
use Rattle.bus_polling.proofs.OutcomeLaws.{passed_by_is, other_by_not}
use Rattle.request.proofs.CallLaws.{sizes}
use Rattle.journal.specs.Records.{room}
use Rattle.journal_requests.specs.Requests.{journal_pages, append_refusal}
use Rattle.journal_requests.proofs.EndLaws.{accepted, last_below, has_room, append_refused, append_stops, append_late, append_ends}
use Rattle.journal_requests.proofs.append.Goals as goal

pub returns-then-refused-ne0 : goal.returns-then-refused-ne0
returns-then-refused-ne0 c =
    let set = (setting c.args.g c.args.mask.now c.args.fates.now) in
    let d = (device c.args.interface c.args.array.now c.args.register.now c.args.history.now) in
    append_refused set d c.args.allowed c.args.state c.refusal-refused.result c.refusal-refused.ensures c.args.sale c.if-refused-ne0.true (c.unchanged.ensures _ _ _)

pub survey-found-requires : goal.survey-found-requires
survey-found-requires c =
    let set = (setting c.args.g c.args.mask.now c.args.fates.now) in
    let d = (device c.args.interface c.args.array.now c.args.register.now c.args.history.now) in
    let a = accepted c.args.g _ c.args.state (sym c.refusal-refused.ensures ∙ c.if-refused-ne0.false) in record { mask_value = a.0; logical_value = a.1; replaced_value = refl }

pub returns-in_default : goal.returns-in_default
returns-in_default c =
    let set = (setting c.args.g c.args.mask.now c.args.fates.now) in
    let d = (device c.args.interface c.args.array.now c.args.register.now c.args.history.now) in
    let a = accepted c.args.g _ c.args.state (sym c.refusal-refused.ensures ∙ c.if-refused-ne0.false) in
    append_stops set d c.args.allowed c.args.state c.refusal-refused.result c.refusal-refused.ensures c.if-refused-ne0.false _ c.survey-found.result.outcome c.survey-found.result.records _ c.survey-found.ensures c.args.sale (other_by_not _ c.in_default.not-Passed) (c.stop.ensures _ _ _)

pub room_for-requires : goal.room_for-requires
room_for-requires c =
    let set = (setting c.args.g c.args.mask.now c.args.fates.now) in
    let d = (device c.args.interface c.args.array.now c.args.register.now c.args.history.now) in
    let a = accepted c.args.g _ c.args.state (sym c.refusal-refused.ensures ∙ c.if-refused-ne0.false) in
    (sizes _ _ _ _ _ a.0).chip_fits.is_valid

pub append_refusal-late-requires : goal.append_refusal-late-requires
append_refusal-late-requires c = record { replaced_len = c.replaced-2-1.given; target_bound = c.wide.ensures.1 }

pub shape_of-array-then-late-ne0 : goal.shape_of-array-then-late-ne0
shape_of-array-then-late-ne0 c = c.array-1.given

pub shape_of-register-then-late-ne0 : goal.shape_of-register-then-late-ne0
shape_of-register-then-late-ne0 c = c.register-1.given

pub shape_of-history-then-late-ne0 : goal.shape_of-history-then-late-ne0
shape_of-history-then-late-ne0 c = c.history-1.given

pub returns-then-late-ne0 : goal.returns-then-late-ne0
returns-then-late-ne0 c =
    let set = (setting c.args.g c.args.mask.now c.args.fates.now) in
    let d = (device c.args.interface c.args.array.now c.args.register.now c.args.history.now) in
    let a = accepted c.args.g _ c.args.state (sym c.refusal-refused.ensures ∙ c.if-refused-ne0.false) in
    let t = passed_by_is _ c.in-Passed.is in
    let late = c.append_refusal-late.ensures (journal_pages set d c.args.state) (c.survey-found.ensures.bits_are t) ∙ ap₂ (λ (x y : ℕ). append_refusal (journal_pages set d c.args.state) x c.survey-found.result.records y) c.room_for.ensures c.wide.ensures.0 in
    append_late set d c.args.allowed c.args.state c.refusal-refused.result c.refusal-refused.ensures c.if-refused-ne0.false _ c.survey-found.result.outcome c.survey-found.result.records _ c.survey-found.ensures t c.args.sale _ late c.if-late-ne0.true (c.end.ensures _ _ _)

pub enter-requires : goal.enter-requires
enter-requires c =
    let set = (setting c.args.g c.args.mask.now c.args.fates.now) in
    let d = (device c.args.interface c.args.array.now c.args.register.now c.args.history.now) in
    let a = accepted c.args.g _ c.args.state (sym c.refusal-refused.ensures ∙ c.if-refused-ne0.false) in
    let t = passed_by_is _ c.in-Passed.is in
    let late = c.append_refusal-late.ensures (journal_pages set d c.args.state) (c.survey-found.ensures.bits_are t) ∙ ap₂ (λ (x y : ℕ). append_refusal (journal_pages set d c.args.state) x c.survey-found.result.records y) c.room_for.ensures c.wide.ensures.0 in record { lent = c.survey-found.ensures.ran.next t; left_le_allowed = c.survey-found.ensures.ran.left_most; last_lt_blocks = last_below c.args.g c.args.state (sizes _ _ _ _ _ a.0).chip_fits.is_valid a.1; records_bound = has_room (journal_pages set d c.args.state) (room c.args.g) c.survey-found.result.records c.args.sale.replaces (sym late ∙ c.if-late-ne0.false) }

pub shape_of-array : goal.shape_of-array
shape_of-array c = c.array-2-1.given ∙ c.array-1.given

pub shape_of-register : goal.shape_of-register
shape_of-register c = c.register-2-1.given ∙ c.register-1.given

pub shape_of-history : goal.shape_of-history
shape_of-history c = c.history-2-1.given ∙ c.history-1.given

pub returns : goal.returns
returns c =
    let set = (setting c.args.g c.args.mask.now c.args.fates.now) in
    let d = (device c.args.interface c.args.array.now c.args.register.now c.args.history.now) in
    let a = accepted c.args.g _ c.args.state (sym c.refusal-refused.ensures ∙ c.if-refused-ne0.false) in
    let t = passed_by_is _ c.in-Passed.is in
    let late = c.append_refusal-late.ensures (journal_pages set d c.args.state) (c.survey-found.ensures.bits_are t) ∙ ap₂ (λ (x y : ℕ). append_refusal (journal_pages set d c.args.state) x c.survey-found.result.records y) c.room_for.ensures c.wide.ensures.0 in
    append_ends set d c.args.allowed c.args.state c.refusal-refused.result c.refusal-refused.ensures c.if-refused-ne0.false _ c.survey-found.result.outcome c.survey-found.result.records _ c.survey-found.ensures t c.args.sale _ late c.if-late-ne0.false c.enter.ensures
