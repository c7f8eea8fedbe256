-- `write::write` meets its contract. Assumes nothing.
use mathlib.Core.List.{[]}
use mathlib.Core.Path.{refl, sym, ap, ◌∙◌}
use native.Mathlib.Nat.{one-mul}
use lib.ListN.{length}
use Rattle.chip_array.specs.Device.{device, setting}
use Rattle.bus.specs.Line.{line, send_all}
use Rattle.bus.specs.declared.Bus.{Bus}
use Rattle.bus_polling.proofs.OutcomeLaws.{passed_by_is, other_by_not}
use Rattle.bus_sequences.specs.Cycles.{status_cycles}
use Rattle.request.specs.Call.{call_line}
use Rattle.fill_tables.proofs.StatusLaws.{status_stops, status_goes}
use Rattle.write_changes.specs.Changes.{change_run}
use Rattle.write.specs.Update.{update}
use Rattle.write.proofs.EndLaws.{call_lent, not_refused, last_below, in_map, write_refused, write_ends, status_left, status_lent}
use borrow.Author.Rules.{rules}
use Rattle.write.proofs.write.Goals as goal

pub returns-then-refused-ne0 : goal.returns-then-refused-ne0
returns-then-refused-ne0 c =
    let set = setting c.args.g c.args.mask.now c.args.fates.now in
    let d = device c.args.interface c.args.array.now c.args.register.now c.args.history.now in
    write_refused set d c.args.allowed c.args.state c.args.logical c.args.page c.args.bytes.now c.refusal-refused.result c.refusal-refused.ensures c.if-refused-ne0.true (c.unchanged.ensures _ _ _)

pub stop-requires : goal.stop-requires
stop-requires c =
    let set = setting c.args.g c.args.mask.now c.args.fates.now in
    let d = device c.args.interface c.args.array.now c.args.register.now c.args.history.now in
    let line_is = c.read_status-shown.ensures.history_after ∙ ap (λ (x : Bus). send_all set (line x c.args.array.now c.args.register.now c.args.history.now) status_cycles) c.begin-from.ensures in
    status_left set (call_line d c.args.allowed) _ _ line_is c.read_status-shown.ensures.outcome_value

pub returns-in_default : goal.returns-in_default
returns-in_default c =
    let set = setting c.args.g c.args.mask.now c.args.fates.now in
    let d = device c.args.interface c.args.array.now c.args.register.now c.args.history.now in
    let line_is = c.read_status-shown.ensures.history_after ∙ ap (λ (x : Bus). send_all set (line x c.args.array.now c.args.register.now c.args.history.now) status_cycles) c.begin-from.ensures in
    write_ends set d c.args.allowed c.args.state c.args.logical c.args.page c.args.bytes.now c.refusal-refused.result c.refusal-refused.ensures c.if-refused-ne0.false _ refl
    (c.stop.ensures _ _ _
    ∙ status_stops set c.args.allowed c.args.state (call_line d c.args.allowed) _ _ line_is c.read_status-shown.ensures.outcome_value _ _ (other_by_not _ c.in_default.not-Passed) refl refl [] [] _)

pub offset_bounds-map-logical : goal.offset_bounds-map-logical
offset_bounds-map-logical c =
    let set = setting c.args.g c.args.mask.now c.args.fates.now in
    let d = device c.args.interface c.args.array.now c.args.register.now c.args.history.now in
    search (rules, in_map set d c.args.state c.args.logical c.args.page (length c.args.bytes.now) (sym c.refusal-refused.ensures ∙ c.if-refused-ne0.false))

pub bounds-map-logical : goal.bounds-map-logical
bounds-map-logical c =
    let set = setting c.args.g c.args.mask.now c.args.fates.now in
    let d = device c.args.interface c.args.array.now c.args.register.now c.args.history.now in
    in_map set d c.args.state c.args.logical c.args.page (length c.args.bytes.now) (sym c.refusal-refused.ensures ∙ c.if-refused-ne0.false)

pub fill-requires : goal.fill-requires
fill-requires c =
    let set = setting c.args.g c.args.mask.now c.args.fates.now in
    let d = device c.args.interface c.args.array.now c.args.register.now c.args.history.now in
    let line_is = c.read_status-shown.ensures.history_after ∙ ap (λ (x : Bus). send_all set (line x c.args.array.now c.args.register.now c.args.history.now) status_cycles) c.begin-from.ensures in
    let none = (sym c.refusal-refused.ensures ∙ c.if-refused-ne0.false) in
    let a = not_refused set d c.args.state c.args.logical c.args.page (length c.args.bytes.now) none in record { lent = status_lent set (call_line d c.args.allowed) _ _ line_is c.read_status-shown.ensures.outcome_value (passed_by_is _ c.in-Passed.is) (call_lent set d c.args.allowed a.sizes_fit) c.array-1.given c.register-1.given c.history-1.given; left_le_allowed = status_left set (call_line d c.args.allowed) _ _ line_is c.read_status-shown.ensures.outcome_value; last_lt_blocks = last_below set d c.args.state c.args.logical c.args.page (length c.args.bytes.now) none; logical_lt_logical = a.logical_below; bytes_len = a.buffer_long ∙ sym (one-mul c.args.g.main) }

pub shape_of-array : goal.shape_of-array
shape_of-array c = c.array-2-1.given ∙ c.array-1.given

pub returns : goal.returns
returns c =
    let set = setting c.args.g c.args.mask.now c.args.fates.now in
    let d = device c.args.interface c.args.array.now c.args.register.now c.args.history.now in
    let line_is = c.read_status-shown.ensures.history_after ∙ ap (λ (x : Bus). send_all set (line x c.args.array.now c.args.register.now c.args.history.now) status_cycles) c.begin-from.ensures in
    let u = update c.args.logical c.wide-old.result c.args.page 1 c.args.bytes.now in
    write_ends set d c.args.allowed c.args.state c.args.logical c.args.page c.args.bytes.now c.refusal-refused.result c.refusal-refused.ensures c.if-refused-ne0.false c.wide-old.result c.wide-old.ensures
    (status_goes set c.args.allowed c.args.state (call_line d c.args.allowed) _ _ line_is c.read_status-shown.ensures.outcome_value (change_run set c.args.state u) _ (passed_by_is _ c.in-Passed.is) c.fill.ensures [] [])
