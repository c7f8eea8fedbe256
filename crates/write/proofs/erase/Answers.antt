-- `write::erase` meets its contract. Assumes nothing.
use mathlib.Core.List.{[]}
use mathlib.Core.Path.{refl, sym, ap, ◌∙◌}
use native.Mathlib.Nat.{zero-mul}
use Rattle.chip_array.specs.Device.{device, setting}
use Rattle.bus.specs.Line.{line, send_all}
use Rattle.bus.specs.declared.Bus.{Bus}
use Rattle.bus_polling.proofs.OutcomeLaws.{passed_by_is, other_by_not}
use Rattle.bus_sequences.specs.Cycles.{status_cycles}
use Rattle.request.specs.Call.{call_line}
use Rattle.fill_tables.proofs.StatusLaws.{status_stops, status_goes}
use Rattle.write_changes.specs.Changes.{change_run, erase_update}
use Rattle.write.proofs.EndLaws.{call_lent, not_refused, last_below, erase_refused, erase_ends, status_left, status_lent}
use Rattle.write.proofs.erase.Goals as goal

pub returns-then-refused-ne0 : goal.returns-then-refused-ne0
returns-then-refused-ne0 c =
    let set = setting c.args.g c.args.mask.now c.args.fates.now in
    let d = device c.args.interface c.args.array.now c.args.register.now c.args.history.now in
    erase_refused set d c.args.allowed c.args.state c.args.logical c.refusal-refused.result c.refusal-refused.ensures c.if-refused-ne0.true (c.unchanged.ensures _ _ _)

pub stop-requires : goal.stop-requires
stop-requires c =
    let set = setting c.args.g c.args.mask.now c.args.fates.now in
    let d = device c.args.interface c.args.array.now c.args.register.now c.args.history.now in
    let line_is = c.read_status-shown.ensures.history_after ∙ ap (λ (x : Bus). send_all set (line x c.args.array.now c.args.register.now c.args.history.now) status_cycles) c.begin-from.ensures in
    status_left set (call_line d c.args.allowed) _ _ line_is c.read_status-shown.ensures.outcome_value

pub returns-in_default : goal.returns-in_default
returns-in_default c =
    let set = setting c.args.g c.args.mask.now c.args.fates.now in
    let d = device c.args.interface c.args.array.now c.args.register.now c.args.history.now in
    let line_is = c.read_status-shown.ensures.history_after ∙ ap (λ (x : Bus). send_all set (line x c.args.array.now c.args.register.now c.args.history.now) status_cycles) c.begin-from.ensures in
    erase_ends set d c.args.allowed c.args.state c.args.logical c.refusal-refused.result c.refusal-refused.ensures c.if-refused-ne0.false
    (c.stop.ensures _ _ _
    ∙ status_stops set c.args.allowed c.args.state (call_line d c.args.allowed) _ _ line_is c.read_status-shown.ensures.outcome_value _ _ (other_by_not _ c.in_default.not-Passed) refl refl [] [] _)

pub fill-requires : goal.fill-requires
fill-requires c =
    let set = setting c.args.g c.args.mask.now c.args.fates.now in
    let d = device c.args.interface c.args.array.now c.args.register.now c.args.history.now in
    let line_is = c.read_status-shown.ensures.history_after ∙ ap (λ (x : Bus). send_all set (line x c.args.array.now c.args.register.now c.args.history.now) status_cycles) c.begin-from.ensures in
    let none = (sym c.refusal-refused.ensures ∙ c.if-refused-ne0.false) in
    let a = not_refused set d c.args.state c.args.logical 0 c.args.g.main none in record { lent = status_lent set (call_line d c.args.allowed) _ _ line_is c.read_status-shown.ensures.outcome_value (passed_by_is _ c.in-Passed.is) (call_lent set d c.args.allowed a.sizes_fit) c.array-1.given c.register-1.given c.history-1.given; left_le_allowed = status_left set (call_line d c.args.allowed) _ _ line_is c.read_status-shown.ensures.outcome_value; last_lt_blocks = last_below set d c.args.state c.args.logical 0 c.args.g.main none; logical_lt_logical = a.logical_below; bytes_len = sym (zero-mul c.args.g.main) }

pub returns : goal.returns
returns c =
    let set = setting c.args.g c.args.mask.now c.args.fates.now in
    let d = device c.args.interface c.args.array.now c.args.register.now c.args.history.now in
    let line_is = c.read_status-shown.ensures.history_after ∙ ap (λ (x : Bus). send_all set (line x c.args.array.now c.args.register.now c.args.history.now) status_cycles) c.begin-from.ensures in
    let u = erase_update c.args.logical in
    erase_ends set d c.args.allowed c.args.state c.args.logical c.refusal-refused.result c.refusal-refused.ensures c.if-refused-ne0.false
    (status_goes set c.args.allowed c.args.state (call_line d c.args.allowed) _ _ line_is c.read_status-shown.ensures.outcome_value (change_run set c.args.state u) _ (passed_by_is _ c.in-Passed.is) c.fill.ensures [] [])
