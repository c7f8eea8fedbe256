-- `open_requests::open` meets its contract. Assumes nothing.
use mathlib.Core.Path.{ap, ◌∙◌}
use native.Mathlib.Omega.{arith}
use Rattle.chip_array.specs.Device.{device, setting}
use Rattle.bus.specs.Line.{line, send_all}
use Rattle.bus.specs.declared.Bus.{Bus}
use Rattle.bus_sequences.specs.Cycles.{status_cycles}
use Rattle.request.specs.Call.{call_line}
use Rattle.write.proofs.EndLaws.{call_lent, status_left}
use Rattle.open_write.specs.Open.{open_state}
use Rattle.open_requests.proofs.EndLaws.{page_kept, open_refused, open_accepted, open_inside, open_ends}
use Rattle.open_requests.proofs.open.Goals as goal

pub returns-then-refused-ne0 : goal.returns-then-refused-ne0
returns-then-refused-ne0 c =
    let set = setting c.args.g c.args.mask.now c.args.fates.now in
    let d = device c.args.interface c.args.array.now c.args.register.now c.args.history.now in
    let x = open_state c.args.state c.args.write c.args.kept.now in
    open_refused set d c.args.allowed x c.args.logical c.args.page c.args.bytes.now c.opening_refusal-refused.result c.opening_refusal-refused.ensures c.if-refused-ne0.true (c.unchanged-returned.ensures _ _ _)

pub settle-requires : goal.settle-requires
settle-requires c =
    let set = setting c.args.g c.args.mask.now c.args.fates.now in
    let d = device c.args.interface c.args.array.now c.args.register.now c.args.history.now in
    let x = open_state c.args.state c.args.write c.args.kept.now in
    let line_is = c.read_status-shown.ensures.history_after ∙ ap (λ (b : Bus). send_all set (line b c.args.array.now c.args.register.now c.args.history.now) status_cycles) c.begin-from.ensures in
    let a = open_accepted set d c.args.allowed x c.args.logical c.args.page c.args.bytes.now c.opening_refusal-refused.result c.opening_refusal-refused.ensures c.if-refused-ne0.false in
    let v = (call_lent set d c.args.allowed a.sizes_fit).is_valid in
    let long = page_kept c.args.g v x (open_inside set d c.args.allowed x c.args.logical c.args.page c.args.bytes.now c.opening_refusal-refused.result c.opening_refusal-refused.ensures c.if-refused-ne0.false) in record { left_le_allowed = status_left set (call_line d c.args.allowed) _ _ line_is c.read_status-shown.ensures.outcome_value; logical_bound = omega (arith, a.logical_below, v.logical_most, v.blocks_most); bytes_in_bounds = omega (arith, a.buffer_long, v.main_most, long) }

pub returns : goal.returns
returns c =
    let set = setting c.args.g c.args.mask.now c.args.fates.now in
    let d = device c.args.interface c.args.array.now c.args.register.now c.args.history.now in
    let x = open_state c.args.state c.args.write c.args.kept.now in
    let line_is = c.read_status-shown.ensures.history_after ∙ ap (λ (b : Bus). send_all set (line b c.args.array.now c.args.register.now c.args.history.now) status_cycles) c.begin-from.ensures in
    open_ends set d c.args.allowed x c.args.logical c.args.page c.args.bytes.now c.opening_refusal-refused.result c.opening_refusal-refused.ensures c.if-refused-ne0.false _ c.read_status-shown.result.outcome line_is c.read_status-shown.ensures.outcome_value _ (λ cs os. c.settle.ensures _ _ _ cs os)
