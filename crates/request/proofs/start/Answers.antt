-- `request::start` meets its contract. Assumes nothing.
use mathlib.Core.Path.{refl, sym, ap, ◌∙◌}
use Rattle.chip_array.specs.Device.{device, setting}
use Rattle.bus.specs.Line.{line, send_all}
use Rattle.bus.specs.declared.Bus.{Bus}
use Rattle.bus_sequences.specs.Cycles.{reset_cycles}
use Rattle.request.specs.Call.{answer_for}
use Rattle.request.proofs.StartLaws.{start_refused, start_sized}
use Rattle.request.proofs.start.Goals as goal

pub returns-then-not-is_sized : goal.returns-then-not-is_sized
returns-then-not-is_sized c =
    let set = setting c.args.g c.args.mask.now c.args.fates.now in
    let d = device c.args.interface c.args.array.now c.args.register.now c.args.history.now in
    start_refused set d c.args.allowed 1 _ (sym c.is_sized.ensures ∙ c.if-not-is_sized.true) refl refl refl refl

pub returns : goal.returns
returns c =
    let set = setting c.args.g c.args.mask.now c.args.fates.now in
    let d = device c.args.interface c.args.array.now c.args.register.now c.args.history.now in
    let from = ap (λ (b : Bus). send_all set (line b c.args.array.now c.args.register.now c.args.history.now) reset_cycles) c.begin-from.ensures in
    start_sized set d c.args.allowed _ _ (sym c.is_sized.ensures ∙ c.if-not-is_sized.false) (c.reset-done.ensures.history_after ∙ from) (c.answer_for.ensures ∙ ap answer_for c.reset-done.ensures.outcome_value)
