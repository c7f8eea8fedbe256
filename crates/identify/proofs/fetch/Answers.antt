-- `identify::fetch` meets its contract. Assumes nothing.
use mathlib.Core.Path.{◌≡◌, sym, ap, ◌∙◌}
use Rattle.bools.proofs.BoolLaws.{clash}
use Rattle.geometry.specs.declared.Geometry.{Geometry}
use Rattle.chip_array.specs.Device.{device, setting}
use Rattle.bus.specs.Line.{line, send_all}
use Rattle.bus_polling.specs.Outcomes.{is_passed}
use Rattle.bus_polling.proofs.OutcomeLaws.{passed_by_is, other_by_not}
use Rattle.bus_sequences.specs.Cycles.{reset_cycles}
use Rattle.request.specs.Start.{start_line}
use Rattle.identify.specs.Identify.{unknown}
use Rattle.identify.proofs.FetchLaws.{cycles_as, outcome_as, bytes_as, run_stops, run_goes, start_left, page_left, page_read_lem}
use Rattle.identify.proofs.fetch.Goals as goal

pub returns-in_default : goal.returns-in_default
returns-in_default c =
    let set = setting unknown c.args.mask.now c.args.fates.now in
    let d = device c.args.interface c.args.array.now c.args.register.now c.args.history.now in
    let start : _ ≡ start_line set d c.args.allowed = c.reset-reset.ensures.history_after ∙ (λ i. send_all (setting (c.unknown_geometry-g.ensures i) c.args.mask.now c.args.fates.now) (line (c.begin-from.ensures i) c.args.array.now c.args.register.now c.args.history.now) reset_cycles) in
    let stopped = other_by_not c.reset-reset.result.outcome c.in_default.not-Passed in
    let r = run_stops set d c.args.allowed c.args.parameters.now _ _ start c.reset-reset.ensures.outcome_value stopped in record { history_after = r.0; outcome_value = r.1; fact = (λ t. clash t stopped, start_left set d c.args.allowed c.args.parameters.now _ start) }

pub returns : goal.returns
returns c =
    let set = setting unknown c.args.mask.now c.args.fates.now in
    let d = device c.args.interface c.args.array.now c.args.register.now c.args.history.now in
    let start : _ ≡ start_line set d c.args.allowed = c.reset-reset.ensures.history_after ∙ (λ i. send_all (setting (c.unknown_geometry-g.ensures i) c.args.mask.now c.args.fates.now) (line (c.begin-from.ensures i) c.args.array.now c.args.register.now c.args.history.now) reset_cycles) in
    let given = ap (λ (g : Geometry). setting g c.args.mask.now c.args.fates.now) c.unknown_geometry-g.ensures in
    let cycles = cycles_as set _ _ given c.requires.bytes_len c.read_parameters.ensures.history_after in
    let ends = outcome_as set _ _ given c.requires.bytes_len c.read_parameters.ensures.outcome_value in
    let bytes = bytes_as set _ _ given c.requires.bytes_len c.args.bytes.now c.read_parameters.ensures.buffer_after in
    let passed = ap is_passed (sym c.reset-reset.ensures.outcome_value) ∙ passed_by_is c.reset-reset.result.outcome c.in-Passed.is in
    let r = run_goes set d c.args.allowed c.args.parameters.now _ _ _ start passed cycles ends in record { history_after = r.0; outcome_value = r.1; fact = (λ t. page_read_lem set d c.args.allowed c.args.parameters.now c.requires.parameters_len _ start passed _ ends t _ c.args.bytes.now c.requires.bytes_len bytes, page_left set d c.args.allowed c.args.parameters.now _ _ start cycles) }
