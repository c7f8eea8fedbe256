-- `format::format` meets its contract. Assumes nothing.
use mathlib.Core.Path.{◌∙◌}
use Rattle.chip_array.specs.Device.{device, setting}
use Rattle.request.proofs.StartLaws.{start_called, start_left, refused_is, stopped_is, goes_on}
use Rattle.fill_tables.specs.Tables.{end_of_run}
use Rattle.format.specs.Format.{reads_run}
use Rattle.format.proofs.WholeLaws.{format_stops, format_started}
use Rattle.format.proofs.format.Goals as goal

pub returns-then-answer-eq1 : goal.returns-then-answer-eq1
returns-then-answer-eq1 c =
    let set = setting c.args.g c.args.mask.now c.args.fates.now in
    let d = device c.args.interface c.args.array.now c.args.register.now c.args.history.now in
    refused_is set d c.args.allowed _ _ c.start-begun.ensures c.args.state (λ p. end_of_run c.args.allowed (reads_run set c.args.state p)) c.if-answer-eq1.true
    ∙ format_started set d c.args.allowed c.args.state

pub end-requires : goal.end-requires
end-requires c =
    let set = setting c.args.g c.args.mask.now c.args.fates.now in
    let d = device c.args.interface c.args.array.now c.args.register.now c.args.history.now in
    start_left set d c.args.allowed _ _ c.start-begun.ensures c.if-answer-eq1.false

pub returns-then-answer-ne0 : goal.returns-then-answer-ne0
returns-then-answer-ne0 c =
    let set = setting c.args.g c.args.mask.now c.args.fates.now in
    let d = device c.args.interface c.args.array.now c.args.register.now c.args.history.now in
    c.end.ensures _ _ _
    ∙ stopped_is set d c.args.allowed _ _ c.start-begun.ensures c.args.state (λ p. end_of_run c.args.allowed (reads_run set c.args.state p)) (format_stops set c.args.allowed c.args.state) c.if-answer-eq1.false c.if-answer-ne0.true _ c.blank.ensures
    ∙ format_started set d c.args.allowed c.args.state

pub read_and_erase-requires : goal.read_and_erase-requires
read_and_erase-requires c =
    let set = setting c.args.g c.args.mask.now c.args.fates.now in
    let d = device c.args.interface c.args.array.now c.args.register.now c.args.history.now in record { called = start_called set d c.args.allowed _ _ c.start-begun.ensures c.if-answer-ne0.false; left_le_allowed = start_left set d c.args.allowed _ _ c.start-begun.ensures c.if-answer-eq1.false }

pub returns : goal.returns
returns c =
    let set = setting c.args.g c.args.mask.now c.args.fates.now in
    let d = device c.args.interface c.args.array.now c.args.register.now c.args.history.now in
    goes_on set d c.args.allowed _ _ c.start-begun.ensures c.args.state (λ p. end_of_run c.args.allowed (reads_run set c.args.state p)) c.if-answer-ne0.false _ c.read_and_erase.ensures
    ∙ format_started set d c.args.allowed c.args.state
