-- `mount::mount` meets its contract. Assumes nothing.
use mathlib.Core.Path.{◌∙◌}
use Rattle.chip_array.specs.Device.{device, setting}
use Rattle.request.proofs.StartLaws.{start_called, start_left, refused_is, stopped_is, goes_on}
use Rattle.scan.specs.Scan.{blocks_read}
use Rattle.mount.specs.Mount.{mount_end}
use Rattle.mount.proofs.EndLaws.{mount-stops, mount-started}
use Rattle.mount.proofs.mount.Goals as goal

pub returns-then-answer-eq1 : goal.returns-then-answer-eq1
returns-then-answer-eq1 c =
    let set = setting c.args.g c.args.mask.now c.args.fates.now in
    let d = device c.args.interface c.args.array.now c.args.register.now c.args.history.now in
    refused_is set d c.args.allowed _ _ c.start-begun.ensures c.args.state (λ p. mount_end c.args.depth set c.args.allowed (blocks_read c.args.depth set c.args.g.blocks p)) c.if-answer-eq1.true
    ∙ mount-started c.args.depth set d c.args.allowed c.args.state

pub end-requires : goal.end-requires
end-requires c =
    let set = setting c.args.g c.args.mask.now c.args.fates.now in
    let d = device c.args.interface c.args.array.now c.args.register.now c.args.history.now in
    start_left set d c.args.allowed _ _ c.start-begun.ensures c.if-answer-eq1.false

pub returns-then-answer-ne0 : goal.returns-then-answer-ne0
returns-then-answer-ne0 c =
    let set = setting c.args.g c.args.mask.now c.args.fates.now in
    let d = device c.args.interface c.args.array.now c.args.register.now c.args.history.now in
    c.end.ensures _ _ _
    ∙ stopped_is set d c.args.allowed _ _ c.start-begun.ensures c.args.state (λ p. mount_end c.args.depth set c.args.allowed (blocks_read c.args.depth set c.args.g.blocks p)) (mount-stops c.args.depth set c.args.allowed) c.if-answer-eq1.false c.if-answer-ne0.true _ c.blank.ensures
    ∙ mount-started c.args.depth set d c.args.allowed c.args.state

pub scan_and_judge-requires : goal.scan_and_judge-requires
scan_and_judge-requires c =
    let set = setting c.args.g c.args.mask.now c.args.fates.now in
    let d = device c.args.interface c.args.array.now c.args.register.now c.args.history.now in record { called = start_called set d c.args.allowed _ _ c.start-begun.ensures c.if-answer-ne0.false; left_le_allowed = start_left set d c.args.allowed _ _ c.start-begun.ensures c.if-answer-eq1.false }

pub returns : goal.returns
returns c =
    let set = setting c.args.g c.args.mask.now c.args.fates.now in
    let d = device c.args.interface c.args.array.now c.args.register.now c.args.history.now in
    goes_on set d c.args.allowed _ _ c.start-begun.ensures c.args.state (λ p. mount_end c.args.depth set c.args.allowed (blocks_read c.args.depth set c.args.g.blocks p)) c.if-answer-ne0.false _ c.scan_and_judge.ensures
    ∙ mount-started c.args.depth set d c.args.allowed c.args.state
