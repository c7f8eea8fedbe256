-- `mount::scan_and_judge` meets its contract. Assumes nothing.
use mathlib.Core.List.{[]}
use Prim.Native.Nat.{◌<◌}
use mathlib.Core.Path.{sym, subst, ◌∙◌}
use Rattle.geometry.proofs.SizeLaws.{page_size_most}
use Rattle.scan_found.specs.declared.Found.{Found}
use native.Mathlib.Omega.{arith}
use Rattle.chip_array.specs.Device.{setting}
use Rattle.bus.specs.Line.{line}
use Rattle.bus_polling.specs.declared.Outcome.TheVariants.{Passed}
use Rattle.bus_polling.proofs.OutcomeLaws.{passed_by_is, other_by_not}
use Rattle.progress.specs.Progress.{progress}
use Rattle.scan.specs.Scan.{blocks_read}
use Rattle.scan_found.proofs.FoundLaws.{table_small}
use Rattle.mount.proofs.EndLaws.{scan_left, stopped_end, refused_end, mounted_end, answer_found, state_found, room}
use Rattle.request.proofs.CallLaws.{lent-page}
use Rattle.mount.proofs.scan_and_judge.Goals as goal

pub scan_chip-scanned-requires : goal.scan_chip-scanned-requires
scan_chip-scanned-requires c = record { called = c.requires.called; page_len = lent-page _ _ (omega (arith, c.page_size-size.ensures, page_size_most c.args.g c.requires.called.is_valid)) c.page_size-size.ensures; blocks_in_bounds = room _ c.requires.called.is_valid.blocks_most; blocks_in_bounds_2 = room _ c.requires.called.is_valid.blocks_most; blocks_in_bounds_3 = room _ c.requires.called.is_valid.blocks_most }

pub end-requires : goal.end-requires
end-requires c =
    omega (arith, c.requires.left_le_allowed, scan_left c.args.depth (setting c.args.g c.args.mask.now c.args.fates.now) (line c.args.from c.args.array.now c.args.register.now c.args.history.now) _ c.args.g.blocks (c.scan_chip-scanned.ensures.history_after [] []))

pub shape_of-array-in_default : goal.shape_of-array-in_default
shape_of-array-in_default c =
    c.array-1.given

pub shape_of-register-in_default : goal.shape_of-register-in_default
shape_of-register-in_default c =
    c.register-1.given

pub shape_of-history-in_default : goal.shape_of-history-in_default
shape_of-history-in_default c =
    c.history-1.given

pub returns-in_default : goal.returns-in_default
returns-in_default c =
    let set = setting c.args.g c.args.mask.now c.args.fates.now in
    let l = line c.args.from c.args.array.now c.args.register.now c.args.history.now in
    λ cs os. c.end.ensures _ _ _ ∙ stopped_end c.args.depth set c.args.allowed (blocks_read c.args.depth set c.args.g.blocks (progress l Passed cs os)) _ c.scan_chip-scanned.result.outcome (c.scan_chip-scanned.ensures.history_after cs os) (c.scan_chip-scanned.ensures.outcome_value cs os) _ _ (other_by_not _ c.in_default.not-Passed) c.stop_answer.ensures c.blank.ensures

pub judge-answer-requires : goal.judge-answer-requires
judge-answer-requires c =
    let p = passed_by_is _ c.in-Passed.is in record { valid = c.requires.called.is_valid; table_bound = subst (λ (x : Found). x.table < 4096) (sym (c.scan_chip-scanned.ensures.found_value p)) (table_small c.args.depth c.args.g c.args.array.now c.args.g.blocks c.requires.called.is_valid.blocks_most) }

pub end-requires-then-answer-ne0 : goal.end-requires-then-answer-ne0
end-requires-then-answer-ne0 c =
    omega (arith, c.requires.left_le_allowed, scan_left c.args.depth (setting c.args.g c.args.mask.now c.args.fates.now) (line c.args.from c.args.array.now c.args.register.now c.args.history.now) _ c.args.g.blocks (c.scan_chip-scanned.ensures.history_after [] []))

pub shape_of-array-then-answer-ne0 : goal.shape_of-array-then-answer-ne0
shape_of-array-then-answer-ne0 c =
    c.array-1.given

pub shape_of-register-then-answer-ne0 : goal.shape_of-register-then-answer-ne0
shape_of-register-then-answer-ne0 c =
    c.register-1.given

pub shape_of-history-then-answer-ne0 : goal.shape_of-history-then-answer-ne0
shape_of-history-then-answer-ne0 c =
    c.history-1.given

pub returns-then-answer-ne0 : goal.returns-then-answer-ne0
returns-then-answer-ne0 c =
    let set = setting c.args.g c.args.mask.now c.args.fates.now in
    let l = line c.args.from c.args.array.now c.args.register.now c.args.history.now in
    let p = passed_by_is _ c.in-Passed.is in
    let a = answer_found c.args.depth c.args.g c.requires.called.is_valid c.args.array.now _ c.requires.called.array_long c.scan_chip-scanned.ensures.array_unchanged _ _ (c.scan_chip-scanned.ensures.found_value p) (c.scan_chip-scanned.ensures.numbers_after p) in
    λ cs os. c.end-then-answer-ne0.ensures _ _ _ ∙ refused_end c.args.depth set c.args.allowed (blocks_read c.args.depth set c.args.g.blocks (progress l Passed cs os)) _ c.scan_chip-scanned.result.outcome (c.scan_chip-scanned.ensures.history_after cs os) (c.scan_chip-scanned.ensures.outcome_value cs os) p _ (c.judge-answer.ensures ∙ a) _ c.if-answer-ne0.true c.blank-then-answer-ne0.ensures

pub mounted_state-state-requires : goal.mounted_state-state-requires
mounted_state-state-requires c =
    c.requires.called.is_valid

pub end-requires-2 : goal.end-requires-2
end-requires-2 c =
    omega (arith, c.requires.left_le_allowed, scan_left c.args.depth (setting c.args.g c.args.mask.now c.args.fates.now) (line c.args.from c.args.array.now c.args.register.now c.args.history.now) _ c.args.g.blocks (c.scan_chip-scanned.ensures.history_after [] []))

pub shape_of-array : goal.shape_of-array
shape_of-array c =
    c.array-1.given

pub shape_of-register : goal.shape_of-register
shape_of-register c =
    c.register-1.given

pub shape_of-history : goal.shape_of-history
shape_of-history c =
    c.history-1.given

pub returns : goal.returns
returns c =
    let set = setting c.args.g c.args.mask.now c.args.fates.now in
    let l = line c.args.from c.args.array.now c.args.register.now c.args.history.now in
    let p = passed_by_is _ c.in-Passed.is in
    let a = answer_found c.args.depth c.args.g c.requires.called.is_valid c.args.array.now _ c.requires.called.array_long c.scan_chip-scanned.ensures.array_unchanged _ _ (c.scan_chip-scanned.ensures.found_value p) (c.scan_chip-scanned.ensures.numbers_after p) in
    let z = sym (c.judge-answer.ensures ∙ a) ∙ c.if-answer-ne0.false in
    let st = state_found c.args.depth c.args.g c.requires.called.is_valid c.args.array.now _ c.requires.called.array_long c.scan_chip-scanned.ensures.array_unchanged _ _ (c.scan_chip-scanned.ensures.found_value p) (c.scan_chip-scanned.ensures.numbers_after p) z in
    λ cs os. c.end-2.ensures _ _ _ ∙ mounted_end c.args.depth set c.args.allowed (blocks_read c.args.depth set c.args.g.blocks (progress l Passed cs os)) _ c.scan_chip-scanned.result.outcome (c.scan_chip-scanned.ensures.history_after cs os) (c.scan_chip-scanned.ensures.outcome_value cs os) p _ (c.judge-answer.ensures ∙ a) _ c.if-answer-ne0.false (c.mounted_state-state.ensures ∙ st)
