-- `format::erase_old` meets its contract. Assumes nothing.
use Prim.Native.Nat.{◌<◌}
use mathlib.Core.Path.{sym, subst, ◌∙◌}
use native.Mathlib.Omega.{arith}
use Rattle.chip_array.specs.Device.{setting}
use Rattle.bus.specs.Line.{line}
use Rattle.bus_polling.proofs.OutcomeLaws.{passed_by_is, failed_by_is, failed_answered, failed_unpassed}
use Rattle.state.specs.declared.State.{State}
use Rattle.format.proofs.EndLaws.{late_comes, late_left, late_passed, late_failed, late_stopped, stops_by_not}
use Rattle.format.proofs.erase_old.Goals as goal

pub end-requires : goal.end-requires
end-requires c =
    let set = setting c.args.g c.args.mask.now c.args.fates.now in
    let l = line c.args.from c.args.array.now c.args.register.now c.args.history.now in
    omega (arith, c.requires.left_le_allowed, late_left set l c.args.old c.requires.called c.requires.lt_blocks _ c.row_of-row.ensures _ _ c.erase-erased.ensures.history_after c.erase-erased.ensures.outcome_value)

pub mark_invalid-listed-requires : goal.mark_invalid-listed-requires
mark_invalid-listed-requires c =
    omega (arith, c.requires.lt_blocks, c.requires.called.is_valid.blocks_most)

pub end_with_tables-requires : goal.end_with_tables-requires
end_with_tables-requires c =
    let set = setting c.args.g c.args.mask.now c.args.fates.now in
    let l = line c.args.from c.args.array.now c.args.register.now c.args.history.now in
    let comes = late_comes set l c.args.old c.requires.called c.requires.lt_blocks _ c.row_of-row.ensures _ _ c.erase-erased.ensures.history_after c.erase-erased.ensures.outcome_value in
    let called = comes.next_called (failed_answered _ (failed_by_is _ c.in-Failed.is)) in
    let last = subst (λ (x : State). x.last < c.args.g.blocks) (sym c.mark_invalid-listed.ensures) c.requires.last_lt_blocks in record { called = called; last_lt_blocks = last; page_len = c.requires.page_len; left_le_allowed = omega (arith, c.requires.left_le_allowed, late_left set l c.args.old c.requires.called c.requires.lt_blocks _ c.row_of-row.ensures _ _ c.erase-erased.ensures.history_after c.erase-erased.ensures.outcome_value) }

pub end-requires-in_default : goal.end-requires-in_default
end-requires-in_default c =
    let set = setting c.args.g c.args.mask.now c.args.fates.now in
    let l = line c.args.from c.args.array.now c.args.register.now c.args.history.now in
    omega (arith, c.requires.left_le_allowed, late_left set l c.args.old c.requires.called c.requires.lt_blocks _ c.row_of-row.ensures _ _ c.erase-erased.ensures.history_after c.erase-erased.ensures.outcome_value)

pub returns-in-Passed : goal.returns-in-Passed
returns-in-Passed c =
    let set = setting c.args.g c.args.mask.now c.args.fates.now in
    let l = line c.args.from c.args.array.now c.args.register.now c.args.history.now in
    let comes = late_comes set l c.args.old c.requires.called c.requires.lt_blocks _ c.row_of-row.ensures _ _ c.erase-erased.ensures.history_after c.erase-erased.ensures.outcome_value in
    λ cs os. c.end.ensures _ _ _ ∙ late_passed set c.args.allowed c.args.old c.args.state l _ _ comes (passed_by_is _ c.in-Passed.is) cs os

pub shape_of-array-in-Failed : goal.shape_of-array-in-Failed
shape_of-array-in-Failed c = c.array-in-Failed-1.given ∙ c.array-1.given

pub shape_of-register-in-Failed : goal.shape_of-register-in-Failed
shape_of-register-in-Failed c = c.register-in-Failed-1.given ∙ c.register-1.given

pub returns-in-Failed : goal.returns-in-Failed
returns-in-Failed c =
    let set = setting c.args.g c.args.mask.now c.args.fates.now in
    let l = line c.args.from c.args.array.now c.args.register.now c.args.history.now in
    let comes = late_comes set l c.args.old c.requires.called c.requires.lt_blocks _ c.row_of-row.ensures _ _ c.erase-erased.ensures.history_after c.erase-erased.ensures.outcome_value in
    let failed = failed_by_is _ c.in-Failed.is in
    λ cs os. late_failed set c.args.allowed c.args.old c.args.state l _ _ comes failed (failed_unpassed _ failed) _ c.mark_invalid-listed.ensures _ c.end_with_tables.ensures cs os

pub returns-in_default : goal.returns-in_default
returns-in_default c =
    let set = setting c.args.g c.args.mask.now c.args.fates.now in
    let l = line c.args.from c.args.array.now c.args.register.now c.args.history.now in
    let comes = late_comes set l c.args.old c.requires.called c.requires.lt_blocks _ c.row_of-row.ensures _ _ c.erase-erased.ensures.history_after c.erase-erased.ensures.outcome_value in
    let other = stops_by_not _ c.in_default.not-Passed c.in_default.not-Failed in
    λ cs os. c.end-in_default.ensures _ _ _ ∙ late_stopped set c.args.allowed c.args.old c.args.state l _ _ comes other.0 other.1 _ _ c.stop_answer.ensures c.blank.ensures cs os
