-- `write::write_page` meets its contract. Assumes nothing.
use Prim.Native.Nat.{ℕ}
use mathlib.Core.Path.{refl, sym, ap, ◌∙◌}
use native.Mathlib.Nat.{one-mul}
use native.Mathlib.Omega.{arith}
use Rattle.chip_array.specs.Device.{setting}
use Rattle.bus.specs.Line.{line}
use Rattle.bus_polling.specs.declared.Outcome.TheVariants.{Passed}
use Rattle.bus_polling.proofs.OutcomeLaws.{passed_by_is, other_by_not}
use Rattle.progress.specs.Progress.{progress}
use Rattle.fill_tables.specs.Tables.{end_of_run}
use Rattle.fill_tables.proofs.StatusLaws.{status_stops, status_goes}
use Rattle.write_changes.specs.Changes.{change_run}
use Rattle.write.specs.Update.{update, change_from}
use Rattle.write.proofs.EndLaws.{status_left, status_lent}
use Rattle.write.proofs.write_page.Goals as goal

pub stop-requires : goal.stop-requires
stop-requires c =
    let set = (setting c.args.g c.args.mask.now c.args.fates.now) in
    let l = (line c.args.from c.args.array.now c.args.register.now c.args.history.now) in
    omega (arith, status_left set l _ _ c.read_status-shown.ensures.history_after c.read_status-shown.ensures.outcome_value, c.requires.left_le_allowed)

pub returns-in_default : goal.returns-in_default
returns-in_default c =
    let set = (setting c.args.g c.args.mask.now c.args.fates.now) in
    let l = (line c.args.from c.args.array.now c.args.register.now c.args.history.now) in
    λ cs os. c.stop.ensures _ _ _ ∙ status_stops set c.args.allowed c.args.state l _ _ c.read_status-shown.ensures.history_after c.read_status-shown.ensures.outcome_value _ _ (other_by_not _ c.in_default.not-Passed) refl refl cs os _

pub offset_bounds-map-logical : goal.offset_bounds-map-logical
offset_bounds-map-logical c =
    omega (arith, c.requires.logical_lt_logical, c.requires.lent.is_valid.logical_most, c.requires.lent.is_valid.blocks_most)

pub bounds-map-logical : goal.bounds-map-logical
bounds-map-logical c =
    omega (arith, c.requires.logical_lt_logical, c.requires.lent.is_valid.logical_most, c.requires.lent.is_valid.blocks_most)

pub fill-requires : goal.fill-requires
fill-requires c =
    let set = (setting c.args.g c.args.mask.now c.args.fates.now) in
    let l = (line c.args.from c.args.array.now c.args.register.now c.args.history.now) in record { lent = status_lent set l _ _ c.read_status-shown.ensures.history_after c.read_status-shown.ensures.outcome_value (passed_by_is _ c.in-Passed.is) c.requires.lent c.array-1.given c.register-1.given c.history-1.given; left_le_allowed = omega (arith, status_left set l _ _ c.read_status-shown.ensures.history_after c.read_status-shown.ensures.outcome_value, c.requires.left_le_allowed); last_lt_blocks = c.requires.last_lt_blocks; logical_lt_logical = c.requires.logical_lt_logical; bytes_len = c.requires.bytes_len ∙ sym (one-mul c.args.g.main) }

pub shape_of-array : goal.shape_of-array
shape_of-array c = c.array-2-1.given ∙ c.array-1.given

pub returns : goal.returns
returns c =
    let set = (setting c.args.g c.args.mask.now c.args.fates.now) in
    let l = (line c.args.from c.args.array.now c.args.register.now c.args.history.now) in
    let u = update c.args.logical c.wide-old.result c.args.page 1 c.args.bytes.now in
    λ cs os.
    status_goes set c.args.allowed c.args.state l _ _ c.read_status-shown.ensures.history_after c.read_status-shown.ensures.outcome_value (change_run set c.args.state u) _ (passed_by_is _ c.in-Passed.is) c.fill.ensures cs os
    ∙ ap (λ (b : ℕ). end_of_run c.args.allowed (change_from set c.args.state (update c.args.logical b c.args.page 1 c.args.bytes.now) (progress l Passed cs os))) c.wide-old.ensures
