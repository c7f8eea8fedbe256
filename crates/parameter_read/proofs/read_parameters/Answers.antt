-- `parameter_read::read_parameters` meets its contract: a page that is not ready stops, and one that is goes on with 00h and its bytes.
-- Assumes nothing.
use Prim.Native.Nat.{ℕ}
use mathlib.Core.List.{List, [], ◌∷◌}
use mathlib.Core.Path.{sym, ap, ◌∙◌}
use lib.ListN.{length}
use Rattle.cells.specs.Cells.{over}
use Rattle.chip_array.specs.Device.{setting}
use Rattle.chip.specs.Chip.Cycle.{command, parameter_address}
use Rattle.bus.specs.Line.{line}
use Rattle.bus_polling.specs.Outcomes.{is_passed}
use Rattle.bus_polling.proofs.OutcomeLaws.{passed_by_is, other_by_not}
use Rattle.bus_sequences.proofs.DataLaws.{lone, onward, started_all}
use Rattle.parameter_read.proofs.CycleLaws.{parameters_stop, parameters_go}
use Rattle.parameter_read.proofs.read_parameters.Goals as goal

pub shape_of-array-in_default : goal.shape_of-array-in_default
shape_of-array-in_default c =
    c.array-3-1.given ∙ c.array-2-1.given ∙ c.array-1.given

pub shape_of-register-in_default : goal.shape_of-register-in_default
shape_of-register-in_default c =
    c.register-2-1.given ∙ c.register-1.given

pub shape_of-history-in_default : goal.shape_of-history-in_default
shape_of-history-in_default c =
    c.history-3-1.given ∙ c.history-2-1.given ∙ c.history-1.given

pub returns-in_default : goal.returns-in_default
returns-in_default c =
    let set = setting c.args.g c.args.mask.now c.args.fates.now in
    let ready = started_all set (line c.args.from c.args.array.now c.args.register.now c.args.history.now) (command 236 ∷ []) (parameter_address 0) (onward set _ _ _ c.command-b.ensures (onward set _ _ _ (c.parameter_address-c.ensures c.args.g c.args.mask.now _ _ _) (lone set _ _ c.command-d.ensures))) (c.poll-loaded.ensures.by_index c.args.mask.now c.args.fates.now) in
    let r = parameters_stop set _ c.args.page.now (length c.args.buffer.now) ready (ap is_passed (sym c.poll-loaded.ensures.outcome_value) ∙ other_by_not _ c.in_default.not-Passed) in record { history_after = r.0; outcome_value = c.poll-loaded.ensures.outcome_value ∙ r.1; buffer_after = r.2 _ }

pub shape_of-array : goal.shape_of-array
shape_of-array c =
    c.array-4-1.given ∙ c.array-3-1.given ∙ c.array-2-1.given ∙ c.array-1.given

pub shape_of-register : goal.shape_of-register
shape_of-register c =
    c.register-3-1.given ∙ c.register-2-1.given ∙ c.register-1.given

pub shape_of-history : goal.shape_of-history
shape_of-history c =
    c.history-4-1.given ∙ c.history-3-1.given ∙ c.history-2-1.given ∙ c.history-1.given

pub returns : goal.returns
returns c =
    let set = setting c.args.g c.args.mask.now c.args.fates.now in
    let ready = started_all set (line c.args.from c.args.array.now c.args.register.now c.args.history.now) (command 236 ∷ []) (parameter_address 0) (onward set _ _ _ c.command-b.ensures (onward set _ _ _ (c.parameter_address-c.ensures c.args.g c.args.mask.now _ _ _) (lone set _ _ c.command-d.ensures))) (c.poll-loaded.ensures.by_index c.args.mask.now c.args.fates.now) in
    let r = parameters_go set _ c.args.page.now (length c.args.buffer.now) ready (ap is_passed (sym c.poll-loaded.ensures.outcome_value) ∙ passed_by_is _ c.in-Passed.is) c.command-f.ensures (c.take_parameters-last.ensures.h_value _ _ _ _) in record { history_after = r.0; outcome_value = c.ended.ensures _ _ _ ∙ r.1; buffer_after = c.take_parameters-last.ensures.buffer_after _ _ _ _ ∙ ap (λ (ys : List ℕ). over ys c.args.buffer.now) r.2 }
