-- `operations::read` meets its contract: a read that does not pass stops, and one that does goes on with 00h and the data. Assumes nothing.
use Prim.Native.Nat.{ℕ}
use mathlib.Core.List.{List}
use mathlib.Core.Path.{sym, ap, ◌∙◌}
use lib.ListN.{length}
use Rattle.cells.specs.Cells.{over}
use Rattle.bus_polling.specs.Outcomes.{is_passed}
use Rattle.bus_sequences.specs.Cycles.{read_address}
use Rattle.bus_polling.proofs.OutcomeLaws.{passed_by_is, other_by_not}
use Rattle.bus_sequences.proofs.DataLaws.{onward, read_stops, read_goes, confirmed_all}
use Rattle.operations.proofs.read.Goals as goal

pub shape_of-array-in_default : goal.shape_of-array-in_default
shape_of-array-in_default c =
    c.array-3-1.given ∙ c.array-2-1.given ∙ c.array-1.given

pub shape_of-register-in_default : goal.shape_of-register-in_default
shape_of-register-in_default c =
    c.register-2-1.given ∙ c.register-1.given

pub shape_of-history-in_default : goal.shape_of-history-in_default
shape_of-history-in_default c =
    c.history-3-1.given ∙ c.history-2-1.given ∙ c.history-1.given

pub returns-in_default : goal.returns-in_default
returns-in_default c =
    let r = read_stops _ _ c.args.row c.args.column (length c.args.buffer.now) (confirmed_all _ _ (read_address c.args.row c.args.column) 48 (onward _ _ _ _ c.command-b.ensures (c.send_address-c.ensures c.args.mask.now c.args.fates.now _ _ _)) c.confirm-d.ensures (c.poll-loaded.ensures.by_index c.args.mask.now c.args.fates.now)) (ap is_passed (sym c.poll-loaded.ensures.outcome_value) ∙ other_by_not _ c.in_default.not-Passed) in record { history_after = r.0; outcome_value = c.poll-loaded.ensures.outcome_value ∙ r.1; buffer_after = r.2 _ }

pub shape_of-array : goal.shape_of-array
shape_of-array c =
    c.array-4-1.given ∙ c.array-3-1.given ∙ c.array-2-1.given ∙ c.array-1.given

pub shape_of-register : goal.shape_of-register
shape_of-register c =
    c.register-3-1.given ∙ c.register-2-1.given ∙ c.register-1.given

pub shape_of-history : goal.shape_of-history
shape_of-history c =
    c.history-4-1.given ∙ c.history-3-1.given ∙ c.history-2-1.given ∙ c.history-1.given

pub returns : goal.returns
returns c =
    let r = read_goes _ _ c.args.row c.args.column (length c.args.buffer.now) (confirmed_all _ _ (read_address c.args.row c.args.column) 48 (onward _ _ _ _ c.command-b.ensures (c.send_address-c.ensures c.args.mask.now c.args.fates.now _ _ _)) c.confirm-d.ensures (c.poll-loaded.ensures.by_index c.args.mask.now c.args.fates.now)) (ap is_passed (sym c.poll-loaded.ensures.outcome_value) ∙ passed_by_is _ c.in-Passed.is) c.command-f.ensures (c.take_data-last.ensures.h_value _ _ _) in record { history_after = r.0; outcome_value = c.ended.ensures _ _ _ ∙ r.1; buffer_after = c.take_data-last.ensures.buffer_after _ _ _ ∙ ap (λ (ys : List ℕ). over ys c.args.buffer.now) r.2 }
