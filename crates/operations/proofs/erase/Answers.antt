-- `operations::erase` meets its contract: 60h and the row, the confirm cycle and 70h, the status reads, and bit 7 of the last. Assumes nothing.
use mathlib.Core.Path.{◌∙◌}
use Rattle.bus_polling.proofs.PollLaws.{answer_is}
use Rattle.bus_sequences.specs.Cycles.{erase_address}
use Rattle.bus_sequences.proofs.DataLaws.{onward, confirmed_all}
use Rattle.operations.proofs.erase.Goals as goal

pub shape_of-array : goal.shape_of-array
shape_of-array c =
    c.array-3-1.given ∙ c.array-2-1.given ∙ c.array-1.given

pub shape_of-register : goal.shape_of-register
shape_of-register c =
    c.register-2-1.given ∙ c.register-1.given

pub shape_of-history : goal.shape_of-history
shape_of-history c =
    c.history-3-1.given ∙ c.history-2-1.given ∙ c.history-1.given

pub returns : goal.returns
returns c = record { history_after = confirmed_all _ _ (erase_address c.args.row) 208 (onward _ _ _ _ c.command-b.ensures (c.send_row-c.ensures c.args.mask.now c.args.fates.now _ _ _)) c.confirm-d.ensures (c.poll-p.ensures.by_index c.args.mask.now c.args.fates.now); outcome_value = c.answer.ensures ∙ answer_is _ _ _ c.poll-p.ensures.outcome_value c.poll-p.ensures.status_value }
