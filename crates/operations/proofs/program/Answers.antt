-- `operations::program` meets its contract: 80h, the address and the data, the confirm cycle and 70h, the status reads, and bit 7 of the last. Assumes nothing.
use mathlib.Core.Path.{◌∙◌}
use Rattle.bus_polling.proofs.PollLaws.{answer_is}
use Rattle.bus_sequences.specs.Cycles.{address_cycles, program_data}
use Rattle.bus_sequences.proofs.DataLaws.{onward, joined, confirmed_all}
use Rattle.operations.proofs.program.Goals as goal

pub shape_of-array : goal.shape_of-array
shape_of-array c =
    c.array-3-1.given ∙ c.array-2-1.given ∙ c.array-1.given

pub shape_of-register : goal.shape_of-register
shape_of-register c =
    c.register-3-1.given ∙ c.register-2-1.given ∙ c.register-1.given

pub shape_of-history : goal.shape_of-history
shape_of-history c =
    c.history-3-1.given ∙ c.history-2-1.given ∙ c.history-1.given

pub returns : goal.returns
returns c = record {
  history_after = confirmed_all _ _ (program_data c.args.row c.args.data.now) 16
      (onward _ _ _ _ c.command-b.ensures
      (joined _ _ (address_cycles 0 c.args.row) _ (c.send_address-c.ensures c.args.mask.now c.args.fates.now _ _ _) (c.send_data-d.ensures _ _ _)))
      c.confirm-e.ensures
      (c.poll-p.ensures.by_index c.args.mask.now c.args.fates.now);
  outcome_value = c.answer.ensures ∙ answer_is _ _ _ c.poll-p.ensures.outcome_value c.poll-p.ensures.status_value;
}
