-- `operations::read_status` meets its contract: 70h, a status read, and bit 7 of its byte. Assumes nothing.
use mathlib.Core.List.{[]}
use mathlib.Core.Path.{◌∙◌}
use Rattle.bus_sequences.proofs.DataLaws.{lone, joined}
use Rattle.operations.proofs.StatusLaws.{status_is}
use Rattle.operations.proofs.read_status.Goals as goal

pub returns : goal.returns
returns c = record { history_after = joined _ _ _ _ (lone _ _ _ c.command-b.ensures) (lone _ _ _ (c.status-out.ensures.by_index _ _)); outcome_value = c.answer.ensures ∙ status_is _ _ _ _ _ (c.status-out.ensures.by_index [] []) (c.ended-ended.ensures _ _ _) (c.status-out.ensures.by_index_2 _ _ _) }
