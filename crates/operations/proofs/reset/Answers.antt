-- `operations::reset` meets its contract: the two command cycles and a status read. Assumes nothing.
use mathlib.Core.Path.{ap, ◌∙◌}
use Rattle.bus_sequences.proofs.DataLaws.{lone, joined}
use Rattle.bus.specs.Line.{status_out}
use Rattle.operations.specs.Ends.{reset_status}
use Rattle.operations.proofs.reset.Goals as goal

pub returns : goal.returns
unfolding reset_status
returns c = record { history_after = joined _ _ _ _ c.confirm-b.ensures (lone _ _ _ (c.status-out.ensures.by_index _ _)); outcome_value = c.ended.ensures _ _ _; status_value = c.status-out.ensures.by_index_2 _ _ _ ∙ ap status_out c.confirm-b.ensures }
