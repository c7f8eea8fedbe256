-- `chip::data_out` meets its contract: a refusal, or the byte at the column. Assumes nothing.
use borrow.Author.Tests.{eq-eqb, ne_eqb}
use Rattle.chip.specs.Chip.{data_given, data_byte}
use Rattle.chip.proofs.OutputLaws.{tested}
use Rattle.chip.proofs.data_out.Goals as goal

pub returns-then-phase-ne-DATA_OUT : goal.returns-then-phase-ne-DATA_OUT
unfolding data_given data_byte
returns-then-phase-ne-DATA_OUT c = record { by_index = λ a h. rw c.nothing.ensures (search ne_eqb); by_index_2 = λ a h. rw c.nothing.ensures (search ne_eqb) }

pub returns-then-operation-eq-PARAMETERS : goal.returns-then-operation-eq-PARAMETERS
unfolding data_given data_byte
returns-then-operation-eq-PARAMETERS c = record { by_index = λ a h. rw c.nothing-then-operation-eq-PARAMETERS.ensures (search eq-eqb); by_index_2 = λ a h. rw c.nothing-then-operation-eq-PARAMETERS.ensures (search eq-eqb) }

pub returns : goal.returns
unfolding data_given data_byte
returns c = record { by_index = λ a h. rw (c.put_out.ensures.interface_value, tested) (search (eq-eqb, ne_eqb)); by_index_2 = λ a h. rw c.put_out.ensures.byte_value (search (eq-eqb, ne_eqb)) }
