-- `chip::parameter_out` meets its contract: a refusal, or the byte at the column. Assumes nothing.
use borrow.Author.Tests.{eq-eqb, ne_eqb}
use Rattle.chip.specs.Chip.{parameter_given, parameter_byte}
use Rattle.chip.proofs.OutputLaws.{tested}
use Rattle.chip.proofs.parameter_out.Goals as goal

pub returns-then-operation-ne-PARAMETERS : goal.returns-then-operation-ne-PARAMETERS
unfolding parameter_given parameter_byte
returns-then-operation-ne-PARAMETERS c = record { by_index = λ a p h. rw c.nothing.ensures (search ne_eqb); byte_value = rw c.nothing.ensures (search ne_eqb) }

pub returns-then-phase-eq-DATA_OUT : goal.returns-then-phase-eq-DATA_OUT
unfolding parameter_given parameter_byte
returns-then-phase-eq-DATA_OUT c = record { by_index = λ a p h. rw (c.put_out.ensures.interface_value, tested) (search eq-eqb); byte_value = rw c.put_out.ensures.byte_value (search eq-eqb) }

pub returns : goal.returns
unfolding parameter_given parameter_byte
returns c = record { by_index = λ a p h. rw c.nothing-2.ensures (search (eq-eqb, ne_eqb)); byte_value = rw c.nothing-2.ensures (search (eq-eqb, ne_eqb)) }
