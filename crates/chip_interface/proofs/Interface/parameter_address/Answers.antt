-- `chip_interface::Interface::parameter_address` meets its contract. Assumes nothing.
use Rattle.chip_interface.specs.Interface.{parameter_addressed}
use borrow.Author.Tests.{eq-eqb, ne_eqb}
use Rattle.chip_interface.proofs.Interface.parameter_address.Goals as goal

pub returns-then-now-ne-PARAMETER_ADDRESS : goal.returns-then-now-ne-PARAMETER_ADDRESS
unfolding parameter_addressed
returns-then-now-ne-PARAMETER_ADDRESS c = rw c.refuse.ensures (search (eq-eqb, ne_eqb))

pub returns-then-byte-ne0 : goal.returns-then-byte-ne0
unfolding parameter_addressed
returns-then-byte-ne0 c = rw c.refuse-then-byte-ne0.ensures (search (eq-eqb, ne_eqb))

pub returns : goal.returns
unfolding parameter_addressed
returns c = rw c.start_parameters.ensures (search (eq-eqb, ne_eqb))
