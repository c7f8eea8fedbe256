-- `chip_interface::Interface::plain_command` meets its contract: the tests stand in the definition's order. Assumes nothing.
use Rattle.chip_interface.specs.Interface.{plain_command}
use borrow.Author.Tests.{eq-eqb, ne_eqb}
use Rattle.chip_interface.proofs.Interface.plain_command.Goals as goal

pub returns-then-code-eq255 : goal.returns-then-code-eq255
unfolding plain_command
returns-then-code-eq255 c = rw c.reset.ensures (search (eq-eqb, ne_eqb))

pub returns-then-code-eq112 : goal.returns-then-code-eq112
unfolding plain_command
returns-then-code-eq112 c = rw c.show_status.ensures (search (eq-eqb, ne_eqb))

pub returns-then-code-eq0 : goal.returns-then-code-eq0
unfolding plain_command
returns-then-code-eq0 c = rw c.begin_read.ensures (search (eq-eqb, ne_eqb))

pub returns-then-code-eq128 : goal.returns-then-code-eq128
unfolding plain_command
returns-then-code-eq128 c = rw c.begin.ensures (search (eq-eqb, ne_eqb))

pub returns-then-code-eq96 : goal.returns-then-code-eq96
unfolding plain_command
returns-then-code-eq96 c =
    rw c.begin-then-code-eq96.ensures (search (eq-eqb, ne_eqb))

pub returns-then-code-eq236 : goal.returns-then-code-eq236
unfolding plain_command
returns-then-code-eq236 c =
    rw c.begin-then-code-eq236.ensures (search (eq-eqb, ne_eqb))

pub returns : goal.returns
unfolding plain_command
returns c = rw c.refuse.ensures (search (eq-eqb, ne_eqb))
