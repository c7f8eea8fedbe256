-- `c_buffers::is_lent_rightly` meets its contract. Assumes nothing.
use Rattle.c_open.specs.OpenBytes.{open_length}
use Rattle.c_buffers.specs.Buffers.{lengths_right}
use borrow.Author.Tests.{eq-eqb, ne_eqb}
use Rattle.c_buffers.proofs.is_lent_rightly.Goals as goal

pub returns-then-state-ne-LENGTH : goal.returns-then-state-ne-LENGTH
unfolding lengths_right
returns-then-state-ne-LENGTH c = rw (ne_eqb c.args.state open_length c.if-state-ne-LENGTH.true)

pub returns-then-interface-ne12 : goal.returns-then-interface-ne12
unfolding lengths_right
returns-then-interface-ne12 c = rw (eq-eqb c.args.state open_length c.if-state-ne-LENGTH.false, ne_eqb c.args.interface 12 c.if-interface-ne12.true)

pub returns : goal.returns
unfolding lengths_right
returns c = rw (eq-eqb c.args.state open_length c.if-state-ne-LENGTH.false, eq-eqb c.args.interface 12 c.if-interface-ne12.false)
