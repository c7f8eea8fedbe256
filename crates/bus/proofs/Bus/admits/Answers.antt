-- `bus::Bus::admits` meets its contract: the tests stand in the definition's order. Assumes nothing.
use mathlib.Core.Path.{refl}
use borrow.Author.Tests.{eq-eqb, ne_eqb}
use Rattle.bus.specs.Line.{may_go}
use Rattle.bus.proofs.Bus.admits.Goals as goal

pub returns-then-cut-ne0 : goal.returns-then-cut-ne0
unfolding may_go
returns-then-cut-ne0 c = search ne_eqb

pub returns-then-illegal-ne0 : goal.returns-then-illegal-ne0
unfolding may_go
returns-then-illegal-ne0 c = search (eq-eqb, ne_eqb)

pub returns : goal.returns
unfolding may_go
returns c = rw (eq-eqb _ _ c.if-cut-ne0.false, eq-eqb _ _ c.if-illegal-ne0.false) refl
