-- `bus::goes_on` meets its contract: the tests stand in the definition's order. Assumes nothing.
use borrow.Author.Tests.{eq-eqb, ne_eqb}
use Rattle.bus.specs.Line.{goes_on}
use Rattle.bus.proofs.goes_on.Goals as goal

pub returns-then-cut-ne0 : goal.returns-then-cut-ne0
unfolding goes_on
returns-then-cut-ne0 c = λ a p h. search ne_eqb

pub returns : goal.returns
unfolding goes_on
returns c = λ a p h. search eq-eqb
