-- `bus_polling::ended` meets its contract: the tests stand in the definition's order. Assumes nothing.
use borrow.Author.Tests.{eq-eqb, ne_eqb}
use Rattle.bus_polling.specs.Polling.{ended_as}
use Rattle.bus_polling.proofs.ended.Goals as goal

pub returns-then-cut-ne0 : goal.returns-then-cut-ne0
unfolding ended_as
returns-then-cut-ne0 c = λ a p h. search ne_eqb

pub returns-then-illegal-ne0 : goal.returns-then-illegal-ne0
unfolding ended_as
returns-then-illegal-ne0 c = λ a p h. search (eq-eqb, ne_eqb)

pub returns : goal.returns
unfolding ended_as
returns c = λ a p h. search eq-eqb
