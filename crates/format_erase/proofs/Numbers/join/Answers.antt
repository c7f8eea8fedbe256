-- `format_erase::Numbers::join` meets its contract. Assumes nothing.
use borrow.Author.Tests.{eq-eqb, ne_eqb, lt-ltb, le-ltb}
use Rattle.format_erase.specs.Round.{joined}
use Rattle.format_erase.proofs.Numbers.join.Goals as goal

pub returns-then-some-eq0 : goal.returns-then-some-eq0
unfolding joined
returns-then-some-eq0 c = search (eq-eqb, ne_eqb, lt-ltb, le-ltb)

pub returns-then-any-eq0 : goal.returns-then-any-eq0
unfolding joined
returns-then-any-eq0 c = search (eq-eqb, ne_eqb, lt-ltb, le-ltb)

pub returns-then-greatest-greater : goal.returns-then-greatest-greater
unfolding joined
returns-then-greatest-greater c = search (eq-eqb, ne_eqb, lt-ltb, le-ltb)

pub returns : goal.returns
unfolding joined
returns c = search (eq-eqb, ne_eqb, lt-ltb, le-ltb)
