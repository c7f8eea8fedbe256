-- `fill::is_given` meets its contract. Assumes nothing.
use Rattle.fill.proofs.MainLaws.{given-after, given-within}
use Rattle.fill.proofs.is_given.Goals as goal

pub returns-then-place-first : goal.returns-then-place-first
returns-then-place-first c = given-after c.args.content.first c.args.content.count c.args.place c.if-place-first.true

pub returns : goal.returns
returns c =
    given-within c.args.content.first c.args.content.count c.args.place c.if-place-first.false
