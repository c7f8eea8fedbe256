-- `pages::number_width` meets its contract. Assumes nothing.
use Rattle.std.proofs.Common.{rules, tests}
use Rattle.pages.specs.Layout.{number_width}
use Rattle.pages.proofs.number_width.Goals as goal

pub returns-in-68 : goal.returns-in-68
unfolding number_width
returns-in-68 c = search (tests, rules)

pub returns-in-100 : goal.returns-in-100
unfolding number_width
returns-in-100 c = search (tests, rules)

pub returns-in_default : goal.returns-in_default
unfolding number_width
returns-in_default c = search (tests, rules)
