-- `pages::is_data` meets its contract. Assumes nothing.
use Rattle.std.proofs.Common.{rules, tests}
use mathlib.Core.Path.{◌∙◌}
use borrow.Author.Tests.{eq-eqb}
use Rattle.bools.proofs.BoolLaws.{clash}
use Rattle.pages.specs.Layout.{is_data_kind}
use Rattle.pages.proofs.is_data.Goals as goal
use Rattle.pages.proofs.is_data.Goals.{then-kind-from, else-kind-from}

pub returns-then-kind-from-2 : goal.returns-then-kind-from-2
unfolding is_data_kind
returns-then-kind-from-2 c = elim c.if-kind-from.branch [ then-kind-from w ↦ search (tests, rules) | else-kind-from w ↦ search (tests, rules) ]

pub returns-else-kind-from-2 : goal.returns-else-kind-from-2
unfolding is_data_kind
returns-else-kind-from-2 c = elim c.if-kind-from.branch [ then-kind-from w ↦ clash (w.value-is ∙ eq-eqb _ _ w.if-kind-from.true) c.if-kind-from-2.false | else-kind-from w ↦ search (tests, rules) ]
