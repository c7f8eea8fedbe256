-- `pages::is_table` meets its contract. Assumes nothing.
use Rattle.std.proofs.Common.{rules, tests}
use Rattle.pages.specs.Layout.{is_table_kind}
use Rattle.pages.proofs.is_table.Goals as goal

pub returns-then-kind-from : goal.returns-then-kind-from
unfolding is_table_kind
returns-then-kind-from c = search (tests, rules)

pub returns-else-kind-from : goal.returns-else-kind-from
unfolding is_table_kind
returns-else-kind-from c = search (tests, rules)
