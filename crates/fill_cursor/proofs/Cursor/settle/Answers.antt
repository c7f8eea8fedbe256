-- `fill_cursor::Cursor::settle` meets its contract. Assumes nothing.
use mathlib.Core.Path.{◌∙◌}
use Rattle.bus_polling.proofs.OutcomeLaws.{passed_by_is, other_by_not}
use Rattle.fill_cursor.proofs.NextLaws.{settled_unfilled, settled_table, settled_copy}
use Rattle.fill_cursor.proofs.Cursor.settle.Goals as goal

pub returns-in_default : goal.returns-in_default
returns-in_default c =
    c.withdraw.ensures ∙ settled_unfilled c.args.self c.args.state c.args.outcome (other_by_not _ c.in_default.not-Passed)

pub returns-else-self-eq0 : goal.returns-else-self-eq0
returns-else-self-eq0 c =
    c.record_table.ensures ∙ settled_table c.args.self c.args.state c.args.outcome (passed_by_is _ c.in-Passed.is) c.if-self-eq0.false

pub returns-then-self-eq0 : goal.returns-then-self-eq0
returns-then-self-eq0 c =
    c.record_copy.ensures ∙ settled_copy c.args.self c.args.state c.args.outcome (passed_by_is _ c.in-Passed.is) c.if-self-eq0.true
