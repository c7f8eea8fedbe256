-- `fill_cursor::Cursor::replace` meets its contract. Assumes nothing.
use mathlib.Core.Path.{ap, ◌∙◌}
use Rattle.bus_polling.proofs.OutcomeLaws.{failed_by_is, unfailed_by_not}
use Rattle.fill_cursor.specs.Cursor.{ended}
use Rattle.fill_cursor.proofs.NextLaws.{replaced_failed, stopped_unfilled}
use Rattle.fill_cursor.proofs.Cursor.replace.Goals as goal

pub returns-in_default : goal.returns-in_default
returns-in_default c =
    c.end.ensures ∙ ap ended c.stop_answer.ensures ∙ stopped_unfilled c.args.self c.args.outcome (unfailed_by_not _ c.in_default.not-Failed)

pub returns : goal.returns
returns c =
    c.again.ensures ∙ replaced_failed c.args.self c.args.outcome (failed_by_is _ c.in-Failed.is)
