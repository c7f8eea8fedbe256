-- `fill_cursor::withdraw` meets its contract. Assumes nothing.
use mathlib.Core.Path.{◌∙◌}
use Rattle.bus_polling.proofs.OutcomeLaws.{failed_by_is, unfailed_by_not}
use Rattle.fill_cursor.proofs.NextLaws.{withdrawn_failed, withdrawn_stopped}
use Rattle.fill_cursor.proofs.withdraw.Goals as goal

pub returns-in_default : goal.returns-in_default
returns-in_default c =
    c.blank.ensures ∙ withdrawn_stopped c.args.block c.args.state c.args.outcome (unfailed_by_not _ c.in_default.not-Failed)

pub returns : goal.returns
returns c =
    c.mark_invalid.ensures ∙ withdrawn_failed c.args.block c.args.state c.args.outcome (failed_by_is _ c.in-Failed.is)
