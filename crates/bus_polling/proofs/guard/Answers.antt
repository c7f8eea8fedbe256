-- `bus_polling::guard` meets its contract: by the number of the variant. Assumes nothing.
use mathlib.Core.Path.{sym, ap, ◌∙◌}
use Rattle.bus_polling.proofs.OutcomeLaws.{guarded_by_tag, guarded_by_tag_lem}
use Rattle.bus_polling.proofs.guard.Goals as goal

pub returns-in-Passed : goal.returns-in-Passed
returns-in-Passed c = ap guarded_by_tag (sym c.in-Passed.in-Passed-own.keys1) ∙ guarded_by_tag_lem c.args.outcome

pub returns-in-Failed : goal.returns-in-Failed
returns-in-Failed c = ap guarded_by_tag (sym c.in-Failed.in-Failed-own.keys2) ∙ guarded_by_tag_lem c.args.outcome

pub returns-in-Silent : goal.returns-in-Silent
returns-in-Silent c = ap guarded_by_tag (sym c.in-Silent.in-Silent-own.keys3) ∙ guarded_by_tag_lem c.args.outcome

pub returns-in-Cut : goal.returns-in-Cut
returns-in-Cut c = ap guarded_by_tag (sym c.in-Cut.in-Cut-own.keys4) ∙ guarded_by_tag_lem c.args.outcome

pub returns-in-Illegal : goal.returns-in-Illegal
returns-in-Illegal c = ap guarded_by_tag (sym c.in-Illegal.in-Illegal-own.keys5) ∙ guarded_by_tag_lem c.args.outcome

pub returns-in-Protected : goal.returns-in-Protected
returns-in-Protected c = ap guarded_by_tag (sym c.in-Protected.in-Protected-own.keys6) ∙ guarded_by_tag_lem c.args.outcome
