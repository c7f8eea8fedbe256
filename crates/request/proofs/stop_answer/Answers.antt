-- `request::stop_answer` meets its contract. Assumes nothing.
use mathlib.Core.Path.{sym, ap, ◌∙◌}
use Rattle.request.proofs.CallLaws.{answer_by_tag, by_tag}
use Rattle.request.proofs.stop_answer.Goals as goal

pub returns-in-Passed : goal.returns-in-Passed
returns-in-Passed c = ap answer_by_tag (sym c.in-Passed.in-Passed-own.keys1) ∙ by_tag c.args.outcome

pub returns-in-Failed : goal.returns-in-Failed
returns-in-Failed c = ap answer_by_tag (sym c.in-Failed.in-Failed-own.keys2) ∙ by_tag c.args.outcome

pub returns-in-Silent : goal.returns-in-Silent
returns-in-Silent c = ap answer_by_tag (sym c.in-Silent.in-Silent-own.keys3) ∙ by_tag c.args.outcome

pub returns-in-Cut : goal.returns-in-Cut
returns-in-Cut c = ap answer_by_tag (sym c.in-Cut.in-Cut-own.keys4) ∙ by_tag c.args.outcome

pub returns-in-Illegal : goal.returns-in-Illegal
returns-in-Illegal c = ap answer_by_tag (sym c.in-Illegal.in-Illegal-own.keys5) ∙ by_tag c.args.outcome

pub returns-in-Protected : goal.returns-in-Protected
returns-in-Protected c = ap answer_by_tag (sym c.in-Protected.in-Protected-own.keys6) ∙ by_tag c.args.outcome
