-- `journal_requests::append_refusal` meets its contract. Assumes nothing.
use mathlib.Core.Path.{sym, ◌∙◌}
use Rattle.journal_requests.proofs.EndLaws.{late_force, late_none, late_room}
use Rattle.journal_requests.proofs.append_refusal.Goals as goal

pub returns-then-not-may_replace : goal.returns-then-not-may_replace
returns-then-not-may_replace c =
    λ pages told. late_force c.args.replaced.now c.args.records c.args.target c.requires.target_bound pages told c.args.most (sym (c.may_replace.ensures pages told) ∙ c.if-not-may_replace.true)

pub returns-then-records-most : goal.returns-then-records-most
returns-then-records-most c =
    λ pages told. late_none c.args.replaced.now c.args.records c.args.target c.requires.target_bound pages told c.args.most (sym (c.may_replace.ensures pages told) ∙ c.if-not-may_replace.false) c.if-records-most.true

pub returns : goal.returns
returns c =
    λ pages told. late_room c.args.replaced.now c.args.records c.args.target c.requires.target_bound pages told c.args.most (sym (c.may_replace.ensures pages told) ∙ c.if-not-may_replace.false) c.if-records-most.false
