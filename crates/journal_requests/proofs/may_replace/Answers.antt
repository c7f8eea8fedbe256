-- `journal_requests::may_replace` meets its contract. Assumes nothing.
use mathlib.Core.Bool.{Bool, not}
use mathlib.Core.Path.{ap, ◌∙◌}
use Rattle.journal_requests.proofs.EndLaws.{may_none, may_absent, may_one}
use Rattle.journal_requests.proofs.may_replace.Goals as goal

pub returns-then-target-eq0 : goal.returns-then-target-eq0
returns-then-target-eq0 c =
    λ pages told. may_none c.args.replaced.now c.args.records c.args.target c.requires.target_bound pages told c.if-target-eq0.true

pub returns-then-records-target : goal.returns-then-records-target
returns-then-records-target c =
    λ pages told. may_absent c.args.replaced.now c.args.records c.args.target c.requires.target_bound pages told c.if-target-eq0.false c.if-records-target.true

pub returns : goal.returns
returns c =
    λ pages told. ap (λ (b : Bool). not b) c.is_set.ensures ∙ may_one c.args.replaced.now c.args.records c.args.target c.requires.target_bound pages told c.if-target-eq0.false c.if-records-target.false
