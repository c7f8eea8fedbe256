-- `bus_polling::poll` meets its contract: as many reads as are left, from the present line, leave what 256 leave from the first, and the chip is busy after the first of them. Assumes nothing.
use Prim.Native.Nat.{◌-◌}
use mathlib.Core.Bool.{false≢true}
use mathlib.Core.Path.{refl, sym, ap, ◌∙◌}
use native.Mathlib.Omega.{arith}
use borrow.Author.Rules.{rules}
use Rattle.bus_polling.specs.Outcomes.{answered}
use Rattle.bus_polling.proofs.PollLaws.{poll_stops, poll_ready, poll_goes, poll_done, ended-stopped, stopped_unanswered}
use Rattle.bus_polling.proofs.poll.Goals as goal

pub loop-reads-init : goal.loop-reads-init
loop-reads-init c = (omega arith, refl, refl, λ m f. refl, λ h. absurd (omega arith))

pub returns-then-not-goes_on : goal.returns-then-not-goes_on
returns-then-not-goes_on c =
    let stopped = sym (c.goes_on.ensures _ _ _) ∙ c.if-not-goes_on.true in record { by_index = λ m f. poll_stops _ _ 256 c.loop-reads.reads (omega arith) (c.status-out.ensures.by_index m f) stopped ∙ c.loop-reads.invariant.3 m f; outcome_value = c.ended.ensures _ _ _ ∙ ended-stopped _ stopped; status_value = λ t. absurd (false≢true (sym (ap answered (c.ended.ensures _ _ _) ∙ stopped_unanswered _ stopped) ∙ t)) }

pub returns-then-is_ready : goal.returns-then-is_ready
returns-then-is_ready c =
    let r = poll_ready _ _ 256 c.loop-reads.reads (omega arith) c.status-out.ensures.by_index (c.status-out.ensures.by_index_2 _ _ _) (sym (c.goes_on.ensures _ _ _) ∙ c.if-not-goes_on.false) (sym c.is_ready.ensures ∙ c.if-is_ready.true) in record { by_index = λ m f. r.0 m f ∙ c.loop-reads.invariant.3 m f; outcome_value = c.judge.ensures ∙ r.1; status_value = λ t. r.2 }

pub loop-reads-preserved : goal.loop-reads-preserved
loop-reads-preserved c =
    let r = poll_goes _ _ 256 c.loop-reads.reads (omega arith) c.status-out.ensures.by_index (c.status-out.ensures.by_index_2 _ _ _) (sym (c.goes_on.ensures _ _ _) ∙ c.if-not-goes_on.false) (sym c.is_ready.ensures ∙ c.if-is_ready.false) in
    (omega arith, search rules, search rules, λ m f. r.0 m f ∙ c.loop-reads.invariant.3 m f, λ h. r.1)

pub returns : goal.returns
unfolding answered
returns c = record { by_index = λ m f. poll_done _ _ 256 c.loop-reads.reads (omega arith) ∙ c.loop-reads.invariant.3 m f; outcome_value = sym (c.loop-reads.invariant.4 (omega arith)); status_value = λ t. absurd (false≢true t) }
