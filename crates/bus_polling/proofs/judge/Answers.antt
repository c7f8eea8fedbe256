-- `bus_polling::judge` meets its contract: bit 0 is the remainder by 2. Assumes nothing.
use mathlib.Core.Path.{sym, ◌∙◌}
use borrow.Author.Tests.{eq-eqb, ne_eqb}
use lib.Bits.{and_mask}
use Rattle.bus_polling.specs.Polling.{judged}
use Rattle.bus_polling.proofs.judge.Goals as goal

pub returns-then-status-eq0 : goal.returns-then-status-eq0
unfolding judged
returns-then-status-eq0 c =
    rw (eq-eqb _ _ (sym (and_mask c.args.status 1) ∙ c.if-status-eq0.true))

pub returns : goal.returns
unfolding judged
returns c =
    rw (ne_eqb _ _ (λ e. c.if-status-eq0.false (and_mask c.args.status 1 ∙ e)))
