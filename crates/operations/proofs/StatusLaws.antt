-- A status read by itself: how it ended, from its outcome and its byte. Assumes nothing.
use Prim.Native.Nat.{ℕ}
use mathlib.Core.Bool.{Bool, true, false, cond, false≢true}
use mathlib.Core.Path.{◌≡◌, refl, sym, ap, ◌∙◌}
use borrow.Table.Steps.{cases}
use borrow.Author.Tests.{eq-eqb}
use lib.Dec.{eqb}
use Rattle.chip_array.specs.Device.{Setting}
use Rattle.chip.specs.Chip.Cycle.{status}
use Rattle.bus.specs.Line.{Line, send, goes_on, status_out}
use Rattle.bus.proofs.LineLaws.{going}
use Rattle.bus_polling.specs.Outcomes.{is_passed, guarded}
use Rattle.bus_polling.specs.Polling.{ended_as, writable}
use Rattle.bus_polling.specs.declared.Outcome.{Outcome}
use Rattle.bus_polling.specs.declared.Outcome.TheVariants.{Passed}
use Rattle.bus_polling.proofs.OutcomeLaws.{guarded_same, passed_answered}
use Rattle.bus_polling.proofs.PollLaws.{told_writable, stopped_unanswered}
use Rattle.operations.specs.Ends.{status_end}

same_arms : (b : Bool) (o : Outcome) → cond b o o ≡ o
same_arms true o = refl
same_arms false o = refl

ended_going : (k : Line) → goes_on k ≡ true → ended_as k ≡ Passed
unfolding ended_as
ended_going k t =
    let g = going k t in
    rw (eq-eqb _ _ g.uncut, eq-eqb _ _ g.legal)

pub status_is : (s : Setting) (l k : Line) (o : Outcome) (byte : ℕ) → k ≡ send s l status → o ≡ ended_as k → byte ≡ status_out l → cond (writable byte) o (guarded o) ≡ status_end k
unfolding status_end is_passed guarded
status_is s l k o byte e q f =
    cases (goes_on k)
    (λ t.
    let w : writable byte ≡ eqb k.chip.interface.protected 0 = ap writable f ∙ told_writable s l (ap goes_on (sym e) ∙ t) ∙ ap (λ (x : Line). eqb x.chip.interface.protected 0) (sym e) in
    let ended = ended_going k t in
    ap (λ (x : Outcome). cond (writable byte) x (guarded x)) (q ∙ ended) ∙ rw (w, ended))
    (λ t.
    let u = stopped_unanswered k t in
    let unpassed : is_passed (ended_as k) ≡ false = cases (is_passed (ended_as k)) (λ y. absurd (false≢true (sym u ∙ passed_answered (ended_as k) y))) (λ y. y) in
    ap (λ (x : Outcome). cond (writable byte) x (guarded x)) q
    ∙ ap (cond (writable byte) (ended_as k)) (guarded_same (ended_as k) u)
    ∙ same_arms (writable byte) (ended_as k)
    ∙ sym (rw unpassed))
