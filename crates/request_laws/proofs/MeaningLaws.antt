-- The table of how operations end, held against the status that is read and against the answers of requests. Assumes nothing.
use Prim.Native.Nat.{ℕ}
use mathlib.Core.Bool.{Bool, true, false, true≢false}
use mathlib.Core.Logic.{inl, inr, ⊎_elim}
use mathlib.Core.Option.{Option, none, some}
use mathlib.Core.Path.{◌≡◌, sym, ap, subst, ◌∙◌}
use native.Mathlib.Omega.{arith}
use borrow.Author.Tests.{eq-eqb, ne_eqb}
use borrow.Table.Steps.{cases}
use lib.Dec.{eqb}
use Rattle.chip_interface.specs.Interface.{status_byte, protected_byte}
use Rattle.chip_array.specs.Device.{Setting}
use Rattle.chip.specs.Chip.{exec, status_shown}
use Rattle.chip.specs.Chip.Cycle.{status}
use Rattle.bus.specs.Line.{Line, admits, send, Going}
use Rattle.bus.proofs.LineLaws.{send_on}
use Rattle.bus_polling.specs.Outcomes.{is_passed, is_silent, is_cut_off, is_protected, guarded}
use Rattle.bus_polling.specs.Polling.{outcome_of, answer_of, ended_as}
use Rattle.bus_polling.specs.declared.Outcome.{Outcome}
use Rattle.bus_polling.specs.declared.Outcome.TheVariants.{Passed, Failed, Silent, Cut, Illegal, Protected}
use Rattle.bus_polling.proofs.PollLaws.{Told, status_told}
use Rattle.operations.specs.Ends.{status_end}
use Rattle.request.specs.Call.{stop_answer, answer_for, status_answer}
use Rattle.request_laws.specs.Meaning.{meaning, Among}

some_same : {a b : ℕ} → some a ≡ some b → a ≡ b
some_same {a} {b} e = ap (λ (o : Option ℕ). from a o) e
  where
    from : ℕ → Option ℕ → ℕ
    from d none = d
    from d (some x) = x

none_some : {a : ℕ} → none ≡ some a → ⊥
none_some e = true≢false (ap is_none e)
  where
    is_none : Option ℕ → Bool
    is_none none = true
    is_none (some x) = false

-- what a line has come to by a status read that gave this byte
module _ (byte : ℕ) (l : Line) (g : Going l) where
  -- the write-protect line is high
  module _ (high : l.chip.interface.protected ≡ 0) where
    busy_means : byte ≡ status_byte l.chip.interface.protected 0 0 → l.chip.interface.phase ≡ 8 → Among (meaning (outcome_of l)).status byte
    unfolding outcome_of status_byte meaning Among
    busy_means e p =
        rw (eq-eqb _ _ g.uncut, eq-eqb _ _ g.legal, eq-eqb _ _ p) (inl (e ∙ rw (eq-eqb _ _ high)))

    ready_means : byte ≡ status_byte l.chip.interface.protected 1 l.chip.interface.failed → l.chip.interface.phase ≡ 1 → Among (meaning (outcome_of l)).status byte
    unfolding outcome_of status_byte meaning Among
    ready_means e p =
        let ready = ne_eqb l.chip.interface.phase 8 (λ x. omega (arith, x, p)) in
        cases (eqb l.chip.interface.failed 0)
        (λ f. rw (eq-eqb _ _ g.uncut, eq-eqb _ _ g.legal, ready, f) (inl (e ∙ rw (eq-eqb _ _ high, f))))
        (λ f. rw (eq-eqb _ _ g.uncut, eq-eqb _ _ g.legal, ready, f) (inl (e ∙ rw (eq-eqb _ _ high, f))))

    told_means : Told byte l.chip → Among (meaning (outcome_of l)).status byte
    told_means t =
        ⊎_elim
        (λ (x : (byte ≡ status_byte l.chip.interface.protected 0 0) × (l.chip.interface.phase ≡ 8)). busy_means x.0 x.1)
        (λ (x : (byte ≡ status_byte l.chip.interface.protected 1 l.chip.interface.failed) × (l.chip.interface.phase ≡ 1)). ready_means x.0 x.1)
        (t.tells g.legal)

  -- it is low, and the chip ready
  module _ (low : l.chip.interface.protected ≡ 0 → ⊥) (ready : l.chip.interface.phase ≡ 1) where
    low_byte : Told byte l.chip → Among (meaning Protected).status byte
    unfolding status_byte protected_byte meaning Among
    low_byte t =
        ⊎_elim
        (λ (x : (byte ≡ status_byte l.chip.interface.protected 0 0) × (l.chip.interface.phase ≡ 8)). absurd (omega (arith, x.1, ready)))
        (λ (x : (byte ≡ status_byte l.chip.interface.protected 1 l.chip.interface.failed) × (l.chip.interface.phase ≡ 1)).
        cases (eqb l.chip.interface.failed 0)
        (λ f. inl (x.0 ∙ rw (ne_eqb _ _ low, f)))
        (λ f. inr (inl (x.0 ∙ rw (ne_eqb _ _ low, f)))))
        (t.tells g.legal)

    low_operation : answer_of l ≡ Protected
    unfolding outcome_of guarded
    low_operation =
        let shown = ne_eqb l.chip.interface.phase 8 (λ x. omega (arith, x, ready)) in
        cases (eqb l.chip.interface.failed 0)
        (λ f. rw (ne_eqb _ _ low, eq-eqb _ _ g.uncut, eq-eqb _ _ g.legal, shown, f))
        (λ f. rw (ne_eqb _ _ low, eq-eqb _ _ g.uncut, eq-eqb _ _ g.legal, shown, f))

    low_status : status_end l ≡ Protected
    unfolding status_end ended_as is_passed
    low_status = rw (eq-eqb _ _ g.uncut, eq-eqb _ _ g.legal, ne_eqb _ _ low)

shown-told : (s : Setting) (l : Line) → admits l ≡ true → Told (status_shown l.chip.interface) (send s l status).chip
unfolding exec
shown-told s l t =
    subst (Told (status_shown l.chip.interface)) (sym (ap (λ (x : Line). x.chip) (send_on s l status t))) (status_told s.geometry l.chip)

-- the outcome of a line that was asked for its status is that of the byte it was given
pub status_means : (s : Setting) (l : Line) → admits l ≡ true → Going (send s l status) → (send s l status).chip.interface.protected ≡ 0
    → Among (meaning (outcome_of (send s l status))).status (status_shown l.chip.interface)
status_means s l t g high = told_means (status_shown l.chip.interface) (send s l status) g high (shown-told s l t)

-- with the write-protect line low, and the chip ready: so ends a program or an erase, and so the status read of a request
pub protected_means : (s : Setting) (l : Line) → admits l ≡ true → Going (send s l status) → ((send s l status).chip.interface.protected ≡ 0 → ⊥)
    → (send s l status).chip.interface.phase ≡ 1
    → (answer_of (send s l status) ≡ Protected) × (status_end (send s l status) ≡ Protected) × Among (meaning Protected).status (status_shown l.chip.interface)
protected_means s l t g low ready =
    let byte = status_shown l.chip.interface in
    let shown = send s l status in
    (low_operation byte shown g low ready, low_status byte shown g low ready, low_byte byte shown g low ready (shown-told s l t))

-- a request that ends with an operation has the table's answer
pub answer_means : (o : Outcome) (k : ℕ) → is_protected o ≡ false → (meaning o).answer ≡ some k → answer_for o ≡ k
unfolding meaning stop_answer is_passed is_silent is_cut_off is_protected
answer_means Passed k u e = some_same e
answer_means Failed k u e = absurd (none_some e)
answer_means Silent k u e = some_same e
answer_means Cut k u e = some_same e
answer_means Illegal k u e = some_same e
answer_means Protected k u e = absurd (true≢false u)

-- and so has one that ends with its status read
pub status_answer_means : (o : Outcome) (k : ℕ) → is_passed o ≡ false → (meaning o).answer ≡ some k → status_answer o ≡ k
unfolding meaning status_answer stop_answer is_passed is_silent is_cut_off is_protected
status_answer_means Passed k f e = absurd (true≢false f)
status_answer_means Failed k f e = absurd (none_some e)
status_answer_means Silent k f e = some_same e
status_answer_means Cut k f e = some_same e
status_answer_means Illegal k f e = some_same e
status_answer_means Protected k f e = some_same e
