-- Laws of status reads: what the status byte tells of the line, and which cycles a poll sends. Assumes nothing.
use Prim.Native.Nat.{ℕ, zero, suc, ◌+◌, ◌-◌, ◌*◌, ◌/◌, ◌%◌, ◌<◌, ◌≤◌}
use mathlib.Core.Bool.{Bool, true, false, cond, not, true≢false, false≢true}
use mathlib.Core.List.{List, []}
use mathlib.Core.Logic.{◌⊎◌, inl, inr, ⊎_elim}
use mathlib.Core.Path.{◌≡◌, refl, sym, ap, ap₂, ◌∙◌, subst}
use native.Mathlib.Omega.{arith}
use borrow.Author.Tests.{eq-eqb, ne_eqb, eqb-true, eqb-false}
use borrow.Table.Steps.{cases}
use lib.Dec.{eqb}
use lib.ListN.{replicate}
use Rattle.geometry.specs.declared.Geometry.{Geometry}
use Rattle.chip_interface.specs.Interface.{status_byte, protected_byte}
use Rattle.chip_array.specs.Device.{Device, Setting, setting, completed}
use Rattle.chip.specs.Chip.{Cycle, exec, finished, status_read, status_shown}
use Rattle.chip.specs.Chip.Cycle.{status}
use Rattle.bus.specs.Line.{Line, admits, send, send_all, status_out, goes_on, Going}
use Rattle.bus.proofs.LineLaws.{going, send_on, send_off, blocked-stops, send_all_stopped}
use Rattle.bus_polling.specs.Polling.{outcome_of, answer_of, ended_as, ready, judged, writable, waiting, polls, polled}
use Rattle.bus_polling.specs.Outcomes.{is_passed, answered, guarded}
use Rattle.bus_polling.specs.declared.Outcome.{Outcome}
use Rattle.bus_polling.specs.declared.Outcome.TheVariants.{Passed, Failed, Silent}
use Rattle.bus_polling.proofs.OutcomeLaws.{guarded_same, guarded-answered, guarded_unpassed}

same_arms : (b : Bool) (o : Outcome) → cond b o o ≡ o
same_arms true o = refl
same_arms false o = refl

-- a chip that reports ready is in the status phase, and its fail bit and its write-protect line are as they were
pub record Settled (w k : ℕ) (d : Device) : Type 0 where
  pub is : d.interface.illegal ≡ 0 → (d.interface.phase ≡ 1) × (d.interface.failed ≡ k) × (d.interface.protected ≡ w)

pub settled : {w k : ℕ} {d : Device} → d.interface.phase ≡ 1 → d.interface.failed ≡ k → d.interface.protected ≡ w → Settled w k d
settled p f v = record { is = λ _. (p, f, v) }

pub refused-settled : {w k : ℕ} {d : Device} → d.interface.illegal ≡ 1 → Settled w k d
refused-settled e = record { is = λ h. absurd (true≢false (ap (λ (n : ℕ). eqb n 1) (sym e ∙ h))) }

pub arms : (w k : ℕ) (b : Bool) (x y : Device) → Settled w k x → Settled w k y → Settled w k (cond b x y)
arms w k true x y p q = p
arms w k false x y p q = q

pub finished-settled : (g : Geometry) (d : Device) → Settled d.interface.protected d.interface.failed (finished g d)
unfolding finished completed
finished-settled g d = search (arms, settled, refused-settled) depth 9

-- the status byte of a read that leaves the chip d
pub record Told (byte : ℕ) (d : Device) : Type 0 where
  pub tells : d.interface.illegal ≡ 0 → ((byte ≡ status_byte d.interface.protected 0 0) × (d.interface.phase ≡ 8)) ⊎ ((byte ≡ status_byte d.interface.protected 1 d.interface.failed) × (d.interface.phase ≡ 1))

pub settled-told : (w k : ℕ) (d : Device) → Settled w k d → Told (status_byte w 1 k) d
settled-told w k d p =
    record { tells = λ h. inr (ap₂ (λ (x y : ℕ). status_byte x 1 y) (sym (p.is h).2) (sym (p.is h).1), (p.is h).0) }

pub status_told : (g : Geometry) (d : Device) → Told (status_shown d.interface) (status_read g d)
unfolding status_read status_shown
status_told g d =
    cases (eqb d.interface.phase 1)
    (λ a. rw a (settled-told d.interface.protected d.interface.failed d (settled (eqb-true _ _ a) refl refl)))
    (λ a. cases (eqb d.interface.phase 8)
    (λ b. cases (eqb d.interface.busy 0)
    (λ z. rw (a, b, z) (settled-told d.interface.protected d.interface.failed (finished g d) (finished-settled g d)))
    (λ z. rw (a, b, z) (record { tells = λ h. inl (refl, eqb-true _ _ b) })))
    (λ b. rw (a, b) (record { tells = λ h. absurd (true≢false (ap (λ (n : ℕ). eqb n 1) h)) })))

pub busy_told : (w : ℕ) → ready (status_byte w 0 0) ≡ false
unfolding status_byte protected_byte ready
busy_told w = cases (eqb w 0) (λ a. rw a) (λ a. rw a)

pub ready-told : (w k : ℕ) → ready (status_byte w 1 k) ≡ true
unfolding status_byte protected_byte ready
ready-told w k =
    cases (eqb w 0) (λ b. cases (eqb k 0) (λ a. rw (b, a)) (λ a. rw (b, a))) (λ b. cases (eqb k 0) (λ a. rw (b, a)) (λ a. rw (b, a)))

pub judged-told : (w k : ℕ) → judged (status_byte w 1 k) ≡ cond (eqb k 0) Passed Failed
unfolding status_byte protected_byte judged
judged-told w k =
    cases (eqb w 0) (λ b. cases (eqb k 0) (λ a. rw (b, a)) (λ a. rw (b, a))) (λ b. cases (eqb k 0) (λ a. rw (b, a)) (λ a. rw (b, a)))

-- bit 7 of a status that is ready is clear exactly where the line is low
pub writable-told : (w k : ℕ) → writable (status_byte w 1 k) ≡ eqb w 0
unfolding status_byte protected_byte writable
writable-told w k =
    cases (eqb w 0) (λ b. cases (eqb k 0) (λ a. rw (b, a)) (λ a. rw (b, a))) (λ b. cases (eqb k 0) (λ a. rw (b, a)) (λ a. rw (b, a)))

pub writable_busy : (w : ℕ) → writable (status_byte w 0 0) ≡ eqb w 0
unfolding status_byte protected_byte writable
writable_busy w = cases (eqb w 0) (λ b. rw b) (λ b. rw b)

-- the bit of the status byte that says ready
pub ready-bit : (n : ℕ) → not (eqb (n / 64 % 2 * 64) 0) ≡ ready n
unfolding ready
ready-bit n =
    cases (eqb (n / 64 % 2) 1)
    (λ a. rw (ne_eqb (n / 64 % 2 * 64) 0 (λ e. omega (arith, e, eqb-true (n / 64 % 2) 1 a)), a))
    (λ a.
    let z : n / 64 % 2 ≡ 0 = omega (arith, eqb-false (n / 64 % 2) 1 a) in
    rw (eq-eqb (n / 64 % 2 * 64) 0 (ap (λ (x : ℕ). x * 64) z), a))

-- the bit that says writable
pub writable-bit : (n : ℕ) → not (eqb (n / 128 % 2 * 128) 0) ≡ writable n
unfolding writable
writable-bit n =
    cases (eqb (n / 128 % 2) 1)
    (λ a. rw (ne_eqb (n / 128 % 2 * 128) 0 (λ e. omega (arith, e, eqb-true (n / 128 % 2) 1 a)), a))
    (λ a.
    let z : n / 128 % 2 ≡ 0 = omega (arith, eqb-false (n / 128 % 2) 1 a) in
    rw (eq-eqb (n / 128 % 2 * 128) 0 (ap (λ (x : ℕ). x * 128) z), a))

-- outcomes of a line that goes on, and of one that stopped
pub outcome_judged : (l : Line) → Going l → l.chip.interface.phase ≡ 1 → outcome_of l ≡ cond (eqb l.chip.interface.failed 0) Passed Failed
unfolding outcome_of
outcome_judged l g p =
    rw (eq-eqb _ _ g.uncut, eq-eqb _ _ g.legal, ap (λ (n : ℕ). eqb n 8) p)

pub outcome_silent : (l : Line) → goes_on l ≡ true → l.chip.interface.phase ≡ 8 → outcome_of l ≡ Silent
unfolding outcome_of
outcome_silent l t p =
    let g = going l t in
    rw (eq-eqb _ _ g.uncut, eq-eqb _ _ g.legal, eq-eqb _ _ p)

pub ended-stopped : (l : Line) → goes_on l ≡ false → ended_as l ≡ outcome_of l
unfolding outcome_of ended_as goes_on
ended-stopped l h =
    cases (eqb l.cut 0)
    (λ a. cases (eqb l.chip.interface.illegal 0) (λ b. absurd (true≢false (sym (rw (a, b)) ∙ h))) (λ b. rw (a, b)))
    (λ a. rw a)

pub stopped_unanswered : (l : Line) → goes_on l ≡ false → answered (ended_as l) ≡ false
unfolding ended_as goes_on answered
stopped_unanswered l h =
    cases (eqb l.cut 0)
    (λ a. cases (eqb l.chip.interface.illegal 0) (λ b. absurd (true≢false (sym (rw (a, b)) ∙ h))) (λ b. rw (a, b)))
    (λ a. rw a)

-- how a program or an erase ended, from the outcome and the status byte of its status reads
pub answer_is : (l : Line) (o : Outcome) (byte : ℕ) → o ≡ outcome_of l → (answered o ≡ true → writable byte ≡ eqb l.chip.interface.protected 0) → cond (writable byte) o (guarded o) ≡ answer_of l
answer_is l o byte e w =
    cases (answered o)
    (λ t. ap (λ (b : Bool). cond b o (guarded o)) (w t) ∙ ap (λ (x : Outcome). cond (eqb l.chip.interface.protected 0) x (guarded x)) e)
    (λ t.
    ap (cond (writable byte) o) (guarded_same o t)
    ∙ same_arms (writable byte) o
    ∙ sym (same_arms (eqb l.chip.interface.protected 0) o)
    ∙ ap (cond (eqb l.chip.interface.protected 0) o) (sym (guarded_same o t))
    ∙ ap (λ (x : Outcome). cond (eqb l.chip.interface.protected 0) x (guarded x)) e)

-- with the line high it is the outcome, with the line low never passed or failed; ready was reported where the outcome says so
pub answer_high : (l : Line) → l.chip.interface.protected ≡ 0 → answer_of l ≡ outcome_of l
answer_high l high = rw (eq-eqb _ _ high)

pub answer_low : (l : Line) → (l.chip.interface.protected ≡ 0 → ⊥) → answer_of l ≡ guarded (outcome_of l)
answer_low l low = rw (ne_eqb _ _ low)

pub answer_answered : (l : Line) → answered (answer_of l) ≡ answered (outcome_of l)
answer_answered l =
    cases (eqb l.chip.interface.protected 0) (λ t. rw t) (λ t. rw t (guarded-answered (outcome_of l)))

-- passed tells that the line is high
pub passed_high : (l : Line) → is_passed (answer_of l) ≡ true → l.chip.interface.protected ≡ 0
passed_high l h =
    cases (eqb l.chip.interface.protected 0) (λ t. eqb-true _ _ t)
    (λ t. absurd (false≢true (sym (rw t (guarded_unpassed (outcome_of l))) ∙ h)))

module _ (s : Setting) where
  -- a line that goes on after a cycle sent it
  pub sent_on : (l : Line) (c : Cycle) → goes_on (send s l c) ≡ true → admits l ≡ true
  sent_on l c h =
      cases (admits l) (λ a. a)
      (λ a. absurd (true≢false (sym h ∙ ap goes_on (send_off s l c a) ∙ blocked-stops l)))

  pub chip_on : (l : Line) (c : Cycle) → goes_on (send s l c) ≡ true → (send s l c).chip ≡ exec s l.chip c
  chip_on l c h = ap (λ (x : Line). x.chip) (send_on s l c (sent_on l c h))

  pub line_told : (l : Line) → goes_on (send s l status) ≡ true → Told (status_out l) (send s l status).chip
  unfolding status_out exec
  line_told l h =
      rw (sent_on l status h)
      (subst (Told (status_shown l.chip.interface)) (sym (chip_on l status h)) (status_told s.geometry l.chip))

  -- a status that is ready tells how the operation ended, and one that is not leaves the chip busy
  pub told_ready : (l : Line) → goes_on (send s l status) ≡ true → ready (status_out l) ≡ true → ((send s l status).chip.interface.phase ≡ 1) × (judged (status_out l) ≡ outcome_of (send s l status)) × (writable (status_out l) ≡ eqb (send s l status).chip.interface.protected 0)
  told_ready l h t =
      let g = going (send s l status) h in
      ⊎_elim (λ w. absurd (false≢true (sym (ap ready w.0 ∙ busy_told _) ∙ t)))
      (λ w. (w.1, ap judged w.0 ∙ judged-told _ _ ∙ sym (outcome_judged (send s l status) g w.1), ap writable w.0 ∙ writable-told _ _))
      ((line_told l h).tells g.legal)

  pub told_busy : (l : Line) → goes_on (send s l status) ≡ true → ready (status_out l) ≡ false → (send s l status).chip.interface.phase ≡ 8
  told_busy l h t =
      ⊎_elim (λ w. w.1) (λ w. absurd (false≢true (sym t ∙ ap ready w.0 ∙ ready-told _ _)))
      ((line_told l h).tells (going (send s l status) h).legal)

  -- bit 7 of a status read that was taken, ready or busy
  pub told_writable : (l : Line) → goes_on (send s l status) ≡ true → writable (status_out l) ≡ eqb (send s l status).chip.interface.protected 0
  told_writable l h =
      ⊎_elim (λ w. ap writable w.0 ∙ writable_busy _) (λ w. ap writable w.0 ∙ writable-told _ _)
      ((line_told l h).tells (going (send s l status) h).legal)

  pub polled_stops : (n : ℕ) (l : Line) → goes_on (send s l status) ≡ false → polled s (suc n) l ≡ send s l status
  unfolding polled
  polled_stops n l h = rw h

  pub polled_ends : (n : ℕ) (l : Line) → goes_on (send s l status) ≡ true → eqb (send s l status).chip.interface.phase 8 ≡ false → polled s (suc n) l ≡ send s l status
  unfolding polled
  polled_ends n l h p = rw (h, p)

  pub polled_more : (n : ℕ) (l : Line) → goes_on (send s l status) ≡ true → eqb (send s l status).chip.interface.phase 8 ≡ true → polled s (suc n) l ≡ polled s n (send s l status)
  unfolding polled
  polled_more n l h p = rw (h, p)

  -- read n of at most m leaves the line k: it stopped, or the status is ready, or the poll goes on
  pub poll_stops : {k : Line} (l : Line) (m n : ℕ) → n < m → k ≡ send s l status → goes_on k ≡ false → k ≡ polled s (m - n) l
  poll_stops l m n p e h =
      let w : m - n ≡ suc (m - (n + 1)) = omega arith in
      e ∙ rw w (sym (polled_stops _ l (rw e at h)))

  pub ready_at : {k : Line} {byte : ℕ} (l : Line) (m n : ℕ) → n < m → k ≡ send s l status → byte ≡ status_out l → goes_on k ≡ true → ready byte ≡ true → (k ≡ polled s (m - n) l) × (judged byte ≡ outcome_of k) × (writable byte ≡ eqb k.chip.interface.protected 0)
  ready_at l m n p e f h t =
      let w : m - n ≡ suc (m - (n + 1)) = omega arith in
      let r = told_ready l (rw e at h) (rw f at t) in
      (e ∙ rw w (sym (polled_ends _ l (rw e at h) (ap (λ (x : ℕ). eqb x 8) r.0))), ap judged f ∙ r.1 ∙ ap outcome_of (sym e), ap writable f ∙ r.2 ∙ ap (λ (x : Line). eqb x.chip.interface.protected 0) (sym e))

  pub busy_at : {k : Line} {byte : ℕ} (l : Line) (m n : ℕ) → n < m → k ≡ send s l status → byte ≡ status_out l → goes_on k ≡ true → ready byte ≡ false → (polled s (m - (n + 1)) k ≡ polled s (m - n) l) × (outcome_of k ≡ Silent)
  busy_at l m n p e f h t =
      let w : m - n ≡ suc (m - (n + 1)) = omega arith in
      let b = told_busy l (rw e at h) (rw f at t) in
      (ap (polled s (m - (n + 1))) e ∙ rw w (sym (polled_more _ l (rw e at h) (eq-eqb _ _ b))), ap outcome_of e ∙ outcome_silent (send s l status) (rw e at h) b)

  pub poll_done : (l : Line) (m n : ℕ) → m ≤ n → l ≡ polled s (m - n) l
  unfolding polled
  poll_done l m n p =
      let w : m - n ≡ zero = omega arith in
      rw w

  -- the number of status reads
  pub polls_on : (n : ℕ) (l : Line) → goes_on (send s l status) ≡ true → polls s (suc n) l.chip ≡ suc (cond (eqb (send s l status).chip.interface.phase 8) (polls s n (send s l status).chip) zero)
  unfolding polls waiting
  polls_on n l h =
      ap (λ (d : Device). suc (cond (waiting d) (polls s n d) zero)) (sym (chip_on l status h))
      ∙ cases (eqb (send s l status).chip.interface.phase 8)
      (λ p. rw (p, eq-eqb _ _ (going (send s l status) h).legal))
      (λ p. rw p)

  -- a poll sends as many status reads as the chip asks
  pub polled_all : (n : ℕ) (l : Line) → polled s n l ≡ send_all s l (replicate (polls s n l.chip) status)
  unfolding polled polls send_all
  polled_all zero l = refl
  polled_all (suc n) l =
      cases (goes_on (send s l status))
      (λ h. cases (eqb (send s l status).chip.interface.phase 8)
      (λ p. polled_more n l h p ∙ polled_all n (send s l status)
      ∙ ap (λ (k : ℕ). send_all s l (replicate k status)) (sym (rw p at (polls_on n l h))))
      (λ p. polled_ends n l h p ∙ ap (λ (k : ℕ). send_all s l (replicate k status)) (sym (rw p at (polls_on n l h)))))
      (λ h. let d = exec s l.chip status in
      polled_stops n l h ∙ sym (send_all_stopped s (send s l status) (replicate (cond (waiting d) (polls s n d) zero) status) h))

-- a read that is ready, and one that is not, for every mask and all fates, which a status read does not ask
module _ (g : Geometry) where
  pub poll_ready : {k : Line} {byte : ℕ} (l : Line) (m n : ℕ) → n < m → ((x y : List ℕ) → k ≡ send (setting g x y) l status) → byte ≡ status_out l → goes_on k ≡ true → ready byte ≡ true → ((x y : List ℕ) → k ≡ polled (setting g x y) (m - n) l) × (judged byte ≡ outcome_of k) × (writable byte ≡ eqb k.chip.interface.protected 0)
  poll_ready l m n p e f h t =
      (λ x y. (ready_at (setting g x y) l m n p (e x y) f h t).0, (ready_at (setting g [] []) l m n p (e [] []) f h t).1, (ready_at (setting g [] []) l m n p (e [] []) f h t).2)

  pub poll_goes : {k : Line} {byte : ℕ} (l : Line) (m n : ℕ) → n < m → ((x y : List ℕ) → k ≡ send (setting g x y) l status) → byte ≡ status_out l → goes_on k ≡ true → ready byte ≡ false → ((x y : List ℕ) → polled (setting g x y) (m - (n + 1)) k ≡ polled (setting g x y) (m - n) l) × (outcome_of k ≡ Silent)
  poll_goes l m n p e f h t =
      (λ x y. (busy_at (setting g x y) l m n p (e x y) f h t).0, (busy_at (setting g [] []) l m n p (e [] []) f h t).1)
