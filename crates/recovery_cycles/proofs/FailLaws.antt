-- E1h is read in the status reads of an operation exactly if the operation failed. Assumes nothing.
use Prim.Native.Nat.{ℕ, zero, suc, ◌-◌, ◌/◌, ◌<◌}
use mathlib.Core.Bool.{Bool, true, false, cond}
use mathlib.Core.List.{List, [], ◌∷◌, ◌++◌}
use mathlib.Core.Logic.{◌⊎◌, inl, inr, ⊎_elim}
use mathlib.Core.Path.{◌≡◌, refl, sym, ap, subst, ◌∙◌}
use native.Mathlib.Omega.{arith}
use borrow.Author.Tests.{eq-eqb, ne_eqb, eqb-true, eqb-false}
use borrow.Table.Steps.{cases}
use lib.Dec.{eqb}
use lib.ListN.{replicate}
use Rattle.bools.proofs.BoolLaws.{or_none}
use Rattle.geometry.specs.declared.Geometry.{Geometry}
use Rattle.geometry.specs.Sizes.{row_count}
use Rattle.chip_interface.specs.declared.Interface.{Interface}
use Rattle.chip_interface.specs.Interface.{in_phase, started, status_byte, protected_byte}
use Rattle.chip_array.specs.Device.{Device, Setting, device, with_interface, illegal_cycle, lengths_fit, row_at, read_started, program_started, erase_started, completed}
use Rattle.chip.specs.Chip.{Cycle, exec, commanded, confirmable, confirmed, is_confirm, less_busy, status_shown, status_read, finished}
use Rattle.chip.specs.Chip.Cycle.{command, status}
use Rattle.bus.specs.Line.{Line, admits, cut_after, blocked, spent, send, send_all, sent, run, Going}
use Rattle.bus.proofs.LineLaws.{send_on, send_off, send_all_stopped, blocked-stops}
use Rattle.bus.proofs.StepLaws.{one_busy, ready_read, status_busy}
use Rattle.bus.proofs.WordLaws.{exec_line, send_line, all_line}
use Rattle.chip_laws.proofs.LengthLaws.{run_lengths}
use Rattle.chip_laws.proofs.ReplayLaws.{sent_append}
use Rattle.chip.proofs.ConfirmableLaws.{confirms}
use Rattle.operations.proofs.CallLaws.{fitting_holds}
use Rattle.recovery_cycles.proofs.LatchLaws.{one_zero, confirm_tested}
use Rattle.bus_polling.specs.Outcomes.{is_failed}
use Rattle.bus_polling.specs.Polling.{waiting, polls, outcome_of, answer_of}
use Rattle.bus_polling.proofs.OutcomeLaws.{guarded-unfailed}
use Rattle.bus_polling.proofs.PollLaws.{answer_high, answer_low}
use Rattle.operations.specs.Trace.{told_by}
use Rattle.recovery_cycles.specs.Starts.{takes, gives_failed, fails_next, kind_of}

-- a chip that is asked for its status while a read, program or erase is under way
pub record Asked (s : Setting) (d : Device) : Type 0 where
  pub asked : d.interface.phase ≡ 8
  pub legal : d.interface.illegal ≡ 0
  pub of_array : eqb d.interface.operation 4 ≡ false
  pub fits : lengths_fit s.geometry d ≡ true
  pub row : row_at d.interface < row_count s.geometry
  pub high : d.interface.protected ≡ 0

-- once ready is reported, on a line that is not cut
line_of : Device → ℕ → Line
line_of d n = record { chip = d; left = n; cut = 0 }

record Reported (failed : ℕ) (e : Device) : Type 0 where
  settled : waiting e ≡ false
  outcome : (n : ℕ) → is_failed (outcome_of (line_of e n)) ≡ eqb (status_byte 0 1 failed) 225

reported_arms : (failed : ℕ) (b : Bool) (x y : Device) → (b ≡ true → Reported failed x) → (b ≡ false → Reported failed y) → Reported failed (cond b x y)
reported_arms failed true x y p q = p refl
reported_arms failed false x y p q = q refl

-- the chip shows its status with no operation under way
shown : (e : Device) → e.interface.phase ≡ 1 → e.interface.illegal ≡ 0 → Reported e.interface.failed e
unfolding waiting outcome_of is_failed status_byte line_of
shown e p z =
    let n : eqb e.interface.phase 8 ≡ false = ne_eqb e.interface.phase 8 (λ x. omega (arith, x, p)) in
    record {
      settled = rw n;
      outcome = λ k. cases (eqb e.interface.failed 0) (λ f. rw (eq-eqb _ _ z, n, f)) (λ f. rw (eq-eqb _ _ z, n, f));
    }

refused-shown : (d : Device) (failed : ℕ) → eqb failed 0 ≡ true → Reported failed (illegal_cycle d)
unfolding waiting outcome_of is_failed status_byte line_of
refused-shown d failed f =
    record { settled = cases (eqb d.interface.phase 8) (λ p. rw p) (λ p. rw p); outcome = λ k. rw f }

completed_reported : (g : Geometry) (d : Device) → d.interface.illegal ≡ 0 → Reported d.interface.failed (completed g d)
unfolding completed
completed_reported g d z =
    reported_arms _ (eqb d.interface.operation 1) _ _ (λ a. shown _ refl z)
    (λ a. reported_arms _ (eqb d.interface.failed 0) _ _
    (λ f. reported_arms _ (eqb d.interface.operation 2) _ _ (λ b. shown _ refl z)
    (λ b. reported_arms _ (eqb d.interface.operation 3) _ _ (λ c. shown _ refl z) (λ c. refused-shown d d.interface.failed f)))
    (λ f. shown _ refl z))

-- a line that sends no more is cut
cut-unfailed : (l : Line) → Going l → is_failed (outcome_of (blocked l)) ≡ false
unfolding outcome_of cut_after is_failed
cut-unfailed l g = rw (eq-eqb _ _ g.uncut, eq-eqb _ _ g.legal)

silent_unfailed : (l : Line) → Going l → l.chip.interface.phase ≡ 8 → is_failed (outcome_of l) ≡ false
unfolding outcome_of is_failed
silent_unfailed l g p = rw (eq-eqb _ _ g.uncut, eq-eqb _ _ g.legal, eq-eqb _ _ p)

-- the status byte of a chip that is asked
asked-ready : (i : Interface) → i.phase ≡ 8 → i.busy ≡ 0 → i.protected ≡ 0 → status_shown i ≡ status_byte 0 1 i.failed
unfolding status_shown
asked-ready i p z high =
    rw (ne_eqb i.phase 1 (λ x. omega (arith, x, p)), eq-eqb _ _ p, eq-eqb _ _ z)
    (ap (λ (w : ℕ). status_byte w 1 i.failed) high)

asked_busy : (i : Interface) → i.phase ≡ 8 → eqb i.busy 0 ≡ false → i.protected ≡ 0 → status_shown i ≡ 128
unfolding status_shown status_byte
asked_busy i p z high = rw (ne_eqb i.phase 1 (λ x. omega (arith, x, p)), eq-eqb _ _ p, z, eq-eqb _ _ high)

same_arms : (d : Device) (b : Bool) (x y : Device) → x.interface.failed ≡ d.interface.failed → y.interface.failed ≡ d.interface.failed → (cond b x y).interface.failed ≡ d.interface.failed
same_arms d true x y p q = p
same_arms d false x y p q = q

-- it is not E1h where nothing failed, and where the write-protect line is low
byte_passed : (w r : ℕ) → eqb (status_byte w r 0) 225 ≡ false
unfolding status_byte protected_byte
byte_passed w r =
    cases (eqb w 0) (λ a. cases (eqb r 0) (λ b. rw (a, b)) (λ b. rw (a, b))) (λ a. cases (eqb r 0) (λ b. rw (a, b)) (λ b. rw (a, b)))

byte_low : (w r k : ℕ) → (w ≡ 0 → ⊥) → eqb (status_byte w r k) 225 ≡ false
unfolding status_byte protected_byte
byte_low w r k low =
    let a = ne_eqb w 0 low in
    cases (eqb r 0) (λ b. rw (a, b)) (λ b. cases (eqb k 0) (λ c. rw (a, b, c)) (λ c. rw (a, b, c)))

shown_passed : (i : Interface) → i.failed ≡ 0 → eqb (status_shown i) 225 ≡ false
unfolding status_shown
shown_passed i z =
    cases (eqb i.phase 1) (λ p. rw (p, z) (byte_passed i.protected 1))
    (λ p. cases (eqb i.phase 8) (λ q. cases (eqb i.busy 0) (λ b. rw (p, q, b, z) (byte_passed i.protected 1)) (λ b. rw (p, q, b) (byte_passed i.protected 0))) (λ q. rw (p, q)))

shown-low : (i : Interface) → (i.protected ≡ 0 → ⊥) → eqb (status_shown i) 225 ≡ false
unfolding status_shown
shown-low i low =
    cases (eqb i.phase 1) (λ p. rw p (byte_low i.protected 1 i.failed low))
    (λ p. cases (eqb i.phase 8) (λ q. cases (eqb i.busy 0) (λ b. rw (p, q, b) (byte_low i.protected 1 i.failed low)) (λ b. rw (p, q, b) (byte_low i.protected 0 0 low))) (λ q. rw (p, q)))

module _ (s : Setting) where
  -- the status reads of a line that is not cut
  pub polls_fail : (n : ℕ) (l : Line) → Going l → Asked s l.chip → fails_next s l.chip (sent s l (replicate (polls s n l.chip) status)) ≡ is_failed (outcome_of (send_all s l (replicate (polls s n l.chip) status)))
  unfolding polls sent send_all fails_next takes gives_failed waiting line_of
  polls_fail zero l g a = sym (silent_unfailed l g a.asked)
  polls_fail (suc n) l g a =
      let d = l.chip in
      let k = cond (waiting (exec s d status)) (polls s n (exec s d status)) zero in
      cases (admits l)
      (λ t.
      let next : send s l status ≡ spent l (exec s d status) = send_on s l status t in
      cases (eqb d.interface.busy 0)
      (λ z.
      let ready = ready_read s d a.asked (eqb-true _ _ z) a.of_array a.fits a.row in
      let r = completed_reported s.geometry d a.legal in
      rw (t, next, ready, r.settled, asked-ready d.interface a.asked (eqb-true _ _ z) a.high)
      (or_none (eqb (status_byte 0 1 d.interface.failed) 225)
      ∙ sym (r.outcome (l.left - 1))
      ∙ ap (λ (c : ℕ). is_failed (outcome_of (record { chip = completed s.geometry d; left = l.left - 1; cut = c }))) (sym g.uncut)
      ∙ ap (λ (x : Line). is_failed (outcome_of x)) (sym (next ∙ ap (spent l) ready))))
      (λ z.
      let e = device (less_busy d.interface) d.array d.register d.history in
      let busy : exec s d status ≡ e = one_busy s d.interface d.array d.register d.history a.asked (omega (arith, eqb-false d.interface.busy 0 z)) in
      let waits : waiting e ≡ true = rw (eq-eqb _ _ a.asked, eq-eqb _ _ a.legal) in
      rw (t, next, busy, waits, asked_busy d.interface a.asked z a.high)
      (polls_fail n (spent l e) (record { uncut = g.uncut; legal = a.legal }) (record { asked = a.asked; legal = a.legal; of_array = a.of_array; fits = a.fits; row = a.row; high = a.high })
      ∙ ap (λ (x : Line). is_failed (outcome_of (send_all s x (replicate (polls s n e) status)))) (sym (next ∙ ap (spent l) busy)))))
      (λ f. rw f (sym (ap (λ (x : Line). is_failed (outcome_of x)) (ap (λ (x : Line). send_all s x (replicate k status)) (send_off s l status f) ∙ send_all_stopped s (blocked l) (replicate k status) (blocked-stops l)) ∙ cut-unfailed l g)))

  -- a status read leaves whether an operation failed
  status_failed : (d : Device) → (exec s d status).interface.failed ≡ d.interface.failed
  unfolding exec status_read finished completed
  status_failed d = search (same_arms) depth 14

  -- where none failed none of them gives E1h
  pub polls_pass : (n : ℕ) (l : Line) (d : Device) → d.interface.failed ≡ 0 → fails_next s d (sent s l (replicate n status)) ≡ false
  unfolding sent fails_next takes gives_failed
  polls_pass zero l d z = refl
  polls_pass (suc n) l d z =
      cases (admits l)
      (λ t. rw (t, shown_passed d.interface z) (polls_pass n (send s l status) (exec s d status) (status_failed d ∙ z)))
      (λ f. rw f)

  -- and none where the write-protect line is low
  polls_low : (n : ℕ) (l : Line) (d : Device) → (d.interface.protected ≡ 0 → ⊥) → fails_next s d (sent s l (replicate n status)) ≡ false
  unfolding sent fails_next takes gives_failed
  polls_low zero l d low = refl
  polls_low (suc n) l d low =
      cases (admits l)
      (λ t. rw (t, shown-low d.interface low) (polls_low n (send s l status) (exec s d status) (λ e. low (sym (exec_line s d status) ∙ e))))
      (λ f. rw f)

  -- status reads leave whether it failed
  send_failed : (l : Line) → (send s l status).chip.interface.failed ≡ l.chip.interface.failed
  send_failed l =
      cases (admits l)
      (λ t. ap (λ (x : Line). x.chip.interface.failed) (send_on s l status t) ∙ status_failed l.chip)
      (λ f. ap (λ (x : Line). x.chip.interface.failed) (send_off s l status f))

  all_failed : (n : ℕ) (l : Line) → (send_all s l (replicate n status)).chip.interface.failed ≡ l.chip.interface.failed
  unfolding send_all
  all_failed zero l = refl
  all_failed (suc n) l = all_failed n (send s l status) ∙ send_failed l

-- what did not fail is not told as failed
zero-unfailed : (l : Line) → l.chip.interface.failed ≡ 0 → is_failed (outcome_of l) ≡ false
unfolding outcome_of is_failed
zero-unfailed l z =
    cases (eqb l.cut 0)
    (λ a. cases (eqb l.chip.interface.illegal 0)
    (λ b. cases (eqb l.chip.interface.phase 8) (λ c. rw (a, b, c)) (λ c. rw (a, b, c, eq-eqb _ _ z)))
    (λ b. rw (a, b)))
    (λ a. rw a)

low-unfailed : (l : Line) → (l.chip.interface.protected ≡ 0 → ⊥) → is_failed (answer_of l) ≡ false
low-unfailed l low = ap is_failed (answer_low l low) ∙ guarded-unfailed (outcome_of l)

-- a confirm cycle that is taken, of a read or with the write-protect line high, leaves the chip busy with the same address
record Busied (d e : Device) : Type 0 where
  told : e.interface.illegal ≡ 0 → (e.interface.phase ≡ 7) × (e.interface.address ≡ d.interface.address) × (eqb e.interface.operation 4 ≡ false)

busied_arms : (d : Device) (b : Bool) (x y : Device) → Busied d x → Busied d y → Busied d (cond b x y)
busied_arms d true x y p q = p
busied_arms d false x y p q = q

busied_refused : (d : Device) → Busied d (illegal_cycle d)
busied_refused d = record { told = λ e. one_zero e }

busied_started : (d : Device) (operation : ℕ) (fates a r h : List ℕ) → eqb operation 4 ≡ false → Busied d (device (started operation fates d.interface) a r h)
unfolding started
busied_started d operation fates a r h o = record { told = λ e. (refl, refl, o) }

module _ (s : Setting) (d : Device) where
  read_busied : Busied d (read_started s d)
  unfolding read_started
  read_busied = search (busied_arms, busied_refused, busied_started) depth 9

  program_busied : d.interface.protected ≡ 0 → Busied d (program_started s d)
  unfolding program_started
  program_busied high = rw (eq-eqb _ _ high) (search (busied_arms, busied_refused, busied_started) depth 9)

  erase_busied : d.interface.protected ≡ 0 → Busied d (erase_started s d)
  unfolding erase_started
  erase_busied high = rw (eq-eqb _ _ high) (search (busied_arms, busied_refused, busied_started) depth 9)

  confirmed_busied : (code : ℕ) → (code ≡ 48) ⊎ (d.interface.protected ≡ 0) → Busied d (confirmed code s d)
  unfolding confirmed
  confirmed_busied code how =
      cases (eqb code 48) (λ t. rw t read_busied)
      (λ t.
      let high : d.interface.protected ≡ 0 = ⊎_elim (λ e. absurd (eqb-false code 48 t e)) (λ e. e) how in
      rw t (busied_arms d (eqb code 16) _ _ (program_busied high) (erase_busied high)))

  commanded_busied : (code : ℕ) → is_confirm code ≡ true → (code ≡ 48) ⊎ (d.interface.protected ≡ 0) → Busied d (exec s d (command code))
  unfolding exec commanded
  commanded_busied code c how = rw c (busied_arms d (confirmable s d) _ _ (confirmed_busied code how) (busied_refused d))

  -- a read that is taken does not fail
  pub read_passes : (exec s d (command 48)).interface.illegal ≡ 0 → (exec s d (command 48)).interface.failed ≡ 0
  unfolding exec commanded confirmed is_confirm read_started started
  read_passes h =
      let c : confirmable s d ≡ true = confirm_tested s d 48 refl h in
      cases (eqb d.interface.phase 3)
      (λ p. cases (eqb d.interface.count 5) (λ k. rw (c, p, k)) (λ k. one_zero (rw (c, p, k) at h)))
      (λ p. one_zero (rw (c, p) at h))

  -- after 70h the chip is asked for its status
  module _ (code : ℕ) (c : is_confirm code ≡ true) (taken : (exec s d (command code)).interface.illegal ≡ 0) where
    then_asked : (code ≡ 48) ⊎ (d.interface.protected ≡ 0) → exec s (exec s d (command code)) (command 112) ≡ with_interface (in_phase 8 (exec s d (command code)).interface) (exec s d (command code))
    then_asked how = status_busy s (exec s d (command code)) ((commanded_busied code c how).told taken).0

    confirm_asked : d.interface.protected ≡ 0 → Asked s (exec s (exec s d (command code)) (command 112))
    unfolding run
    confirm_asked high =
        let t = confirms s d (confirm_tested s d code c taken) in
        let l = run_lengths s d (command code ∷ []) in
        let busied = (commanded_busied code c (inr high)).told taken in
        rw (then_asked (inr high))
        (record {
          asked = refl;
          legal = taken;
          of_array = busied.2;
          fits = fitting_holds s.geometry _ _ _ t.0.is_valid (l.array ∙ t.0.array_long) (l.register ∙ t.0.register_long) (l.history ∙ t.0.history_long);
          row = subst (λ (a : ℕ). a / 65536 < row_count s.geometry) (sym busied.1) t.1.1;
          high = exec_line s d (command code) ∙ high;
        })

-- cycles after others that read no E1h
pub fails-append : (s : Setting) (d : Device) (xs ys : List Cycle) → fails_next s (run s d xs) ys ≡ false → fails_next s d (xs ++ ys) ≡ fails_next s d xs
unfolding fails_next run
fails-append s d [] ys h = h
fails-append s d (x ∷ xs) ys h = ap (λ (b : Bool). cond (takes s d x) false (cond (gives_failed d x) true b)) (fails-append s (exec s d x) xs ys h)

-- a read is of kind 1, and no other is
kind_read : (code : ℕ) → eqb code 48 ≡ true → eqb (kind_of code) 1 ≡ true
unfolding kind_of
kind_read code t = rw t

kind_other : (code : ℕ) → eqb code 48 ≡ false → eqb (kind_of code) 1 ≡ false
unfolding kind_of
kind_other code t = cases (eqb code 16) (λ u. rw (t, u)) (λ u. rw (t, u))

-- from the confirm cycle of an operation on: 70h, the status reads, and cycles that read no E1h
module _ (s : Setting) (d : Device) (code : ℕ) (c : is_confirm code ≡ true) (taken : (exec s d (command code)).interface.illegal ≡ 0)
    (l : Line) (g : Going l) (at : l.chip ≡ exec s d (command code)) (out : List Cycle) (quiet : (m : Line) (e : Device) → fails_next s e (sent s m out) ≡ false) where
  abbrev asking : Line
  asking = send s l (command 112)

  abbrev reads : List Cycle
  reads = replicate (polls s 256 asking.chip) status

  sent_is : sent s asking (reads ++ out) ≡ sent s asking reads ++ sent s (send_all s asking reads) out
  sent_is = sent_append s asking reads out

  reads_only : fails_next s asking.chip (sent s asking (reads ++ out)) ≡ fails_next s asking.chip (sent s asking reads)
  reads_only =
      ap (fails_next s asking.chip) sent_is
      ∙ fails-append s asking.chip (sent s asking reads) (sent s (send_all s asking reads) out) (quiet (send_all s asking reads) (run s asking.chip (sent s asking reads)))

  high_fails : d.interface.protected ≡ 0 → fails_next s (exec s d (command code)) (sent s l (command 112 ∷ (reads ++ out))) ≡ is_failed (outcome_of (send_all s l (command 112 ∷ reads)))
  unfolding sent send_all fails_next takes gives_failed is_confirm
  high_fails high =
      cases (admits l)
      (λ t.
      let next : asking ≡ spent l (exec s l.chip (command 112)) = send_on s l (command 112) t in
      let chip : asking.chip ≡ exec s (exec s d (command code)) (command 112) = ap (λ (x : Line). x.chip) next ∙ ap (λ (x : Device). exec s x (command 112)) at in
      let here : Asked s asking.chip = subst (Asked s) (sym chip) (confirm_asked s d code c taken high) in
      let going : Going asking = record { uncut = ap (λ (x : Line). x.cut) next ∙ g.uncut; legal = here.legal } in
      rw (t, ← chip) (reads_only ∙ polls_fail s 256 asking going here))
      (λ f. rw f (sym (ap (λ (x : Line). is_failed (outcome_of x)) (ap (λ (x : Line). send_all s x reads) (send_off s l (command 112) f) ∙ send_all_stopped s (blocked l) reads (blocked-stops l)) ∙ cut-unfailed l g)))

  -- a read does not fail
  pub confirm_passes : code ≡ 48 → fails_next s (exec s d (command code)) (sent s l (command 112 ∷ (reads ++ out))) ≡ false
  unfolding sent fails_next takes gives_failed is_confirm
  confirm_passes read =
      cases (admits l)
      (λ t.
      let chip : asking.chip ≡ exec s (exec s d (command code)) (command 112) = ap (λ (x : Line). x.chip) (send_on s l (command 112) t) ∙ ap (λ (x : Device). exec s x (command 112)) at in
      let passed : (exec s d (command code)).interface.failed ≡ 0 = subst (λ (k : ℕ). (exec s d (command k)).interface.illegal ≡ 0 → (exec s d (command k)).interface.failed ≡ 0) (sym read) (read_passes s d) taken in
      let failed : asking.chip.interface.failed ≡ 0 = ap (λ (x : Device). x.interface.failed) (chip ∙ then_asked s d code c taken (inl read)) ∙ passed in
      rw (t, ← chip) (reads_only ∙ polls_pass s (polls s 256 asking.chip) asking asking.chip failed))
      (λ f. rw f)

  -- with the write-protect line low none is read as failed
  low_passes : (d.interface.protected ≡ 0 → ⊥) → fails_next s (exec s d (command code)) (sent s l (command 112 ∷ (reads ++ out))) ≡ false
  unfolding sent fails_next takes gives_failed is_confirm
  low_passes low =
      cases (admits l)
      (λ t.
      let chip : asking.chip ≡ exec s (exec s d (command code)) (command 112) = ap (λ (x : Line). x.chip) (send_on s l (command 112) t) ∙ ap (λ (x : Device). exec s x (command 112)) at in
      let still : asking.chip.interface.protected ≡ d.interface.protected = send_line s l (command 112) ∙ ap (λ (x : Device). x.interface.protected) at ∙ exec_line s d (command code) in
      rw (t, ← chip) (reads_only ∙ polls_low s (polls s 256 asking.chip) asking asking.chip (λ e. low (sym still ∙ e))))
      (λ f. rw f)

  -- the line after the status reads, of a read
  read_told : code ≡ 48 → is_failed (outcome_of (send_all s l (command 112 ∷ reads))) ≡ false
  unfolding send_all
  read_told read =
      let passed : (exec s d (command code)).interface.failed ≡ 0 = subst (λ (k : ℕ). (exec s d (command k)).interface.illegal ≡ 0 → (exec s d (command k)).interface.failed ≡ 0) (sym read) (read_passes s d) taken in
      cases (admits l)
      (λ t.
      let chip : asking.chip ≡ exec s (exec s d (command code)) (command 112) = ap (λ (x : Line). x.chip) (send_on s l (command 112) t) ∙ ap (λ (x : Device). exec s x (command 112)) at in
      let failed : asking.chip.interface.failed ≡ 0 = ap (λ (x : Device). x.interface.failed) (chip ∙ then_asked s d code c taken (inl read)) ∙ passed in
      zero-unfailed (send_all s asking reads) (all_failed s (polls s 256 asking.chip) asking ∙ failed))
      (λ f.
      let failed : asking.chip.interface.failed ≡ 0 = ap (λ (x : Line). x.chip.interface.failed) (send_off s l (command 112) f) ∙ ap (λ (x : Device). x.interface.failed) at ∙ passed in
      zero-unfailed (send_all s asking reads) (all_failed s (polls s 256 asking.chip) asking ∙ failed))

  abbrev whole : Line
  whole = send_all s l (command 112 ∷ reads)

  whole_line : whole.chip.interface.protected ≡ d.interface.protected
  whole_line = all_line s l (command 112 ∷ reads) ∙ ap (λ (x : Device). x.interface.protected) at ∙ exec_line s d (command code)

  -- E1h is read exactly if the operation failed
  pub confirm_fails : (kind : ℕ) → kind ≡ kind_of code → fails_next s (exec s d (command code)) (sent s l (command 112 ∷ (reads ++ out))) ≡ is_failed (told_by kind (send_all s l (command 112 ∷ reads)))
  confirm_fails kind e =
      cases (eqb code 48)
      (λ t.
      let read = eqb-true code 48 t in
      let one : eqb kind 1 ≡ true = ap (λ (k : ℕ). eqb k 1) e ∙ kind_read code t in
      confirm_passes read ∙ sym (rw one (read_told read)))
      (λ t.
      let other : eqb kind 1 ≡ false = ap (λ (k : ℕ). eqb k 1) e ∙ kind_other code t in
      cases (eqb d.interface.protected 0)
      (λ h.
      let high = eqb-true _ _ h in
      high_fails high ∙ sym (rw other (ap is_failed (answer_high whole (whole_line ∙ high)))))
      (λ h.
      let low = eqb-false _ _ h in
      low_passes low ∙ sym (rw other (low-unfailed whole (λ z. low (sym whole_line ∙ z))))))
