-- An operation is silent exactly where its fate word has 256 or more busy reads, unless it is cut. Assumes nothing.
use Prim.Native.Nat.{ℕ, zero, suc, ◌≤◌}
use mathlib.Core.Bool.{Bool, true, false, cond}
use mathlib.Core.List.{List, [], ◌++◌}
use mathlib.Core.Logic.{◌⊎◌, inl, inr, ⊎_elim}
use mathlib.Core.Path.{◌≡◌, refl, sym, ap, subst, ◌∙◌}
use native.Mathlib.Omega.{arith}
use borrow.Author.Tests.{eq-eqb, ne_eqb, eqb-true, eqb-false}
use borrow.Table.Steps.{cases}
use lib.Dec.{eqb}
use lib.ListN.{replicate}
use Rattle.bools.proofs.BoolLaws.{clash, and_none}
use Rattle.chip_interface.specs.Interface.{in_phase, started, busy_of, fate_word}
use Rattle.chip_array.specs.Device.{Device, Setting, device, with_interface, illegal_cycle, read_started, program_started, erase_started}
use Rattle.chip.specs.Chip.{Cycle, exec, commanded, confirmable, confirmed, is_confirm, less_busy, status_read, finished}
use Rattle.chip.specs.Chip.Cycle.{command, status}
use Rattle.bus.specs.Line.{Line, admits, blocked, cut_after, spent, send, send_all, sent, goes_on, Going}
use Rattle.bus.proofs.LineLaws.{going, goes, send_on, send_off, send_stopped, send_all_append, send_all_stopped, blocked-stops}
use Rattle.bus.proofs.StepLaws.{one_busy, status_busy}
use Rattle.bus.proofs.WordLaws.{all_line}
use Rattle.bus_polling.specs.Outcomes.{is_passed, is_failed, is_silent}
use Rattle.bus_polling.specs.declared.Outcome.{Outcome}
use Rattle.bus_polling.specs.declared.Outcome.TheVariants.{Silent, Cut}
use Rattle.bus_polling.specs.Polling.{waiting, polls, outcome_of, status_reads}
use Rattle.bus_polling.proofs.PollLaws.{Settled, finished-settled, outcome_silent, chip_on}
use Rattle.bus_sequences.specs.Cycles.{confirm_cycles, confirmed_cycles}
use Rattle.recovery_cycles.specs.Starts.{Start, fails_next, starts_in, kind_of}
use Rattle.recovery_cycles.specs.Silent.{SlowLast}
use Rattle.recovery_cycles.proofs.AllLaws.{All}
use Rattle.recovery_cycles.proofs.LatchLaws.{one_zero}
use Rattle.recovery_cycles.proofs.StartLaws.{Plain, operation_passes, operation_starts}
use Rattle.recovery_cycles.proofs.TraceLaws.{regroup}

-- silent or cut
abbrev pub Stopped : Outcome → Type 0
Stopped o = (o ≡ Silent) ⊎ (o ≡ Cut)

pub stopped_unpassed : (o : Outcome) → Stopped o → is_passed o ≡ false
unfolding is_passed
stopped_unpassed o h = ⊎_elim (λ e. ap is_passed e) (λ e. ap is_passed e) h

pub stopped-unfailed : (o : Outcome) → Stopped o → is_failed o ≡ false
unfolding is_failed
stopped-unfailed o h = ⊎_elim (λ e. ap is_failed e) (λ e. ap is_failed e) h

-- a line that stopped is not silent, nor one whose chip is not busy
stopped_heard : (l : Line) → goes_on l ≡ false → is_silent (outcome_of l) ≡ false
unfolding outcome_of goes_on is_silent
stopped_heard l h =
    cases (eqb l.cut 0)
    (λ a. cases (eqb l.chip.interface.illegal 0) (λ b. clash (rw (a, b)) h) (λ b. rw (a, b)))
    (λ a. rw a)

ready_heard : (l : Line) → waiting l.chip ≡ false → is_silent (outcome_of l) ≡ false
unfolding waiting outcome_of is_silent
ready_heard l h =
    cases (eqb l.cut 0)
    (λ a. cases (eqb l.chip.interface.illegal 0)
    (λ b. cases (eqb l.chip.interface.phase 8) (λ c. clash (rw (b, c)) h)
    (λ c. cases (eqb l.chip.interface.failed 0) (λ f. rw (a, b, c, f)) (λ f. rw (a, b, c, f))))
    (λ b. rw (a, b)))
    (λ a. rw a)

-- a cycle that is due on a line that goes on is cut
blocked-cut : (l : Line) → Going l → outcome_of (blocked l) ≡ Cut
unfolding outcome_of cut_after
blocked-cut l g = rw (eq-eqb _ _ g.uncut, eq-eqb _ _ g.legal)

settled_waits : (w k : ℕ) (d : Device) → Settled w k d → waiting d ≡ false
unfolding waiting
settled_waits w k d h =
    cases (eqb d.interface.illegal 0)
    (λ a. rw (ne_eqb d.interface.phase 8 (λ e. omega (arith, e, (h.is (eqb-true _ _ a)).0))))
    (λ a. rw a (and_none (eqb d.interface.phase 8)))

-- n status reads, at most, of a chip that is busy for k of them
record Waits (n k : ℕ) (o : Outcome) : Type 0 where
  by : is_silent o ≡ true → n ≤ k
  so : n ≤ k → Stopped o

module _ (s : Setting) where
  ready_read : (d : Device) → d.interface.phase ≡ 8 → d.interface.busy ≡ 0 → exec s d status ≡ finished s.geometry d
  unfolding exec status_read
  ready_read d p z = rw (ne_eqb d.interface.phase 1 (λ e. omega (arith, e, p)), eq-eqb _ _ p, eq-eqb _ _ z)

  polls_wait : (n : ℕ) (l : Line) → Going l → l.chip.interface.phase ≡ 8 → Waits n l.chip.interface.busy (outcome_of (send_all s l (replicate (polls s n l.chip) status)))
  unfolding polls send_all waiting is_silent
  polls_wait zero l g p = record { by = λ e. omega arith; so = λ h. inl (outcome_silent l (goes l g) p) }
  polls_wait (suc n) l g p =
      let d = l.chip in
      let k = cond (waiting (exec s d status)) (polls s n (exec s d status)) zero in
      cases (admits l)
      (λ t.
      let next : send s l status ≡ spent l (exec s d status) = send_on s l status t in
      cases (eqb d.interface.busy 0)
      (λ z.
      let none = eqb-true d.interface.busy 0 z in
      let ready = ready_read d p none in
      let settled : waiting (exec s d status) ≡ false = ap waiting ready ∙ settled_waits d.interface.protected d.interface.failed (finished s.geometry d) (finished-settled s.geometry d) in
      let heard : is_silent (outcome_of (send_all s (send s l status) (replicate k status))) ≡ false =
      ap (λ (b : Bool). is_silent (outcome_of (send_all s (send s l status) (replicate (cond b (polls s n (exec s d status)) zero) status)))) settled
      ∙ ap (λ (x : Line). is_silent (outcome_of x)) next
      ∙ ready_heard (spent l (exec s d status)) settled in
      record { by = λ e. clash e heard; so = λ h. absurd (omega (arith, h, none)) })
      (λ z.
      let some = eqb-false d.interface.busy 0 z in
      let e = device (less_busy d.interface) d.array d.register d.history in
      let busy : exec s d status ≡ e = one_busy s d.interface d.array d.register d.history p (omega (arith, some)) in
      let waits : waiting e ≡ true = rw (eq-eqb _ _ p, eq-eqb _ _ g.legal) in
      let more = polls_wait n (spent l e) (record { uncut = g.uncut; legal = g.legal }) p in
      let same : outcome_of (send_all s (send s l status) (replicate k status)) ≡ outcome_of (send_all s (spent l e) (replicate (polls s n e) status)) =
      ap (λ (x : Device). outcome_of (send_all s (send s l status) (replicate (cond (waiting x) (polls s n x) zero) status))) busy
      ∙ ap (λ (b : Bool). outcome_of (send_all s (send s l status) (replicate (cond b (polls s n e) zero) status))) waits
      ∙ ap (λ (x : Line). outcome_of (send_all s x (replicate (polls s n e) status))) (next ∙ ap (spent l) busy) in
      record { by = λ h. omega (arith, more.by (sym (ap is_silent same) ∙ h), some); so = λ h. subst Stopped (sym same) (more.so (omega (arith, h))) }))
      (λ f.
      let cut : outcome_of (send_all s (send s l status) (replicate k status)) ≡ Cut =
      ap (λ (x : Line). outcome_of (send_all s x (replicate k status))) (send_off s l status f) ∙ ap outcome_of (send_all_stopped s (blocked l) (replicate k status) (blocked-stops l)) ∙ blocked-cut l g in
      record { by = λ e. clash e (ap is_silent cut); so = λ h. inr cut })

-- a confirm cycle that is taken, of a read or with the write-protect line high, leaves the chip busy by the next fate word
record Worded (fates : List ℕ) (d e : Device) : Type 0 where
  told : e.interface.illegal ≡ 0 → (e.interface.phase ≡ 7) × (e.interface.busy ≡ busy_of (fate_word fates d.interface.fate))

module _ (fates : List ℕ) (d : Device) where
  worded_arms : (b : Bool) (x y : Device) → Worded fates d x → Worded fates d y → Worded fates d (cond b x y)
  worded_arms true x y p q = p
  worded_arms false x y p q = q

  worded_refused : Worded fates d (illegal_cycle d)
  worded_refused = record { told = λ e. one_zero e }

  worded_started : (operation : ℕ) (a r h : List ℕ) → Worded fates d (device (started operation fates d.interface) a r h)
  unfolding started
  worded_started operation a r h = record { told = λ e. (refl, refl) }

module _ (s : Setting) (d : Device) where
  read_worded : Worded s.fates d (read_started s d)
  unfolding read_started
  read_worded = search (worded_arms, worded_refused, worded_started) depth 9

  module _ (high : d.interface.protected ≡ 0) where
    program_worded : Worded s.fates d (program_started s d)
    unfolding program_started
    program_worded = rw (eq-eqb _ _ high) (search (worded_arms, worded_refused, worded_started) depth 9)

    erase_worded : Worded s.fates d (erase_started s d)
    unfolding erase_started
    erase_worded = rw (eq-eqb _ _ high) (search (worded_arms, worded_refused, worded_started) depth 9)

  confirmed_worded : (code : ℕ) → (code ≡ 48) ⊎ (d.interface.protected ≡ 0) → Worded s.fates d (confirmed code s d)
  unfolding confirmed
  confirmed_worded code how =
      cases (eqb code 48)
      (λ t. rw t read_worded)
      (λ t.
      let high : d.interface.protected ≡ 0 = ⊎_elim (λ e. absurd (eqb-false code 48 t e)) (λ e. e) how in
      rw t (worded_arms s.fates d (eqb code 16) _ _ (program_worded high) (erase_worded high)))

  confirm_worded : (code : ℕ) → is_confirm code ≡ true → (code ≡ 48) ⊎ (d.interface.protected ≡ 0) → Worded s.fates d (exec s d (command code))
  unfolding exec commanded
  confirm_worded code c how =
      rw c (worded_arms s.fates d (confirmable s d) _ _ (confirmed_worded code how) (worded_refused s.fates d))

-- the confirm cycles that a request has sent, and how its last operation ended
pub record Heard (fates : List ℕ) (starts : List Start) (o : Outcome) : Type 0 where
  pub by : is_silent o ≡ true → SlowLast fates starts
  pub so : SlowLast fates starts → Stopped o

pub unstarted_heard : (fates : List ℕ) (o : Outcome) → is_silent o ≡ false → Heard fates [] o
unfolding SlowLast
unstarted_heard fates o h = record { by = λ e. clash e h; so = λ x. absurd x }

-- an operation: the cycles before its confirm cycle, that, 70h, the status reads, and others after them
module _ (s : Setting) (l : Line) (before out : List Cycle) (code : ℕ) (confirms : is_confirm code ≡ true) (plain-before : All Plain before) (plain_end : All Plain out)
    (how : goes_on (send s (send_all s l before) (command code)) ≡ true → (code ≡ 48) ⊎ (l.chip.interface.protected ≡ 0)) where
  abbrev reached : Line
  reached = send_all s l before

  abbrev left : Line
  left = send s reached (command code)

  abbrev asking : Line
  asking = send s left (command 112)

  abbrev ended : Line
  ended = send_all s l (confirmed_cycles s l before code)

  ended_is : ended ≡ send_all s asking (status_reads s asking.chip)
  unfolding send_all
  ended_is =
      send_all_append s l (before ++ confirm_cycles code) (status_reads s (send_all s l (before ++ confirm_cycles code)).chip)
      ∙ ap (λ (x : Line). send_all s x (status_reads s x.chip)) (send_all_append s l before (confirm_cycles code))

  -- its confirm cycle was not sent or not taken
  unstarted_ends : goes_on left ≡ false → is_silent (outcome_of ended) ≡ false
  unstarted_ends h =
      let same : ended ≡ left =
      ended_is
      ∙ ap (λ (x : Line). send_all s x (status_reads s x.chip)) (send_stopped s left (command 112) h)
      ∙ send_all_stopped s left (status_reads s left.chip) h in
      ap (λ (x : Line). is_silent (outcome_of x)) same ∙ stopped_heard left h

  started_ends : goes_on left ≡ true → Waits 256 (busy_of (fate_word s.fates reached.chip.interface.fate)) (outcome_of ended)
  unfolding is_silent
  started_ends h =
      let g = going left h in
      let chip : left.chip ≡ exec s reached.chip (command code) = chip_on s reached (command code) h in
      let kind : (code ≡ 48) ⊎ (reached.chip.interface.protected ≡ 0) = ⊎_elim inl (λ e. inr (all_line s l before ∙ e)) (how h) in
      let word = (confirm_worded s reached.chip code confirms kind).told (sym (ap (λ (x : Device). x.interface.illegal) chip) ∙ g.legal) in
      let phase : left.chip.interface.phase ≡ 7 = ap (λ (x : Device). x.interface.phase) chip ∙ word.0 in
      let busy : left.chip.interface.busy ≡ busy_of (fate_word s.fates reached.chip.interface.fate) = ap (λ (x : Device). x.interface.busy) chip ∙ word.1 in
      subst (λ (x : Line). Waits 256 (busy_of (fate_word s.fates reached.chip.interface.fate)) (outcome_of x)) (sym ended_is)
      (cases (admits left)
      (λ t.
      let now : asking ≡ spent left (with_interface (in_phase 8 left.chip.interface) left.chip) = send_on s left (command 112) t ∙ ap (spent left) (status_busy s left.chip phase) in
      subst (λ (k : ℕ). Waits 256 k (outcome_of (send_all s asking (status_reads s asking.chip)))) (ap (λ (x : Line). x.chip.interface.busy) now ∙ busy)
      (polls_wait s 256 asking (record { uncut = ap (λ (x : Line). x.cut) now ∙ g.uncut; legal = ap (λ (x : Line). x.chip.interface.illegal) now ∙ g.legal }) (ap (λ (x : Line). x.chip.interface.phase) now)))
      (λ f.
      let cut : outcome_of (send_all s asking (status_reads s asking.chip)) ≡ Cut =
      ap (λ (x : Line). outcome_of (send_all s x (status_reads s x.chip))) (send_off s left (command 112) f) ∙ ap outcome_of (send_all_stopped s (blocked left) (status_reads s left.chip) (blocked-stops left)) ∙ blocked-cut left g in
      record { by = λ e. clash e (ap is_silent cut); so = λ x. inr cut }))

  pub operation_heard : Heard s.fates (starts_in s l.chip (sent s l (confirmed_cycles s l before code ++ out))) (outcome_of ended)
  unfolding SlowLast
  operation_heard =
      let reads = status_reads s (send_all s l (before ++ confirm_cycles code)).chip in
      let starts = ap (λ (cs : List Cycle). starts_in s l.chip (sent s l cs)) (regroup before reads out (command code) (command 112)) ∙ operation_starts s l before out code (kind_of code) 0 [] confirms refl plain-before plain_end in
      cases (goes_on left)
      (λ t. let w = started_ends t in rw (starts, t) (record { by = w.by; so = w.so }))
      (λ f. rw (starts, f) (unstarted_heard s.fates (outcome_of ended) (unstarted_ends f)))

  pub operation_quiet : fails_next s l.chip (sent s l (confirmed_cycles s l before code ++ out)) ≡ false
  operation_quiet =
      let reads = status_reads s (send_all s l (before ++ confirm_cycles code)).chip in
      ap (λ (cs : List Cycle). fails_next s l.chip (sent s l cs)) (regroup before reads out (command code) (command 112)) ∙ operation_passes s l before out code (kind_of code) 0 [] confirms refl plain-before plain_end
