-- The status read with which a write or an erase begins, on every chip: where it is cut, refused or taken, and what it completes. Assumes nothing.
use Prim.Native.Nat.{ℕ, zero, suc, ◌-◌, ◌≤◌}
use mathlib.Core.Bool.{Bool, true, false, cond}
use mathlib.Core.List.{List, [], ◌∷◌}
use mathlib.Core.Logic.{⊎_elim, inl, inr}
use mathlib.Core.Path.{◌≡◌, refl, sym, ap, ◌∙◌}
use native.Mathlib.Omega.{arith}
use borrow.Author.Tests.{eq-eqb, ne_eqb, lt-leb}
use lib.Dec.{eqb, ltb}
use Rattle.geometry.specs.declared.Geometry.{Geometry}
use Rattle.geometry.specs.Sizes.{row_count}
use Rattle.chip_interface.specs.Interface.{in_phase, status_code, plain_command, status_mode}
use Rattle.chip_array.specs.Device.{Device, Setting, with_interface, illegal_cycle, lengths_fit, row_at, completed}
use Rattle.chip.specs.Chip.{Cycle, exec, commanded, is_confirm, status_read, less_busy, finished}
use Rattle.chip.specs.Chip.Cycle.{command, status}
use Rattle.bus.specs.Line.{Line, Going, send_all, sent, goes_on, uncut_line, cut_line}
use Rattle.bus.proofs.LineLaws.{admits_more, admits-none, send_one, send_none, send_all_stopped, cut_stays}
use Rattle.bus.proofs.StepLaws.{status_ready, status_busy, one_busy}
use Rattle.bus.proofs.WordLaws.{exec_line}
use Rattle.bus_polling.specs.Outcomes.{is_passed}
use Rattle.bus_polling.specs.Polling.{ended_as}
use Rattle.bus_polling.specs.declared.Outcome.TheVariants.{Passed, Cut, Illegal, Protected}
use Rattle.bus_sequences.specs.Cycles.{status_cycles}
use Rattle.operations.specs.Ends.{status_end}
use Rattle.operations.proofs.UnreadyLaws.{sent-stopped}
use Rattle.request.specs.Call.{fresh_interface, call_line}
use Rattle.progress.specs.Progress.{progress, status_on}
use Rattle.write_changes.specs.Changes.{change_first}
use Rattle.write_laws.specs.Unready.{Busy, Waiting, Completing, InCommand, busy_shown, completed_by}

-- a chip that is not refused as it completes an operation takes the next command
record Settled (d : Device) : Type 0 where
  settled : d.interface.illegal ≡ 0 → d.interface.phase ≤ 2

takes : {d : Device} → d.interface.phase ≤ 2 → Settled d
takes h = record { settled = λ e. h }

refuses : (d : Device) → Settled (illegal_cycle d)
refuses d = record { settled = λ e. absurd (omega (arith, e)) }

arms : (b : Bool) (x y : Device) → Settled x → Settled y → Settled (cond b x y)
arms true x y p q = p
arms false x y p q = q

module _ (g : Geometry) (d : Device) where
  completed_settled : Settled (completed g d)
  unfolding completed
  completed_settled =
      arms (eqb d.interface.operation 1) _ _ (takes (omega arith))
      (arms (eqb d.interface.failed 0) _ _
      (arms (eqb d.interface.operation 2) _ _ (takes (omega arith)) (arms (eqb d.interface.operation 3) _ _ (takes (omega arith)) (refuses d)))
      (takes (omega arith)))

  finished-settled : Settled (finished g d)
  unfolding finished
  finished-settled =
      arms (eqb d.interface.operation 4) _ _ (takes (omega arith))
      (arms (lengths_fit g d) _ _ (arms (ltb (row_at d.interface) (row_count g)) _ _ completed_settled (refuses d)) (refuses d))

  pub finished_ready : (finished g d).interface.illegal ≡ 0 → (finished g d).interface.phase ≤ 2
  finished_ready = finished-settled.settled

module _ (s : Setting) (d : Device) where
  -- the chip as the call begins, and after 70h
  abbrev chip : Device
  chip = with_interface (fresh_interface d.interface) d

  abbrev pub asked : Device
  asked = exec s chip (command status_code)

  pub asked_refused : InCommand d → asked ≡ illegal_cycle chip
  unfolding exec commanded is_confirm plain_command status_mode
  asked_refused h =
      rw (lt-leb d.interface.phase 2 h.0, ne_eqb d.interface.phase 7 (λ e. h.1 (inl e)), ne_eqb d.interface.phase 8 (λ e. h.1 (inr e)))

  pub asked-ready : d.interface.phase ≤ 2 → asked ≡ with_interface (in_phase 1 chip.interface) chip
  asked-ready h = status_ready s chip h

  stays_shown : d.interface.phase ≡ 8 → asked ≡ busy_shown d
  unfolding exec commanded is_confirm plain_command status_mode
  stays_shown e =
      rw (lt-leb d.interface.phase 2 (omega (arith, e)), ne_eqb d.interface.phase 7 (λ z. omega (arith, e, z)), eq-eqb d.interface.phase 8 e)
      (λ i. with_interface (in_phase (e i) chip.interface) chip)

  pub asked_busy : Busy d → asked ≡ busy_shown d
  asked_busy h = ⊎_elim (status_busy s chip) stays_shown h

  -- after the status read
  pub read_ready : d.interface.phase ≤ 2 → exec s asked status ≡ with_interface (in_phase 1 chip.interface) chip
  unfolding exec status_read
  read_ready h = ap (λ (x : Device). exec s x status) (asked-ready h)

  pub read_waiting : Waiting d → exec s asked status ≡ with_interface (less_busy (busy_shown d).interface) d
  read_waiting h =
      ap (λ (x : Device). exec s x status) (asked_busy h.0)
      ∙ one_busy s (busy_shown d).interface d.array d.register d.history refl (omega (arith, h.1))

  pub read_completing : Completing d → exec s asked status ≡ completed_by s d
  unfolding exec status_read
  read_completing h = ap (λ (x : Device). exec s x status) (asked_busy h.0) ∙ rw (eq-eqb d.interface.busy 0 h.1)

  pub completing_line : Completing d → (completed_by s d).interface.protected ≡ d.interface.protected
  completing_line h =
      ap (λ (x : Device). x.interface.protected) (sym (read_completing h))
      ∙ exec_line s asked status
      ∙ ap (λ (x : Device). x.interface.protected) (asked_busy h.0)

  -- the status read of a call that may send n cycles
  module _ (n : ℕ) (l : Line) (cs : List Cycle) (to : send_all s (call_line d n) status_cycles ≡ l) (sends : sent s (call_line d n) status_cycles ≡ cs) where
    first_by : change_first s d n ≡ progress l (status_end l) cs []
    unfolding status_on is_passed
    first_by = λ i. progress (to i) (status_end (to i)) (sends i) []

  going : (n : ℕ) → Going (call_line d n)
  going n = record { uncut = refl; legal = refl }

  pub first_none : change_first s d 0 ≡ progress (cut_line chip) Cut [] []
  unfolding send_all sent status_end ended_as is_passed
  first_none =
      first_by 0 (cut_line chip) []
      (rw (send_none s chip (command status_code) refl) (cut_stays s chip (status ∷ [])))
      (rw (admits-none (call_line d 0) (going 0) refl))

  pub first_refused : InCommand d → (n : ℕ) → change_first s d (suc n) ≡ progress (uncut_line (illegal_cycle chip) n) Illegal (command status_code ∷ []) []
  unfolding send_all sent goes_on status_end ended_as is_passed
  first_refused h n =
      let one = send_one s chip n (command status_code) refl ∙ ap (λ (x : Device). uncut_line x n) (asked_refused h) in
      first_by (suc n) (uncut_line (illegal_cycle chip) n) (command status_code ∷ [])
      (rw one (send_all_stopped s (uncut_line (illegal_cycle chip) n) (status ∷ []) refl))
      (rw (admits_more (call_line d (suc n)) (going (suc n)) (omega arith), one)
      (ap (λ (cs : List Cycle). command status_code ∷ cs) (sent-stopped s (uncut_line (illegal_cycle chip) n) (status ∷ []) refl)))

  -- 70h is taken
  module _ (legal : asked.interface.illegal ≡ 0) where
    pub first_one : change_first s d 1 ≡ progress (cut_line asked) Cut (command status_code ∷ []) []
    unfolding send_all sent status_end ended_as is_passed
    first_one =
        let one = send_one s chip 0 (command status_code) refl in
        first_by 1 (cut_line asked) (command status_code ∷ [])
        (rw one (send_none s asked status legal))
        (rw (admits_more (call_line d 1) (going 1) (omega arith), one, admits-none (uncut_line asked 0) (record { uncut = refl; legal = legal }) refl))

    two_cycles : (n : ℕ) → change_first s d (suc (suc n)) ≡ progress (uncut_line (exec s asked status) n) (status_end (uncut_line (exec s asked status) n)) status_cycles []
    unfolding send_all sent
    two_cycles n =
        let one = send_one s chip (suc n) (command status_code) refl in
        let two = send_one s asked n status legal in
        first_by (suc (suc n)) (uncut_line (exec s asked status) n) status_cycles
        (rw (one, two))
        (rw (admits_more (call_line d (suc (suc n))) (going (suc (suc n))) (omega arith), one, admits_more (uncut_line asked (suc n)) (record { uncut = refl; legal = legal }) (omega arith)))

    -- and so is the status read, to the chip x
    pub first_two : (n : ℕ) → 2 ≤ n → (x : Device) → exec s asked status ≡ x → change_first s d n ≡ progress (uncut_line x (n - 2)) (status_end (uncut_line x (n - 2))) status_cycles []
    first_two zero h x e = absurd (omega (arith, h))
    first_two (suc zero) h x e = absurd (omega (arith, h))
    first_two (suc (suc n)) h x e =
        let left : n ≡ suc (suc n) - 2 = omega arith in
        two_cycles n ∙ (λ i. progress (uncut_line (e i) (left i)) (status_end (uncut_line (e i) (left i))) status_cycles [])

-- how the status read ended that came to a chip
module _ (x : Device) (n : ℕ) where
  pub ends_passed : x.interface.illegal ≡ 0 → x.interface.protected ≡ 0 → status_end (uncut_line x n) ≡ Passed
  unfolding status_end ended_as is_passed
  ends_passed e h = rw (eq-eqb _ _ e, eq-eqb _ _ h)

  pub ends_protected : x.interface.illegal ≡ 0 → (x.interface.protected ≡ 0 → ⊥) → status_end (uncut_line x n) ≡ Protected
  unfolding status_end ended_as is_passed
  ends_protected e h = rw (eq-eqb _ _ e, ne_eqb _ _ h)

  pub ends_illegal : (x.interface.illegal ≡ 0 → ⊥) → status_end (uncut_line x n) ≡ Illegal
  unfolding status_end ended_as is_passed
  ends_illegal e = rw (ne_eqb _ _ e)
