-- An advance sends just as many page programs as it was given, fewer only where the write ends, and nothing after the last: on any chip and from any state. Assumes nothing.
use Prim.Native.Nat.{ℕ, ◌+◌, ◌-◌, ◌≤◌, ◌<◌}
use mathlib.Core.Bool.{true, false, cond}
use mathlib.Core.List.{List, []}
use mathlib.Core.Path.{◌≡◌, refl, sym, ap, subst}
use native.Mathlib.Omega.{arith}
use borrow.Table.Steps.{cases}
use borrow.Author.Tests.{eqb-true, eqb-false, ltb-true, ltb-false}
use lib.Dec.{eqb, ltb}
use lib.ListN.{take}
use Rattle.chip_array.specs.Device.{Device, Setting}
use Rattle.bus_polling.specs.Outcomes.{is_passed, is_failed}
use Rattle.bus_polling.specs.declared.Outcome.{Outcome}
use Rattle.bus_polling.specs.declared.Outcome.TheVariants.{Passed, Failed, Silent, Cut, Illegal, Protected}
use Rattle.progress.specs.Progress.{Progress, progress}
use Rattle.request.specs.Call.{result_of, sent_in, started_in, sized_for, call_line}
use Rattle.fill_cursor.specs.Cursor.{running, after_due, programs, is_open_now}
use Rattle.fill_cursor.specs.declared.Running.{Running}
use Rattle.fill_cursor.proofs.FitLaws.{by_after}
use Rattle.fill_driver.specs.Driver.{form_now, performed, Ran, ran_to, gone, acted, run_for}
use Rattle.fill_driver.proofs.RunLaws.{open_left, open_phase, programs-most, acted_prepared, acted_performed, no_programs}
use Rattle.fill_laws.proofs.PortionLaws.{over_so}
use Rattle.open_write.specs.Open.{OpenState, cursor_of}
use Rattle.open_write.specs.Requests.{open_refusal, advance_run, advance_end, advance_request, advancing_write}
use Rattle.fill_portions.specs.Programs.{programs_in, ProgramLast, AdvanceCounts}
use Rattle.fill_portions.proofs.AnyReadLaws.{told}
use Rattle.fill_portions.proofs.CountLaws.{performed_few, performed_one, performed_last}
use Rattle.fill_portions.proofs.InductionLaws.{by_run}

-- a request goes on only after an operation that passed or failed
after-told : (pages : ℕ) (r : Running) (o : Outcome) → (after_due pages r o).cursor.phase < 2 → told o ≡ true
after-told pages r o =
    by_after pages r.cursor r.state (λ y. y.cursor.phase < 2 → told o ≡ true) (λ a st h. absurd (omega (arith, h))) o
    (λ t e h. rw t) (λ t e h. rw t) (λ t h. cases (is_passed o) (λ u. rw u) (λ u. rw (u, t)))

gone-told : (o : Outcome) → told o ≡ true → is_passed (gone o) ≡ true
unfolding gone is_passed is_failed
gone-told Passed t = refl
gone-told Failed t = refl
gone-told Silent t = t
gone-told Cut t = t
gone-told Illegal t = t
gone-told Protected t = t

module _ (s : Setting) (bytes : List ℕ) where
  -- one action
  module _ (r : Running) (p : Progress) where
    abbrev x : Ran
    x = acted s bytes r p

    abbrev due : Progress
    due = performed s r.cursor (form_now r) r.state.invalid bytes p

    acted_few : r.cursor.step ≤ 2 → programs_in x.progress.started ≤ programs_in p.started + programs r.cursor
    acted_few most =
        cases (eqb r.cursor.step 0)
        (λ t. subst (λ (y : Ran). programs_in y.progress.started ≤ programs_in p.started + programs r.cursor) (sym (acted_prepared s bytes r p (eqb-true r.cursor.step 0 t))) (omega arith))
        (λ t.
        let some = eqb-false r.cursor.step 0 t in
        subst (λ (y : Ran). programs_in y.progress.started ≤ programs_in p.started + programs r.cursor) (sym (acted_performed s bytes r p some)) (performed_few s r.cursor (form_now r) r.state.invalid bytes p most some))

    module _ (passed : is_passed p.outcome ≡ true) (goes : x.running.cursor.phase < 2) where
      known : (r.cursor.step ≡ 0 → ⊥) → told due.outcome ≡ true
      known some = after-told s.geometry.pages r due.outcome (subst (λ (y : Ran). y.running.cursor.phase < 2) (acted_performed s bytes r p some) goes)

      acted_passed : is_passed x.progress.outcome ≡ true
      acted_passed =
          cases (eqb r.cursor.step 0)
          (λ t. subst (λ (y : Ran). is_passed y.progress.outcome ≡ true) (sym (acted_prepared s bytes r p (eqb-true r.cursor.step 0 t))) passed)
          (λ t.
          let some = eqb-false r.cursor.step 0 t in
          subst (λ (y : Ran). is_passed y.progress.outcome ≡ true) (sym (acted_performed s bytes r p some)) (gone-told due.outcome (known some)))

      acted_one : r.cursor.step ≤ 2 → programs_in x.progress.started ≡ programs_in p.started + programs r.cursor
      acted_one most =
          cases (eqb r.cursor.step 0)
          (λ t.
          let zero_is = eqb-true r.cursor.step 0 t in
          subst (λ (y : Ran). programs_in y.progress.started ≡ programs_in p.started + programs r.cursor) (sym (acted_prepared s bytes r p zero_is)) (omega (arith, no_programs r.cursor zero_is)))
          (λ t.
          let some = eqb-false r.cursor.step 0 t in
          subst (λ (y : Ran). programs_in y.progress.started ≡ programs_in p.started + programs r.cursor) (sym (acted_performed s bytes r p some))
          (performed_one s r.cursor (form_now r) r.state.invalid bytes p passed (known some) most some))

      acted_last : r.cursor.step ≡ 2 → ProgramLast s x.progress.cycles x.progress.started
      acted_last two =
          let some : r.cursor.step ≡ 0 → ⊥ = λ z. omega (arith, z, two) in
          subst (λ (y : Ran). ProgramLast s y.progress.cycles y.progress.started) (sym (acted_performed s bytes r p some))
          (performed_last s r.cursor (form_now r) r.state.invalid bytes p passed (known some) two)

  -- a run from p and r with so many page programs left, which comes to y
  record Counts (left : ℕ) (r : Running) (p : Progress) (y : Ran) : Type 0 where
    few : programs_in y.progress.started ≤ programs_in p.started + left
    nothing : left ≡ 0 → y ≡ ran_to p r
    over : 2 ≤ r.cursor.phase → y ≡ ran_to p r
    exactly : (r.cursor.phase < 2 → is_passed p.outcome ≡ true) → y.running.cursor.phase < 2 → programs_in y.progress.started ≡ programs_in p.started + left
    last : (r.cursor.phase < 2 → is_passed p.outcome ≡ true) → y.running.cursor.phase < 2 → 0 < left → ProgramLast s y.progress.cycles y.progress.started

  counts_over : (left : ℕ) (r : Running) (p : Progress) → is_open_now r.cursor left ≡ false → Counts left r p (ran_to p r)
  counts_over left r p f =
      let none : r.cursor.phase < 2 → left ≡ 0 = λ h. cases (eqb left 0) (λ t. eqb-true left 0 t) (λ t. absurd (omega (arith, h, over_so r.cursor left (eqb-false left 0 t) f))) in
      record {
        few = omega arith;
        nothing = λ z. refl;
        over = λ h. refl;
        exactly = λ w h. omega (arith, none h);
        last = λ w h k. absurd (omega (arith, k, none h));
      }

  counts_step : (left : ℕ) (r : Running) (p : Progress) → r.cursor.step ≤ 2 → is_open_now r.cursor left ≡ true → (y : Ran)
      → Counts (left - programs r.cursor) (acted s bytes r p).running (acted s bytes r p).progress y → Counts left r p y
  unfolding programs
  counts_step left r p most t y k =
      let phase = open_phase r.cursor left t in
      let room = programs-most r.cursor left t in
      let goes : y.running.cursor.phase < 2 → (acted s bytes r p).running.cursor.phase < 2 =
      λ h.
      cases (ltb (acted s bytes r p).running.cursor.phase 2)
      (λ u. ltb-true (acted s bytes r p).running.cursor.phase 2 u)
      (λ u.
      let far = ltb-false (acted s bytes r p).running.cursor.phase 2 u in
      absurd (omega (arith, h, far, ap (λ (z : Ran). z.running.cursor.phase) (k.over far)))) in
      record {
        few = omega (arith, k.few, acted_few r p most, room);
        nothing = λ z. absurd (open_left r.cursor left t z);
        over = λ h. absurd (omega (arith, h, phase));
        exactly = λ w h.
            let on = goes h in
            omega (arith, k.exactly (acted_passed r p (w phase)) h, acted_one r p (w phase) on most, room);
        last = λ w h some.
            let on = goes h in
            cases (eqb r.cursor.step 2)
            (λ u.
            cases (eqb (left - programs r.cursor) 0)
            (λ z.
            subst (λ (q : Ran). ProgramLast s q.progress.cycles q.progress.started) (sym (k.nothing (eqb-true (left - programs r.cursor) 0 z)))
            (acted_last r p (w phase) on (eqb-true r.cursor.step 2 u)))
            (λ z. k.last (acted_passed r p (w phase)) h (omega (arith, eqb-false (left - programs r.cursor) 0 z))))
            (λ u.
            let all : programs r.cursor ≡ 0 = rw u in
            k.last (acted_passed r p (w phase)) h (omega (arith, some, all)));
      }

  run_counts : (left : ℕ) (r : Running) (p : Progress) → r.cursor.step ≤ 2 → Counts left r p (run_for s bytes left r p)
  run_counts = by_run s bytes Counts counts_over counts_step

-- EXACTLY SO MANY PAGE PROGRAMS, AND NOTHING AFTER THE LAST
module _ (s : Setting) (d : Device) (n : ℕ) (x : OpenState) (most : ℕ) where
  abbrev t : Ran
  t = advance_run s d n x most

  abbrev refused : ℕ
  refused = open_refusal s.geometry (sized_for s d) x (eqb x.write.opened 0)

  step_most : (cursor_of x.write).step ≤ 2
  step_most = cases (eqb x.write.step 0) (λ z. rw z (omega arith)) (λ z. rw z (omega arith))

  counts : Counts s (take s.geometry.main x.page) most (running (cursor_of x.write) x.state) (progress (call_line d n) Passed [] []) t
  counts = run_counts s (take s.geometry.main x.page) most (running (cursor_of x.write) x.state) (progress (call_line d n) Passed [] []) step_most

  -- an advance that is answered 0 and not finished left the write open
  goes_on : (advancing_write s d n x most).returned.answer ≡ 0 → (advancing_write s d n x most).finished ≡ 0 → (eqb refused 0 ≡ true) × (t.running.cursor.phase < 2)
  unfolding result_of advance_request advance_end
  goes_on a f =
      cases (eqb refused 0)
      (λ ok.
      cases (ltb t.running.cursor.phase 2)
      (λ h. (ok, ltb-true t.running.cursor.phase 2 h))
      (λ h. absurd (ended t.running.cursor.answer (rw (ok, h) at a) (rw (ok, h) at f))))
      (λ no. absurd (eqb-false refused 0 no (rw no at a)))
    where
      ended : (k : ℕ) → k ≡ 0 → ◌≡◌ {A = ℕ} (cond (eqb k 0) 1 0) 0 → ⊥
      ended k z e = omega (arith, rw z at e)

  pub advance_counts : AdvanceCounts s d n x most
  unfolding started_in sent_in advance_request programs_in is_passed
  advance_counts =
      record {
        few = cases (eqb refused 0) (λ ok. rw ok (omega (arith, counts.few))) (λ no. rw no (omega arith));
        exactly = λ a f.
            let on = goes_on a f in
            rw on.0 (omega (arith, counts.exactly (λ h. refl) on.1));
        last = λ a f some.
            let on = goes_on a f in
            rw on.0 (counts.last (λ h. refl) on.1 some);
      }
