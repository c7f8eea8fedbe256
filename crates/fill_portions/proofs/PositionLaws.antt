-- A write between two advances, beside the plain write at the same place. Assumes nothing.
use Prim.Native.Nat.{ℕ, ◌+◌, ◌-◌, ◌*◌, ◌≤◌, ◌<◌}
use mathlib.Core.Bool.{true}
use mathlib.Core.List.{List, []}
use mathlib.Core.Path.{◌≡◌, refl, sym, ap, ap₂, subst, ◌∙◌}
use native.Mathlib.Omega.{arith}
use borrow.Table.Steps.{cases}
use borrow.Author.Tests.{ltb-true, ltb-false}
use lib.Dec.{ltb}
use lib.ListN.{length, take, drop}
use Rattle.geometry.specs.declared.Geometry.{Geometry}
use Rattle.chip_interface.specs.Interface.{output_phase}
use Rattle.chip_array.specs.Device.{Device, Setting, setting}
use Rattle.bus_polling.specs.Outcomes.{is_passed}
use Rattle.bus_polling.specs.declared.Outcome.TheVariants.{Passed}
use Rattle.bus_polling.proofs.OutcomeLaws.{passed_answered}
use Rattle.operations.specs.Ends.{Called}
use Rattle.progress.specs.Progress.{Progress, progress}
use Rattle.request.specs.Call.{sized_for, call_line}
use Rattle.fill_cursor.specs.Cursor.{running, actions_most}
use Rattle.fill_cursor.specs.declared.Running.{Running}
use Rattle.fill_driver.specs.Driver.{Ran, run_for}
use Rattle.fill_driver.proofs.RunLaws.{ran_over}
use Rattle.fill_laws.proofs.PortionLaws.{over-ended, ran_portions}
use Rattle.open_write.specs.Open.{OpenState, open_state, is_opened, cursor_of, words_of}
use Rattle.open_write.specs.Requests.{advance_run}
use Rattle.open_write.proofs.WordLaws.{words_tell}
use Rattle.fill_portions.proofs.EndLaws.{SameWords, words_left}
use Rattle.fill_portions.proofs.AlikeLaws.{Alike}
use Rattle.fill_portions.proofs.RunLaws.{Stands, Came, ran_alike}
use Rattle.fill_portions.proofs.InductionLaws.{run_shape, run_paused}
use Rattle.fill_portions.proofs.BesideLaws.{Unmoved, call_called}

-- more page programs than a write can send: 64 for each block, of data fills and of table fills
abbrev pub programs_most : Geometry → ℕ
programs_most g = 64 * (2 * g.blocks) + 1

-- the plain write has come to p and r goes on there; it will have come to fin with all its page programs. The open write x stands at the same place, on a chip d that holds the
-- same, with the fate words fates' left
pub record Standing (g : Geometry) (mask fates bytes : List ℕ) (fin : Ran) (fates' : List ℕ) (x : OpenState) (d : Device) (r : Running) (p : Progress) : Type 0 where
  pub going : r.cursor.phase < 2
  pub no_erase : r.cursor.step ≡ 1 → ⊥
  pub stands : Stands g (length bytes) r p.line
  pub passed : is_passed p.outcome ≡ true
  pub called : Called (setting g mask fates) p.line
  pub high : p.line.chip.interface.protected ≡ 0
  pub rest : (m : ℕ) → run_for (setting g mask fates) bytes (m + programs_most g) r p ≡ fin
  pub opened : is_opened x ≡ true
  pub same_state : x.state ≡ r.state
  pub same_cursor : cursor_of x.write ≡ r.cursor
  pub page_is : take g.main x.page ≡ bytes
  pub same_array : d.array ≡ p.line.chip.array
  pub same_history : d.history ≡ p.line.chip.history
  pub same_line : d.interface.protected ≡ 0
  pub ready : d.interface.phase ≤ output_phase
  pub words : SameWords fates p.line.chip.interface.fate fates' 0

-- on another chip that was left ready, with the same array, history and line
pub standing-moved : (g : Geometry) (mask fates bytes : List ℕ) (fin : Ran) (fates' : List ℕ) (x : OpenState) (d e : Device) (r : Running) (p : Progress) → Unmoved d e → Standing g mask fates bytes fin fates' x d r p → Standing g mask fates bytes fin fates' x e r p
standing-moved g mask fates bytes fin fates' x d e r p u w =
    record {
      going = w.going;
      no_erase = w.no_erase;
      stands = w.stands;
      passed = w.passed;
      called = w.called;
      high = w.high;
      rest = w.rest;
      opened = w.opened;
      same_state = w.same_state;
      same_cursor = w.same_cursor;
      page_is = w.page_is;
      same_array = u.same_array ∙ w.same_array;
      same_history = u.same_history ∙ w.same_history;
      same_line = u.same_line ∙ w.same_line;
      ready = u.ready;
      words = w.words;
    }

module _ (g : Geometry) (mask fates bytes : List ℕ) (fin : Ran) (uncut : fin.running.cursor.answer ≡ 11 → ⊥) (fates' : List ℕ) (x : OpenState) (d : Device) (r : Running) (p : Progress) (w : Standing g mask fates bytes fin fates' x d r p) (n most : ℕ) where
  abbrev s : Setting
  s = setting g mask fates

  abbrev s' : Setting
  s' = setting g mask fates'

  -- the same portion of the plain write
  abbrev pub plain : Ran
  plain = run_for s bytes most r p

  abbrev start : Progress
  start = progress (call_line d n) Passed [] []

  abbrev pub portion : Ran
  portion = advance_run s' d n x most

  step_most : r.cursor.step ≤ 2
  step_most = w.stands.goes.fits.step_most

  plain_rest : (m : ℕ) → run_for s bytes (m + programs_most g) plain.running plain.progress ≡ fin
  plain_rest m =
      let e : most + (m + programs_most g) ≡ most + m + programs_most g = omega arith in
      sym (ran_portions s bytes most (m + programs_most g) r p step_most) ∙ ap (λ (k : ℕ). run_for s bytes k r p) e ∙ w.rest (most + m)

  -- the plain write has ended with it
  pub plain_over : 2 ≤ plain.running.cursor.phase → plain ≡ fin
  plain_over h =
      sym (ran_over s bytes plain.running plain.progress (actions_most (0 + programs_most g) plain.running) (0 + programs_most g) (over-ended plain.running.cursor (0 + programs_most g) h)) ∙ plain_rest 0

  plain_uncut : plain.running.cursor.answer ≡ 11 → ⊥
  plain_uncut z =
      cases (ltb plain.running.cursor.phase 2)
      (λ t. omega (arith, z, (run_shape s bytes most r p step_most w.stands.shape (ltb-true plain.running.cursor.phase 2 t)).unanswered))
      (λ t. uncut (sym (ap (λ (y : Ran). y.running.cursor.answer) (plain_over (ltb-false plain.running.cursor.phase 2 t))) ∙ z))

  pub portion_is : portion ≡ run_for s' bytes most r start
  portion_is =
      ap₂ (λ (b : List ℕ) (y : Running). run_for s' b most y start) w.page_is (ap₂ running w.same_cursor w.same_state)

  module _ (fits : sized_for s' d ≡ true) (uncut' : 2 ≤ portion.running.cursor.phase → portion.running.cursor.answer ≡ 11 → ⊥) where
    alike : Alike g mask fates fates' p.line start.line
    alike =
        record {
          called = w.called;
          called' = call_called s' d n fits w.ready;
          high = w.high;
          high' = w.same_line;
          same_array = w.same_array;
          same_history = w.same_history;
          words = w.words;
        }

    portion_uncut : (run_for s' bytes most r start).running.cursor.answer ≡ 11 → ⊥
    portion_uncut z =
        let y = run_for s' bytes most r start in
        cases (ltb y.running.cursor.phase 2)
        (λ t. omega (arith, z, (run_shape s' bytes most r start step_most w.stands.shape (ltb-true y.running.cursor.phase 2 t)).unanswered))
        (λ t.
        subst (λ (q : Ran). (2 ≤ q.running.cursor.phase → q.running.cursor.answer ≡ 11 → ⊥)) portion_is uncut' (ltb-false y.running.cursor.phase 2 t) z)

    pub portion_came : Came g mask fates fates' (length bytes) p start plain portion
    unfolding is_passed
    portion_came =
        subst (Came g mask fates fates' (length bytes) p start plain) (sym portion_is)
        (ran_alike g mask fates fates' bytes (actions_most most r) most r p start w.passed refl alike w.stands plain_uncut portion_uncut)

    -- the write goes on: it stands again, where the plain one does
    module _ (goes : portion.running.cursor.phase < 2) where
      same : portion.running ≡ plain.running
      same = portion_came.same_running

      plain_goes : plain.running.cursor.phase < 2
      plain_goes = subst (λ (y : Running). y.cursor.phase < 2) same goes

      pub again : Alike g mask fates fates' plain.progress.line portion.progress.line
      again = portion_came.matched.goes_on (passed_answered _ (portion_came.passed plain_goes))

      pub standing_next : Standing g mask fates bytes fin (drop portion.progress.line.chip.interface.fate fates') (open_state portion.running.state (words_of portion.running.cursor) x.page) portion.progress.line.chip plain.running plain.progress
      standing_next =
          let c = plain.running.cursor in
          let no_erase = run_paused s bytes most r p step_most w.no_erase plain_goes in
          let shape = (portion_came.stands plain_goes).shape in
          record {
            going = plain_goes;
            no_erase = no_erase;
            stands = portion_came.stands plain_goes;
            passed = portion_came.passed plain_goes;
            called = again.called;
            high = again.high;
            rest = plain_rest;
            opened = refl;
            same_state = ap (λ (y : Running). y.state) same;
            same_cursor =
                ap (λ (y : Running). cursor_of (words_of y.cursor)) same
                ∙ words_tell c (record { goes_on = plain_goes; step_most = (portion_came.stands plain_goes).goes.fits.step_most; no_erase = no_erase; one_page = shape.one_page; unanswered = shape.unanswered });
            page_is = w.page_is;
            same_array = again.same_array;
            same_history = again.same_history;
            same_line = again.high';
            ready = again.called'.ready;
            words = words_left fates plain.progress.line.chip.interface.fate fates' portion.progress.line.chip.interface.fate again.words;
          }
