-- A program that was answered leaves a chip that takes the next command, whether the chip was ready for it or not. Assumes nothing.
use Prim.Native.Nat.{ℕ, zero, suc, ◌<◌}
use mathlib.Core.Bool.{true, false, false≢true}
use mathlib.Core.List.{List, [], ◌∷◌, ◌++◌}
use mathlib.Core.Logic.{◌⊎◌, inl, inr, ⊎_elim}
use mathlib.Core.Path.{◌≡◌, refl, sym, ap, subst, ◌∙◌}
use native.Mathlib.Omega.{arith}
use borrow.Table.Steps.{cases}
use borrow.Author.Tests.{lt-leb}
use lib.Dec.{eqb}
use Rattle.geometry.specs.Sizes.{row_of}
use Rattle.chip_interface.specs.Interface.{output_phase, program_code, program_confirm, status_code, plain_command, begun}
use Rattle.chip_array.specs.Device.{Device, Setting, illegal_cycle}
use Rattle.chip.specs.Chip.{Cycle, exec, commanded, is_confirm}
use Rattle.chip.specs.Chip.Cycle.{command, status}
use Rattle.bus.specs.Line.{Line, send, send_all, goes_on}
use Rattle.bus.proofs.LineLaws.{going, send_all_append}
use Rattle.chip_laws.proofs.ReplayLaws.{send_all_lengths}
use Rattle.bus_polling.specs.Outcomes.{is_passed, answered}
use Rattle.bus_polling.specs.Polling.{polled, outcome_of, answer_of}
use Rattle.bus_polling.specs.declared.Outcome.{Outcome}
use Rattle.bus_polling.specs.declared.Outcome.TheVariants.{Passed}
use Rattle.bus_polling.proofs.PollLaws.{outcome_silent, ended-stopped, stopped_unanswered, answer_answered, line_told, polled_stops, polled_ends, polled_more, polled_all}
use Rattle.bus_sequences.specs.Cycles.{confirmed_cycles, program_data, program_cycles}
use Rattle.operations.specs.Ends.{Called, Lent, end_of, unready_end}
use Rattle.operations.proofs.UnreadyLaws.{all_stops, unready_ends}
use Rattle.progress.specs.Progress.{progress}
use Rattle.progress.specs.Steps.{program_on, ComesTo}
use Rattle.progress.proofs.StepLaws.{program_on_line, program_on_outcome}
use Rattle.bools.proofs.BoolLaws.{clash}

-- what was answered was neither cut off nor refused
answered_goes : (l : Line) → answered (outcome_of l) ≡ true → goes_on l ≡ true
answered_goes l t =
    cases (goes_on l) (λ g. g)
    (λ f. clash t (sym (ap answered (ended-stopped l f)) ∙ stopped_unanswered l f))

-- a chip that shows its status: busy, or ready
abbrev Shows : Line → Type 0
Shows l = (l.chip.interface.phase ≡ 8) ⊎ (l.chip.interface.phase ≡ 1)

module _ (s : Setting) where
  -- status reads that went on
  one_more : (n : ℕ) (l : Line) → (Shows (send s l status) → goes_on (polled s n (send s l status)) ≡ true → Shows (polled s n (send s l status)))
      → goes_on (polled s (suc n) l) ≡ true → Shows (polled s (suc n) l)
  one_more n l more g =
      cases (goes_on (send s l status))
      (λ h.
      let shows : Shows (send s l status) = ⊎_elim (λ w. inl w.1) (λ w. inr w.1) ((line_told s l h).tells (going (send s l status) h).legal) in
      cases (eqb (send s l status).chip.interface.phase 8)
      (λ p. let e = polled_more s n l h p in subst Shows (sym e) (more shows (sym (ap goes_on e) ∙ g)))
      (λ p. subst Shows (sym (polled_ends s n l h p)) shows))
      (λ f. clash g (ap goes_on (polled_stops s n l f) ∙ f))

  shows_still : (n : ℕ) (l : Line) → Shows l → goes_on (polled s n l) ≡ true → Shows (polled s n l)
  unfolding polled
  shows_still zero l w g = w
  shows_still (suc n) l w g = one_more n l (shows_still n (send s l status)) g

  -- an operation of any cycles up to its status reads
  module _ (l : Line) (lent : Lent s l) (first : List Cycle) (code : ℕ) where
    abbrev m : Line
    m = send_all s l (confirmed_cycles s l first code)

    abbrev before : Line
    before = send_all s l (first ++ (command code ∷ command status_code ∷ []))

    polls_are : m ≡ polled s 256 before
    polls_are = send_all_append s l (first ++ (command code ∷ command status_code ∷ [])) _ ∙ sym (polled_all s 256 before)

    pub answered_called : answered (outcome_of m) ≡ true → Called s m
    unfolding answered
    answered_called t =
        let goes = answered_goes m t in
        let on = going m goes in
        let long = send_all_lengths s l (confirmed_cycles s l first code) in
        let shows : Shows m = subst Shows (sym polls_are) (one_more 255 before (shows_still 255 (send s before status)) (sym (ap goes_on polls_are) ∙ goes)) in
        let ready : m.chip.interface.phase ≡ 1 = ⊎_elim (λ w. absurd (false≢true (sym (ap answered (outcome_silent m goes w)) ∙ t))) (λ w. w) shows in
        record {
          is_valid = lent.is_valid;
          array_long = long.array ∙ lent.array_long;
          register_long = long.register ∙ lent.register_long;
          history_long = long.history ∙ lent.history_long;
          mask_long = lent.mask_long;
          ready = omega (arith, ready);
          legal = on.legal;
          uncut = on.uncut;
        }

-- a program leaves line m and outcome o
pub program_reaches : (s : Setting) (l : Line) → Lent s l → (block page : ℕ) (bytes : List ℕ) (m : Line) (o : Outcome) → m ≡ send_all s l (program_cycles s l (row_of s.geometry block page) bytes) → o ≡ answer_of m
    → ComesTo s (program_on s block page bytes) l m o
unfolding is_passed
program_reaches s l lent block page bytes m o e q =
    record {
      line_is = λ cs os. e ∙ sym (program_on_line s block (progress l Passed cs os) l refl refl page bytes);
      outcome_is = λ cs os. q ∙ ap answer_of e ∙ sym (program_on_outcome s block (progress l Passed cs os) l refl refl page bytes);
      next_called = λ t.
          let told = sym (ap answered q ∙ answer_answered m ∙ ap (λ (x : Line). answered (outcome_of x)) e) ∙ t in
          subst (Called s) (sym e) (answered_called s l lent (program_data (row_of s.geometry block page) bytes) program_confirm told);
    }

-- on a chip that is not ready: one cycle at the most, refused or cut off; array and history are as they were
program_refused : (s : Setting) (d : Device) → output_phase < d.interface.phase → exec s d (command program_code) ≡ illegal_cycle d
unfolding exec commanded is_confirm plain_command begun
program_refused s d h = rw (lt-leb d.interface.phase 2 h)

pub program_unready : (s : Setting) (l : Line) → Lent s l → output_phase < l.chip.interface.phase → (row : ℕ) (bytes : List ℕ) → end_of (send_all s l (program_cycles s l row bytes)) ≡ unready_end l
program_unready s l lent h row bytes =
    ap end_of (all_stops s l lent (command program_code) (program_refused s l.chip h) _) ∙ unready_ends l
