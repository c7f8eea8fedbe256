-- How the call ends on every chip, in closed form; its cycles, all legal and counted; the chip and the state that it leaves. Assumes nothing.
use Prim.Native.Nat.{ℕ, ◌+◌, ◌-◌, ◌≤◌, ◌<◌}
use mathlib.Core.Bool.{true, false, false≢true}
use mathlib.Core.List.{List}
use mathlib.Core.Path.{◌≡◌, refl, sym, ap, subst, ◌∙◌}
use native.Mathlib.Omega.{arith}
use borrow.Author.Tests.{eq-eqb, eqb-true, lt-ltb, le-ltb, ltb-true, ltb-false}
use borrow.Table.Steps.{cases}
use lib.Dec.{eqb, ltb}
use lib.ListN.{length, length-append}
use Rattle.chip_interface.specs.Interface.{output_phase, in_phase, after_reset}
use Rattle.chip_array.specs.Device.{Device, Setting, setting, with_interface}
use Rattle.bus.specs.Line.{Line, send_all, sent, uncut_line}
use Rattle.bus.proofs.LineLaws.{sent_counts}
use Rattle.bus_polling.specs.Outcomes.{is_passed, is_silent, is_cut_off}
use Rattle.bus_polling.specs.Polling.{ended_as}
use Rattle.bus_polling.specs.declared.Outcome.TheVariants.{Passed, Silent, Cut}
use Rattle.bus_sequences.specs.Cycles.{reset_cycles}
use Rattle.operations.specs.Ends.{End, end_of_reset, reset_end, end_of_ready}
use Rattle.operations.proofs.ResetLaws.{reset_ends, reset_legal, reset_leaves}
use Rattle.progress.specs.Progress.{Progress, reset_on}
use Rattle.parameter_read.specs.Cycles.{parameter_load, parameter_output, parameter_cycles, parameter_outcome}
use Rattle.parameter_read.specs.Ends.{CanTell, parameter_total, parameter_end}
use Rattle.parameter_read.proofs.ParameterLaws.{parameters_end, parameters_legal, parameters_next}
use Rattle.parameters.specs.Page.{told}
use Rattle.state.specs.State.{blank}
use Rattle.state.specs.declared.State.{State}
use Rattle.request.specs.Call.{call_line, stop_answer, end_at, result_of}
use Rattle.request.specs.Start.{start_line}
use Rattle.identify.specs.Identify.{Identified, identified, no_sizes, unknown, parameters_on, identify_run, identify_end, identify_request, identifying}
use Rattle.identify.specs.Ends.{busy_reads, identify_total, identify_outcome, by_end, EndsSo}
use Rattle.identify.proofs.FetchLaws.{start_tells}

-- cycles sent of n allowed, where t were due
all-sent : (n t : ℕ) → n < t → n - (n - t) ≡ n
all-sent n t h = omega arith

total-sent : (n t : ℕ) → t ≤ n → n - (n - t) ≡ t
total-sent n t h = omega arith

module _ (s : Setting) (d : Device) (n : ℕ) (page : List ℕ) (h : length page ≡ 768) where
  abbrev run : Progress
  run = identify_run s d n page

  -- what is said of the line that the call has come to
  pub record RunEnds : Type 0 where
    pub outcome_is : run.outcome ≡ identify_outcome s.fates n
    pub left_is : run.line.left ≡ n - identify_total s.fates
    pub same_array : run.line.chip.array ≡ d.array
    pub same_history : run.line.chip.history ≡ d.history
    pub legal : run.line.chip.interface.illegal ≡ 0

  start_passed : 3 ≤ n → is_passed (ended_as (start_line s d n)) ≡ true
  unfolding end_of_reset reset_end is_passed
  start_passed m =
      ap (λ (x : End). is_passed x.outcome) (reset_ends s (call_line d n) refl refl) ∙ rw (le-ltb n 3 m)

  -- the reset is cut
  cut_at_reset : n < 3 → RunEnds
  unfolding parameters_on reset_on is_passed end_of_reset reset_end
  cut_at_reset m =
      let e = reset_ends s (call_line d n) refl refl in
      let o : ended_as (start_line s d n) ≡ Cut = ap (λ (x : End). x.outcome) e ∙ rw (lt-ltb n 3 m) in
      let f : is_passed (ended_as (start_line s d n)) ≡ false = ap is_passed o in
      record {
        outcome_is = rw f (o ∙ rw (lt-ltb n (identify_total s.fates) (omega arith)));
        left_is = rw f (ap (λ (x : End). x.left) e ∙ omega arith);
        same_array = rw f (ap (λ (x : End). x.array) e);
        same_history = rw f (ap (λ (x : End). x.history) e);
        legal = rw f (reset_legal s (call_line d n) refl refl);
      }

  -- the reset passed
  module _ (m : 3 ≤ n) where
    abbrev after : Line
    after = uncut_line (with_interface (in_phase 1 (after_reset (call_line d n).chip.interface)) d) (n - 3)

    start_is : start_line s d n ≡ after
    start_is = reset_leaves s (call_line d n) refl refl m

    tells : CanTell (start_line s d n) page 768
    tells = start_tells s d n page h (start_line s d n) refl (start_passed m)

    line_is : run.line ≡ send_all s (start_line s d n) (parameter_cycles s (start_line s d n) page 768)
    unfolding parameters_on reset_on is_passed
    line_is = rw (start_passed m)

    ended_is : run.outcome ≡ parameter_outcome s (start_line s d n) page 768
    unfolding parameters_on reset_on is_passed
    ended_is = rw (start_passed m)

    page_ends : end_of_ready s (start_line s d n) (parameter_load s (start_line s d n)) (parameter_output page 768) ≡ parameter_end s after 768
    page_ends =
        parameters_end s (start_line s d n) page 768 tells ∙ ap (λ (x : Line). parameter_end s x 768) start_is

    covered : ltb (n - 3) (parameter_total s after.chip 768) ≡ ltb n (identify_total s.fates)
    covered =
        cases (ltb n (identify_total s.fates))
        (λ u. rw u (lt-ltb (n - 3) (parameter_total s after.chip 768) (omega (arith, ltb-true n (identify_total s.fates) u))))
        (λ u. rw u (le-ltb (n - 3) (parameter_total s after.chip 768) (omega (arith, ltb-false n (identify_total s.fates) u))))

    past_reset : RunEnds
    unfolding parameter_cycles parameter_outcome
    past_reset =
        record {
          outcome_is = ended_is ∙ ap (λ (x : End). x.outcome) page_ends ∙ rw covered;
          left_is = ap (λ (x : Line). x.left) line_is ∙ ap (λ (x : End). x.left) page_ends ∙ omega arith;
          same_array = ap (λ (x : Line). x.chip.array) line_is ∙ ap (λ (x : End). x.array) page_ends;
          same_history = ap (λ (x : Line). x.chip.history) line_is ∙ ap (λ (x : End). x.history) page_ends;
          legal = ap (λ (x : Line). x.chip.interface.illegal) line_is ∙ parameters_legal s (start_line s d n) page 768 tells;
        }

    -- where it passed the chip takes the next command
    past_ready : is_passed run.outcome ≡ true → run.line.chip.interface.phase ≡ output_phase
    past_ready u =
        ap (λ (x : Line). x.chip.interface.phase) line_is
        ∙ parameters_next s (start_line s d n) page 768 tells (ap is_passed (sym ended_is) ∙ u)

  pub run_ends : RunEnds
  run_ends = cases (ltb n 3) (λ u. cut_at_reset (ltb-true n 3 u)) (λ u. past_reset (ltb-false n 3 u))

  pub run_ready : is_passed run.outcome ≡ true → run.line.chip.interface.phase ≡ output_phase
  unfolding is_passed
  run_ready u =
      cases (ltb n 3)
      (λ v.
      let cut : run.outcome ≡ Cut = run_ends.outcome_is ∙ rw (lt-ltb n (identify_total s.fates) (omega (arith, ltb-true n 3 v))) in
      absurd (false≢true (sym (ap is_passed cut) ∙ u)))
      (λ v. past_ready (ltb-false n 3 v) u)

  -- the cycles sent, and those left of the cycles allowed
  pub run_counts : length run.cycles + run.line.left ≡ n
  unfolding parameters_on reset_on is_passed
  run_counts =
      let first = sent_counts s (call_line d n) reset_cycles in
      cases (is_passed (ended_as (start_line s d n)))
      (λ u.
      let cs = parameter_cycles s (start_line s d n) page 768 in
      rw u (omega (arith, first, length-append (sent s (call_line d n) reset_cycles) (sent s (start_line s d n) cs), sent_counts s (start_line s d n) cs)))
      (λ u. rw u (omega (arith, first)))

-- the call, whatever is lent
module _ (mask fates : List ℕ) (d : Device) (n : ℕ) (state : State) (page : List ℕ) (logical : ℕ) where
  abbrev s : Setting
  s = setting unknown mask fates

  abbrev r : Identified
  r = identifying mask fates d n state page logical

  -- a page of another length: nothing is sent, and nothing changes
  unfit : eqb (length page) 768 ≡ false → EndsSo fates d n state page logical r
  unfolding result_of identify_request
  unfit f =
      record { answer_is = rw f; state_is = rw f; sizes_are = rw f; sent_is = rw f; same_array = rw f; same_history = rw f }

  module _ (h : length page ≡ 768) where
    abbrev run_of : Progress
    run_of = identify_run s d n page

    abbrev e : RunEnds s d n page h
    e = run_ends s d n page h

    is_run : r ≡ identify_end n state page logical run_of
    unfolding result_of identify_request
    is_run = rw (eq-eqb (length page) 768 h)

    -- by the outcome of the run
    passed : is_passed run_of.outcome ≡ true → r ≡ identified (end_at n (told page logical).answer state run_of.line) (told page logical).sizes
    unfolding identify_end
    passed u = is_run ∙ rw u

    unpassed : is_passed run_of.outcome ≡ false → r ≡ identified (end_at n (stop_answer run_of.outcome) (blank 2) run_of.line) no_sizes
    unfolding identify_end
    unpassed u = is_run ∙ rw u

    ended : {z : Identified} → r ≡ z → z.returned.chip ≡ run_of.line.chip → z.returned.sent ≡ n - run_of.line.left
        → z.returned.answer ≡ by_end fates n page 1 11 10 (told page logical).answer
        → z.returned.state ≡ by_end fates n page state (blank 2) (blank 2) state
        → z.sizes ≡ by_end fates n page no_sizes no_sizes no_sizes (told page logical).sizes
        → n - (n - identify_total fates) ≡ by_end fates n page 0 n (identify_total fates) (identify_total fates)
        → EndsSo fates d n state page logical r
    ended w c x a b z k =
        record {
          answer_is = ap (λ (q : Identified). q.returned.answer) w ∙ a;
          state_is = ap (λ (q : Identified). q.returned.state) w ∙ b;
          sizes_are = ap (λ (q : Identified). q.sizes) w ∙ z;
          sent_is = ap (λ (q : Identified). q.returned.sent) w ∙ x ∙ ap (λ (l : ℕ). n - l) e.left_is ∙ k;
          same_array = ap (λ (q : Identified). q.returned.chip.array) w ∙ ap (λ (q : Device). q.array) c ∙ e.same_array;
          same_history = ap (λ (q : Identified). q.returned.chip.history) w ∙ ap (λ (q : Device). q.history) c ∙ e.same_history;
        }

    fit : EndsSo fates d n state page logical r
    unfolding is_passed is_silent is_cut_off stop_answer
    fit =
        let long = eq-eqb (length page) 768 h in
        cases (ltb n (identify_total fates))
        (λ u.
        let o : run_of.outcome ≡ Cut = e.outcome_is ∙ rw u in
        ended (unpassed (ap is_passed o)) refl refl (ap stop_answer o ∙ rw (long, u)) (rw (long, u)) (rw (long, u)) (all-sent n (identify_total fates) (ltb-true n (identify_total fates) u) ∙ rw (long, u)))
        (λ u. cases (ltb (busy_reads fates) 256)
        (λ v.
        let o : run_of.outcome ≡ Passed = e.outcome_is ∙ rw (u, v) in
        ended (passed (ap is_passed o)) refl refl (rw (long, u, v)) (rw (long, u, v)) (rw (long, u, v)) (total-sent n (identify_total fates) (ltb-false n (identify_total fates) u) ∙ rw (long, u, v)))
        (λ v.
        let o : run_of.outcome ≡ Silent = e.outcome_is ∙ rw (u, v) in
        ended (unpassed (ap is_passed o)) refl refl (ap stop_answer o ∙ rw (long, u, v)) (rw (long, u, v)) (rw (long, u, v)) (total-sent n (identify_total fates) (ltb-false n (identify_total fates) u) ∙ rw (long, u, v))))

  -- the closed form
  pub identify_ends : EndsSo fates d n state page logical r
  identify_ends = cases (eqb (length page) 768) (λ u. fit (eqb-true (length page) 768 u)) unfit

  -- no more cycles than with a chip that is ready at the last status read
  total-most : identify_total fates ≤ 1031
  total-most =
      cases (ltb (busy_reads fates) 256)
      (λ v. rw v (omega (arith, ltb-true (busy_reads fates) 256 v)))
      (λ v. rw v (omega arith))

  pub identify_most : r.returned.sent ≤ 1031
  identify_most =
      subst (λ (k : ℕ). k ≤ 1031) (sym identify_ends.sent_is)
      (cases (eqb (length page) 768)
      (λ t. cases (ltb n (identify_total fates))
      (λ u. rw (t, u) (omega (arith, total-most, ltb-true n (identify_total fates) u)))
      (λ u. cases (ltb (busy_reads fates) 256) (λ v. rw (t, u, v) (rw v at total-most)) (λ v. rw (t, u, v) (rw v at total-most))))
      (λ f. rw f (omega arith)))
