-- A formatting of a chip whose write-protect line is low: what it answers, and that it starts nothing but reads. Assumes nothing.
use Prim.Native.Nat.{ℕ, ◌-◌, ◌≤◌}
use mathlib.Core.Bool.{true, false}
use mathlib.Core.List.{List, []}
use mathlib.Core.Logic.{◌⊎◌, inl, inr, ⊎_elim}
use mathlib.Core.Path.{◌≡◌, refl, sym, ap, subst, ◌∙◌}
use borrow.Table.Steps.{cases}
use borrow.Author.Tests.{ne_eqb, le-ltb, ltb-false}
use lib.Dec.{ltb}
use Rattle.chip_interface.specs.Interface.{in_phase}
use Rattle.chip_array.specs.Device.{Device, Setting, with_interface}
use Rattle.bus.specs.Line.{Line, send_all, uncut_line}
use Rattle.bus_polling.specs.Outcomes.{is_passed, is_protected, is_silent, is_cut_off}
use Rattle.bus_polling.specs.declared.Outcome.TheVariants.{Passed}
use Rattle.bus_polling.proofs.OutcomeLaws.{passed_answered}
use Rattle.bus_sequences.specs.Cycles.{status_cycles}
use Rattle.operations.specs.Ends.{Called}
use Rattle.operations.specs.Trace.{ArrayOperation}
use Rattle.operations.proofs.CallLaws.{uncut_is}
use Rattle.state.specs.State.{blank}
use Rattle.state.specs.declared.State.{State}
use Rattle.request.specs.Call.{Result, result_with, sized_for, call_line, result_of, stop_answer, status_answer, status_state}
use Rattle.request.proofs.CallLaws.{stop_answer_lem}
use Rattle.progress.specs.Progress.{Progress, progress, line_of, reset_on, status_on}
use Rattle.progress.proofs.StatusLaws.{status_line}
use Rattle.scan.proofs.KeepLaws.{blocks_reads}
use Rattle.scan_summary.specs.declared.Depth.TheVariants.{Full}
use Rattle.fill_tables.specs.Tables.{Tabled, tabled, end_of_run}
use Rattle.format.specs.Format.{format_run, format_request, formatting}
use Rattle.damage.specs.Touched.{Each}
use Rattle.damage.proofs.TouchLaws.{Reads, read_reads}
use Rattle.format_laws.specs.Formatting.{reads_done, status_done}
use Rattle.format_laws.proofs.FormatLaws.{unread_is, status_same, status_is, reads-left, reads_line, same_array, same_history, status_cut, status_low}

-- what a formatting leaves then, os the operations that it started: it is silent, cut or protected, array and history are as they were,
-- and it started nothing but reads
pub record Untouched (d : Device) (r : Result) (os : List ArrayOperation) : Type 0 where
  pub answers : (r.answer ≡ 10) ⊎ ((r.answer ≡ 11) ⊎ (r.answer ≡ 13))
  pub same_array : r.chip.array ≡ d.array
  pub same_history : r.chip.history ≡ d.history
  pub all_reads : Each (λ o. o.kind ≡ 1) os

-- the sizes go together, and the line is low
module _ (s : Setting) (d : Device) (n : ℕ) (state : State) (t : sized_for s d ≡ true) (low : d.interface.protected ≡ 0 → ⊥) where
  abbrev q : Progress
  q = reads_done s d n

  line_low : line_of q ≡ 0 → ⊥
  line_low e = low (sym (reads_line s d n t) ∙ e)

  run_is : formatting s d n state ≡ end_of_run n (format_run s d n state)
  unfolding result_of format_request
  run_is = rw t

  -- the page reads passed, and two cycles are left
  module _ (y : is_passed q.outcome ≡ true) (h : 2 ≤ q.line.left) where
    called : Called s q.line
    called = (reads-left s d n t).sound.called (passed_answered q.outcome y)

    abbrev shown : Device
    shown = with_interface (in_phase 1 q.line.chip.interface) q.line.chip

    shown_is : (status_done s d n).line ≡ uncut_line shown (q.line.left - 2)
    unfolding status_on
    shown_is =
        rw y
        (ap (λ (l : Line). send_all s l status_cycles) (uncut_is q.line called.uncut)
        ∙ status_line s q.line.chip called.ready called.legal q.line.left h)

    protected_run : format_run s d n state ≡ tabled (status_done s d n) 13 state
    unfolding is_passed is_protected status_answer status_state
    protected_run =
        let o = status_low s d n t y (le-ltb q.line.left 2 h) (ne_eqb (line_of q) 0 line_low) in
        status_is s d n state y (ap is_passed o) ∙ λ i. tabled (status_done s d n) (status_answer (o i)) (status_state (o i) state)

    pub format_protected : formatting s d n state ≡ result_with 13 state shown (n - (q.line.left - 2))
    format_protected =
        run_is ∙ ap (end_of_run n) protected_run ∙ ap (λ (l : Line). result_with 13 state l.chip (n - l.left)) shown_is

  abbrev Ends : Tabled → Type 0
  Ends x = Untouched d (end_of_run n x) x.progress.started

  begun_reads : Reads (reset_on s (progress (call_line d n) Passed [] []))
  unfolding reset_on is_passed Each
  begun_reads = tt

  status_reads_fact : Reads (status_done s d n)
  unfolding status_on
  status_reads_fact =
      let reads = blocks_reads Full s Reads (read_reads s) s.geometry.blocks (reset_on s (progress (call_line d n) Passed [] [])) begun_reads in
      cases (is_passed q.outcome) (λ y. rw y reads) (λ f. rw f reads)

  ends_so : (a : ℕ) (st : State) → (a ≡ 10) ⊎ ((a ≡ 11) ⊎ (a ≡ 13)) → Ends (tabled (status_done s d n) a st)
  ends_so a st is =
      record { answers = is; same_array = same_array s d n t; same_history = same_history s d n t; all_reads = status_reads_fact }

  unpassed : is_passed q.outcome ≡ false → Ends (format_run s d n state)
  unpassed f =
      subst Ends {x = tabled (status_done s d n) (stop_answer q.outcome) (blank 2)}
      (ap (λ (x : Progress). tabled x (stop_answer q.outcome) (blank 2)) (status_same s d n f) ∙ sym (unread_is s d n state f))
      (ends_so _ (blank 2) (⊎_elim (λ e. inl e) (λ e. inr (inl e)) (stop_answer_lem q.outcome (reads-left s d n t).ends f)))

  cut : is_passed q.outcome ≡ true → ltb q.line.left 2 ≡ true → Ends (format_run s d n state)
  unfolding is_passed is_protected is_silent is_cut_off status_answer stop_answer
  cut y c =
      let o = status_cut s d n t y c in
      subst Ends (sym (status_is s d n state y (ap is_passed o))) (ends_so _ _ (inr (inl (ap status_answer o))))

  run_low : Ends (format_run s d n state)
  run_low =
      cases (is_passed q.outcome)
      (λ y.
      cases (ltb q.line.left 2)
      (cut y)
      (λ c. subst Ends (sym (protected_run y (ltb-false q.line.left 2 c))) (ends_so 13 state (inr (inr refl)))))
      unpassed

  pub format_low : Untouched d (formatting s d n state) (format_run s d n state).progress.started
  format_low = subst (λ (r : Result). Untouched d r (format_run s d n state).progress.started) (sym run_is) run_low
