-- Writes and erases of a chip that is in the middle of a command or busy, and where no number or no block is left. Assumes nothing.
use Prim.Native.Nat.{ℕ, zero, suc, ◌-◌, ◌≤◌, ◌<◌}
use mathlib.Core.Bool.{true, false, cond}
use mathlib.Core.List.{List, [], ◌∷◌, ◌++◌}
use mathlib.Core.Path.{◌≡◌, refl, sym, ap, ◌∙◌}
use native.Mathlib.Omega.{arith}
use borrow.Author.Tests.{eq-eqb, ne_eqb}
use lib.Dec.{eqb}
use lib.ListN.{length}
use Rattle.chip_interface.specs.declared.Interface.{Interface}
use Rattle.chip_interface.specs.Interface.{in_phase, status_code, erase_code}
use Rattle.chip_array.specs.Device.{Device, Setting, with_interface, illegal_cycle}
use Rattle.chip.specs.Chip.{Cycle, exec, less_busy}
use Rattle.chip.specs.Chip.Cycle.{command, status}
use Rattle.bus.specs.Line.{Line, uncut_line, cut_line}
use Rattle.bus.proofs.LegalLaws.{illegal_keeps}
use Rattle.bus_polling.specs.Outcomes.{is_passed, is_silent, is_cut_off, is_protected}
use Rattle.bus_polling.specs.declared.Outcome.{Outcome}
use Rattle.bus_polling.specs.declared.Outcome.TheVariants.{Passed, Cut, Illegal, Protected}
use Rattle.bus_sequences.specs.Cycles.{status_cycles}
use Rattle.operations.specs.Ends.{Lent, status_end}
use Rattle.operations.proofs.UnreadyLaws.{unready_register}
use Rattle.state.specs.State.{blank, next_number, number_end}
use Rattle.state.specs.declared.State.{State}
use Rattle.request.specs.Call.{result_with, sized_for, call_line, stop_answer, status_answer, status_state}
use Rattle.request.proofs.CallLaws.{sizes}
use Rattle.progress.specs.Progress.{Progress, progress}
use Rattle.progress.specs.Steps.{erase_on}
use Rattle.fill_tables.specs.Tables.{Tabled, tabled, end_of_run, after_status}
use Rattle.fill_tables.proofs.StatusLaws.{after_passed, after-stopped}
use Rattle.write_changes.specs.Changes.{Update, change_first, change_run, change_call, changing}
use Rattle.write_laws.specs.Unready.{Waiting, Completing, InCommand, busy_shown, completed_by, NothingChanged, StoppedChange, may_fill, ShownChange, UnreadyChange, BusyChange, CompletingChange}
use Rattle.write_laws.proofs.FirstLaws.{asked, asked-ready, asked_busy, read_ready, read_waiting, read_completing, completing_line, first_none, first_refused, first_one, first_two, ends_passed, ends_protected, ends_illegal}
use Rattle.write_laws.proofs.FirstFillLaws.{unready_left, unready_array, unready_history, spent_run, worn_run, refused_line, refused_sends, refused_starts, refused_run, refused_told, some_chosen}

-- from the chip handed in
module _ (s : Setting) (d : Device) (n : ℕ) (st : State) (u : Update) where
  -- after a status read that passed the fills follow, from where it ended
  pub change_after : is_passed (change_first s d n).outcome ≡ true → change_call s d n st u ≡ change_run s st u (change_first s d n)
  change_after t = after_passed st (change_first s d n) (change_run s st u (change_first s d n)) t

  module _ (p : Progress) (is : change_first s d n ≡ p) where
    goes : is_passed p.outcome ≡ true → change_call s d n st u ≡ change_run s st u p
    goes t =
        ap (λ (q : Progress). after_status st q (change_run s st u q)) is ∙ after_passed st p (change_run s st u p) t

    stays : is_passed p.outcome ≡ false → change_call s d n st u ≡ tabled p (status_answer p.outcome) (status_state p.outcome st)
    stays f =
        ap (λ (q : Progress). after_status st q (change_run s st u q)) is ∙ after-stopped st p (change_run s st u p) f

  -- it ends at p, with nothing changed
  module _ (p : Progress) (answer : ℕ) (state : State) (cycles : List Cycle) (run_is : change_call s d n st u ≡ tabled p answer state) (cycles_are : p.cycles ≡ cycles) (none_started : p.started ≡ [])
      (counts : n - p.line.left ≡ length cycles) (same_array : p.line.chip.array ≡ d.array) (same_register : p.line.chip.register ≡ d.register) (same_history : p.line.chip.history ≡ d.history) where
    pub nothing_changed : NothingChanged s d n st u answer state cycles (changing s d n st u)
    nothing_changed =
        record {
          answer_is = ap (λ (t : Tabled). t.answer) run_is;
          state_is = ap (λ (t : Tabled). t.state) run_is;
          cycles_are = ap (λ (t : Tabled). t.progress.cycles) run_is ∙ cycles_are;
          none_started = ap (λ (t : Tabled). t.progress.started) run_is ∙ none_started;
          sent_is = ap (λ (t : Tabled). n - t.progress.line.left) run_is ∙ counts;
          same_array = ap (λ (t : Tabled). t.progress.line.chip.array) run_is ∙ same_array;
          same_register = ap (λ (t : Tabled). t.progress.line.chip.register) run_is ∙ same_register;
          same_history = ap (λ (t : Tabled). t.progress.line.chip.history) run_is ∙ same_history;
        }

module _ (s : Setting) (d : Device) (st : State) (u : Update) where
  abbrev begun : Device
  begun = (call_line d 0).chip

  -- no cycle is allowed
  pub change_cut : (n : ℕ) → n ≡ 0 → StoppedChange s d n st u 11 [] (changing s d n st u)
  unfolding status_answer status_state stop_answer is_passed is_protected is_silent is_cut_off
  change_cut zero z =
      let p = progress (cut_line begun) Cut [] [] in
      nothing_changed s d 0 st u p 11 (blank 2) [] (stays s d 0 st u p (first_none s d) refl) refl refl refl refl refl refl
  change_cut (suc n) z = absurd (omega (arith, z))

  -- in the middle of a command
  module _ (in_command : InCommand d) where
    refused_so : (n : ℕ) → 1 ≤ n → StoppedChange s d n st u 255 (command status_code ∷ []) (changing s d n st u)
    unfolding status_answer status_state stop_answer is_passed is_protected is_silent is_cut_off
    refused_so zero h = absurd (omega (arith, h))
    refused_so (suc n) h =
        let p = progress (uncut_line (illegal_cycle begun) n) Illegal (command status_code ∷ []) [] in
        nothing_changed s d (suc n) st u p 255 (blank 2) (command status_code ∷ []) (stays s d (suc n) st u p (first_refused s d in_command n) refl) refl refl (omega arith) refl refl refl

    pub change_unready : (n : ℕ) → UnreadyChange s d n st u (changing s d n st u)
    change_unready n = record { cut_first = change_cut n; refused_first = refused_so n }

  -- a chip that takes 70h
  module _ (i : Interface) (legal : i.illegal ≡ 0) (taken : asked s d ≡ with_interface i d) where
    taken_legal : (asked s d).interface.illegal ≡ 0
    taken_legal = ap (λ (x : Device). x.interface.illegal) taken ∙ legal

    cut_one : (n : ℕ) → n ≡ 1 → StoppedChange s d n st u 11 (command status_code ∷ []) (changing s d n st u)
    unfolding status_answer status_state stop_answer is_passed is_protected is_silent is_cut_off
    cut_one n z =
        let p = progress (cut_line (with_interface i d)) Cut (command status_code ∷ []) [] in
        let is : change_first s d n ≡ p = ap (change_first s d) z ∙ first_one s d taken_legal ∙ ap (λ (x : Device). progress (cut_line x) Cut (command status_code ∷ []) []) taken in
        nothing_changed s d n st u p 11 (blank 2) (command status_code ∷ []) (stays s d n st u p is refl) refl refl (omega (arith, z)) refl refl refl

    -- and the status read, to the chip x
    module _ (n : ℕ) (enough : 2 ≤ n) (x : Device) (read : exec s (asked s d) status ≡ x) where
      come_to : (o : Outcome) → status_end (uncut_line x (n - 2)) ≡ o → change_first s d n ≡ progress (uncut_line x (n - 2)) o status_cycles []
      come_to o e =
          first_two s d taken_legal n enough x read ∙ ap (λ (y : Outcome). progress (uncut_line x (n - 2)) y status_cycles []) e

      protected_run : x.interface.illegal ≡ 0 → (x.interface.protected ≡ 0 → ⊥) → change_call s d n st u ≡ tabled (progress (uncut_line x (n - 2)) Protected status_cycles []) 13 st
      unfolding status_answer status_state is_passed is_protected
      protected_run e low =
          stays s d n st u (progress (uncut_line x (n - 2)) Protected status_cycles []) (come_to Protected (ends_protected x (n - 2) e low)) refl

      illegal_run : (x.interface.illegal ≡ 0 → ⊥) → change_call s d n st u ≡ tabled (progress (uncut_line x (n - 2)) Illegal status_cycles []) 255 (blank 2)
      unfolding status_answer status_state stop_answer is_passed is_protected is_silent is_cut_off
      illegal_run e =
          stays s d n st u (progress (uncut_line x (n - 2)) Illegal status_cycles []) (come_to Illegal (ends_illegal x (n - 2) e)) refl

      passed_run : x.interface.illegal ≡ 0 → x.interface.protected ≡ 0 → change_call s d n st u ≡ change_run s st u (progress (uncut_line x (n - 2)) Passed status_cycles [])
      unfolding is_passed
      passed_run e high =
          goes s d n st u (progress (uncut_line x (n - 2)) Passed status_cycles []) (come_to Passed (ends_passed x (n - 2) e high)) refl

      protected_result : x.interface.illegal ≡ 0 → (x.interface.protected ≡ 0 → ⊥) → changing s d n st u ≡ result_with 13 st x 2
      protected_result e low =
          let two : n - (n - 2) ≡ 2 = omega (arith, enough) in
          ap (end_of_run n) (protected_run e low) ∙ ap (result_with 13 st x) two

    -- a status read that changes the interface alone, with the line high
    module _ (n : ℕ) (enough : 2 ≤ n) (j : Interface) (legal-after : j.illegal ≡ 0) (high : j.protected ≡ 0) (read : exec s (asked s d) status ≡ with_interface j d) (last_below : st.last < s.geometry.blocks) where
      abbrev first : Progress
      first = progress (uncut_line (with_interface j d) (n - 2)) Passed status_cycles []

      after_read : change_call s d n st u ≡ change_run s st u first
      after_read = passed_run n enough (with_interface j d) read legal-after high

      shown_run : ShownChange s d n st u (changing s d n st u)
      shown_run =
          record {
            spent_first = λ h. nothing_changed s d n st u first 9 (blank 2) status_cycles (after_read ∙ spent_run s st u last_below first h) refl refl (omega (arith, enough)) refl refl refl;
            worn_first = λ fits none. nothing_changed s d n st u first 8 (blank 2) status_cycles (after_read ∙ worn_run s st u last_below first fits none) refl refl (omega (arith, enough)) refl refl refl;
          }

      -- on a chip that is not ready
      module _ (sized : sized_for s d ≡ true) (unready : 2 < j.phase) (fits : next_number st < number_end) (b : ℕ) (below : b < s.geometry.blocks) (may : may_fill s st b) where
        lent : Lent s first.line
        lent =
            let z = sizes s.geometry (length d.array) (length d.register) (length d.history) (length s.mask) sized in
            record {
              is_valid = z.chip_fits.is_valid;
              array_long = z.chip_fits.array_long;
              register_long = z.chip_fits.register_long;
              history_long = z.chip_fits.history_long;
              mask_long = z.mask_long;
              legal = legal-after;
              uncut = refl;
            }

        passed : is_passed first.outcome ≡ true
        unfolding is_passed
        passed = refl

        third_so : (answer : ℕ) (cycles : List Cycle) → cond (eqb (n - 2) 0) 11 255 ≡ answer → status_cycles ++ cond (eqb (n - 2) 0) [] (command erase_code ∷ []) ≡ cycles → n - (n - 2 - 1) ≡ length cycles
            → StoppedChange s d n st u answer cycles (changing s d n st u)
        third_so answer cycles told traced counted =
            some_chosen s st u last_below first b below may
            (λ c e.
            let x = erase_on s c first in
            let line_is = refused_line s st u last_below first fits passed lent unready c e in
            nothing_changed s d n st u x answer (blank 2) cycles
            (after_read ∙ refused_run s st u last_below first fits passed lent unready c e ∙ ap (λ (a : ℕ). tabled x a (blank 2)) (refused_told s st u last_below first fits passed lent unready c e ∙ told))
            (refused_sends s st u last_below first fits passed lent unready c e ∙ traced)
            (refused_starts s st u last_below first fits passed lent unready c e)
            (ap (λ (l : Line). n - l.left) line_is ∙ ap (λ (k : ℕ). n - k) (unready_left first.line) ∙ counted)
            (ap (λ (l : Line). l.chip.array) line_is ∙ unready_array first.line)
            (ap (λ (l : Line). l.chip.register) line_is ∙ unready_register first.line)
            (ap (λ (l : Line). l.chip.history) line_is ∙ unready_history first.line))

        cut_third : n ≡ 2 → StoppedChange s d n st u 11 status_cycles (changing s d n st u)
        cut_third z =
            let none : n - 2 ≡ 0 = omega (arith, z) in
            third_so 11 status_cycles (rw (eq-eqb (n - 2) 0 none)) (rw (eq-eqb (n - 2) 0 none)) (omega (arith, z))

        refused_third : 3 ≤ n → StoppedChange s d n st u 255 (status_cycles ++ (command erase_code ∷ [])) (changing s d n st u)
        refused_third h =
            let some : n - 2 ≡ 0 → ⊥ = λ z. omega (arith, z, h) in
            third_so 255 (status_cycles ++ (command erase_code ∷ [])) (rw (ne_eqb (n - 2) 0 some)) (rw (ne_eqb (n - 2) 0 some)) (omega (arith, h))

  -- a ready chip
  module _ (ready : d.interface.phase ≤ 2) where
    abbrev shown : Device
    shown = with_interface (in_phase 1 begun.interface) begun

    pub ready_cut : (n : ℕ) → n ≡ 1 → StoppedChange s d n st u 11 (command status_code ∷ []) (changing s d n st u)
    ready_cut = cut_one shown.interface refl (asked-ready s d ready)

    pub ready_protected : (n : ℕ) → 2 ≤ n → (d.interface.protected ≡ 0 → ⊥) → changing s d n st u ≡ result_with 13 st shown 2
    ready_protected n h low = protected_result shown.interface refl (asked-ready s d ready) n h shown (read_ready s d ready) refl low

    pub ready_shown : (n : ℕ) → 2 ≤ n → d.interface.protected ≡ 0 → st.last < s.geometry.blocks → ShownChange s d n st u (changing s d n st u)
    ready_shown n h high = shown_run shown.interface refl (asked-ready s d ready) n h shown.interface refl high (read_ready s d ready)

  -- a busy chip, with busy reads left
  module _ (waiting : Waiting d) where
    abbrev less : Interface
    less = less_busy (busy_shown d).interface

    pub change_busy : sized_for s d ≡ true → st.last < s.geometry.blocks → (n : ℕ) → BusyChange s d n st u (changing s d n st u)
    change_busy sized last_below n =
        let taken = asked_busy s d waiting.0 in
        let read = read_waiting s d waiting in
        record {
          cut_first = change_cut n;
          cut_second = cut_one (busy_shown d).interface refl taken n;
          protected_so = λ h low.
              nothing_changed s d n st u (progress (uncut_line (with_interface less d) (n - 2)) Protected status_cycles []) 13 st status_cycles (protected_run (busy_shown d).interface refl taken n h (with_interface less d) read refl low) refl refl (omega (arith, h)) refl refl refl;
          shown_so = λ h high. shown_run (busy_shown d).interface refl taken n h less refl high read last_below;
          cut_third = λ z high fits b below may. cut_third (busy_shown d).interface refl taken n (omega (arith, z)) less refl high read last_below sized (omega arith) fits b below may z;
          refused_third = λ h high fits b below may. refused_third (busy_shown d).interface refl taken n (omega (arith, h)) less refl high read last_below sized (omega arith) fits b below may h;
        }

  -- a busy chip with none left
  module _ (last : Completing d) where
    pub change_completing : (n : ℕ) → CompletingChange s d n st u (changing s d n st u)
    change_completing n =
        let taken = asked_busy s d last.0 in
        let read = read_completing s d last in
        let word = completing_line s d last in
        let same : ((completed_by s d).interface.illegal ≡ 0 → ⊥) → completed_by s d ≡ illegal_cycle (busy_shown d) = λ e. sym read ∙ illegal_keeps s (asked s d) status (ap (λ (x : Device). x.interface.illegal) taken) (λ z. e (ap (λ (x : Device). x.interface.illegal) (sym read) ∙ z)) ∙ ap illegal_cycle taken in
        record {
          cut_first = change_cut n;
          cut_second = cut_one (busy_shown d).interface refl taken n;
          line_is = λ h. ap (λ (p : Progress). p.line) (come_to (busy_shown d).interface refl taken n h (completed_by s d) read _ refl);
          refused_second = λ h e.
              nothing_changed s d n st u (progress (uncut_line (completed_by s d) (n - 2)) Illegal status_cycles []) 255 (blank 2) status_cycles (illegal_run (busy_shown d).interface refl taken n h (completed_by s d) read e) refl refl (omega (arith, h))
              (ap (λ (x : Device). x.array) (same e)) (ap (λ (x : Device). x.register) (same e)) (ap (λ (x : Device). x.history) (same e));
          protected_so = λ h e low. protected_result (busy_shown d).interface refl taken n h (completed_by s d) read e (λ z. low (sym word ∙ z));
          goes_on = λ h e high. passed_run (busy_shown d).interface refl taken n h (completed_by s d) read e (word ∙ high);
        }
