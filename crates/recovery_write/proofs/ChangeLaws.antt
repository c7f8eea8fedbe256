-- How every write and erase that is not refused ends. Assumes nothing.
use Prim.Native.Nat.{ℕ, ◌≤◌, ◌<◌}
use mathlib.Core.Bool.{Bool, true, false, cond, false≢true}
use mathlib.Core.List.{List, []}
use mathlib.Core.Path.{◌≡◌, refl, sym, ap, subst, ◌∙◌}
use native.Mathlib.Omega.{arith}
use borrow.Table.Steps.{cases}
use borrow.Author.Tests.{eqb-true, eqb-false, ltb-true}
use lib.Dec.{eqb, ltb}
use Rattle.cells.specs.Bytes.{Bytes}
use Rattle.chip_array.specs.Device.{Device, Setting}
use Rattle.chip.specs.Chip.{Cycle}
use Rattle.bus.specs.Line.{Line}
use Rattle.bus_polling.specs.Outcomes.{is_passed, is_protected, is_silent, is_cut_off, answered}
use Rattle.bus_polling.proofs.OutcomeLaws.{is_passed_lem, passed_answered}
use Rattle.bus_polling.specs.declared.Outcome.{Outcome}
use Rattle.bus_polling.specs.declared.Outcome.TheVariants.{Passed, Cut, Protected}
use Rattle.operations.specs.Ends.{Called}
use Rattle.operations.specs.Trace.{ArrayOperation}
use Rattle.copies.specs.Current.{reading}
use Rattle.progress.specs.Progress.{Progress, progress, status_on}
use Rattle.progress.proofs.StatusLaws.{StatusLeft, status_leaves, status_started, shown_high}
use Rattle.state.specs.State.{blank}
use Rattle.state.specs.declared.State.{State}
use Rattle.request.specs.Call.{call_line, stop_answer, status_answer, status_state}
use Rattle.fill_tables.specs.Tables.{Tabled, tabled, after_status}
use Rattle.fill_tables.proofs.StatusLaws.{after_passed, after-stopped}
use Rattle.write_changes.specs.Changes.{Update, Copied, then_table, change_run, change_call}
use Rattle.write_laws.specs.Changing.{ChangeAnswer, is_cut, is_protected_fact}
use Rattle.damage.specs.Run.{failed_in}
use Rattle.recovery.specs.Book.{Book, Same, Change, entered}
use Rattle.recovery.specs.Calls.{failed_after}
use Rattle.recovery.specs.Copy.{has_copy}
use Rattle.recovery.specs.Recovery.{Spared}
use Rattle.recovery.proofs.CopyLaws.{has_none}
use Rattle.recovery_write.specs.Changed.{Agrees, MarkedBy, Proper, update_of, Changed}
use Rattle.recovery_write.proofs.DataLaws as phase
use Rattle.recovery_write.proofs.TableLaws.{halted_changed, tables_change, data_change}

module _ (s : Setting) (mask_bytes : Bytes s.mask) (first : Line) (called : Called s first) (st : State) (c : Change) (book : Book) (marked failed : ℕ → Bool)
    (marks : MarkedBy s.geometry first.chip.array marked) (agrees : Agrees s.geometry first.chip.array st book failed) (proper : Proper s.geometry c) where
  -- after the data fills a table fill follows if any block failed
  then_ends : (d : Copied) → phase.Ends s mask_bytes first called st c book marked failed marks agrees proper d → Changed s c book marked failed (then_table s d)
  unfolding then_table
  then_ends d e =
      cases (eqb d.answer 0)
      (λ z.
      let done = e.done (eqb-true d.answer 0 z) in
      cases d.failed
      (λ y. rw (z, y) (tables_change s mask_bytes first called st c book marked failed marks agrees proper d.state d.failed d.progress done))
      (λ y. rw (z, y) (data_change s mask_bytes first called st c book marked failed marks agrees proper d.state d.failed d.progress done y)))
      (λ z.
      let not_zero = eqb-false d.answer 0 z in
      rw (z, e.stopped not_zero) (halted_changed s c book marked failed d.answer d.progress (omega (arith, not_zero)) (e.halted not_zero)))

  run_ends : (cs : List Cycle) → first.chip.interface.protected ≡ 0 → Changed s c book marked failed (change_run s st (update_of st c) (progress first Passed cs []))
  run_ends cs high = then_ends _ (phase.data_ends s mask_bytes first called st c book marked failed marks agrees proper cs high)

-- from a line on, with these cycles sent: the status read, then that
module _ (s : Setting) (first : Line) (before : List Cycle) (st : State) (c : Change) (book : Book) (marked failed : ℕ → Bool) (mask_bytes : Bytes s.mask) (called : Called s first)
    (marks : MarkedBy s.geometry first.chip.array marked) (agrees : Agrees s.geometry first.chip.array st book failed) (proper : Proper s.geometry c) where
  abbrev u : Update
  u = update_of st c

  abbrev p : Progress
  p = status_on s (progress first Passed before [])

  abbrev whole : Tabled
  whole = after_status st p (change_run s st u p)

  left : StatusLeft s (progress first Passed before []) p
  unfolding is_passed
  left = status_leaves s (progress first Passed before []) refl called

  none_started : p.started ≡ []
  unfolding is_passed
  none_started = status_started s (progress first Passed before []) refl called

  here : Agrees s.geometry p.line.chip.array st book failed
  here = subst (λ (a : List ℕ). Agrees s.geometry a st book failed) (sym left.same_array) agrees

  marks_here : MarkedBy s.geometry p.line.chip.array marked
  marks_here = subst (λ (a : List ℕ). MarkedBy s.geometry a marked) (sym left.same_array) marks

  goes : is_passed p.outcome ≡ true → Changed s c book marked failed whole
  unfolding is_passed
  goes t =
      let next = left.next_called (passed_answered p.outcome t) in
      let same : progress p.line Passed p.cycles [] ≡ p = λ i. progress p.line (sym (is_passed_lem p.outcome t) i) p.cycles (sym none_started i) in
      subst (Changed s c book marked failed) (ap (change_run s st u) same ∙ sym (after_passed st p (change_run s st u p) t))
      (run_ends s mask_bytes p.line next st c book marked failed marks_here here proper p.cycles (shown_high s (progress first Passed before []) refl t))

  -- nothing was programmed: as many copies as before
  as_before : Same s.geometry (reading s.geometry p.line.chip.array st.table) (cond (has_copy s.geometry p.line.chip.array p.started) (entered s.geometry c book) book)
  as_before =
      subst (λ (os : List ArrayOperation). Same s.geometry (reading s.geometry p.line.chip.array st.table) (cond (has_copy s.geometry p.line.chip.array os) (entered s.geometry c book) book))
      (sym none_started)
      (rw (has_none s.geometry p.line.chip.array (omega (arith, called.is_valid.pages_least))) here.reads)

  none_failed : Agrees s.geometry p.line.chip.array st book (failed_after failed p.started)
  unfolding failed_in
  none_failed =
      record {
        stored = here.stored;
        knows = here.knows;
        reads = here.reads;
        failed_listed = λ b h e.
            here.failed_listed b h
            (cases (failed b) (λ y. y) (λ f. absurd (false≢true (sym (ap (λ (os : List ArrayOperation). failed_after failed os b) none_started ∙ rw f) ∙ e))));
      }

  stays : (answer : ℕ) (state : State) → 0 < answer → ChangeAnswer answer → (answer ≡ 10 → ⊥) → (answer ≡ 11 → p.line.left ≡ 0) → (answer ≡ 13 → state ≡ st) → ((answer ≡ 13 → ⊥) → state ≡ blank 2)
      → (answer ≡ 13 → p.line.chip.interface.phase ≤ 2) → Changed s c book marked failed (tabled p answer state)
  unfolding Spared
  stays answer state some told heard cut protected stops ready =
      record {
        answers = told;
        legal = left.legal;
        stored = here.stored;
        done = λ z. absurd (omega (arith, z, some));
        ready = λ z. absurd (omega (arith, z, some));
        stopped = λ z x. stops x;
        kept = λ z. subst (λ (x : State). Agrees s.geometry p.line.chip.array x book (failed_after failed p.started)) (sym (protected z)) none_failed;
        kept_ready = ready;
        table = st.table;
        table_is = here.knows.table_is;
        reads = λ z. as_before;
        marks = marks_here;
        spared = subst (Spared s.geometry marked failed) (sym none_started) tt;
        silent_by = λ z. absurd (heard z);
        used_up = cut;
      }

  -- where the status read ended as o
  abbrev StopsWith : Outcome → Type 0
  StopsWith o = Changed s c book marked failed (tabled p (status_answer o) (status_state o st))

  stops : is_passed p.outcome ≡ false → Changed s c book marked failed whole
  unfolding status_answer status_state stop_answer is_passed is_protected is_silent is_cut_off answered
  stops f =
      subst (Changed s c book marked failed) (sym (after-stopped st p (change_run s st u p) f))
      (cases (ltb first.left 2)
      (λ t.
      let o : p.outcome ≡ Cut = left.outcome_is ∙ rw t in
      subst StopsWith (sym o) (stays 11 (blank 2) (omega arith) is_cut (λ z. omega (arith, z)) (λ z. omega (arith, left.left_is, ltb-true first.left 2 t)) (λ z. absurd (omega (arith, z))) (λ x. refl) (λ z. absurd (omega (arith, z)))))
      (λ t.
      let low : eqb first.chip.interface.protected 0 ≡ false = cases (eqb first.chip.interface.protected 0) (λ y. absurd (let o = sym f ∙ ap is_passed left.outcome_is in false≢true (rw (t, y) at o))) (λ y. y) in
      let o : p.outcome ≡ Protected = left.outcome_is ∙ rw (t, low) in
      subst StopsWith (sym o) (stays 13 st (omega arith) is_protected_fact (λ z. omega (arith, z)) (λ z. absurd (omega (arith, z))) (λ z. refl) (λ x. absurd (x refl)) (λ z. (left.next_called (ap answered o)).ready))))

  pub change_from_fact : Changed s c book marked failed whole
  change_from_fact = cases (is_passed p.outcome) goes stops

-- from the chip handed in
pub change_ends : (s : Setting) (d : Device) (n : ℕ) (st : State) (c : Change) (book : Book) (marked failed : ℕ → Bool) → Bytes s.mask → Called s (call_line d n) → MarkedBy s.geometry d.array marked
    → Agrees s.geometry d.array st book failed → Proper s.geometry c → Changed s c book marked failed (change_call s d n st (update_of st c))
change_ends s d n st c book marked failed mask_bytes called marks agrees proper = change_from_fact s (call_line d n) [] st c book marked failed mask_bytes called marks agrees proper
