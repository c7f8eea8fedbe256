-- A write opened after a list: it is noted and stands open, and nothing else changes. Assumes nothing but the laws named.
use Prim.Native.Nat.{ℕ, ◌+◌, ◌-◌, ◌<◌}
use mathlib.Core.Bool.{true, false, false≢true}
use mathlib.Core.List.{List, [], append-nil}
use mathlib.Core.Logic.{◌⊎◌, inl, inr, ⊎_elim}
use mathlib.Core.Option.{some}
use mathlib.Core.Path.{◌≡◌, refl, sym, ap, subst, ◌∙◌}
use native.Mathlib.Omega.{arith}
use borrow.Table.Steps.{cases}
use borrow.Author.Tests.{eq-eqb, ne_eqb, eqb-true, eqb-false, lt-ltb, ltb-true}
use lib.Dec.{eqb, ltb}
use lib.ListN.{length, replicate, take, length-append, length-replicate}
use lib.Seq.{take-append-add}
use Rattle.geometry.specs.declared.Geometry.{Geometry}
use Rattle.geometry.specs.Limits.{Valid}
use Rattle.bools.proofs.BoolLaws.{clash}
use Rattle.cells.specs.Bytes.{Bytes}
use Rattle.chip_array.specs.Device.{Device, Setting, lengths_fit}
use Rattle.bus_polling.specs.Outcomes.{is_passed, is_protected, is_silent, is_cut_off, answered}
use Rattle.bus_polling.specs.declared.Outcome.{Outcome}
use Rattle.bus_polling.specs.declared.Outcome.TheVariants.{Passed, Cut, Protected}
use Rattle.bus_polling.proofs.OutcomeLaws.{passed_answered}
use Rattle.operations.specs.Ends.{Called}
use Rattle.operations.specs.Trace.{ArrayOperation}
use Rattle.operations.proofs.CallLaws.{fitting_holds}
use Rattle.copies.specs.Current.{current_table, reading}
use Rattle.state.specs.State.{blank}
use Rattle.progress.specs.Progress.{Progress, progress}
use Rattle.progress.proofs.StatusLaws.{StatusLeft, status_leaves, status_started, status_counts, status_keeps}
use Rattle.request.specs.Call.{Performed, sized_for, call_line, status_answer, status_state, stop_answer, performed, result_of, sent_in, started_in}
use Rattle.request.proofs.CallLaws.{sizes, stop_least}
use Rattle.request_refusals.specs.Refusals.{refusal_of}
use Rattle.write_changes.specs.Changes.{change_first}
use Rattle.damage.specs.Replay.{Replayed}
use Rattle.damage.proofs.ReplayLaws.{leads_first, leads_status, replayed}
use Rattle.open_write.specs.Open.{kept_bytes, is_opened, closed, opened_with, words_fit, open_fits, mounted_open}
use Rattle.open_write.specs.Requests.{OpenResult, open_result, stops, open_refusal, unless, open_end, open_request}
use Rattle.recovery_stored.specs.Stored.{Stored}
use Rattle.recovery_write.specs.Changed.{MarkedBy, Proper, update_of}
use Rattle.recovery_write.proofs.StandsLaws.{stands_first, stands_mounted, stands_words}
use Rattle.recovery.specs.Book.{Book, Same, Change, write, note, Account, account, opened, is_under_way, is_begun, settled, fed}
use Rattle.recovery.proofs.CopyLaws.{has_none}
use Rattle.recovery.specs.Recovery.{Spared}
use Rattle.recovery.specs.Calls.{Lent, to_open, Store, store, state_of, setting_of, run_of, answer_of, trace_of, copy_of_note, failed_after, failed_next, step, chip_of}
use Rattle.recovery_proof.specs.Answers as answers
use Rattle.recovery_proof.specs.Answers.{ChangeAnswered}
use Rattle.recovery_proof.specs.Sent.{Sends, CallSends}
use Rattle.recovery_proof.specs.Invariant.{due_of, Up, Open, Inv}
use Rattle.recovery_proof.proofs.InvariantLaws.{due_quiet, found_by, found_inv, stopped_unmounted, is_up, failed_none}
use Rattle.recovery_proof.proofs.OpenLaws.{Admitted, admits, kept_inv}
use Rattle.recovery_proof.proofs.ReadSteps.{refusal-small}
use Rattle.recovery_proof.proofs.ChangeSteps.{Turned, turned_so, shut_so, small-refused, refusal-told, write_proper}

-- a store that a write is open on counts as mounted
pub open_mounted : (g : Geometry) (y : Store) → length y.page ≡ kept_bytes → Open g y → mounted_open g (state_of y) ≡ true
unfolding open_fits words_fit update_of
open_mounted g y k o =
    let c = write o.logical o.first o.bytes in
    let m = stands_mounted g o.array₀ o.long₀ o.st₀ c y.account.book y.marked o.failed₀ o.marks₀ o.agrees o.proper o.stands in
    let w = stands_words g o.array₀ o.long₀ o.st₀ c y.account.book y.marked o.failed₀ o.marks₀ o.agrees o.proper o.stands in
    rw (
      m,
      eq-eqb (length y.page) kept_bytes k,
      ne_eqb y.write.opened 0 (λ z. omega (arith, z, o.opened_is)),
      lt-ltb y.write.logical g.logical w.logical_below,
      lt-ltb y.write.first g.pages (omega (arith, w.first_is, o.proper.1)),
      lt-ltb y.write.block g.blocks w.block_below,
    )
    (lt-ltb y.write.page g.pages w.page_below)

-- where the note has no operation yet, the book as it is
due_begun : (g : Geometry) → 0 < g.pages → (array : List ℕ) (c : Change) (book : Book) → due_of g array (account book (some (note c []))) ≡ book
unfolding settled copy_of_note
due_begun g h array c book = rw (has_none g array h)

-- what is fed
fed-begun : (g : Geometry) (c : Change) (answer : ℕ) (y : Account) → is_begun answer ≡ true → fed g (opened c answer) y ≡ account y.book (some (note c []))
unfolding fed
fed-begun g c answer y t = rw t

fed_idle : (g : Geometry) (c : Change) (answer : ℕ) (y : Account) → is_begun answer ≡ false → fed g (opened c answer) y ≡ y
unfolding fed
fed_idle g c answer y t = rw t

idle_so : (k : ℕ) → (k ≡ 0 → ⊥) → is_under_way k ≡ false → is_begun k ≡ false
idle_so k x f = rw (ne_eqb k 0 x, f)

module _ (g : Geometry) (y : Store) (i : Inv g y) (a : Lent) (mask_bytes : Bytes a.mask) (logical page : ℕ) (bytes : List ℕ) (are_bytes : Bytes bytes) where
  abbrev s : Setting
  s = setting_of g a

  abbrev d : Device
  d = chip_of a y.chip

  abbrev c : Change
  c = write logical page bytes

  abbrev refused_by : ℕ
  refused_by = open_refusal g (sized_for s d) (state_of y) (is_opened (state_of y))

  abbrev address_by : ℕ
  address_by = refusal_of s d y.state logical page bytes

  -- the status read
  abbrev first : Progress
  first = progress (call_line d a.allowed) Passed [] []

  abbrev p : Progress
  p = change_first s d a.allowed

  abbrev ended : OpenResult
  ended = open_end a.allowed (state_of y) logical page bytes p

  -- the store after it
  abbrev after_status : Store
  after_status =
      store ended.state ended.chip (fed g (opened c ended.answer) y.account) y.marked (failed_after y.failed p.started)

  abbrev request : Performed OpenResult
  request = unless refused_by (state_of y) d (unless address_by (state_of y) d (performed ended p))

  abbrev given : OpenResult
  given = result_of request

  abbrev trace : List ArrayOperation
  trace = started_in request

  abbrev after_call : Store
  after_call = store given.state given.chip (fed g (opened c given.answer) y.account) y.marked (failed_after y.failed trace)

  module _ (f : eqb refused_by 0 ≡ false) where
    turned : Turned refused_by
    turned = turned_so g y (sized_for s d) (is_opened (state_of y)) (eqb-false refused_by 0 f)

    barred : after_call ≡ found_by a y
    unfolding result_of started_in
    barred =
        rw f
        (λ j. store (state_of y) d (fed_idle g c refused_by y.account (idle_so refused_by turned.some turned.idle) j) y.marked (failed_none y.failed j))

  module _ (o : eqb refused_by 0 ≡ true) where
    adm : Admitted g (sized_for s d) (state_of y) (is_opened (state_of y))
    adm = admits g (sized_for s d) (state_of y) (is_opened (state_of y)) (eqb-true refused_by 0 o)

    up : Up g y
    up = is_up g y i adm.is_mounted (shut_so y adm.unbarred)

    small : address_by < 8
    small = refusal-small g (sized_for s d) y.state logical page (length bytes)

    refused : eqb address_by 0 ≡ false → after_call ≡ found_by a y
    unfolding result_of started_in
    refused f =
        rw (o, f)
        (λ j. store (state_of y) d (fed_idle g c address_by y.account (idle_so address_by (eqb-false address_by 0 f) (small-refused address_by small)) j) y.marked (failed_none y.failed j))

    module _ (t : eqb address_by 0 ≡ true) where
      goes : after_call ≡ after_status
      unfolding result_of started_in
      goes = rw (o, t) refl

      proper : Proper g c
      proper = write_proper g y i a mask_bytes logical page bytes are_bytes (eqb-true address_by 0 t)

      called : Called s (call_line d a.allowed)
      called =
          let z = sizes g (length d.array) (length d.register) (length d.history) (length a.mask) adm.sizes_fit in
          record {
            is_valid = z.chip_fits.is_valid;
            array_long = z.chip_fits.array_long;
            register_long = z.chip_fits.register_long;
            history_long = z.chip_fits.history_long;
            mask_long = z.mask_long;
            ready = up.ready;
            legal = refl;
            uncut = refl;
          }

      v : Valid g
      v = called.is_valid

      left : StatusLeft s first p
      unfolding is_passed
      left = status_leaves s first refl called

      none_started : p.started ≡ []
      unfolding is_passed
      none_started = status_started s first refl called

      still_fits : lengths_fit g p.line.chip ≡ true
      still_fits =
          fitting_holds g _ _ _ v (ap length left.same_array ∙ called.array_long) (ap length left.same_register ∙ called.register_long) (ap length left.same_history ∙ called.history_long)

      failed_is : failed_after y.failed p.started ≡ failed_after y.failed []
      failed_is = ap (failed_after y.failed) none_started

      reads_begun : Same g (reading g p.line.chip.array i.table) (due_of g p.line.chip.array (account y.account.book (some (note c []))))
      reads_begun l q h k =
          ap (λ (x : List ℕ). reading g x i.table l q) left.same_array ∙ i.reads l q h k
          ∙ ap (λ (b : Book). b l q) (due_quiet g y.chip.array y.account up.quiet)
          ∙ sym (ap (λ (b : Book). b l q) (due_begun g (omega (arith, v.pages_least)) p.line.chip.array c y.account.book))

      -- noted, whatever the state is then
      noted_inv : (z : Store) → z.chip ≡ p.line.chip → z.account ≡ account y.account.book (some (note c [])) → z.marked ≡ y.marked → length z.page ≡ kept_bytes → Up g z ⊎ (Open g z ⊎ (mounted_open g (state_of z) ≡ false)) → Inv g z
      noted_inv z chip_is account_is marked_is kept is =
          let array_is : z.chip.array ≡ y.chip.array = ap (λ (x : Device). x.array) chip_is ∙ left.same_array in
          record {
            fits = subst (λ (x : Device). lengths_fit g x ≡ true) (sym chip_is) still_fits;
            kept = kept;
            marks = subst (λ (x : List ℕ). MarkedBy g x z.marked) (sym array_is) (subst (MarkedBy g y.chip.array) (sym marked_is) i.marks);
            stored = subst (Stored g) (sym array_is) i.stored;
            table = i.table;
            table_is = ap (current_table g) array_is ∙ i.table_is;
            reads = subst (λ (x : Device). Same g (reading g x.array i.table) (due_of g x.array z.account)) (sym chip_is)
                (subst (λ (x : Account). Same g (reading g p.line.chip.array i.table) (due_of g p.line.chip.array x)) (sym account_is) reads_begun);
            is = is;
          }

      -- the status is as on a chip that takes writes
      module _ (w : is_passed p.outcome ≡ true) where
        high : p.line.chip.interface.protected ≡ 0
        unfolding is_passed
        high =
            status_keeps s first
            ∙ cases (ltb a.allowed 2)
            (λ z. let e : p.outcome ≡ Cut = left.outcome_is ∙ rw z in clash w (ap is_passed e))
            (λ z.
            cases (eqb a.protected 0)
            (λ h. eqb-true a.protected 0 h)
            (λ h. let e : p.outcome ≡ Protected = left.outcome_is ∙ rw (z, h) in clash w (ap is_passed e)))

        next_called : Called s p.line
        next_called = left.next_called (passed_answered p.outcome w)

        -- as it stands open
        abbrev standing : Store
        standing =
            store (opened_with logical page bytes (state_of y)) p.line.chip (account y.account.book (some (note c []))) y.marked (failed_after y.failed [])

        opened_is : after_status ≡ standing
        opened_is =
            rw w
            (λ j. store (opened_with logical page bytes (state_of y)) p.line.chip (fed-begun g c 0 y.account refl j) y.marked (failed_is j))

        rest_long : length bytes + (length y.page - length bytes) ≡ kept_bytes
        rest_long = omega (arith, i.kept, proper.2, v.main_most)

        page-long : length standing.page ≡ kept_bytes
        page-long =
            length-append bytes (replicate (length y.page - length bytes) 0)
            ∙ ap (λ (n : ℕ). length bytes + n) (length-replicate {A = ℕ} (length y.page - length bytes) 0) ∙ rest_long

        page_is : take g.main standing.page ≡ bytes
        page_is =
            let e : g.main ≡ length bytes + 0 = omega (arith, proper.2) in
            ap (λ (n : ℕ). take n standing.page) e
            ∙ take-append-add bytes (replicate (length y.page - length bytes) 0) 0 ∙ append-nil bytes

        is_open : Open g standing
        unfolding update_of
        is_open =
            record {
              array₀ = y.chip.array;
              long₀ = called.array_long;
              st₀ = y.state;
              failed₀ = y.failed;
              logical = logical;
              first = page;
              bytes = bytes;
              marks₀ = i.marks;
              agrees = up.agrees;
              proper = proper;
              started = [];
              noted_is = refl;
              failed_is = refl;
              opened_is = refl;
              page_is = page_is;
              ready = next_called.ready;
              stands = stands_first g y.chip.array called.array_long y.state c y.account.book y.marked y.failed i.marks up.agrees proper a.mask a.fates mask_bytes p.line next_called high [] left.same_array;
            }

        open_inv : Inv g after_status
        open_inv = subst (Inv g) (sym opened_is) (noted_inv standing refl refl refl page-long (inr (inl is_open)))

        open_counts : mounted_open g (state_of after_status) ≡ true
        open_counts = ap (λ (z : Store). mounted_open g (state_of z)) opened_is ∙ open_mounted g standing page-long is_open

      -- it is protected, or was cut
      module _ (w : is_passed p.outcome ≡ false) where
        other : (p.outcome ≡ Protected) ⊎ (p.outcome ≡ Cut)
        unfolding is_passed
        other =
            cases (ltb a.allowed 2)
            (λ z. inr (left.outcome_is ∙ rw z))
            (λ z.
            cases (eqb a.protected 0)
            (λ h. let e : p.outcome ≡ Passed = left.outcome_is ∙ rw (z, h) in clash (ap is_passed e) w)
            (λ h. inl (left.outcome_is ∙ rw (z, h))))

        ended_protected : p.outcome ≡ Protected → ended ≡ open_result 13 (state_of y) p.line.chip (a.allowed - p.line.left)
        unfolding is_passed is_protected status_answer status_state stops
        ended_protected e = ap (λ (o : Outcome). open_end a.allowed (state_of y) logical page bytes (progress p.line o p.cycles p.started)) e

        protected_is : p.outcome ≡ Protected → after_status ≡ store (state_of y) p.line.chip y.account y.marked y.failed
        protected_is e =
            ap (λ (x : OpenResult). store x.state x.chip (fed g (opened c x.answer) y.account) y.marked (failed_after y.failed p.started)) (ended_protected e)
            ∙ (λ j. store (state_of y) p.line.chip (fed_idle g c 13 y.account refl j) y.marked ((failed_is ∙ failed_none y.failed) j))

        protected_untaken : p.outcome ≡ Protected → Inv g after_status
        unfolding answered
        protected_untaken e =
            subst (Inv g) (sym (protected_is e))
            (kept_inv g y i p.line.chip still_fits left.same_array left.same_history (left.next_called (ap answered e)).ready)

        abbrev cut : Store
        cut =
            store (closed (blank 2) (state_of y)) p.line.chip (account y.account.book (some (note c []))) y.marked (failed_after y.failed [])

        cut_is : p.outcome ≡ Cut → after_status ≡ cut
        unfolding is_passed is_protected is_silent is_cut_off status_answer status_state stop_answer stops
        cut_is e =
            let r : ended ≡ open_result 11 (closed (blank 2) (state_of y)) p.line.chip (a.allowed - p.line.left) = ap (λ (o : Outcome). open_end a.allowed (state_of y) logical page bytes (progress p.line o p.cycles p.started)) e in
            ap (λ (x : OpenResult). store x.state x.chip (fed g (opened c x.answer) y.account) y.marked (failed_after y.failed p.started)) r
            ∙ (λ j. store (closed (blank 2) (state_of y)) p.line.chip (fed-begun g c 11 y.account refl j) y.marked (failed_is j))

        cut_inv : p.outcome ≡ Cut → Inv g after_status
        cut_inv e =
            subst (Inv g) (sym (cut_is e))
            (noted_inv cut refl refl refl (length-replicate {A = ℕ} (length y.page) 0 ∙ i.kept) (inr (inr (stopped_unmounted g (state_of cut) refl))))

      accepted : Inv g after_status
      accepted = cases (is_passed p.outcome) open_inv (λ w. ⊎_elim (protected_untaken w) (cut_inv w) (other w))

      -- how it is answered
      answer_told : ChangeAnswered a ended
      unfolding is_passed is_protected is_silent is_cut_off status_answer stop_answer
      answer_told =
          cases (is_passed p.outcome)
          (λ w. rw w (record { answers = answers.is_done; silent_by = λ z. absurd (omega (arith, z)); cut_at = λ z. absurd (omega (arith, z)) }))
          (λ w.
          ⊎_elim
          (λ e. subst (λ (o : Outcome). ChangeAnswered a (open_end a.allowed (state_of y) logical page bytes (progress p.line o p.cycles p.started))) (sym e) (record { answers = answers.is_protected_fact; silent_by = λ z. absurd (omega (arith, z)); cut_at = λ z. absurd (omega (arith, z)) }))
          (λ e.
          let few : a.allowed < 2 = cases (ltb a.allowed 2) (λ z. ltb-true a.allowed 2 z) (λ z. absurd (uncut e z)) in
          subst (λ (o : Outcome). ChangeAnswered a (open_end a.allowed (state_of y) logical page bytes (progress p.line o p.cycles p.started))) (sym e)
          (record { answers = answers.is_cut; silent_by = λ z. absurd (omega (arith, z)); cut_at = λ z. omega (arith, left.left_is, few) }))
          (other w))
        where
          uncut : p.outcome ≡ Cut → ltb a.allowed 2 ≡ false → ⊥
          uncut e z =
              cases (eqb a.protected 0)
              (λ h. let k : Cut ≡ Passed = sym e ∙ left.outcome_is ∙ rw (z, h) in false≢true (ap is_passed k))
              (λ h. let k : Cut ≡ Protected = sym e ∙ left.outcome_is ∙ rw (z, h) in false≢true (ap is_protected k))

      chip_is : ended.chip ≡ p.line.chip
      chip_is = cases (is_passed p.outcome) (λ w. rw w refl) (λ w. rw w refl)

      sent_is : ended.sent ≡ a.allowed - p.line.left
      sent_is = cases (is_passed p.outcome) (λ w. rw w refl) (λ w. rw w refl)

      sends : Sends s d a.allowed p.cycles ended.chip ended.sent
      sends =
          record {
            leads = inr (subst (λ (x : Device). Replayed s (call_line d a.allowed).chip x p.cycles) (sym chip_is)
                (replayed s (call_line d a.allowed).chip p (leads_status s (call_line d a.allowed).chip first (leads_first s (call_line d a.allowed))) left.legal));
            counted = sent_is ∙ omega (arith, status_counts s first);
          }

  call_step : Inv g after_call
  call_step =
      cases (eqb refused_by 0)
      (λ o.
      cases (eqb address_by 0)
      (λ t. subst (Inv g) (sym (goes o t)) (accepted o t))
      (λ f. subst (Inv g) (sym (refused o f)) (found_inv g a y i)))
      (λ f. subst (Inv g) (sym (barred f)) (found_inv g a y i))

  pub open_step : Inv g (step g (to_open a logical page bytes) y)
  unfolding step failed_next open_request
  open_step = call_step

  -- it starts no array operation
  trace_none : trace ≡ []
  unfolding started_in
  trace_none =
      cases (eqb refused_by 0)
      (λ o. cases (eqb address_by 0) (λ t. rw (o, t) (none_started o t)) (λ f. rw (o, f) refl))
      (λ f. rw f refl)

  pub open_trace : trace_of g (to_open a logical page bytes) y ≡ []
  unfolding open_request
  open_trace = trace_none

  pub open_spared : Spared g y.marked y.failed (trace_of g (to_open a logical page bytes) y)
  unfolding Spared
  open_spared = subst (Spared g y.marked y.failed) (sym open_trace) tt

  given_told : ChangeAnswered a given
  unfolding result_of
  given_told =
      cases (eqb refused_by 0)
      (λ o.
      cases (eqb address_by 0)
      (λ t. rw (o, t) (answer_told o t))
      (λ f. rw (o, f) (record { answers = refusal-told g (sized_for s d) y.state logical page (length bytes); silent_by = λ z. absurd (omega (arith, z, small o)); cut_at = λ z. absurd (omega (arith, z, small o)) })))
      (λ f. rw f (record { answers = (turned f).told; silent_by = λ z. absurd ((turned f).heard z); cut_at = λ z. absurd ((turned f).uncut z) }))

  pub open_answers : ChangeAnswered a (result_of (run_of g (to_open a logical page bytes) y))
  unfolding open_request
  open_answers = given_told

  given_sends : Sends s d a.allowed (sent_in request) given.chip given.sent
  unfolding result_of sent_in
  given_sends =
      cases (eqb refused_by 0)
      (λ o. cases (eqb address_by 0) (λ t. rw (o, t) (sends o t)) (λ f. rw (o, f) (record { leads = inl (refl, refl); counted = refl })))
      (λ f. rw f (record { leads = inl (refl, refl); counted = refl }))

  pub open_sent : CallSends g y (to_open a logical page bytes)
  unfolding open_request
  open_sent = given_sends

  -- answered 0 it leaves a state that counts as mounted
  ended_passed : ended.answer ≡ 0 → is_passed p.outcome ≡ true
  unfolding status_answer
  ended_passed z =
      cases (is_passed p.outcome) (λ w. w)
      (λ w. absurd (cases (is_protected p.outcome) (λ h. omega (arith, rw (w, h) at z)) (λ h. omega (arith, rw (w, h) at z, stop_least p.outcome))))

  given_went : eqb refused_by 0 ≡ true → eqb address_by 0 ≡ true → given.answer ≡ ended.answer
  unfolding result_of
  given_went o t = rw (o, t) refl

  given_refused : eqb refused_by 0 ≡ true → eqb address_by 0 ≡ false → given.answer ≡ address_by
  unfolding result_of
  given_refused o f = rw (o, f) refl

  given_barred : eqb refused_by 0 ≡ false → given.answer ≡ refused_by
  unfolding result_of
  given_barred f = rw f refl

  given_mounted : given.answer ≡ 0 → mounted_open g (state_of after_call) ≡ true
  given_mounted z =
      cases (eqb refused_by 0)
      (λ o.
      cases (eqb address_by 0)
      (λ t. ap (λ (x : Store). mounted_open g (state_of x)) (goes o t) ∙ open_counts o t (ended_passed (sym (given_went o t) ∙ z)))
      (λ f. absurd (eqb-false address_by 0 f (sym (given_refused o f) ∙ z))))
      (λ f. absurd (eqb-false refused_by 0 f (sym (given_barred f) ∙ z)))

  pub opening_mounted : answer_of g (to_open a logical page bytes) y ≡ 0 → mounted_open g (state_of (step g (to_open a logical page bytes) y)) ≡ true
  unfolding step failed_next open_request
  opening_mounted = given_mounted

  -- a protected chip turns it away
  protected_unpassed : p.outcome ≡ Protected → is_passed p.outcome ≡ false
  unfolding is_passed
  protected_unpassed e = ap is_passed e

  given_protected : eqb refused_by 0 ≡ true → eqb address_by 0 ≡ true → p.outcome ≡ Protected → (given.answer ≡ 13) × (after_call ≡ store (state_of y) p.line.chip y.account y.marked y.failed)
  given_protected o t e = (
    given_went o t ∙ ap (λ (x : OpenResult). x.answer) (ended_protected o t (protected_unpassed e) e),
    goes o t ∙ protected_is o t (protected_unpassed e) e,
  )

  pub opening_protected : eqb refused_by 0 ≡ true → eqb address_by 0 ≡ true → p.outcome ≡ Protected
      → (answer_of g (to_open a logical page bytes) y ≡ 13) × (step g (to_open a logical page bytes) y ≡ store (state_of y) p.line.chip y.account y.marked y.failed)
  unfolding step failed_next open_request
  opening_protected = given_protected
