-- A write or an erase after a list: the invariant is kept, however it ends; while a write is open it is refused. Assumes nothing but the law named.
use Prim.Native.Nat.{ℕ, ◌<◌}
use mathlib.Core.Bool.{Bool, true, false, cond, false≢true}
use mathlib.Core.List.{List, []}
use mathlib.Core.Logic.{inl, inr}
use mathlib.Core.Option.{some}
use mathlib.Core.Path.{◌≡◌, refl, sym, ap, subst, ◌∙◌}
use native.Mathlib.Omega.{arith}
use borrow.Table.Steps.{cases}
use borrow.Author.Tests.{eq-eqb, ne_eqb, eqb-true, eqb-false, lt-leb}
use lib.Dec.{eqb}
use lib.ListN.{length}
use Rattle.geometry.specs.declared.Geometry.{Geometry}
use Rattle.cells.specs.Bytes.{Bytes}
use Rattle.chip_array.specs.Device.{Device, Setting, lengths_fit}
use Rattle.chip_laws.proofs.LengthLaws.{lengths_fit_lem}
use Rattle.operations.specs.Ends.{Called}
use Rattle.operations.specs.Trace.{ArrayOperation}
use Rattle.copies.specs.Current.{reading}
use Rattle.state.specs.declared.State.{State}
use Rattle.request.specs.Call.{Result, result_with, Performed, unsent, sized_for, call_line, result_of, sent_in, started_in}
use Rattle.request.proofs.CallLaws.{sizes}
use Rattle.request_refusals.specs.Refusals.{refusal, refusal_of}
use Rattle.request_refusals.proofs.RefusalLaws.{by_refusal, accepts}
use Rattle.fill_tables.specs.Tables.{Tabled, end_of_run}
use Rattle.write_changes.specs.Changes.{change_call, changing, change_request, write_request, erase_refusal, erase_request}
use Rattle.damage.proofs.ReplayLaws.{replayed}
use Rattle.recovery.specs.Book.{Book, Same, Change, write, erase, entered, note, Account, account, changed, is_under_way, settled, fed}
use Rattle.open_write.specs.Open.{kept_bytes, is_opened, mounted_open}
use Rattle.open_write.specs.Requests.{OpenResult, stops, beside, open_refusal, through, unless, open_write_request, open_erase_request}
use Rattle.recovery.specs.Calls.{Lent, to_write, to_erase, Store, store, state_of, setting_of, run_of, answer_of, trace_of, copy_of_note, failed_after, failed_next, step, chip_of}
use Rattle.recovery_proof.specs.Sent.{Sends, CallSends}
use Rattle.recovery.specs.Recovery.{Spared}
use Rattle.write_laws.specs.Changing.{ChangeAnswer, is_done, is_worn, is_spent, is_silent_fact, is_cut, is_protected_fact}
use Rattle.recovery_write.specs.Changed.{Agrees, Proper, update_of, array_of, Changed}
use Rattle.recovery_write.proofs.ChangeLaws.{change_ends}
use Rattle.recovery_proof.specs.Answers as answers
use Rattle.recovery_proof.specs.Answers.{AnyChangeAnswer, ChangeAnswered, is_geometry, is_address, is_length, is_unmounted, is_barred}
use Rattle.recovery_proof.specs.Invariant.{due_of, Up, Inv}
use Rattle.recovery_proof.proofs.InvariantLaws.{up_inv, up_mounted, found_by, found_inv, stopped_unmounted, is_up, failed_none, left_with, left_state, left_kept, left_shut}
use Rattle.recovery_proof.proofs.OpenLaws.{Admitted, admits, stops-small, by_open}
use Rattle.recovery_proof.proofs.ReadSteps.{refusal-small}
use Rattle.recovery_proof.proofs.SizeLaws.{change_leads, change_counts, change_lengths}

-- the book after a write or an erase, by its answer
fed_done : (g : Geometry) (c : Change) (answer : ℕ) (os : List ArrayOperation) (y : Account) → answer ≡ 0 → fed g (changed c answer os) y ≡ account (entered g c y.book) y.noted
unfolding fed
fed_done g c answer os y z = rw (eq-eqb answer 0 z)

fed-noted : (g : Geometry) (c : Change) (answer : ℕ) (os : List ArrayOperation) (y : Account) → (answer ≡ 0 → ⊥) → is_under_way answer ≡ true → fed g (changed c answer os) y ≡ account y.book (some (note c os))
unfolding fed
fed-noted g c answer os y x t = rw (ne_eqb answer 0 x, t)

pub fed_protected : (g : Geometry) (c : Change) (answer : ℕ) (os : List ArrayOperation) (y : Account) → answer ≡ 13 → fed g (changed c answer os) y ≡ y
unfolding fed
fed_protected g c answer os y z = ap (λ (k : ℕ). fed g (changed c k os) y) z

fed-refused : (g : Geometry) (c : Change) (answer : ℕ) (y : Account) → (answer ≡ 0 → ⊥) → is_under_way answer ≡ false → fed g (changed c answer []) y ≡ y
unfolding fed
fed-refused g c answer y x h = rw (ne_eqb answer 0 x, h)

pub small-refused : (k : ℕ) → k < 8 → is_under_way k ≡ false
small-refused k h = rw (lt-leb 8 k h)

-- refusals
pub refusal-told : (g : Geometry) (fits : Bool) (st : State) (logical page long : ℕ) → AnyChangeAnswer (refusal g fits st logical page long)
refusal-told g fits st logical page long =
    by_refusal g fits st logical page long AnyChangeAnswer (λ f. is_geometry) (λ t f. is_unmounted) (λ t m h. is_address) (λ t m l h. is_address) (λ t m l p x. is_length)
    (λ x. answers.is_done)

-- 1, 7 or 15, which is told as such and not under way
pub record Turned (k : ℕ) : Type 0 where
  pub some : k ≡ 0 → ⊥
  pub told : AnyChangeAnswer k
  pub idle : is_under_way k ≡ false
  pub heard : k ≡ 10 → ⊥
  pub uncut : k ≡ 11 → ⊥

pub turned_so : (g : Geometry) (y : Store) (fits barred : Bool) → (open_refusal g fits (state_of y) barred ≡ 0 → ⊥) → Turned (open_refusal g fits (state_of y) barred)
turned_so g y fits barred =
    by_open g fits (state_of y) barred (λ k. (k ≡ 0 → ⊥) → Turned k)
    (λ f x. record { some = x; told = is_geometry; idle = refl; heard = λ e. omega (arith, e); uncut = λ e. omega (arith, e) })
    (λ t f x. record { some = x; told = is_unmounted; idle = refl; heard = λ e. omega (arith, e); uncut = λ e. omega (arith, e) })
    (λ t m b x. record { some = x; told = is_barred; idle = refl; heard = λ e. omega (arith, e); uncut = λ e. omega (arith, e) })
    (λ t m b x. absurd (x refl))

-- none is open
pub shut_so : (y : Store) → is_opened (state_of y) ≡ false → y.write.opened ≡ 0
shut_so y f =
    cases (eqb y.write.opened 0)
    (λ t. eqb-true y.write.opened 0 t)
    (λ t. let yes : is_opened (state_of y) ≡ true = rw t in absurd (false≢true (sym f ∙ yes)))

pub any_answer : {k : ℕ} → ChangeAnswer k → AnyChangeAnswer k
any_answer is_done = answers.is_done
any_answer is_worn = answers.is_worn
any_answer is_spent = answers.is_spent
any_answer is_silent_fact = answers.is_silent_fact
any_answer is_cut = answers.is_cut
any_answer is_protected_fact = answers.is_protected_fact

pub not_done : (answer : ℕ) → ChangeAnswer answer → (answer ≡ 0 → ⊥) → (answer ≡ 13 → ⊥) → is_under_way answer ≡ true
not_done answer is_done x x' = absurd (x refl)
not_done answer is_worn x x' = refl
not_done answer is_spent x x' = refl
not_done answer is_silent_fact x x' = refl
not_done answer is_cut x x' = refl
not_done answer is_protected_fact x x' = absurd (x' refl)

-- the store after it; given-up: nothing is open on it any more
abbrev pub after_change : Bool → Geometry → Store → Change → Result → List ArrayOperation → Store
after_change given_up g y c r os =
    left_with given_up y r.state r.chip (fed g (changed c r.answer os) y.account) (failed_after y.failed os)

-- a request that is not refused
module _ (g : Geometry) (y : Store) (i : Inv g y) (u : Up g y) (a : Lent) (mask_bytes : Bytes a.mask) (t : sized_for (setting_of g a) (chip_of a y.chip) ≡ true) (c : Change) (proper : Proper g c) where
  abbrev s : Setting
  s = setting_of g a

  abbrev run : Tabled
  run = change_call s (chip_of a y.chip) a.allowed y.state (update_of y.state c)

  abbrev os : List ArrayOperation
  os = run.progress.started

  abbrev r : Result
  r = changing s (chip_of a y.chip) a.allowed y.state (update_of y.state c)

  called : Called s (call_line (chip_of a y.chip) a.allowed)
  called =
      let z = sizes g (length y.chip.array) (length y.chip.register) (length y.chip.history) (length a.mask) t in
      record {
        is_valid = z.chip_fits.is_valid;
        array_long = z.chip_fits.array_long;
        register_long = z.chip_fits.register_long;
        history_long = z.chip_fits.history_long;
        mask_long = z.mask_long;
        ready = u.ready;
        legal = refl;
        uncut = refl;
      }

  pub change_is : Changed s c y.account.book y.marked y.failed run
  change_is =
      change_ends s (chip_of a y.chip) a.allowed y.state c y.account.book y.marked y.failed mask_bytes called i.marks u.agrees proper

  still_fits : lengths_fit g r.chip ≡ true
  still_fits = lengths_fit_lem g (change_lengths s (chip_of a y.chip) a.allowed y.state (update_of y.state c)) ∙ i.fits

  abbrev next : Account
  next = fed g (changed c run.answer os) y.account

  module _ (b : Bool) where
    abbrev after : Store
    after = after_change b g y c r os

    still_kept : length after.page ≡ kept_bytes
    still_kept = left_kept y r.state r.chip next (failed_after y.failed os) b ∙ i.kept

    mounted_with_fact : {book : Book} → next.book ≡ book → Agrees g (array_of run) run.state book (failed_after y.failed os) → Agrees g (array_of run) after.state next.book (failed_after y.failed os)
    mounted_with_fact e x =
        subst (λ (st : State). Agrees g (array_of run) st next.book (failed_after y.failed os)) (sym (left_state y r.state r.chip next (failed_after y.failed os) b))
        (subst (λ (k : Book). Agrees g (array_of run) run.state k (failed_after y.failed os)) (sym e) x)

    -- acknowledged
    done_up : run.answer ≡ 0 → Up g after
    done_up z =
        let next_is = fed_done g c run.answer os y.account z in
        record {
          agrees = mounted_with_fact (ap (λ (x : Account). x.book) next_is) (change_is.done z);
          ready = change_is.ready z;
          quiet = ap (λ (x : Account). x.noted) next_is ∙ u.quiet;
          shut = left_shut y r.state r.chip next (failed_after y.failed os) b u.shut;
        }

    done : run.answer ≡ 0 → Inv g after
    done z = up_inv g after still_fits still_kept change_is.marks (done_up z)

    -- not taken by a protected chip
    untaken : run.answer ≡ 13 → Inv g after
    untaken z =
        let next_is = fed_protected g c run.answer os y.account z in
        up_inv g after still_fits still_kept change_is.marks
        (record {
          agrees = mounted_with_fact (ap (λ (x : Account). x.book) next_is) (change_is.kept z);
          ready = change_is.kept_ready z;
          quiet = ap (λ (x : Account). x.noted) next_is ∙ u.quiet;
          shut = left_shut y r.state r.chip next (failed_after y.failed os) b u.shut;
        })

    -- under way
    stopped : (run.answer ≡ 0 → ⊥) → (run.answer ≡ 13 → ⊥) → Inv g after
    unfolding settled copy_of_note
    stopped x x' =
        let next_is = fed-noted g c run.answer os y.account x (not_done run.answer change_is.answers x x') in
        record {
          fits = still_fits;
          kept = still_kept;
          marks = change_is.marks;
          stored = change_is.stored;
          table = change_is.table;
          table_is = change_is.table_is;
          reads = subst (λ (n : Account). Same g (reading g (array_of run) change_is.table) (due_of g (array_of run) n)) (sym next_is) (change_is.reads x);
          is = inr (inr (stopped_unmounted g (state_of after) (left_state y r.state r.chip next (failed_after y.failed os) b ∙ change_is.stopped x x')));
        }

    pub change_inv : Inv g after
    change_inv =
        cases (eqb run.answer 0)
        (λ z. done (eqb-true run.answer 0 z))
        (λ z.
        cases (eqb run.answer 13)
        (λ w. untaken (eqb-true run.answer 13 w))
        (λ w. stopped (eqb-false run.answer 0 z) (eqb-false run.answer 13 w)))

-- a request whose refusal by the base state is k, 0 for none
module _ (g : Geometry) (y : Store) (a : Lent) (c : Change) (k : ℕ) where
  abbrev found_chip : Device
  found_chip = chip_of a y.chip

  abbrev whole : Tabled
  whole = change_call (setting_of g a) found_chip a.allowed y.state (update_of y.state c)

  abbrev base : Performed Result
  base =
      cond (eqb k 0) (change_request (setting_of g a) found_chip a.allowed y.state (update_of y.state c)) (unsent (result_with k y.state found_chip 0))

  abbrev refused_by : ℕ
  refused_by = open_refusal g (sized_for (setting_of g a) found_chip) (state_of y) (is_opened (state_of y))

  abbrev request : Performed OpenResult
  request = unless refused_by (state_of y) found_chip (through (beside (state_of y)) base)

  abbrev answered : OpenResult
  answered = result_of request

  abbrev trace : List ArrayOperation
  trace = started_in request

  abbrev after_call : Store
  after_call =
      store answered.state answered.chip (fed g (changed c answered.answer trace) y.account) y.marked (failed_after y.failed trace)

  -- where it goes on
  module _ (o : eqb refused_by 0 ≡ true) (t : eqb k 0 ≡ true) where
    goes : after_call ≡ after_change (stops whole.answer) g y c (changing (setting_of g a) found_chip a.allowed y.state (update_of y.state c)) whole.progress.started
    unfolding result_of sent_in started_in
    goes = rw (o, t) refl

    answer_went : answered.answer ≡ whole.answer
    unfolding result_of
    answer_went = rw (o, t) refl

module _ (g : Geometry) (y : Store) (i : Inv g y) (a : Lent) (mask_bytes : Bytes a.mask) (c : Change) (k : ℕ) (small : k < 8) (known : AnyChangeAnswer k) (proper : k ≡ 0 → Proper g c) where
  module _ (f : eqb (refused_by g y a c k) 0 ≡ false) where
    turned : Turned (refused_by g y a c k)
    turned = turned_so g y (sized_for (setting_of g a) (chip_of a y.chip)) (is_opened (state_of y)) (eqb-false (refused_by g y a c k) 0 f)

    barred : after_call g y a c k ≡ found_by a y
    unfolding result_of sent_in started_in
    barred =
        rw f (λ j. store (state_of y) (chip_of a y.chip) (fed-refused g c (refused_by g y a c k) y.account turned.some turned.idle j) y.marked (failed_none y.failed j))

    answer_barred : (answered g y a c k).answer ≡ (refused_by g y a c k)
    unfolding result_of
    answer_barred = rw f refl

  module _ (o : eqb (refused_by g y a c k) 0 ≡ true) where
    adm : Admitted g (sized_for (setting_of g a) (chip_of a y.chip)) (state_of y) (is_opened (state_of y))
    adm = admits g (sized_for (setting_of g a) (chip_of a y.chip)) (state_of y) (is_opened (state_of y)) (eqb-true (refused_by g y a c k) 0 o)

    up : Up g y
    up = is_up g y i adm.is_mounted (shut_so y adm.unbarred)

    refused : eqb k 0 ≡ false → after_call g y a c k ≡ found_by a y
    unfolding result_of sent_in started_in
    refused f =
        rw (o, f, stops-small k small)
        (λ j. store (state_of y) (chip_of a y.chip) (fed-refused g c k y.account (eqb-false k 0 f) (small-refused k small) j) y.marked (failed_none y.failed j))

    answer_refused : eqb k 0 ≡ false → (answered g y a c k).answer ≡ k
    unfolding result_of
    answer_refused f = rw (o, f) refl

    module _ (t : eqb k 0 ≡ true) where
      ends : Changed (setting_of g a) c y.account.book y.marked y.failed (whole g y a c k)
      ends = change_is g y i up a mask_bytes adm.sizes_fit c (proper (eqb-true k 0 t))

      accepted : Inv g (after_call g y a c k)
      accepted =
          subst (Inv g) (sym (goes g y a c k o t)) (change_inv g y i up a mask_bytes adm.sizes_fit c (proper (eqb-true k 0 t)) (stops (whole g y a c k).answer))

      left_mounted : (whole g y a c k).answer ≡ 0 → mounted_open g (state_of (after_call g y a c k)) ≡ true
      left_mounted z =
          let p = proper (eqb-true k 0 t) in
          let b = stops (whole g y a c k).answer in
          ap (λ (x : Store). mounted_open g (state_of x)) (goes g y a c k o t)
          ∙ up_mounted g _ (still_kept g y i up a mask_bytes adm.sizes_fit c p b) (done_up g y i up a mask_bytes adm.sizes_fit c p b z)

  call_step : Inv g (after_call g y a c k)
  call_step =
      cases (eqb (refused_by g y a c k) 0)
      (λ o. cases (eqb k 0) (accepted o) (λ f. subst (Inv g) (sym (refused o f)) (found_inv g a y i)))
      (λ f. subst (Inv g) (sym (barred f)) (found_inv g a y i))

  call_spared : Spared g y.marked y.failed (trace g y a c k)
  unfolding started_in Spared
  call_spared =
      cases (eqb (refused_by g y a c k) 0) (λ o. cases (eqb k 0) (λ t. rw (o, t) (ends o t).spared) (λ f. rw (o, f) tt)) (λ f. rw f tt)

  call_answers : ChangeAnswered a (answered g y a c k)
  unfolding result_of
  call_answers =
      cases (eqb (refused_by g y a c k) 0)
      (λ o.
      cases (eqb k 0)
      (λ t.
      let e = ends o t in
      rw (o, t) (record { answers = any_answer e.answers; silent_by = e.silent_by; cut_at = λ z. omega (arith, e.used_up z) }))
      (λ f. rw (o, f) (record { answers = known; silent_by = λ z. absurd (omega (arith, z, small)); cut_at = λ z. absurd (omega (arith, z, small)) })))
      (λ f. rw f (record { answers = (turned f).told; silent_by = λ z. absurd ((turned f).heard z); cut_at = λ z. absurd ((turned f).uncut z) }))

  call_sent : Sends (setting_of g a) (chip_of a y.chip) a.allowed (sent_in (request g y a c k)) (answered g y a c k).chip (answered g y a c k).sent
  unfolding result_of sent_in
  call_sent =
      let s = setting_of g a in
      let u = update_of y.state c in
      cases (eqb (refused_by g y a c k) 0)
      (λ o.
      cases (eqb k 0)
      (λ t.
      rw (o, t)
      (record {
        leads = inr (replayed s (call_line (chip_of a y.chip) a.allowed).chip (whole g y a c k).progress (change_leads s (chip_of a y.chip) a.allowed y.state u) (ends o t).legal);
        counted = change_counts s (chip_of a y.chip) a.allowed y.state u;
      }))
      (λ f. rw (o, f) (record { leads = inl (refl, refl); counted = refl })))
      (λ f. rw f (record { leads = inl (refl, refl); counted = refl }))

  -- (answered g y a c k) 0 it leaves a state that counts as mounted
  call_mounted : (answered g y a c k).answer ≡ 0 → mounted_open g (state_of (after_call g y a c k)) ≡ true
  call_mounted z =
      cases (eqb (refused_by g y a c k) 0)
      (λ o. cases (eqb k 0) (λ t. left_mounted o t (sym (answer_went g y a c k o t) ∙ z)) (λ f. absurd (eqb-false k 0 f (sym (answer_refused o f) ∙ z))))
      (λ f. absurd (eqb-false (refused_by g y a c k) 0 f (sym (answer_barred f) ∙ z)))

module _ (g : Geometry) (y : Store) (i : Inv g y) (a : Lent) (mask_bytes : Bytes a.mask) where
  abbrev fits : Bool
  fits = sized_for (setting_of g a) (chip_of a y.chip)

  module _ (logical page : ℕ) (bytes : List ℕ) (are_bytes : Bytes bytes) where
    abbrev write_refused_here : ℕ
    write_refused_here = refusal_of (setting_of g a) (chip_of a y.chip) y.state logical page bytes

    write_small : write_refused_here < 8
    write_small = refusal-small g fits y.state logical page (length bytes)

    write_told : AnyChangeAnswer write_refused_here
    write_told = refusal-told g fits y.state logical page (length bytes)

    pub write_proper : write_refused_here ≡ 0 → Proper g (write logical page bytes)
    write_proper z =
        let x = accepts g fits y.state logical page (length bytes) z in
        (x.logical_below, x.page_below, x.buffer_long, are_bytes)

    pub write_step : Inv g (step g (to_write a logical page bytes) y)
    unfolding step failed_next open_write_request write_request update_of
    write_step = call_step g y i a mask_bytes (write logical page bytes) write_refused_here write_small write_told write_proper

    pub write_spared : Spared g y.marked y.failed (trace_of g (to_write a logical page bytes) y)
    unfolding open_write_request write_request update_of
    write_spared = call_spared g y i a mask_bytes (write logical page bytes) write_refused_here write_small write_told write_proper

    pub write_answers : ChangeAnswered a (result_of (run_of g (to_write a logical page bytes) y))
    unfolding open_write_request write_request update_of
    write_answers = call_answers g y i a mask_bytes (write logical page bytes) write_refused_here write_small write_told write_proper

    pub write_sent : CallSends g y (to_write a logical page bytes)
    unfolding open_write_request write_request update_of
    write_sent = call_sent g y i a mask_bytes (write logical page bytes) write_refused_here write_small write_told write_proper

    pub write_mounted : answer_of g (to_write a logical page bytes) y ≡ 0 → mounted_open g (state_of (step g (to_write a logical page bytes) y)) ≡ true
    unfolding step failed_next open_write_request write_request update_of
    write_mounted = call_mounted g y i a mask_bytes (write logical page bytes) write_refused_here write_small write_told write_proper

  module _ (logical : ℕ) where
    abbrev erase_refused_here : ℕ
    erase_refused_here = erase_refusal (setting_of g a) (chip_of a y.chip) y.state logical

    erase_small : erase_refused_here < 8
    erase_small = refusal-small g fits y.state logical 0 g.main

    erase_told : AnyChangeAnswer erase_refused_here
    erase_told = refusal-told g fits y.state logical 0 g.main

    erase_proper : erase_refused_here ≡ 0 → Proper g (erase logical)
    erase_proper z = (accepts g fits y.state logical 0 g.main z).logical_below

    pub erase_step : Inv g (step g (to_erase a logical) y)
    unfolding step failed_next open_erase_request erase_request update_of
    erase_step = call_step g y i a mask_bytes (erase logical) erase_refused_here erase_small erase_told erase_proper

    pub erase_spared : Spared g y.marked y.failed (trace_of g (to_erase a logical) y)
    unfolding open_erase_request erase_request update_of
    erase_spared = call_spared g y i a mask_bytes (erase logical) erase_refused_here erase_small erase_told erase_proper

    pub erase_answers : ChangeAnswered a (result_of (run_of g (to_erase a logical) y))
    unfolding open_erase_request erase_request update_of
    erase_answers = call_answers g y i a mask_bytes (erase logical) erase_refused_here erase_small erase_told erase_proper

    pub erase_sent : CallSends g y (to_erase a logical)
    unfolding open_erase_request erase_request update_of
    erase_sent = call_sent g y i a mask_bytes (erase logical) erase_refused_here erase_small erase_told erase_proper

    pub erase_mounted : answer_of g (to_erase a logical) y ≡ 0 → mounted_open g (state_of (step g (to_erase a logical) y)) ≡ true
    unfolding step failed_next open_erase_request erase_request update_of
    erase_mounted = call_mounted g y i a mask_bytes (erase logical) erase_refused_here erase_small erase_told erase_proper

-- of any store, where it goes on
module _ (g : Geometry) (y : Store) (a : Lent) where
  pub write_goes : (logical page : ℕ) (bytes : List ℕ) → eqb (open_refusal g (sized_for (setting_of g a) (chip_of a y.chip)) (state_of y) (is_opened (state_of y))) 0 ≡ true → eqb (refusal_of (setting_of g a) (chip_of a y.chip) y.state logical page bytes) 0 ≡ true
      → let run = change_call (setting_of g a) (chip_of a y.chip) a.allowed y.state (update_of y.state (write logical page bytes)) in
      (answer_of g (to_write a logical page bytes) y ≡ run.answer) × (step g (to_write a logical page bytes) y ≡ after_change (stops run.answer) g y (write logical page bytes) (end_of_run a.allowed run) run.progress.started)
  unfolding step failed_next open_write_request write_request update_of
  write_goes logical page bytes o t =
      let k = refusal_of (setting_of g a) (chip_of a y.chip) y.state logical page bytes in
      (answer_went g y a (write logical page bytes) k o t, goes g y a (write logical page bytes) k o t)

  pub erase_goes : (logical : ℕ) → eqb (open_refusal g (sized_for (setting_of g a) (chip_of a y.chip)) (state_of y) (is_opened (state_of y))) 0 ≡ true → eqb (erase_refusal (setting_of g a) (chip_of a y.chip) y.state logical) 0 ≡ true
      → let run = change_call (setting_of g a) (chip_of a y.chip) a.allowed y.state (update_of y.state (erase logical)) in
      (answer_of g (to_erase a logical) y ≡ run.answer) × (step g (to_erase a logical) y ≡ after_change (stops run.answer) g y (erase logical) (end_of_run a.allowed run) run.progress.started)
  unfolding step failed_next open_erase_request erase_request update_of
  erase_goes logical o t =
      let k = erase_refusal (setting_of g a) (chip_of a y.chip) y.state logical in
      (answer_went g y a (erase logical) k o t, goes g y a (erase logical) k o t)
