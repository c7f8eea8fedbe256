-- A read after a list: the invariant is kept whether a write is open or not, the bytes shown are given, and a mounted store reads back. Assumes
-- nothing.
use Prim.Native.Nat.{ℕ, ◌≤◌, ◌<◌}
use mathlib.Core.Bool.{Bool, true, false, cond, false≢true}
use mathlib.Core.List.{List}
use mathlib.Core.Logic.{◌⊎◌, inl, inr, ⊎_elim}
use mathlib.Core.Option.{Option}
use mathlib.Core.Path.{◌≡◌, refl, sym, ap, subst, fun_ext, ◌∙◌}
use native.Mathlib.Omega.{arith}
use borrow.Table.Steps.{cases}
use borrow.Author.Tests.{eq-eqb, ne_eqb, eqb-true, eqb-false}
use lib.Dec.{eqb}
use lib.ListN.{length, get_or}
use Rattle.geometry.specs.declared.Geometry.{Geometry}
use Rattle.chip_array.specs.Device.{Device, Setting, lengths_fit}
use Rattle.operations.specs.Ends.{read_end}
use Rattle.operations.specs.Trace.{ArrayOperation}
use Rattle.state.specs.State as state
use Rattle.state.specs.declared.State.{State}
use Rattle.bools.proofs.BoolLaws.{or_none}
use Rattle.request.specs.Call.{Result, Performed, sized_for, call_line, result_of, sent_in, started_in}
use Rattle.request.proofs.CallLaws.{answer_stopped}
use Rattle.request_refusals.specs.Refusals.{refusal, refusal_of}
use Rattle.request_refusals.proofs.RefusalLaws.{Accepted, accepted, accepts, by_refusal}
use Rattle.read_page.specs.Fetching.{ReadResult, page_progress}
use Rattle.read.specs.Reading.{copy_request, read_request}
use Rattle.read.proofs.ReadingLaws.{request_ends, read_keeps}
use Rattle.damage.specs.Run.{failed_in}
use Rattle.damage.proofs.ReplayLaws.{lengths_sized}
use Rattle.request_laws.specs.Reads.{ReadAnswer, is_geometry, is_unmounted, ReadsAs}
use Rattle.request_laws.specs.Unready.{AnyReadAnswer, of_ready, is_refused}
use Rattle.request_laws.proofs.PageReadLaws.{read_replayed, read_unfailed}
use Rattle.request_laws.proofs.UnreadyLaws.{read_answers_any, read_255}
use Rattle.open_write.specs.Open.{OpenState, with_state, closed, mounted_open}
use Rattle.open_write.specs.Requests.{OpenRead, stops, beside, read_beside, open_refusal, open_read_request}
use Rattle.recovery_stored.proofs.KnowsLaws.{knows_entry, knows_kind}
use Rattle.recovery_write.proofs.EntryLaws.{EntryReads, entry_reads}
use Rattle.recovery_write.proofs.StandsLaws.{stands_reads}
use Rattle.recovery.specs.Book.{Note, write, fed}
use Rattle.recovery.specs.Calls.{Lent, to_read, Store, store, state_of, setting_of, read_of, failed_after, failed_next, step, chip_of}
use Rattle.recovery.specs.Recovery.{shown_with, shown}
use Rattle.recovery_proof.specs.Acknowledged.{ReadsOpen, ReadsBack}
use Rattle.recovery_proof.specs.Invariant.{Up, Open, Inv}
use Rattle.recovery_proof.proofs.InvariantLaws.{sizes_fit, fit_sizes, is_mounted, stopped_inv, failed_none, found_by, found_inv, left_with, left_state, left_kept}
use Rattle.recovery_proof.proofs.OpenLaws.{Admitted, admits, admitted_so, base_mounted, stops-small, by_open, kept_inv}
use Rattle.recovery_proof.proofs.EntryReads.{reads_entry}

-- operations of which none failed
failed_same : (f : ℕ → Bool) (os : List ArrayOperation) → ((b : ℕ) → failed_in b os ≡ false) → failed_after f os ≡ f
failed_same f os none = fun_ext (λ b. ap (cond (f b) true) (none b) ∙ or_none (f b))

-- what an entry of the map reads: the book on a mounted state, what is shown where a write is open
up_entry : (g : Geometry) (y : Store) → Up g y → (l : ℕ) → l < g.logical → EntryReads g y.chip.array (get_or y.state.map l 0) (get_or y.state.kinds l 0) (shown g y l)
unfolding shown_with
up_entry g y u l h =
    subst (λ (o : Option Note). EntryReads g y.chip.array (get_or y.state.map l 0) (get_or y.state.kinds l 0) (shown_with g o y.account.book l)) (sym u.quiet)
    (entry_reads g u.agrees.stored.is_valid y.chip.array y.state.table l (get_or y.state.map l 0) (get_or y.state.kinds l 0) (y.account.book l)
    (knows_entry g y.chip.array y.state u.agrees.stored u.agrees.knows l h) (knows_kind g y.chip.array y.state u.agrees.stored u.agrees.knows l h) (λ i k. u.agrees.reads l i h k))

open_entry : (g : Geometry) (y : Store) → Open g y → (l : ℕ) → l < g.logical → EntryReads g y.chip.array (get_or y.state.map l 0) (get_or y.state.kinds l 0) (shown g y l)
unfolding shown_with
open_entry g y o l h =
    subst (λ (n : Option Note). EntryReads g y.chip.array (get_or y.state.map l 0) (get_or y.state.kinds l 0) (shown_with g n y.account.book l)) (sym o.noted_is)
    (stands_reads g o.array₀ o.long₀ o.st₀ (write o.logical o.first o.bytes) y.account.book y.marked o.failed₀ o.marks₀ o.agrees o.proper o.stands l h)

pub refusal-small : (g : Geometry) (fits : Bool) (st : State) (logical page long : ℕ) → refusal g fits st logical page long < 8
refusal-small g fits st logical page long =
    by_refusal g fits st logical page long (λ k. k < 8) (λ f. omega arith) (λ t f. omega arith) (λ t m h. omega arith) (λ t m l h. omega arith) (λ t m l p x. omega arith)
    (λ x. omega arith)

module _ (g : Geometry) (y : Store) (i : Inv g y) (a : Lent) (logical page : ℕ) (buffer : List ℕ) where
  abbrev s : Setting
  s = setting_of g a

  abbrev d : Device
  d = chip_of a y.chip

  -- the read by the base state
  abbrev base : Performed ReadResult
  base = read_request s d a.allowed y.state logical page buffer

  abbrev q : ReadResult
  q = result_of base

  abbrev refused_by : ℕ
  refused_by = open_refusal g (sized_for s d) (state_of y) false

  abbrev unrefused : Bool
  unrefused = eqb (refusal_of s d y.state logical page buffer) 0

  abbrev entry : ℕ
  entry = get_or y.state.map logical 0

  refused : eqb refused_by 0 ≡ false → step g (to_read a logical page buffer) y ≡ found_by a y
  unfolding result_of sent_in started_in step open_read_request fed failed_next
  refused f = rw f (ap (store (state_of y) d y.account y.marked) (failed_none y.failed))

  -- what it leaves where it goes on
  abbrev lifted : Store
  lifted = left_with (stops q.returned.answer) y q.returned.state q.returned.chip y.account (failed_after y.failed (started_in base))

  through_is : eqb refused_by 0 ≡ true → step g (to_read a logical page buffer) y ≡ lifted
  unfolding result_of sent_in started_in step open_read_request fed failed_next
  through_is t = rw t refl

  read_is : eqb refused_by 0 ≡ true → read_of g a logical page buffer y ≡ read_beside (state_of y) q
  unfolding result_of open_read_request
  read_is t = rw t refl

  -- 2 or 3
  base_refused : unrefused ≡ false → lifted ≡ found_by a y
  unfolding result_of started_in read_request
  base_refused f =
      rw (f, stops-small (refusal_of s d y.state logical page buffer) (refusal-small g (sized_for s d) y.state logical page (length buffer)))
      (ap (store (state_of y) d y.account y.marked) (failed_none y.failed))

  module _ (t : eqb refused_by 0 ≡ true) where
    adm : Admitted g (sized_for s d) (state_of y) false
    adm = admits g (sized_for s d) (state_of y) false (eqb-true refused_by 0 t)

    which : Up g y ⊎ Open g y
    which = is_mounted g y i adm.is_mounted

    ready : d.interface.phase ≤ 2
    ready = ⊎_elim (λ u. u.ready) (λ o. o.ready) which

    module _ (z : unrefused ≡ true) where
      acc : Accepted g (sized_for s d) y.state logical page (length buffer)
      acc = accepts g (sized_for s d) y.state logical page (length buffer) (eqb-true (refusal_of s d y.state logical page buffer) 0 z)

      -- without a copy no cycle is sent
      without : eqb entry state.none ≡ true → lifted ≡ found_by a y
      unfolding result_of started_in read_request copy_request stops
      without e = rw (z, e) (ap (store (state_of y) d y.account y.marked) (failed_none y.failed))

      as_read : ReadsAs s d a.allowed y.state (shown g y logical page) q
      as_read =
          reads_entry s d a.allowed y.state logical page buffer acc ready (shown g y logical)
          (⊎_elim (λ u. up_entry g y u logical acc.logical_below) (λ o. open_entry g y o logical acc.logical_below) which)

      module _ (x : entry ≡ state.none → ⊥) where
        trace_is : started_in base ≡ (page_progress s d a.allowed entry page).started
        unfolding started_in read_request copy_request
        trace_is = rw (z, ne_eqb entry state.none x)

        still_fits : lengths_fit g q.returned.chip ≡ true
        still_fits =
            sizes_fit s q.returned.chip
            (lengths_sized s (read_replayed s d a.allowed y.state logical page buffer acc ready x).same_lengths ∙ acc.sizes_fit)

        failed_is : failed_after y.failed (started_in base) ≡ y.failed
        failed_is = ap (failed_after y.failed) trace_is ∙ failed_same y.failed _ (read_unfailed s d a.allowed y.state logical page buffer acc ready x)

        done : q.returned.answer ≡ 0 → Inv g lifted
        unfolding stops
        done e =
            let gives = as_read.gives (λ w. omega (arith, e, w)) (λ w. omega (arith, e, w)) in
            let same : store (state_of y) q.returned.chip y.account y.marked y.failed ≡ lifted =
            sym (ap (λ (k : ℕ). left_with (stops k) y q.returned.state q.returned.chip y.account (failed_after y.failed (started_in base))) e
            ∙ (λ j. left_with false y (gives.same_state j) q.returned.chip y.account (failed_is j))) in
            subst (Inv g) same (kept_inv g y i q.returned.chip still_fits gives.same_array gives.same_history gives.still_ready)

        ended : (q.returned.answer ≡ 0 → ⊥) → Inv g lifted
        ended e =
            let ends = request_ends s d a.allowed y.state logical page buffer acc ready x in
            let b = stops q.returned.answer in
            let f = failed_after y.failed (started_in base) in
            stopped_inv g y i lifted still_fits (left_kept y q.returned.state q.returned.chip y.account f b ∙ i.kept) ends.same_array refl refl
            (left_state y q.returned.state q.returned.chip y.account f b
            ∙ ends.state_is ∙ answer_stopped (read_end s (call_line d a.allowed) g.main).outcome y.state (λ w. e (ends.answer_is ∙ w)))

      accepted_step : Inv g lifted
      accepted_step =
          cases (eqb entry state.none)
          (λ e. subst (Inv g) (sym (without e)) (found_inv g a y i))
          (λ e.
          let x = eqb-false entry state.none e in
          cases (eqb q.returned.answer 0) (λ w. done x (eqb-true q.returned.answer 0 w)) (λ w. ended x (eqb-false q.returned.answer 0 w)))

    -- a read that is refused is not answered 0
    base_answer : unrefused ≡ false → q.returned.answer ≡ 0 → ⊥
    unfolding result_of read_request
    base_answer f e = eqb-false (refusal_of s d y.state logical page buffer) 0 f (rw f at e)

  pub read_step : Inv g (step g (to_read a logical page buffer) y)
  read_step =
      cases (eqb refused_by 0)
      (λ t. subst (Inv g) (sym (through_is t)) (cases unrefused (accepted_step t) (λ f. subst (Inv g) (sym (base_refused f)) (found_inv g a y i))))
      (λ f. subst (Inv g) (sym (refused f)) (found_inv g a y i))

  refused_answer : eqb refused_by 0 ≡ false → (read_of g a logical page buffer y).returned.answer ≡ 0 → ⊥
  unfolding result_of open_read_request
  refused_answer f e = eqb-false refused_by 0 f (rw f at e)

  -- answered 0, the read of the base state is, and it was not refused
  module _ (e : (read_of g a logical page buffer y).returned.answer ≡ 0) where
    went : eqb refused_by 0 ≡ true
    went = cases (eqb refused_by 0) (λ t. t) (λ f. absurd (refused_answer f e))

    base_done : q.returned.answer ≡ 0
    base_done = sym (ap (λ (r : OpenRead). r.returned.answer) (read_is went)) ∙ e

    base_went : unrefused ≡ true
    base_went = cases unrefused (λ z. z) (λ f. absurd (base_answer went f base_done))

    pub read_gives_shown : (read_of g a logical page buffer y).buffer ≡ shown g y logical page
    read_gives_shown =
        ap (λ (r : OpenRead). r.buffer) (read_is went)
        ∙ ((as_read went base_went).gives (λ w. omega (arith, base_done, w)) (λ w. omega (arith, base_done, w))).bytes_are

    -- and the store is as it was but for the chip's interface
    pub read_mounted : mounted_open g (state_of (step g (to_read a logical page buffer) y)) ≡ true
    unfolding stops
    read_mounted =
        let gives = (as_read went base_went).gives (λ w. omega (arith, base_done, w)) (λ w. omega (arith, base_done, w)) in
        ap (λ (z : Store). mounted_open g (state_of z)) (through_is went)
        ∙ ap (λ (k : ℕ). mounted_open g (state_of (left_with (stops k) y q.returned.state q.returned.chip y.account (failed_after y.failed (started_in base))))) base_done
        ∙ ap (λ (st : State). mounted_open g (state_of (left_with false y st q.returned.chip y.account (failed_after y.failed (started_in base))))) gives.same_state
        ∙ (adm went).is_mounted

  pub read_keeps_buffer : ((read_of g a logical page buffer y).returned.answer ≡ 0 → ⊥) → (read_of g a logical page buffer y).buffer ≡ buffer
  unfolding result_of open_read_request
  read_keeps_buffer e =
      cases (eqb refused_by 0)
      (λ t.
      ap (λ (r : OpenRead). r.buffer) (read_is t)
      ∙ read_keeps s d a.allowed y.state logical page buffer (λ z. e (ap (λ (r : OpenRead). r.returned.answer) (read_is t) ∙ z)))
      (λ f. rw f)

  -- the chip is ready for an accepted read
  ready_answer : {k : ℕ} → AnyReadAnswer k → (k ≡ 255 → ⊥) → ReadAnswer k
  ready_answer (of_ready k) x = k
  ready_answer is_refused x = absurd (x refl)

  base_told : eqb refused_by 0 ≡ true → ReadAnswer q.returned.answer
  base_told t =
      ready_answer (read_answers_any s d y.state logical page buffer a.allowed)
      (λ z.
      let refuses = (read_255 s d y.state logical page buffer a.allowed).0 z in
      omega (arith, refuses.is_unready, ready t))

  refused_told : ReadAnswer (open_refusal g (sized_for s d) (state_of y) false) ⊎ (open_refusal g (sized_for s d) (state_of y) false ≡ 0)
  refused_told =
      by_open g (sized_for s d) (state_of y) false (λ k. ReadAnswer k ⊎ (k ≡ 0)) (λ f. inl is_geometry) (λ t f. inl is_unmounted) (λ t m b. absurd (false≢true b)) (λ t m b. inr refl)

  pub read_told : ReadAnswer (read_of g a logical page buffer y).returned.answer
  unfolding result_of open_read_request
  read_told =
      cases (eqb refused_by 0)
      (λ t. subst ReadAnswer (sym (ap (λ (r : OpenRead). r.returned.answer) (read_is t))) (base_told t))
      (λ f. rw f (⊎_elim (λ x. x) (λ z. absurd (eqb-false refused_by 0 f z)) refused_told))

-- from a mounted state every logical page reads as it is shown
pub reads_back : (g : Geometry) (y : Store) → Inv g y → mounted_open g (state_of y) ≡ true → ReadsBack g y
unfolding stops
reads_back g y i m a logical page buffer mask_long h k long =
    let s = setting_of g a in
    let d = chip_of a y.chip in
    let fits = fit_sizes s d i.fits mask_long in
    let t : eqb (open_refusal g (sized_for s d) (state_of y) false) 0 ≡ true = eq-eqb _ 0 (admitted_so g (sized_for s d) (state_of y) false fits m refl) in
    let x : Accepted g (sized_for s d) y.state logical page (length buffer) =
    record { sizes_fit = fits; is_mounted = base_mounted g (state_of y) m; logical_below = h; page_below = k; buffer_long = long } in
    let base = as_read g y i a logical page buffer t (eq-eqb _ 0 (accepted g (sized_for s d) y.state logical page (length buffer) x)) in
    subst (ReadsOpen s d a.allowed (state_of y) (shown g y logical page)) (sym (read_is g y i a logical page buffer t))
    (record {
      gives = λ heard uncut.
          let gives = base.gives heard uncut in
          record {
            done = gives.done;
            same_state = beside_same (state_of y) (q g y i a logical page buffer).returned gives.done gives.same_state;
            same_array = gives.same_array;
            same_history = gives.same_history;
            bytes_are = gives.bytes_are;
            still_sized = gives.still_sized;
            still_ready = gives.still_ready;
          };
      silent_by = base.silent_by;
      cut_at = base.cut_at;
      sent-most = base.sent-most;
    })
  where
    -- answered 0, with the base state as it was
    beside_same : (x : OpenState) (r : Result) → r.answer ≡ 0 → r.state ≡ x.state → (beside x r).state ≡ x
    beside_same x r z e =
        ap (λ (n : ℕ). cond (stops n) (closed r.state x) (with_state r.state x)) z ∙ ap (λ (st : State). with_state st x) e
