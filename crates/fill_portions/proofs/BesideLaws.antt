-- A read while a write is open: if it does not give it up, the state stays, and so does all of the chip that the write looks at. Assumes nothing.
use Prim.Native.Nat.{ℕ, ◌≤◌}
use mathlib.Core.Bool.{true, false}
use mathlib.Core.List.{List, []}
use mathlib.Core.Path.{◌≡◌, refl, sym, ap, subst, ◌∙◌}
use native.Mathlib.Omega.{arith}
use borrow.Table.Steps.{cases}
use borrow.Author.Tests.{eqb-true, eqb-false}
use lib.Dec.{eqb}
use lib.ListN.{length, get_or}
use Rattle.geometry.specs.Sizes.{row_of}
use Rattle.geometry.proofs.SizeLaws.{row_below}
use Rattle.chip_interface.specs.Interface.{output_phase}
use Rattle.chip_array.specs.Device.{Device, Setting}
use Rattle.bus_polling.specs.Outcomes.{is_passed, is_silent, is_cut_off}
use Rattle.bus_polling.specs.declared.Outcome.{Outcome}
use Rattle.bus_polling.specs.declared.Outcome.TheVariants.{Passed}
use Rattle.bus_polling.proofs.OutcomeLaws.{passed_answered}
use Rattle.operations.specs.Ends.{Called, CanRead, read_end}
use Rattle.progress.specs.Progress.{progress}
use Rattle.progress.proofs.WordLaws.{read_keeps}
use Rattle.state.specs.State.{none}
use Rattle.state.specs.declared.State.{State}
use Rattle.state.proofs.MountedLaws.{mounted_facts}
use Rattle.request.specs.Call.{result_of, sized_for, call_line, stop_answer}
use Rattle.request.proofs.CallLaws.{sizes}
use Rattle.request_refusals.specs.Refusals.{refusal_of}
use Rattle.request_refusals.proofs.RefusalLaws.{Accepted, accepts}
use Rattle.read_page.specs.Fetching.{ReadResult, page_progress, reading_block}
use Rattle.read.specs.Reading.{read_request, reading_page}
use Rattle.read.proofs.ReadingLaws.{no_copy, one_copy}
use Rattle.open_write.specs.Open.{OpenState, is_opened}
use Rattle.open_write.specs.Requests.{open_refusal, stops, open_read_request, reading_open}
use Rattle.bools.proofs.BoolLaws.{clash}
use Rattle.fill_portions.proofs.AlikeLaws.{read_comes, read_called}

-- a chip that was left ready, with the same array, history and line
pub record Unmoved (d e : Device) : Type 0 where
  pub same_array : e.array ≡ d.array
  pub same_history : e.history ≡ d.history
  pub same_size : length e.register ≡ length d.register
  pub same_line : e.interface.protected ≡ d.interface.protected
  pub ready : e.interface.phase ≤ output_phase

-- the chip of a call that is not refused
pub call_called : (s : Setting) (d : Device) (n : ℕ) → sized_for s d ≡ true → d.interface.phase ≤ output_phase → Called s (call_line d n)
call_called s d n fits ready =
    let z = sizes s.geometry (length d.array) (length d.register) (length d.history) (length s.mask) fits in
    record {
      is_valid = z.chip_fits.is_valid;
      array_long = z.chip_fits.array_long;
      register_long = z.chip_fits.register_long;
      history_long = z.chip_fits.history_long;
      mask_long = z.mask_long;
      ready = ready;
      legal = refl;
      uncut = refl;
    }

-- an operation that does not pass stops the state
stop_stops : (o : Outcome) → stops (stop_answer o) ≡ true
unfolding stops stop_answer
stop_stops o = cases (is_silent o) (λ t. rw t) (λ f. cases (is_cut_off o) (λ t. rw (f, t)) (λ t. rw (f, t)))

-- a read on the base state
module _ (s : Setting) (d : Device) (n : ℕ) (st : State) (logical page : ℕ) (buffer : List ℕ) (ready : d.interface.phase ≤ output_phase) where
  abbrev Keeps : ReadResult → Type 0
  Keeps r = stops r.returned.answer ≡ false → (r.returned.state ≡ st) × Unmoved d r.returned.chip

  same : Unmoved d d
  same = record { same_array = refl; same_history = refl; same_size = refl; same_line = refl; ready = ready }

  block_keeps : (b form : ℕ) → CanRead s (call_line d n) (row_of s.geometry b page) 0 s.geometry.main → Keeps (reading_block s d n st b form page buffer)
  unfolding reading_block read_end is_passed
  block_keeps b form can f =
      let first = progress (call_line d n) Passed [] [] in
      let row = row_of s.geometry b page in
      let q = page_progress s d n b page in
      cases (is_passed q.outcome)
      (λ t.
      let c = read_comes s first refl row 0 s.geometry.main can in
      let called = read_called s first refl row 0 s.geometry.main can (passed_answered _ t) in (
        rw t,
        record {
          same_array = c.array_is;
          same_history = c.history_is;
          same_size = called.register_long ∙ sym can.called.register_long;
          same_line = read_keeps s row 0 s.geometry.main first;
          ready = called.ready;
        },
      ))
      (λ t. clash (stop_stops q.outcome) (rw t at f))

  page_keeps : Accepted s.geometry (sized_for s d) st logical page (length buffer) → Keeps (reading_page s d n st logical page buffer)
  page_keeps a =
      let entry = get_or st.map logical 0 in
      let called = call_called s d n a.sizes_fit ready in
      let v = called.is_valid in
      cases (eqb entry none)
      (λ t. subst Keeps (sym (no_copy s d n st logical page buffer a (eqb-true entry none t))) (λ f. (refl, same)))
      (λ t.
      let some = eqb-false entry none t in
      let below = (mounted_facts st s.geometry.blocks s.geometry.logical v.blocks_most a.is_mounted).copy_below logical a.logical_below some in
      subst Keeps (sym (one_copy s d n st logical page buffer a some))
      (block_keeps entry (get_or st.kinds logical 0) (record { called = called; row_below = row_below s.geometry v entry page below a.page_below; column_below = omega (arith, v.main_least); within = omega arith })))

  read_keeps_state : Keeps (reading_page s d n st logical page buffer)
  unfolding result_of read_request
  read_keeps_state =
      cases (eqb (refusal_of s d st logical page buffer) 0)
      (λ t. page_keeps (accepts s.geometry (sized_for s d) st logical page (length buffer) (eqb-true (refusal_of s d st logical page buffer) 0 t)))
      (λ t. rw t (λ f. (refl, same)))

-- a read beside an open write
pub read_beside_lem : (s : Setting) (d : Device) (n : ℕ) (x : OpenState) (logical page : ℕ) (buffer : List ℕ) → d.interface.phase ≤ output_phase → is_opened (reading_open s d n x logical page buffer).returned.state ≡ true
    → ((reading_open s d n x logical page buffer).returned.state ≡ x) × Unmoved d (reading_open s d n x logical page buffer).returned.chip
unfolding result_of open_read_request
read_beside_lem s d n x logical page buffer ready o =
    let refused = open_refusal s.geometry (sized_for s d) x false in
    let q = reading_page s d n x.state logical page buffer in
    cases (eqb refused 0)
    (λ t.
    cases (stops q.returned.answer)
    (λ u. clash (rw (t, u) at o) refl)
    (λ u.
    let k = read_keeps_state s d n x.state logical page buffer ready u in
    rw (t, u) (ap (λ (st : State). record { state = st; write = x.write; page = x.page }) k.0, k.1)))
    (λ t. rw t (refl, same s d n x.state logical page buffer ready))
