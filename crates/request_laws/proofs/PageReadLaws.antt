-- How a read ends on a mounted state and a ready chip: done, silent or cut, and why. Assumes nothing.
use Prim.Native.Nat.{ℕ, ◌≤◌, ◌<◌}
use mathlib.Core.Bool.{Bool, false, cond, false≢true}
use mathlib.Core.List.{List, []}
use mathlib.Core.Logic.{⊎_elim}
use mathlib.Core.Path.{◌≡◌, refl, sym, ap, subst, ◌∙◌}
use native.Mathlib.Omega.{arith}
use borrow.Table.Steps.{cases}
use borrow.Author.Tests.{eqb-true, eqb-false, ltb-false, lt-ltb}
use lib.Dec.{eqb, ltb}
use lib.ListN.{length, get_or}
use Rattle.geometry.specs.Limits.{Valid}
use Rattle.geometry.specs.Sizes.{row_of}
use Rattle.geometry.proofs.SizeLaws.{row_below}
use Rattle.chip_interface.specs.Interface.{fate_word, busy_of}
use Rattle.chip_array.specs.Device.{Device, Setting}
use Rattle.bus_polling.specs.Outcomes.{is_passed, is_failed, is_read_end, is_illegal, is_protected, is_cut_off, is_silent}
use Rattle.bus_polling.specs.declared.Outcome.TheVariants.{Passed}
use Rattle.operations.specs.Ends.{Called, read_end, read_total, word_for}
use Rattle.copies.specs.Blocks.{block_in, is_copy_of}
use Rattle.copies.specs.Current.{current_copy, page_of, reading, number_at, unlisted}
use Rattle.copies.specs.Pick.{Pick, nothing, at, pick, Picked}
use Rattle.copies.proofs.PickLaws.{pick_is}
use Rattle.scan_found.specs.Contents.{entry_of, map_in, kinds_of}
use Rattle.scan_found.proofs.MapLaws.{get_d_tabulate}
use Rattle.state.specs.State.{none}
use Rattle.state.specs.declared.State.{State}
use Rattle.state.proofs.MountedLaws.{mounted_facts}
use Rattle.request.specs.Call.{result_with, sized_for, call_line, stop_answer, answer_for}
use Rattle.request.proofs.CallLaws.{sizes, answer_passed, answer_cut}
use Rattle.bus_polling.proofs.OutcomeLaws.{is_passed_lem}
use Rattle.progress.specs.Progress.{progress}
use Rattle.request_refusals.proofs.RefusalLaws.{Accepted, by_refusal}
use Rattle.read.proofs.RefusalLaws.{read_refuses_geometry, read_refuses_unmounted, read_refuses_logical, read_refuses_page, read_refuses_length}
use Rattle.read_page.specs.Fetching.{ReadResult, read_result, page_progress, reading_block}
use Rattle.read.specs.Reading.{reading_page}
use Rattle.read.proofs.ReadingLaws.{Gives, no_copy, one_copy, request_ends, read_legal, read_gives}
use Rattle.read.proofs.SentLaws.{read_sent_most}
use Rattle.damage.specs.Run.{failed_in, Unchanged}
use Rattle.damage.specs.Replay.{Replayed}
use Rattle.damage.proofs.ReplayLaws.{leads_first, leads_kept, replayed}
use Rattle.damage.proofs.ReadLaws.{read_calm, read_unchanged}
use Rattle.request_laws.specs.Reads.{ReadAnswer, is_done, is_geometry, is_address, is_length, is_unmounted, is_silent_fact, is_cut, ReadsAs}

module _ (s : Setting) (d : Device) (n : ℕ) (state : State) (logical page : ℕ) (buffer : List ℕ) (a : Accepted s.geometry (sized_for s d) state logical page (length buffer)) (ready : d.interface.phase ≤ 2) where
  abbrev r : ReadResult
  r = reading_page s d n state logical page buffer

  abbrev entry : ℕ
  entry = get_or state.map logical 0

  called : Called s (call_line d n)
  called =
      let z = sizes s.geometry (length d.array) (length d.register) (length d.history) (length s.mask) a.sizes_fit in
      record {
        is_valid = z.chip_fits.is_valid;
        array_long = z.chip_fits.array_long;
        register_long = z.chip_fits.register_long;
        history_long = z.chip_fits.history_long;
        mask_long = z.mask_long;
        ready = ready;
        legal = refl;
        uncut = refl;
      }

  v : Valid s.geometry
  v = called.is_valid

  none_answer : entry ≡ none → r.returned.answer ≡ 0
  none_answer e = ap (λ (x : ReadResult). x.returned.answer) (no_copy s d n state logical page buffer a e)

  accepted_answers : ReadAnswer r.returned.answer
  accepted_answers =
      cases (eqb entry none)
      (λ e. subst ReadAnswer (sym (none_answer (eqb-true entry none e))) is_done)
      (λ e.
      ⊎_elim
      (λ z. subst ReadAnswer (sym z) is_done)
      (⊎_elim (λ z. subst ReadAnswer (sym z) is_silent_fact) (λ z. subst ReadAnswer (sym z) is_cut))
      (read_legal s d n state logical page buffer a ready (eqb-false entry none e)))

  -- silent: the fate word is slow
  slow_word_lem : answer_for (read_end s (call_line d n) s.geometry.main).outcome ≡ 10 → 256 ≤ busy_of (fate_word s.fates 0)
  unfolding read_end is_passed is_silent is_cut_off stop_answer
  slow_word_lem z =
      cases (ltb n (read_total s (call_line d n).chip s.geometry.main))
      (λ t. absurd (omega (arith, rw t at z)))
      (λ t.
      cases (ltb (busy_of (word_for s (call_line d n).chip)) 256)
      (λ u. absurd (omega (arith, rw (t, u) at z)))
      (λ u. ltb-false (busy_of (word_for s (call_line d n).chip)) 256 u))

  pub read_silent : r.returned.answer ≡ 10 → 256 ≤ busy_of (fate_word s.fates 0)
  read_silent z =
      cases (eqb entry none)
      (λ e. absurd (omega (arith, z, none_answer (eqb-true entry none e))))
      (λ e. slow_word_lem (sym (request_ends s d n state logical page buffer a ready (eqb-false entry none e)).answer_is ∙ z))

  -- cut: all cycles were sent
  start_unchanged : Unchanged s d.array d.history (progress (call_line d n) Passed [] [])
  unfolding is_illegal is_protected is_cut_off is_silent is_failed is_read_end
  start_unchanged =
      record {
        sound = record { legal = refl; known = refl; unprotected = refl; used_up = λ c. absurd (false≢true c); silent_by = λ c. absurd (false≢true c); failed_by_fact = λ c. absurd (false≢true c); called = λ x. called };
        ends = refl;
        same_array = refl;
        same_history = refl;
      }

  entry_below : (entry ≡ none → ⊥) → entry < s.geometry.blocks
  entry_below x =
      (mounted_facts state s.geometry.blocks s.geometry.logical v.blocks_most a.is_mounted
      ).copy_below logical a.logical_below x

  block_unchanged : (b : ℕ) → b < s.geometry.blocks → Unchanged s d.array d.history (page_progress s d n b page)
  block_unchanged b h =
      read_unchanged s d.array d.history (row_of s.geometry b page) 0 s.geometry.main (row_below s.geometry v b page h a.page_below) (omega (arith, v.main_least)) (omega arith)
      (progress (call_line d n) Passed [] []) start_unchanged

  block_cut : (b form : ℕ) → b < s.geometry.blocks → (reading_block s d n state b form page buffer).returned.answer ≡ 11 → (reading_block s d n state b form page buffer).returned.sent ≡ n
  unfolding reading_block
  block_cut b form h z = omega (arith, (block_unchanged b h).sound.used_up (answer_cut (page_progress s d n b page).outcome z))

  pub read_cut : r.returned.answer ≡ 11 → r.returned.sent ≡ n
  read_cut z =
      cases (eqb entry none)
      (λ e. absurd (omega (arith, z, none_answer (eqb-true entry none e))))
      (λ e.
      let x = eqb-false entry none e in
      let same = one_copy s d n state logical page buffer a x in
      ap (λ (y : ReadResult). y.returned.sent) same ∙ block_cut entry (get_or state.kinds logical 0) (entry_below x) (sym (ap (λ (y : ReadResult). y.returned.answer) same) ∙ z))

  -- each cycle is legal where it is sent, and all of them lead to the chip that is left
  block_replayed : (b form : ℕ) → b < s.geometry.blocks → Replayed s (call_line d n).chip (reading_block s d n state b form page buffer).returned.chip (page_progress s d n b page).cycles
  unfolding reading_block
  block_replayed b form h =
      let first = progress (call_line d n) Passed [] [] in
      replayed s (call_line d n).chip (page_progress s d n b page)
      ((leads_kept s (call_line d n).chip).read (row_of s.geometry b page) 0 s.geometry.main first (leads_first s (call_line d n)))
      (block_unchanged b h).sound.legal

  pub read_replayed : (entry ≡ none → ⊥) → Replayed s (call_line d n).chip r.returned.chip (page_progress s d n entry page).cycles
  read_replayed x =
      subst (λ (y : ReadResult). Replayed s (call_line d n).chip y.returned.chip (page_progress s d n entry page).cycles)
      (sym (one_copy s d n state logical page buffer a x)) (block_replayed entry (get_or state.kinds logical 0) (entry_below x))

  -- its operation does not fail
  pub read_unfailed : (entry ≡ none → ⊥) → (b : ℕ) → failed_in b (page_progress s d n entry page).started ≡ false
  unfolding failed_in
  read_unfailed x =
      read_calm s d.array d.history (row_of s.geometry entry page) 0 s.geometry.main (row_below s.geometry v entry page (entry_below x) a.page_below) (omega (arith, v.main_least)) (omega arith)
      (progress (call_line d n) Passed [] []) start_unchanged

  -- neither: the bytes of the current copy
  abbrev copy_test : ℕ → ℕ → Bool
  copy_test table b = cond (unlisted s.geometry d.array table b) (is_copy_of s.geometry logical (block_in s.geometry d.array b)) false

  module _ (table : ℕ) (map_is : state.map ≡ map_in s.geometry d.array table) (kinds_is : state.kinds ≡ kinds_of s.geometry d.array table) where
    entry_is : entry ≡ entry_of (current_copy s.geometry d.array table logical)
    unfolding map_in
    entry_is =
        ap (λ (x : List ℕ). get_or x logical 0) map_is
        ∙ get_d_tabulate _ 4096 logical (omega (arith, a.logical_below, v.logical_most, v.blocks_most))
        ∙ rw (lt-ltb logical s.geometry.logical a.logical_below)

    module _ (heard : r.returned.answer ≡ 10 → ⊥) (uncut : r.returned.answer ≡ 11 → ⊥) where
      answered_zero : (entry ≡ none → ⊥) → r.returned.answer ≡ 0
      answered_zero x = ⊎_elim (λ z. z) (λ y. absurd (⊎_elim heard uncut y)) (read_legal s d n state logical page buffer a ready x)

      passed : (entry ≡ none → ⊥) → (read_end s (call_line d n) s.geometry.main).outcome ≡ Passed
      passed x = is_passed_lem _ (answer_passed _ (sym (request_ends s d n state logical page buffer a ready x).answer_is ∙ answered_zero x))

      none_gives : entry ≡ none → current_copy s.geometry d.array table logical ≡ nothing → Gives s d state (reading s.geometry d.array table logical page) r
      unfolding page_of
      none_gives e o =
          subst (Gives s d state (reading s.geometry d.array table logical page)) (sym (no_copy s d n state logical page buffer a e))
          (record {
            done = refl;
            same_state = refl;
            same_array = refl;
            same_history = refl;
            bytes_are = sym (ap (page_of s.geometry d.array page) o);
            still_sized = a.sizes_fit;
            still_ready = ready;
          })

      by_pick : (o : Pick) → Picked (copy_test table) (number_at s.geometry d.array) s.geometry.blocks o → current_copy s.geometry d.array table logical ≡ o
          → Gives s d state (reading s.geometry d.array table logical page) r
      unfolding entry_of
      by_pick nothing p e = none_gives (entry_is ∙ ap entry_of e) e
      by_pick (at b) p e =
          let here : entry ≡ b = entry_is ∙ ap entry_of e in
          let full : entry ≡ none → ⊥ = λ z. omega (arith, here, z, p.below, v.blocks_most) in
          read_gives s d n state logical page buffer a ready table map_is kinds_is (passed full)

      heard_gives : Gives s d state (reading s.geometry d.array table logical page) r
      unfolding current_copy
      heard_gives =
          by_pick (pick (copy_test table) (number_at s.geometry d.array) s.geometry.blocks) (pick_is (copy_test table) (number_at s.geometry d.array) s.geometry.blocks) refl

    pub reads_as : ReadsAs s d n state (reading s.geometry d.array table logical page) r
    reads_as =
        record {
          gives = heard_gives;
          silent_by = read_silent;
          cut_at = read_cut;
          sent-most = omega (arith, read_sent_most s d n state logical page buffer);
        }

  -- the largest allowance cuts nothing
  pub read_uncut : n ≡ 4294967295 → r.returned.answer ≡ 11 → ⊥
  read_uncut e z = omega (arith, e, read_cut z, read_sent_most s d n state logical page buffer, v.main_most)

-- of any state, page and buffer, on a chip that is ready: no other answer comes
pub read_answers : (s : Setting) (d : Device) (n : ℕ) (state : State) (logical page : ℕ) (buffer : List ℕ) → d.interface.phase ≤ 2 → ReadAnswer (reading_page s d n state logical page buffer).returned.answer
read_answers s d n state logical page buffer ready =
    by_refusal s.geometry (sized_for s d) state logical page (length buffer) (λ k. ReadAnswer (reading_page s d n state logical page buffer).returned.answer)
    (λ f. told (read_refuses_geometry s d n state logical page buffer f) is_geometry)
    (λ t f. told (read_refuses_unmounted s d n state logical page buffer t f) is_unmounted)
    (λ t m h. told (read_refuses_logical s d n state logical page buffer t m h) is_address)
    (λ t m l h. told (read_refuses_page s d n state logical page buffer t m l h) is_address)
    (λ t m l h x. told (read_refuses_length s d n state logical page buffer t m l h x) is_length)
    (λ a. accepted_answers s d n state logical page buffer a ready)
  where
    told : {k : ℕ} → reading_page s d n state logical page buffer ≡ read_result (result_with k state d 0) buffer → ReadAnswer k → ReadAnswer (reading_page s d n state logical page buffer).returned.answer
    told e x = subst ReadAnswer (sym (ap (λ (y : ReadResult). y.returned.answer) e)) x
