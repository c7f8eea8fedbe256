-- What a read gives, what it leaves alone, and how it can end. Assumes nothing.
use Prim.Native.Nat.{ℕ, ◌+◌, ◌*◌, ◌≤◌, ◌<◌}
use mathlib.Core.Bool.{Bool, true, false, cond}
use mathlib.Core.List.{List}
use mathlib.Core.Logic.{◌⊎◌, inl, inr}
use mathlib.Core.Path.{◌≡◌, refl, sym, ap, subst, ◌∙◌}
use native.Mathlib.Omega.{arith}
use borrow.Table.Steps.{cases}
use borrow.Author.Tests.{eq-eqb, ne_eqb, lt-ltb, le-ltb}
use lib.Dec.{eqb, ltb}
use lib.ListN.{length, get_or, take, drop, replicate}
use lib.Seq.{take-take}
use Rattle.geometry.specs.declared.Geometry.{Geometry}
use Rattle.geometry.specs.Limits.{Valid}
use Rattle.geometry.specs.Sizes.{page_size, row_of}
use Rattle.geometry.proofs.SizeLaws.{row_below}
use Rattle.chip_array.specs.Device.{Device, Setting}
use Rattle.bus.specs.Line.{Line}
use Rattle.bus_polling.specs.Outcomes.{is_passed, is_silent, is_cut_off}
use Rattle.bus_polling.specs.declared.Outcome.{Outcome}
use Rattle.bus_polling.specs.declared.Outcome.TheVariants.{Passed}
use Rattle.bus_sequences.specs.Cycles.{read_outcome, read_outputs}
use Rattle.chip_interface.specs.Interface.{busy_of}
use Rattle.operations.specs.Ends.{Called, CanRead, End, read_end, end_of_read, read_total, word_for}
use Rattle.operations.proofs.ReadLaws as operation
use Rattle.copies.specs.Blocks.{block_in, main_in, formed, is_copy_of}
use Rattle.copies.specs.Current.{reading, page_of, kind_at, current_copy, number_at, unlisted}
use Rattle.copies.specs.Pick.{Pick, nothing, at, Picked}
use Rattle.copies.proofs.PickLaws.{pick_is}
use Rattle.scan_found.specs.Contents.{entry_of, map_in, kinds_of}
use Rattle.scan_found.proofs.MapLaws.{get_d_tabulate}
use Rattle.copies.proofs.PlaceLaws.{row_is_page}
use Rattle.state.specs.State.{none}
use Rattle.state.specs.declared.State.{State}
use Rattle.request.specs.Call.{result_with, sized, sized_for, call_line, stop_answer, answer_for, state_for, result_of}
use Rattle.request.proofs.CallLaws.{sizes}
use Rattle.request_refusals.specs.Refusals.{refusal_of}
use Rattle.read_page.specs.Fetching.{ReadResult, read_result, fetched, page_progress, reading_block}
use Rattle.read.specs.Reading.{copy_request, read_request, reading_page}
use Rattle.read_page.proofs.PageLaws.{page_line_fact, page_outcome}
use Rattle.read.proofs.EndLaws.{goes_on, is_valid, in_map, block_below}
use Rattle.request_refusals.proofs.RefusalLaws.{Accepted, accepted}

-- a read that is done: the page's bytes, the state as it was, nothing on the chip changed, and the chip ready for the
-- next call
pub record Gives (s : Setting) (d : Device) (state : State) (bytes : List ℕ) (r : ReadResult) : Type 0 where
  pub done : r.returned.answer ≡ 0
  pub same_state : r.returned.state ≡ state
  pub same_array : r.returned.chip.array ≡ d.array
  pub same_history : r.returned.chip.history ≡ d.history
  pub bytes_are : r.buffer ≡ bytes
  pub still_sized : sized_for s r.returned.chip ≡ true
  pub still_ready : r.returned.chip.interface.phase ≤ 2

-- a read of a page that has a copy, however it ends: answer and state are told by the fate word and the allowance
pub record Ends (s : Setting) (d : Device) (n : ℕ) (state : State) (r : ReadResult) : Type 0 where
  pub answer_is : r.returned.answer ≡ answer_for (read_end s (call_line d n) s.geometry.main).outcome
  pub state_is : r.returned.state ≡ state_for (read_end s (call_line d n) s.geometry.main).outcome state
  pub same_array : r.returned.chip.array ≡ d.array
  pub same_history : r.returned.chip.history ≡ d.history
  pub legal : r.returned.chip.interface.illegal ≡ 0

-- a read passes if its fate word has fewer than 256 busy reads and the allowance covers the longest read
pub read_passes : (s : Setting) (l : Line) (n : ℕ) → busy_of (word_for s l.chip) < 256 → 6 + 2 + 256 + 1 + n ≤ l.left → (read_end s l n).outcome ≡ Passed
unfolding read_end
read_passes s l n b h =
    let t = lt-ltb (busy_of (word_for s l.chip)) 256 b in
    let few : read_total s l.chip n ≤ l.left = rw t (omega (arith, b, h)) in
    rw (le-ltb l.left (read_total s l.chip n) few, t)

-- a current copy is picked among the blocks of the chip
abbrev copy_test : Geometry → List ℕ → ℕ → ℕ → ℕ → Bool
copy_test g array table logical b =
    cond (unlisted g array table b) (is_copy_of g logical (block_in g array b)) false

copy_picked : (g : Geometry) (array : List ℕ) (table logical : ℕ) → Picked (copy_test g array table logical) (number_at g array) g.blocks (current_copy g array table logical)
unfolding current_copy
copy_picked g array table logical = pick_is (copy_test g array table logical) (number_at g array) g.blocks

module _ (s : Setting) (d : Device) (n : ℕ) (state : State) (logical page : ℕ) (buffer : List ℕ) (a : Accepted s.geometry (sized_for s d) state logical page (length buffer)) where
  abbrev entry : ℕ
  entry = get_or state.map logical 0

  abbrev form : ℕ
  form = get_or state.kinds logical 0

  unrefused : 0 ≡ refusal_of s d state logical page buffer
  unrefused = sym (accepted s.geometry (sized_for s d) state logical page (length buffer) a)

  pub no_copy : entry ≡ none → reading_page s d n state logical page buffer ≡ read_result (result_with 0 state d 0) (replicate s.geometry.main 255)
  unfolding result_of copy_request
  no_copy z =
      sym (goes_on s d n state logical page buffer 0 unrefused refl entry form refl refl) ∙ rw (eq-eqb entry none z)

  pub one_copy : (entry ≡ none → ⊥) → reading_page s d n state logical page buffer ≡ reading_block s d n state entry form page buffer
  unfolding result_of copy_request
  one_copy x =
      sym (goes_on s d n state logical page buffer 0 unrefused refl entry form refl refl) ∙ rw (ne_eqb entry none x)

  module _ (ready : d.interface.phase ≤ 2) where
    abbrev start : Line
    start = call_line d n

    abbrev row : ℕ → ℕ
    row b = row_of s.geometry b page

    called : Called s start
    called =
        let z = sizes s.geometry (length d.array) (length d.register) (length d.history) (length s.mask) a.sizes_fit in
        record {
          is_valid = z.chip_fits.is_valid;
          array_long = z.chip_fits.array_long;
          register_long = z.chip_fits.register_long;
          history_long = z.chip_fits.history_long;
          mask_long = z.mask_long;
          ready = ready;
          legal = refl;
          uncut = refl;
        }

    can_read : (b : ℕ) → b < s.geometry.blocks → CanRead s start (row b) 0 s.geometry.main
    can_read b h =
        let v = called.is_valid in
        record {
          called = called;
          row_below = row_below s.geometry v b page h a.page_below;
          column_below = omega (arith, v.main_least);
          within = omega arith;
        }

    module _ (b : ℕ) (below : b < s.geometry.blocks) where
      end_is : end_of_read s start (row b) 0 s.geometry.main ≡ read_end s start s.geometry.main
      end_is = operation.read_ends s start (row b) 0 s.geometry.main (can_read b below)

      outcome_is : (page_progress s d n b page).outcome ≡ (read_end s start s.geometry.main).outcome
      unfolding end_of_read
      outcome_is = page_outcome s d n b page ∙ ap (λ (e : End). e.outcome) end_is

      array_is : (page_progress s d n b page).line.chip.array ≡ d.array
      unfolding end_of_read read_end
      array_is = ap (λ (x : Line). x.chip.array) (page_line_fact s d n b page) ∙ ap (λ (e : End). e.array) end_is

      history_is : (page_progress s d n b page).line.chip.history ≡ d.history
      unfolding end_of_read read_end
      history_is = ap (λ (x : Line). x.chip.history) (page_line_fact s d n b page) ∙ ap (λ (e : End). e.history) end_is

      block_ends : Ends s d n state (reading_block s d n state b form page buffer)
      unfolding reading_block
      block_ends =
          record {
            answer_is = ap answer_for outcome_is;
            state_is = ap (λ (o : Outcome). state_for o state) outcome_is;
            same_array = array_is;
            same_history = history_is;
            legal = ap (λ (x : Line). x.chip.interface.illegal) (page_line_fact s d n b page) ∙ operation.read_legal s start (row b) 0 s.geometry.main (can_read b below);
          }

      module _ (p : is_passed (read_end s start s.geometry.main).outcome ≡ true) where
        after : Called s (page_progress s d n b page).line
        after =
            subst (Called s) (sym (page_line_fact s d n b page)) (operation.read_next s start (row b) 0 s.geometry.main (can_read b below) p)

        sized_after : sized_for s (page_progress s d n b page).line.chip ≡ true
        sized_after =
            ap (λ (x : List ℕ). sized s.geometry (length x) (length (page_progress s d n b page).line.chip.register) (length (page_progress s d n b page).line.chip.history) (length s.mask)) array_is
            ∙ ap (λ (x : List ℕ). sized s.geometry (length d.array) (length (page_progress s d n b page).line.chip.register) (length x) (length s.mask)) history_is
            ∙ ap (λ (k : ℕ). sized s.geometry (length d.array) k (length d.history) (length s.mask)) (after.register_long ∙ sym called.register_long)
            ∙ a.sizes_fit

        -- the bytes put out are the main bytes of the page
        main_bytes : read_outputs s start (row b) 0 s.geometry.main ≡ main_in s.geometry (block_in s.geometry d.array b) page
        main_bytes =
            operation.read_bytes s start (row b) 0 s.geometry.main (can_read b below) p
            ∙ sym (take-take s.geometry.main (page_size s.geometry) (drop (row b * page_size s.geometry + 0) d.array) (omega arith))
            ∙ ap (take s.geometry.main) (row_is_page s.geometry called.is_valid d.array b page a.page_below)

        passed_so : is_passed (read_outcome s start (row b) 0 s.geometry.main) ≡ true
        passed_so = ap is_passed (sym (page_outcome s d n b page) ∙ outcome_is) ∙ p

        pub block_gives : Gives s d state (formed form page (main_in s.geometry (block_in s.geometry d.array b) page)) (reading_block s d n state b form page buffer)
        unfolding reading_block fetched
        block_gives =
            record {
              done = rw (ap is_passed outcome_is ∙ p);
              same_state = rw (ap is_passed outcome_is ∙ p);
              same_array = array_is;
              same_history = history_is;
              bytes_are = rw passed_so (ap (formed form page) main_bytes);
              still_sized = sized_after;
              still_ready = after.ready;
            }

    -- a read with a copy, whatever the fate words and the allowance
    pub request_ends : (entry ≡ none → ⊥) → Ends s d n state (reading_page s d n state logical page buffer)
    request_ends x =
        subst (Ends s d n state) (sym (one_copy x)) (block_ends entry (block_below s d n state logical page buffer 0 unrefused refl entry form refl refl x))

    -- no cycle is answered illegal, so the answer is 0, 10 or 11
    pub read_legal : (entry ≡ none → ⊥)
        → ((reading_page s d n state logical page buffer).returned.answer ≡ 0) ⊎ (((reading_page s d n state logical page buffer).returned.answer ≡ 10) ⊎ ((reading_page s d n state logical page buffer).returned.answer ≡ 11))
    unfolding read_end is_passed is_silent is_cut_off stop_answer
    read_legal x =
        let e = (request_ends x).answer_is in
        cases (ltb n (read_total s start.chip s.geometry.main))
        (λ t. inr (inr (e ∙ rw t)))
        (λ t. cases (ltb (busy_of (word_for s start.chip)) 256) (λ u. inl (e ∙ rw (t, u))) (λ u. inr (inl (e ∙ rw (t, u)))))

    -- the reading of a logical page, under a map and kinds as a mount leaves them
    module _ (table : ℕ) (map_is : state.map ≡ map_in s.geometry d.array table) (kinds_is : state.kinds ≡ kinds_of s.geometry d.array table) (p : (read_end s start s.geometry.main).outcome ≡ Passed) where
      valid_geometry : Valid s.geometry
      valid_geometry = called.is_valid

      entry_is : entry ≡ entry_of (current_copy s.geometry d.array table logical)
      unfolding map_in
      entry_is =
          ap (λ (x : List ℕ). get_or x logical 0) map_is
          ∙ get_d_tabulate _ 4096 logical (in_map s d n state logical page buffer 0 unrefused refl)
          ∙ rw (lt-ltb logical s.geometry.logical a.logical_below)

      form_is : form ≡ kind_at s.geometry d.array (current_copy s.geometry d.array table logical)
      unfolding kinds_of
      form_is =
          ap (λ (x : List ℕ). get_or x logical 0) kinds_is
          ∙ get_d_tabulate _ 4096 logical (in_map s d n state logical page buffer 0 unrefused refl)
          ∙ rw (lt-ltb logical s.geometry.logical a.logical_below)

      passes : is_passed (read_end s start s.geometry.main).outcome ≡ true
      unfolding is_passed
      passes = ap is_passed p

      of_pick : (o : Pick) → ((b : ℕ) → o ≡ at b → b < s.geometry.blocks) → entry ≡ entry_of o → form ≡ kind_at s.geometry d.array o → Gives s d state (page_of s.geometry d.array page o) (reading_page s d n state logical page buffer)
      unfolding entry_of page_of kind_at
      of_pick nothing below e f =
          subst (Gives s d state (replicate s.geometry.main 255)) (sym (no_copy e))
          (record {
            done = refl;
            same_state = refl;
            same_array = refl;
            same_history = refl;
            bytes_are = refl;
            still_sized = a.sizes_fit;
            still_ready = ready;
          })
      of_pick (at b) below e f =
          let h = below b refl in
          let full : entry ≡ none → ⊥ = λ z. omega (arith, e, z, h, valid_geometry.blocks_most) in
          subst (λ (k : ℕ). Gives s d state (formed k page (main_in s.geometry (block_in s.geometry d.array b) page)) (reading_page s d n state logical page buffer)) f
          (subst (Gives s d state (formed form page (main_in s.geometry (block_in s.geometry d.array b) page)))
          (sym (one_copy full ∙ ap (λ (x : ℕ). reading_block s d n state x form page buffer) e))
          (block_gives b h passes))

      picked_below : (o : Pick) → Picked (copy_test s.geometry d.array table logical) (number_at s.geometry d.array) s.geometry.blocks o → (b : ℕ) → o ≡ at b → b < s.geometry.blocks
      picked_below o k b e = (subst (Picked (copy_test s.geometry d.array table logical) (number_at s.geometry d.array) s.geometry.blocks) e k).below

      pub read_gives : Gives s d state (reading s.geometry d.array table logical page) (reading_page s d n state logical page buffer)
      read_gives =
          of_pick (current_copy s.geometry d.array table logical)
          (picked_below (current_copy s.geometry d.array table logical) (copy_picked s.geometry d.array table logical))
          entry_is
          form_is

-- the buffer changes only with the answer 0, whatever is handed in
pub read_keeps : (s : Setting) (d : Device) (n : ℕ) (state : State) (logical page : ℕ) (buffer : List ℕ) → ((reading_page s d n state logical page buffer).returned.answer ≡ 0 → ⊥)
    → (reading_page s d n state logical page buffer).buffer ≡ buffer
unfolding result_of read_request copy_request reading_block fetched
read_keeps s d n state logical page buffer x =
    cases (eqb (refusal_of s d state logical page buffer) 0)
    (λ t. cases (eqb (get_or state.map logical 0) none)
    (λ z. absurd (x (rw (t, z))))
    (λ z. cases (is_passed (read_outcome s (call_line d n) (row_of s.geometry (get_or state.map logical 0) page) 0 s.geometry.main))
    (λ p. absurd (x (rw (t, z, page_outcome s d n (get_or state.map logical 0) page, p))))
    (λ p. rw (t, z, p))))
    (λ t. rw t)
