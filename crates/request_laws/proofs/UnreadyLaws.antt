-- Reads of a chip that is not ready, when the answer 255 comes, and what every read keeps. Assumes nothing.
use Prim.Native.Nat.{ℕ, suc, ◌-◌, ◌≤◌, ◌<◌}
use mathlib.Core.Bool.{false, cond}
use mathlib.Core.List.{List, [], ◌∷◌}
use mathlib.Core.Logic.{◌↔◌}
use mathlib.Core.Path.{◌≡◌, refl, sym, ap, subst, ◌∙◌}
use native.Mathlib.Omega.{arith}
use borrow.Table.Steps.{cases}
use borrow.Author.Tests.{lt-leb, leb-true, leb-false, eqb-true, eqb-false}
use lib.Dec.{eqb, leb}
use lib.ListN.{length, get_or, replicate}
use Rattle.geometry.specs.Sizes.{row_of}
use Rattle.chip_interface.specs.Interface.{plain_command, read_mode}
use Rattle.chip_array.specs.Device.{Device, Setting, illegal_cycle}
use Rattle.chip.specs.Chip.{Cycle, exec, commanded, is_confirm}
use Rattle.chip.specs.Chip.Cycle.{command}
use Rattle.bus.specs.Line.{Line, admits, send, send_all, sent, goes_on, uncut_line, cut_line}
use Rattle.bus.proofs.LineLaws.{admits_more, admits-none, send_one, send_none, send_all_stopped}
use Rattle.bus_polling.specs.Outcomes.{is_passed, is_silent, is_cut_off}
use Rattle.bus_polling.specs.Polling.{outcome_of}
use Rattle.bus_sequences.specs.Cycles.{read_cycles, page_line, read_outcome}
use Rattle.operations.proofs.UnreadyLaws.{sent-stopped}
use Rattle.progress.specs.Progress.{read_on}
use Rattle.state.specs.State.{none}
use Rattle.state.specs.declared.State.{State}
use Rattle.request.specs.Call.{result_with, sized_for, call_line, stop_answer}
use Rattle.request_refusals.proofs.RefusalLaws.{Accepted, by_refusal}
use Rattle.read_page.specs.Fetching.{ReadResult, read_result, fetched, page_progress, reading_block}
use Rattle.read_page.proofs.PageLaws.{page_line_fact, page_outcome}
use Rattle.read.specs.Reading.{reading_page}
use Rattle.read.proofs.ReadingLaws.{no_copy, one_copy, request_ends}
use Rattle.read.proofs.RefusalLaws.{read_refuses_geometry, read_refuses_unmounted, read_refuses_logical, read_refuses_page, read_refuses_length}
use Rattle.request_laws.specs.Reads.{ReadAnswer, is_done, is_geometry, is_address, is_length, is_unmounted, is_silent_fact, is_cut}
use Rattle.request_laws.specs.Unready.{Unready, entry_at, StoppedRead, UnreadyRead, RefusedRead, AnyReadAnswer, of_ready, is_refused, ReadKeeps}
use Rattle.request_laws.proofs.PageReadLaws.{read_answers}

-- the answers of a chip that is ready
answer_below : (k : ℕ) → ReadAnswer k → k < 255
answer_below k is_done = omega arith
answer_below k is_geometry = omega arith
answer_below k is_address = omega arith
answer_below k is_length = omega arith
answer_below k is_unmounted = omega arith
answer_below k is_silent_fact = omega arith
answer_below k is_cut = omega arith

-- 00h on a chip that is not ready
unready_refuses : (s : Setting) (d : Device) → Unready d → exec s d (command 0) ≡ illegal_cycle d
unfolding exec commanded is_confirm plain_command read_mode
unready_refuses s d h = rw (lt-leb d.interface.phase 2 h)

-- a read whose first cycle stops the bus
module _ (s : Setting) (l stop : Line) (first : send s l (command 0) ≡ stop) (stops : goes_on stop ≡ false) (row column n : ℕ) where
  all_stops : (cs : List Cycle) → send_all s l (command 0 ∷ cs) ≡ stop
  unfolding send_all
  all_stops cs = rw first (send_all_stopped s stop cs stops)

  line_stops : send_all s l (read_cycles s l row column n) ≡ stop
  unfolding read_cycles
  line_stops = all_stops _

  outcome_stops : is_passed (outcome_of stop) ≡ false → read_outcome s l row column n ≡ outcome_of stop
  unfolding read_outcome
  outcome_stops f =
      let page : page_line s l row column ≡ stop = all_stops _ in
      rw (page, f)

  sent_one : (cs : List Cycle) → sent s l (command 0 ∷ cs) ≡ cond (admits l) (command 0 ∷ []) []
  unfolding sent
  sent_one cs =
      ap (λ (x : Line). cond (admits l) (command 0 ∷ sent s x cs) []) first
      ∙ ap (λ (xs : List Cycle). cond (admits l) (command 0 ∷ xs) []) (sent-stopped s stop cs stops)

  sent_first : sent s l (read_cycles s l row column n) ≡ cond (admits l) (command 0 ∷ []) []
  unfolding read_cycles
  sent_first = sent_one _

-- a page's read that stops so
module _ (s : Setting) (d : Device) (n block page : ℕ) (stop : Line) (first : send s (call_line d n) (command 0) ≡ stop) (stops : goes_on stop ≡ false) (f : is_passed (outcome_of stop) ≡ false) where
  abbrev row : ℕ
  row = row_of s.geometry block page

  page_stops : (page_progress s d n block page).line ≡ stop
  page_stops = page_line_fact s d n block page ∙ line_stops s (call_line d n) stop first stops row 0 s.geometry.main

  read_stops : read_outcome s (call_line d n) row 0 s.geometry.main ≡ outcome_of stop
  read_stops = outcome_stops s (call_line d n) stop first stops row 0 s.geometry.main f

  page_ends : (page_progress s d n block page).outcome ≡ outcome_of stop
  page_ends = page_outcome s d n block page ∙ read_stops

  page_sends : (page_progress s d n block page).cycles ≡ cond (admits (call_line d n)) (command 0 ∷ []) []
  unfolding read_on is_passed
  page_sends = sent_first s (call_line d n) stop first stops row 0 s.geometry.main

  module _ (state : State) (form : ℕ) (buffer : List ℕ) (answer : ℕ) (cycles : List Cycle) (answered : stop_answer (outcome_of stop) ≡ answer) (traced : cond (admits (call_line d n)) (command 0 ∷ []) [] ≡ cycles)
      (counted : n - stop.left ≡ length cycles) (a : stop.chip.array ≡ d.array) (r : stop.chip.register ≡ d.register) (h : stop.chip.history ≡ d.history) where
    block_stops : StoppedRead s d n block page buffer answer cycles (reading_block s d n state block form page buffer)
    unfolding reading_block fetched
    block_stops =
        record {
          answer_is = rw (page_ends, f) answered;
          state_is = rw (page_ends, f);
          cycles_are = page_sends ∙ traced;
          sent_is = ap (λ (x : Line). n - x.left) page_stops ∙ counted;
          same_array = ap (λ (x : Line). x.chip.array) page_stops ∙ a;
          same_register = ap (λ (x : Line). x.chip.register) page_stops ∙ r;
          same_history = ap (λ (x : Line). x.chip.history) page_stops ∙ h;
          same_buffer = rw (read_stops, f);
        }

-- no cycle allowed: cut before the first, whatever the chip; one or more: 00h is sent and refused where the chip is not ready
module _ (s : Setting) (d : Device) (block page : ℕ) (state : State) (form : ℕ) (buffer : List ℕ) where
  block_cut : StoppedRead s d 0 block page buffer 11 [] (reading_block s d 0 state block form page buffer)
  unfolding outcome_of is_passed is_silent is_cut_off stop_answer goes_on
  block_cut =
      let l = call_line d 0 in
      block_stops s d 0 block page (cut_line l.chip) (send_none s l.chip (command 0) refl) refl refl state form buffer 11 []
      refl (rw (admits-none l (record { uncut = refl; legal = refl }) refl)) refl refl refl refl

  block_refused : (m : ℕ) → Unready d → StoppedRead s d (suc m) block page buffer 255 (command 0 ∷ []) (reading_block s d (suc m) state block form page buffer)
  unfolding outcome_of is_passed is_silent is_cut_off stop_answer goes_on
  block_refused m h =
      let l = call_line d (suc m) in
      block_stops s d (suc m) block page (uncut_line (illegal_cycle l.chip) m)
      (send_one s l.chip m (command 0) refl ∙ ap (λ (x : Device). uncut_line x m) (unready_refuses s l.chip h))
      refl refl state form buffer 255 (command 0 ∷ [])
      refl (rw (admits_more l (record { uncut = refl; legal = refl }) (omega arith))) (omega arith) refl refl refl

module _ (s : Setting) (d : Device) (state : State) (logical page : ℕ) (buffer : List ℕ) where
  -- an accepted read with a copy
  module _ (n : ℕ) (a : Accepted s.geometry (sized_for s d) state logical page (length buffer)) (x : entry_at state logical ≡ none → ⊥) where
    abbrev stops_as : ℕ → List Cycle → ReadResult → Type 0
    stops_as answer cycles r = StoppedRead s d n (entry_at state logical) page buffer answer cycles r

    pub read_cut_first : n ≡ 0 → stops_as 11 [] (reading_page s d n state logical page buffer)
    read_cut_first z =
        subst (stops_as 11 []) (sym (one_copy s d n state logical page buffer a x))
        (subst (λ (k : ℕ). StoppedRead s d k (entry_at state logical) page buffer 11 [] (reading_block s d k state (entry_at state logical) (get_or state.kinds logical 0) page buffer)) (sym z)
        (block_cut s d (entry_at state logical) page state (get_or state.kinds logical 0) buffer))

    pub read_refused_first : 1 ≤ n → Unready d → stops_as 255 (command 0 ∷ []) (reading_page s d n state logical page buffer)
    read_refused_first h u =
        let e : suc (n - 1) ≡ n = omega arith in
        subst (stops_as 255 (command 0 ∷ [])) (sym (one_copy s d n state logical page buffer a x))
        (subst (λ (k : ℕ). StoppedRead s d k (entry_at state logical) page buffer 255 (command 0 ∷ []) (reading_block s d k state (entry_at state logical) (get_or state.kinds logical 0) page buffer)) e
        (block_refused s d (entry_at state logical) page state (get_or state.kinds logical 0) buffer (n - 1) u))

  module _ (n : ℕ) where
    abbrev r : ReadResult
    r = reading_page s d n state logical page buffer

    pub read_unready : Accepted s.geometry (sized_for s d) state logical page (length buffer) → Unready d → UnreadyRead s d n state logical page buffer r
    read_unready a u =
        record {
          without_copy = no_copy s d n state logical page buffer a;
          cut_first = λ x. read_cut_first n a x;
          refused_first = λ x h. read_refused_first n a x h u;
        }

    -- every read: refused, without a copy, of a chip that is ready, cut before its first cycle, or refused at it
    by_read : (P : ReadResult → Type 0) → ((k : ℕ) → ReadAnswer k → P (read_result (result_with k state d 0) buffer)) → P (read_result (result_with 0 state d 0) (replicate s.geometry.main 255))
        → (Accepted s.geometry (sized_for s d) state logical page (length buffer) → (entry_at state logical ≡ none → ⊥) → d.interface.phase ≤ 2 → P r)
        → (n ≡ 0 → StoppedRead s d n (entry_at state logical) page buffer 11 [] r → P r)
        → (RefusedRead s d n state logical page buffer → StoppedRead s d n (entry_at state logical) page buffer 255 (command 0 ∷ []) r → P r) → P r
    by_read P refused without ready cut unready =
        by_refusal s.geometry (sized_for s d) state logical page (length buffer) (λ k. P r)
        (λ f. subst P (sym (read_refuses_geometry s d n state logical page buffer f)) (refused 1 is_geometry))
        (λ t f. subst P (sym (read_refuses_unmounted s d n state logical page buffer t f)) (refused 7 is_unmounted))
        (λ t m h. subst P (sym (read_refuses_logical s d n state logical page buffer t m h)) (refused 2 is_address))
        (λ t m l h. subst P (sym (read_refuses_page s d n state logical page buffer t m l h)) (refused 2 is_address))
        (λ t m l h x. subst P (sym (read_refuses_length s d n state logical page buffer t m l h x)) (refused 3 is_length))
        (λ a. cases (eqb (entry_at state logical) none)
        (λ e. subst P (sym (no_copy s d n state logical page buffer a (eqb-true (entry_at state logical) none e))) without)
        (λ e.
        let x = eqb-false (entry_at state logical) none e in
        cases (leb d.interface.phase 2) (λ t. ready a x (leb-true d.interface.phase 2 t))
        (λ f.
        let u : Unready d = leb-false d.interface.phase 2 f in
        cases (eqb n 0)
        (λ z. cut (eqb-true n 0 z) (read_cut_first n a x (eqb-true n 0 z)))
        (λ z.
        let h : 1 ≤ n = omega (arith, eqb-false n 0 z) in
        unready (record { is_accepted = a; has_copy_fact = x; is_allowed = omega arith; is_unready = u }) (read_refused_first n a x h u)))))

    -- array and history are as they were, however the read is answered
    pub read_array_kept : ReadKeeps d r
    read_array_kept =
        by_read (ReadKeeps d)
        (λ k a. record { same_array = refl; same_history = refl })
        (record { same_array = refl; same_history = refl })
        (λ a x h.
        let e = request_ends s d n state logical page buffer a h x in
        record { same_array = e.same_array; same_history = e.same_history })
        (λ z e. record { same_array = e.same_array; same_history = e.same_history })
        (λ u e. record { same_array = e.same_array; same_history = e.same_history })

    -- no other answer comes, on any chip
    pub read_answers_any : AnyReadAnswer r.returned.answer
    read_answers_any =
        by_read (λ y. AnyReadAnswer y.returned.answer)
        (λ k a. of_ready a)
        (of_ready is_done)
        (λ a x h. of_ready (read_answers s d n state logical page buffer h))
        (λ z e. subst AnyReadAnswer (sym e.answer_is) (of_ready is_cut))
        (λ u e. subst AnyReadAnswer (sym e.answer_is) is_refused)

    -- 255 comes exactly where the first cycle is sent to a chip that is not ready
    only_255 : r.returned.answer ≡ 255 → RefusedRead s d n state logical page buffer
    only_255 =
        by_read (λ y. y.returned.answer ≡ 255 → RefusedRead s d n state logical page buffer)
        (λ k a z. absurd (omega (arith, z, answer_below k a)))
        (λ z. absurd (omega (arith, z)))
        (λ a x h z. absurd (omega (arith, z, answer_below r.returned.answer (read_answers s d n state logical page buffer h))))
        (λ y e z. absurd (omega (arith, z, e.answer_is)))
        (λ u e z. u)

    pub read_255 : (r.returned.answer ≡ 255) ↔ RefusedRead s d n state logical page buffer
    read_255 =
        (only_255, λ u. (read_refused_first n u.is_accepted u.has_copy_fact u.is_allowed u.is_unready).answer_is)
