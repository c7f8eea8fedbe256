-- The cycles that a read sends, counted. Assumes nothing.
use Prim.Native.Nat.{ℕ, zero, suc, ◌+◌, ◌≤◌}
use mathlib.Core.List.{List, [], ◌∷◌, ◌++◌}
use mathlib.Core.Path.{◌≡◌, refl, ap, ◌∙◌}
use native.Mathlib.Omega.{arith}
use borrow.Table.Steps.{cases}
use lib.Dec.{eqb}
use lib.ListN.{length, get_or, replicate, length-append, length-replicate}
use Rattle.geometry.specs.Sizes.{row_of}
use Rattle.chip_array.specs.Device.{Device, Setting}
use Rattle.chip.specs.Chip.{Cycle, exec}
use Rattle.chip.specs.Chip.Cycle.{command, data_out, status}
use Rattle.bus.specs.Line.{Line, admits, send, send_all, sent}
use Rattle.bus.proofs.LineLaws.{sent_counts}
use Rattle.bus_polling.specs.Outcomes.{is_passed}
use Rattle.bus_polling.specs.Polling.{outcome_of, waiting, polls}
use Rattle.bus_polling.specs.declared.Outcome.TheVariants.{Passed}
use Rattle.bus_sequences.specs.Cycles.{read_address, confirm_cycles, page_line, read_cycles}
use Rattle.progress.specs.Progress.{progress}
use Rattle.progress.proofs.CountLaws.{allowance_kept}
use Rattle.state.specs.State.{none}
use Rattle.state.specs.declared.State.{State}
use Rattle.request.specs.Call.{sized_for, call_line, result_of}
use Rattle.request_refusals.specs.Refusals.{refusal_of}
use Rattle.read_page.specs.Fetching.{ReadResult, page_progress, reading_block}
use Rattle.read.specs.Reading.{copy_request, read_request, reading_page}
use Rattle.read_page.proofs.PageLaws.{page_line_fact}
use Rattle.read.proofs.ReadingLaws.{no_copy, one_copy}
use Rattle.request_refusals.proofs.RefusalLaws.{Accepted}

-- no more cycles are sent than the list has
sent-most : (s : Setting) (l : Line) (cs : List Cycle) → length (sent s l cs) ≤ length cs
unfolding sent
sent-most s l [] = omega arith
sent-most s l (c ∷ cs) =
    cases (admits l) (λ t. rw t (omega (arith, sent-most s (send s l c) cs))) (λ t. rw t (omega arith))

polls-most : (s : Setting) (n : ℕ) (d : Device) → polls s n d ≤ n
unfolding polls
polls-most s zero d = omega arith
polls-most s (suc n) d =
    cases (waiting (exec s d status)) (λ t. rw t (omega (arith, polls-most s n (exec s d status)))) (λ t. rw t (omega arith))

-- 00h and five address bytes, 30h and 70h, status reads, 00h, data
read_most_lem : (s : Setting) (l : Line) (row column n : ℕ) → length (read_cycles s l row column n) ≤ 6 + 2 + 256 + 1 + n
unfolding read_cycles
read_most_lem s l row column n =
    let first = read_address row column ++ confirm_cycles 48 in
    let polled = polls s 256 (send_all s l first).chip in
    let begun : length (first ++ replicate polled status) ≤ 6 + 2 + 256 =
    omega (arith, length-append first (replicate polled status), length-replicate polled status, polls-most s 256 (send_all s l first).chip) in
    cases (is_passed (outcome_of (page_line s l row column)))
    (λ t. rw t (omega (arith, length-append (first ++ replicate polled status) (command 0 ∷ replicate n data_out), length-replicate n data_out, begun)))
    (λ t. rw t (omega (arith, length-append (first ++ replicate polled status) [], begun)))

module _ (s : Setting) (d : Device) (n : ℕ) (state : State) where
  block_sent : (block form page : ℕ) (buffer : List ℕ) → (reading_block s d n state block form page buffer).returned.sent ≡ length (page_progress s d n block page).cycles
  unfolding reading_block
  block_sent block form page buffer =
      omega (arith, (allowance_kept s _).read (row_of s.geometry block page) 0 s.geometry.main (progress (call_line d n) Passed [] []) refl)

  block_most_fact : (block form page : ℕ) (buffer : List ℕ) → (reading_block s d n state block form page buffer).returned.sent ≤ 6 + 2 + 256 + 1 + s.geometry.main
  unfolding reading_block
  block_most_fact block form page buffer =
      let cs = read_cycles s (call_line d n) (row_of s.geometry block page) 0 s.geometry.main in
      omega (
        arith,
        ap (λ (x : Line). x.left) (page_line_fact s d n block page),
        sent_counts s (call_line d n) cs,
        sent-most s (call_line d n) cs,
        read_most_lem s (call_line d n) (row_of s.geometry block page) 0 s.geometry.main,
      )

  module _ (logical page : ℕ) (buffer : List ℕ) where
    -- as many as the trace of the page's read has, and none where there is no copy
    pub read_sent : Accepted s.geometry (sized_for s d) state logical page (length buffer) → (get_or state.map logical 0 ≡ none → ⊥)
        → (reading_page s d n state logical page buffer).returned.sent ≡ length (page_progress s d n (get_or state.map logical 0) page).cycles
    read_sent a x =
        ap (λ (r : ReadResult). r.returned.sent) (one_copy s d n state logical page buffer a x)
        ∙ block_sent (get_or state.map logical 0) (get_or state.kinds logical 0) page buffer

    pub read_sent_none : Accepted s.geometry (sized_for s d) state logical page (length buffer) → get_or state.map logical 0 ≡ none
        → (reading_page s d n state logical page buffer).returned.sent ≡ 0
    read_sent_none a z = ap (λ (r : ReadResult). r.returned.sent) (no_copy s d n state logical page buffer a z)

    -- never more, whatever is handed in
    pub read_sent_most : (reading_page s d n state logical page buffer).returned.sent ≤ 6 + 2 + 256 + 1 + s.geometry.main
    unfolding result_of read_request copy_request
    read_sent_most =
        cases (eqb (refusal_of s d state logical page buffer) 0)
        (λ t. cases (eqb (get_or state.map logical 0) none)
        (λ z. rw (t, z) (omega arith))
        (λ z. rw (t, z) (block_most_fact (get_or state.map logical 0) (get_or state.kinds logical 0) page buffer)))
        (λ t. rw t (omega arith))
