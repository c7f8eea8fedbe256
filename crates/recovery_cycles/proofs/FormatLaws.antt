-- Every operation of a formatting is a read, or of a block of the chip, and is the one that its confirm cycle started. Assumes
-- nothing.
use Prim.Native.Nat.{ℕ, zero, suc, ◌<◌, ◌≤◌, max}
use mathlib.Core.Bool.{Bool, true}
use mathlib.Core.List.{List, [], ◌∷◌, ◌++◌}
use mathlib.Core.Logic.{inl, inr}
use mathlib.Core.Path.{◌≡◌, sym}
use native.Mathlib.Nat.{le_refl}
use native.Mathlib.Omega.{arith}
use borrow.Table.Steps.{cases}
use borrow.Author.Tests.{eqb-true, ltb-true}
use lib.Dec.{eqb, ltb}
use lib.ListN.{length}
use Rattle.std.specs.Prelude.{Option, Some, None}
use Rattle.geometry.specs.Limits.{Valid}
use Rattle.geometry.specs.Sizes.{page_size, row_of}
use Rattle.geometry.proofs.SizeLaws.{block_of_row}
use Rattle.chip_interface.specs.Interface.{program_confirm, erase_confirm}
use Rattle.cells.specs.Bytes.{Bytes}
use Rattle.chip_array.specs.Device.{Device, Setting}
use Rattle.chip.specs.Chip.Cycle.{command}
use Rattle.bus.specs.Line.{Line, send_all, goes_on}
use Rattle.bus_sequences.specs.Cycles.{program_data, erase_address}
use Rattle.bus_polling.specs.Outcomes.{is_passed, is_failed}
use Rattle.bus_polling.specs.declared.Outcome.{Outcome}
use Rattle.bus_polling.specs.declared.Outcome.TheVariants.{Passed}
use Rattle.operations.specs.Trace.{ArrayOperation, started_by, read_starts, program_starts, erase_starts}
use Rattle.progress.specs.Progress.{Progress, progress, read_on, reset_on, status_on}
use Rattle.progress.specs.Steps.{erase_on, program_on, resumed}
use Rattle.bitmaps.specs.Bitmap.{bit_at}
use Rattle.state_choose.specs.Choose.{next_block, search_after, chosen}
use Rattle.state_choose.proofs.ChooseLaws.{next_below}
use Rattle.state.specs.State.{next_number, numbers_left, taken, with_invalid, held_bits}
use Rattle.state.specs.declared.State.{State}
use Rattle.format_scan.specs.Survey.{surveyed, union_to, passed_over}
use Rattle.format_scan.specs.declared.Survey.{Survey}
use Rattle.request.specs.Call.{sized_for, call_line}
use Rattle.request.proofs.CallLaws.{sizes, answer_passed}
use Rattle.scan_block.specs.Pages.{pages_read}
use Rattle.fill.specs.Fill.{Copy, Source, given, kept, main_read, page_filled, pages_filled, filled, table_copy, table_source}
use Rattle.fill_tables.specs.Tables.{Tabled, after_fill, try_block, try_table, tables_filled, after_status}
use Rattle.scan_summary.specs.declared.Depth.TheVariants.{Full}
use Rattle.scan.specs.Scan.{blocks_read}
use Rattle.scan.proofs.KeepLaws.{blocks_reads}
use Rattle.format_erase.specs.Round.{after_erase, block_erased, erased_to}
use Rattle.format.specs.Format.{first_state, too_few, tables_from, after_late, late_run, tables_run, round_run, reads_run, format_run, status_run}
use Rattle.format_laws.proofs.FormattingLaws.{format_ends}
use Rattle.damage.specs.Run.{failed_in}
use Rattle.damage.specs.Touched.{Each}
use Rattle.damage.proofs.EachLaws.{each_append, each_map}
use Rattle.damage.proofs.TouchLaws.{reads_only}
use Rattle.recovery_cycles.specs.Starts.{starts_in, failed_read, OnChip, TracesEach}
use Rattle.recovery_cycles.proofs.TraceLaws.{format_traced}
use Rattle.recovery_cycles.proofs.CycleLaws.{failed_traced, traces_each}

-- a choice of a block of the chip
abbrev Below : ℕ → Option ℕ → Type 0
Below blocks None = Unit {0}
Below blocks (Some b) = b < blocks

search_below : (test : ℕ → Bool) (blocks n b : ℕ) → b < blocks → Below blocks (search_after test blocks n b)
unfolding search_after
search_below test blocks zero b h = tt
search_below test blocks (suc n) b h =
    cases (test (next_block blocks b)) (λ t. rw t (next_below blocks b h)) (λ f. rw f (search_below test blocks n (next_block blocks b) (next_below blocks b h)))

after_last : (blocks b : ℕ) (o : Outcome) (st : State) → b < blocks → st.last < blocks → (after_fill b o st).last < blocks
unfolding after_fill
after_last blocks b o st h l =
    cases (is_passed o) (λ t. rw t h) (λ t. cases (is_failed o) (λ f. rw (t, f) l) (λ f. rw (t, f) l))

module _ (s : Setting) (v : Valid s.geometry) where
  -- a request all of whose operations so far are such
  abbrev Stays : Progress → Type 0
  Stays p = Each (OnChip s.geometry) p.started

  abbrev append-stays : (p : Progress) (os : List ArrayOperation) → Stays p → Each (OnChip s.geometry) os → Each (OnChip s.geometry) (p.started ++ os)
  append-stays p os = each_append (OnChip s.geometry) p.started os

  read_stays : (row column n : ℕ) (p : Progress) → Stays p → Stays (read_on s row column n p)
  unfolding read_on
  read_stays row column n p h =
      cases (is_passed p.outcome)
      (λ t. rw t (append-stays p (read_starts s p.line row column) h (each_map (λ o. o.kind ≡ 1) (OnChip s.geometry) (λ o e. inl e) (read_starts s p.line row column) (reads_only s p.line row column))))
      (λ t. rw t h)

  reset_stays : (p : Progress) → Stays p → Stays (reset_on s p)
  unfolding reset_on
  reset_stays p h = cases (is_passed p.outcome) (λ t. rw t h) (λ t. rw t h)

  pages_stay : (block n : ℕ) (p : Progress) → Stays p → Stays (pages_read s block n p)
  unfolding pages_read
  pages_stay block zero p h = h
  pages_stay block (suc n) p h =
      read_stays (row_of s.geometry block n) 0 (page_size s.geometry) (pages_read s block n p) (pages_stay block n p h)

  blocks_stay : (n : ℕ) (p : Progress) → Stays p → Stays (blocks_read Full s n p)
  blocks_stay = blocks_reads Full s Stays read_stays

  -- erases and programs of a block of the chip
  module _ (block : ℕ) (below : block < s.geometry.blocks) where
    erase_starts_lem : (l : Line) → Each (OnChip s.geometry) (erase_starts s l (row_of s.geometry block 0))
    unfolding started_by Each
    erase_starts_lem l =
        cases (goes_on (send_all s l (erase_address (row_of s.geometry block 0) ++ (command erase_confirm ∷ []))))
        (λ t. rw t (inr (rw (block_of_row s.geometry v block 0 (omega (arith, v))) below), tt))
        (λ t. rw t tt)

    program_starts_lem : (page : ℕ) → page < s.geometry.pages → (bytes : List ℕ) (l : Line) → Each (OnChip s.geometry) (program_starts s l (row_of s.geometry block page) bytes)
    unfolding started_by Each
    program_starts_lem page h bytes l =
        cases (goes_on (send_all s l (program_data (row_of s.geometry block page) bytes ++ (command program_confirm ∷ []))))
        (λ t. rw t (inr (rw (block_of_row s.geometry v block page h) below), tt))
        (λ t. rw t tt)

    erase_stays : (p : Progress) → Stays p → Stays (erase_on s block p)
    unfolding erase_on
    erase_stays p h =
        cases (is_passed p.outcome) (λ t. rw t (append-stays p (erase_starts s p.line (row_of s.geometry block 0)) h (erase_starts_lem p.line))) (λ t. rw t h)

    program_stays : (page : ℕ) → page < s.geometry.pages → (bytes : List ℕ) (p : Progress) → Stays p → Stays (program_on s block page bytes p)
    unfolding program_on
    program_stays page k bytes p h =
        cases (is_passed p.outcome) (λ t. rw t (append-stays p (program_starts s p.line (row_of s.geometry block page) bytes) h (program_starts_lem page k bytes p.line))) (λ t. rw t h)

    main_stays : (n : ℕ) (source : Source) (p : Progress) → Stays p → Stays (main_read s n source p)
    unfolding main_read
    main_stays n (given main) p h = h
    main_stays n (kept old form) p h = read_stays (row_of s.geometry old n) 0 s.geometry.main p h

    fill_stays : (c : Copy) (source : ℕ → Source) (n : ℕ) → n ≤ s.geometry.pages → (p : Progress) → Stays p → Stays (pages_filled s block c source n p)
    unfolding pages_filled page_filled
    fill_stays c source zero k p h = h
    fill_stays c source (suc n) k p h =
        program_stays n (omega arith) _ (main_read s n (source n) (pages_filled s block c source n p))
        (main_stays n (source n) (pages_filled s block c source n p) (fill_stays c source n (omega arith) p h))

    filled_stays : (c : Copy) (source : ℕ → Source) (p : Progress) → Stays p → Stays (filled s block c source p)
    filled_stays c source p h = fill_stays c source s.geometry.pages (le_refl s.geometry.pages) (erase_on s block p) (erase_stays p h)

    block_stays : (marked : List ℕ) (p : Progress) → Stays p → Stays (block_erased s marked block p)
    unfolding block_erased after_erase
    block_stays marked p h =
        let q = erase_on s block p in
        cases (is_passed p.outcome)
        (λ t. cases (bit_at marked block) (λ u. rw (t, u) h)
        (λ u. cases (is_failed q.outcome) (λ f. rw (t, u, f) (pages_stay block s.geometry.pages (resumed q) (erase_stays p h))) (λ f. rw (t, u, f) (erase_stays p h))))
        (λ t. rw t h)

  round_stays : (marked : List ℕ) (n : ℕ) → n ≤ s.geometry.blocks → (p : Progress) → Stays p → Stays (erased_to s marked n p).progress
  unfolding erased_to
  round_stays marked zero k p h = h
  round_stays marked (suc n) k p h =
      block_stays n (omega arith) marked (erased_to s marked n p).progress (round_stays marked n (omega arith) p h)

  -- table fills
  choice_stays : (st : State) → st.last < s.geometry.blocks → (p : Progress) (c : Option ℕ) → Below s.geometry.blocks c → Stays p → Stays (try_block s st p c).progress × ((try_block s st p c).state.last < s.geometry.blocks)
  unfolding try_block
  choice_stays st l p None k h = (h, l)
  choice_stays st l p (Some b) k h =
      (filled_stays b k (table_copy (next_number st)) (table_source s.geometry st.invalid) p h, after_last s.geometry.blocks b _ (taken st) k l)

  try_stays : (held : List ℕ) (st : State) → st.last < s.geometry.blocks → (p : Progress) → Stays p → Stays (try_table s held st p).progress × ((try_table s held st p).state.last < s.geometry.blocks)
  unfolding try_table
  try_stays held st l p h = choice_stays st l p (chosen st.marked st.invalid held s.geometry.blocks st.last) (search_below _ _ _ _ l) h

  tables_stay : (held : List ℕ) (n : ℕ) (st : State) → st.last < s.geometry.blocks → (p : Progress) → Stays p → Stays (tables_filled s held n st p).progress
  unfolding tables_filled
  tables_stay held zero st l p h = h
  tables_stay held (suc n) st l p h =
      let t = try_table s held st p in
      let here = try_stays held st l p h in
      cases (eqb t.worn 0)
      (λ w. cases (is_failed t.progress.outcome) (λ f. rw (w, f) (tables_stay held n t.state here.1 (resumed t.progress) here.0)) (λ f. rw (w, f) here.0))
      (λ w. rw w here.0)

  -- where one passed the search for the next block starts on the chip
  tables_last : (held : List ℕ) (n : ℕ) (st : State) → st.last < s.geometry.blocks → (p : Progress) → Stays p → (tables_filled s held n st p).answer ≡ 0 → (tables_filled s held n st p).state.last < s.geometry.blocks
  unfolding tables_filled
  tables_last held zero st l p h z = absurd (omega (arith, z))
  tables_last held (suc n) st l p h z =
      let t = try_table s held st p in
      let here = try_stays held st l p h in
      cases (eqb t.worn 0)
      (λ w.
      cases (is_failed t.progress.outcome)
      (λ f. rw (w, f) (tables_last held n t.state here.1 (resumed t.progress) here.0 (rw (w, f) at z)))
      (λ f. rw (w, f, answer_passed t.progress.outcome (rw (w, f) at z)) here.1))
      (λ w. absurd (omega (arith, rw w at z)))

  -- the erase of the old table's block
  late_stays : (old : ℕ) → old < s.geometry.blocks → (st : State) → st.last < s.geometry.blocks → (p : Progress) → Stays p → Stays (after_late s old st (erase_on s old p)).progress
  unfolding after_late
  late_stays old k st l p h =
      let e = erase_on s old p in
      let here = erase_stays old k p h in
      cases (is_passed e.outcome) (λ t. rw t here)
      (λ t.
      cases (is_failed e.outcome)
      (λ f. rw (t, f) (tables_stay (held_bits (with_invalid old st) s.geometry.logical) (numbers_left (with_invalid old st)) (with_invalid old st) l (resumed e) here))
      (λ f. rw (t, f) here))

  late_run_stays : (old : ℕ) (t : Tabled) → Stays t.progress → (t.answer ≡ 0 → t.state.last < s.geometry.blocks) → Stays (late_run s old t).progress
  unfolding late_run
  late_run_stays old t h l =
      cases (eqb t.answer 0)
      (λ z.
      cases (ltb old s.geometry.blocks)
      (λ k. rw (z, k) (late_stays old (ltb-true old s.geometry.blocks k) t.state (l (eqb-true t.answer 0 z)) t.progress h))
      (λ k. rw (z, k) h))
      (λ z. rw z h)

  tables_run_stays : (marked invalid : List ℕ) (greatest old : ℕ) (p : Progress) → Stays p → Stays (tables_run s marked invalid greatest old p).progress
  unfolding tables_run first_state
  tables_run_stays marked invalid greatest old p h =
      let st = first_state s.geometry marked invalid greatest old in
      let held = held_bits st s.geometry.logical in
      cases (too_few s.geometry marked invalid) (λ t. rw t h)
      (λ t.
      rw t
      (late_run_stays old (tables_from s st p) (tables_stay held (numbers_left st) st (omega (arith, v)) p h)
      (tables_last held (numbers_left st) st (omega (arith, v)) p h)))

  round_run_stays : (w : Survey) (p : Progress) → Stays p → Stays (round_run s w p).progress
  unfolding round_run
  round_run_stays w p h =
      let r = erased_to s (passed_over s.geometry w) s.geometry.blocks p in
      let here = round_stays (passed_over s.geometry w) s.geometry.blocks (le_refl s.geometry.blocks) p h in
      cases (is_passed r.progress.outcome)
      (λ t. rw t (tables_run_stays w.marked (union_to w.carried r.invalid s.geometry.blocks) (max w.greatest r.numbers.greatest) w.old r.progress here))
      (λ t. rw t here)

  status_stays : (p : Progress) → Stays p → Stays (status_on s p)
  unfolding status_on
  status_stays p h = cases (is_passed p.outcome) (λ t. rw t h) (λ t. rw t h)

  status_run_stays : (state : State) (w : Survey) (p : Progress) → Stays p → Stays (status_run s state w p).progress
  unfolding status_run after_status
  status_run_stays state w p h =
      let q = status_on s p in
      let here = status_stays p h in
      cases (is_passed q.outcome) (λ t. rw t (round_run_stays w q here)) (λ t. rw t here)

  reads_run_stays : (state : State) (p : Progress) → Stays p → Stays (reads_run s state p).progress
  unfolding reads_run
  reads_run_stays state p h =
      let q = blocks_read Full s s.geometry.blocks p in
      let here = blocks_stay s.geometry.blocks p h in
      cases (is_passed q.outcome) (λ t. rw t (status_run_stays state (surveyed s.geometry q.line.chip.array) q here)) (λ t. rw t here)

  pub format_on_chip : (d : Device) (n : ℕ) (state : State) → Each (OnChip s.geometry) (format_run s d n state).progress.started
  unfolding Each
  format_on_chip d n state = reads_run_stays state (reset_on s (progress (call_line d n) Passed [] [])) (reset_stays (progress (call_line d n) Passed [] []) tt)

  -- the blocks that fail in it are those for which it reads E1h
  pub format_fails : (d : Device) (n : ℕ) (state : State) (b : ℕ) → failed_in b (format_run s d n state).progress.started ≡ failed_read s.geometry b (starts_in s (call_line d n).chip (format_run s d n state).progress.cycles)
  format_fails d n state b =
      sym (failed_traced s.geometry (starts_in s (call_line d n).chip (format_run s d n state).progress.cycles) (format_run s d n state).progress.started (format_traced s d n state) (format_on_chip d n state) b)

-- each 10h and each D0h cycle of a formatting has its operation in the trace
pub format_traces : (s : Setting) (d : Device) (n : ℕ) (state : State) → Bytes s.mask → Bytes d.array → sized_for s d ≡ true → TracesEach s (call_line d n).chip (format_run s d n state).progress.cycles (format_run s d n state).progress.started
format_traces s d n state mask_bytes array_bytes t =
    traces_each s (call_line d n).chip (format_run s d n state).progress.cycles (format_run s d n state).progress.started (format_traced s d n state)
    (format_ends s d n mask_bytes array_bytes t state).replayed.each_legal
    (format_on_chip s (sizes s.geometry (length d.array) (length d.register) (length d.history) (length s.mask) t).chip_fits.is_valid d n state)
