-- A table fill that goes on in another call, with another mask and other fate words: how it ends. Assumes nothing.
use Prim.Native.Nat.{ℕ, suc, ◌<◌}
use mathlib.Core.Bool.{Bool, true, false}
use mathlib.Core.List.{List}
use mathlib.Core.Path.{◌≡◌, refl}
use native.Mathlib.Omega.{arith}
use lib.ListN.{length}
use Rattle.geometry.specs.declared.Geometry.{Geometry}
use Rattle.geometry.specs.Sizes.{chip_size}
use Rattle.cells.specs.Bytes.{Bytes}
use Rattle.chip_array.specs.Device.{Setting}
use Rattle.chip.specs.Chip.{Cycle}
use Rattle.bus.specs.Line.{Line}
use Rattle.bus_polling.specs.Outcomes.{is_passed, is_failed, is_silent, is_cut_off}
use Rattle.bus_polling.specs.declared.Outcome.TheVariants.{Passed, Cut}
use Rattle.bus_polling.proofs.OutcomeLaws.{passed_answered}
use Rattle.operations.specs.Ends.{Called}
use Rattle.operations.specs.Trace.{ArrayOperation}
use Rattle.state_choose.specs.Choose.{permitted}
use Rattle.state.specs.State.{blank, next_number, number_end, taken, with_invalid, with_table, held_bits}
use Rattle.state.specs.declared.State.{State}
use Rattle.request.specs.Call.{stop_answer}
use Rattle.request.proofs.CallLaws.{stop_least}
use Rattle.progress.specs.Progress.{Progress, progress}
use Rattle.progress.specs.Steps.{resumed}
use Rattle.fill.specs.Fill.{copy_page, table_copy, table_main, table_source, page_filled}
use Rattle.fill.proofs.KeepLaws.{page_keeps}
use Rattle.fill_tables.specs.Tables.{tabled}
use Rattle.damage.specs.Run.{Meant}
use Rattle.recovery.specs.Book.{Book, Change}
use Rattle.fill_paused.specs.Paused.{Paused}
use Rattle.fill_paused.proofs.PausedLaws as paused
use Rattle.recovery_write.specs.Changed.{Agrees, MarkedBy, Proper, Changed}
use Rattle.recovery_write.proofs.HoldingLaws.{standing, standing_sound}
use Rattle.recovery_write.proofs.LongLaws.{Long, long_kept}
use Rattle.recovery_write.proofs.TryLaws as tries
use Rattle.recovery_write.proofs.DataLaws as phase
use Rattle.recovery_write.proofs.TableLaws as tables

module _ (s : Setting) (mask_bytes : Bytes s.mask) (first : Line) (first_called : Called s first) (st₀ : State) (c : Change) (book : Book) (marked₀ failed₀ : ℕ → Bool)
    (marks₀ : MarkedBy s.geometry first.chip.array marked₀) (agrees : Agrees s.geometry first.chip.array st₀ book failed₀) (proper : Proper s.geometry c)
    (l : Line) (called : Called s l) (high : l.chip.interface.protected ≡ 0) where
  abbrev g : Geometry
  g = s.geometry

  -- the data fill had passed at p₁, when the state was st₁; the table fill of block b began on array A, when it was st
  module _ (st₁ : State) (f₁ : Bool) (p₁ : Progress) (d : phase.Done s mask_bytes first first_called st₀ c book marked₀ failed₀ marks₀ agrees proper st₁ f₁ p₁)
      (st : State) (number_fits : next_number st < number_end) (A : List ℕ) (long_A : length A ≡ chip_size g) (before : List ArrayOperation)
      (state_is : st ≡ tables.moved s mask_bytes first first_called st₀ c book marked₀ failed₀ marks₀ agrees proper st₁ f₁ p₁ d st.number st.invalid)
      (table : ℕ) (rest : tables.Rest s mask_bytes first first_called st₀ c book marked₀ failed₀ marks₀ agrees proper st₁ f₁ p₁ d (next_number st) st.invalid table A before)
      (b : ℕ) (below : b < g.blocks) (may : permitted st.marked st.invalid (held_bits st₁ g.logical) b ≡ true) where
    abbrev from : Progress
    from = standing l A before

    mid : tables.Mid s mask_bytes first first_called st₀ c book marked₀ failed₀ marks₀ agrees proper st₁ f₁ p₁ d st from
    unfolding is_passed
    mid = record { state_is = state_is; passed = refl; sound = standing_sound s l called A long_A before; long = long_A; high = high; table = table; rest = rest }

    abbrev pages : ℕ → List ℕ
    pages i = copy_page g (table_copy (next_number st)) i (table_main g st.invalid i)

    meant : Meant s A b (table_copy (next_number st)) (table_source g st.invalid) pages
    meant = tables.meant s mask_bytes first first_called st₀ c book marked₀ failed₀ marks₀ agrees proper st₁ f₁ p₁ d st from mid number_fits b below may

    -- it stands at page n, and no cycle is left: what the chip shows
    pub paused_halted : (n : ℕ) (started : List ArrayOperation) → Paused g A before b pages n l.chip started → (cs : List Cycle) → l.left ≡ 0 → phase.Halted s c book marked₀ failed₀ 11 (progress l Cut cs started)
    unfolding is_passed is_failed is_silent is_cut_off stop_answer
    paused_halted n started w cs out =
        tables.table_stopped s mask_bytes first first_called st₀ c book marked₀ failed₀ marks₀ agrees proper st₁ f₁ p₁ d st from mid number_fits b below may (progress l Cut cs started)
        (tables.tried_so s mask_bytes first first_called st₀ c book marked₀ failed₀ marks₀ agrees proper st₁ f₁ p₁ d st from mid number_fits b below may (progress l Cut cs started)
        (paused.cut_leaves s l called high A before b below pages n started w (table_copy (next_number st)) (table_source g st.invalid) meant mask_bytes cs out)
        (paused.cut_touches s l called high A before b below pages n started w (table_copy (next_number st)) (table_source g st.invalid) meant mask_bytes cs out))
        called.array_long refl refl

    -- it stands at page n, and that page is filled
    module _ (n : ℕ) (page_below : n < g.pages) (started : List ArrayOperation) (w : Paused g A before b pages n l.chip started) (cs : List Cycle) where
      abbrev next : Progress
      next = page_filled s b (table_copy (next_number st)) n (table_source g st.invalid n) (progress l Passed cs started)

      next_long : Long (chip_size g) next
      next_long = page_keeps s (Long (chip_size g)) (long_kept s (chip_size g)) b _ n _ (progress l Passed cs started) called.array_long

      -- it passed, and another page is due: paused again, for a call with any other setting
      pub pauses : is_passed next.outcome ≡ true → Paused g A before b pages (suc n) next.line.chip next.started
      pauses = paused.paused_next s l called high A before b below pages n started w (table_copy (next_number st)) (table_source g st.invalid) meant mask_bytes cs page_below

      -- and the chip takes the next command
      pub page_called : is_passed next.outcome ≡ true → Called s next.line
      page_called y = (paused.leaves_next s l called high A before b below pages n started w (table_copy (next_number st)) (table_source g st.invalid) meant mask_bytes cs page_below).sound.called (passed_answered next.outcome y)

      module _ (last : is_passed next.outcome ≡ true → suc n ≡ g.pages) where
        try : tries.Tried s from next mid.table b pages
        try = tables.tried_so s mask_bytes first first_called st₀ c book marked₀ failed₀ marks₀ agrees proper st₁ f₁ p₁ d st from mid number_fits b below may next
            (paused.ended_leaves s l called high A before b below pages n started w (table_copy (next_number st)) (table_source g st.invalid) meant mask_bytes cs page_below last)
            (paused.ended_touches s l called high A before b below pages n started w (table_copy (next_number st)) (table_source g st.invalid) meant mask_bytes cs page_below)

        -- it was the last and passed: acknowledged
        pub page_done : is_passed next.outcome ≡ true → Changed s c book marked₀ failed₀ (tabled next 0 (with_table b (taken st)))
        page_done = tables.table_changed s mask_bytes first first_called st₀ c book marked₀ failed₀ marks₀ agrees proper st₁ f₁ p₁ d st from mid number_fits b below may next try next_long

        -- it failed: the block is invalid, and another is tried
        pub page_failed : is_failed next.outcome ≡ true → tables.Mid s mask_bytes first first_called st₀ c book marked₀ failed₀ marks₀ agrees proper st₁ f₁ p₁ d (with_invalid b (taken st)) (resumed next)
        page_failed = tables.table_failed s mask_bytes first first_called st₀ c book marked₀ failed₀ marks₀ agrees proper st₁ f₁ p₁ d st from mid number_fits b below may next try next_long

        -- it was silent or cut
        pub page-stopped : is_passed next.outcome ≡ false → is_failed next.outcome ≡ false → Changed s c book marked₀ failed₀ (tabled next (stop_answer next.outcome) (blank 2))
        page-stopped y f =
            tables.halted_changed s c book marked₀ failed₀ (stop_answer next.outcome) next (omega (arith, stop_least next.outcome))
            (tables.table_stopped s mask_bytes first first_called st₀ c book marked₀ failed₀ marks₀ agrees proper st₁ f₁ p₁ d st from mid number_fits b below may next try next_long y f)
