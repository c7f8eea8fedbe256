-- A data fill that goes on in another call, with another mask and other fate words: how it ends. Assumes nothing.
use Prim.Native.Nat.{ℕ, suc, ◌<◌}
use mathlib.Core.Bool.{Bool, true, false}
use mathlib.Core.List.{List}
use mathlib.Core.Path.{◌≡◌, refl}
use native.Mathlib.Omega.{arith}
use lib.ListN.{length}
use Rattle.geometry.specs.declared.Geometry.{Geometry}
use Rattle.geometry.specs.Sizes.{chip_size}
use Rattle.cells.specs.Bytes.{Bytes}
use Rattle.chip_array.specs.Device.{Setting}
use Rattle.chip.specs.Chip.{Cycle}
use Rattle.bus.specs.Line.{Line}
use Rattle.bus_polling.specs.Outcomes.{is_passed, is_failed, is_silent, is_cut_off}
use Rattle.bus_polling.specs.declared.Outcome.TheVariants.{Passed, Cut}
use Rattle.bus_polling.proofs.OutcomeLaws.{passed_answered}
use Rattle.operations.specs.Ends.{Called}
use Rattle.operations.specs.Trace.{ArrayOperation}
use Rattle.pages.specs.Layout.{data_kind}
use Rattle.state_choose.specs.Choose.{permitted}
use Rattle.state.specs.State.{next_number, number_end, taken, with_invalid, with_copy, held_bits}
use Rattle.state.specs.declared.State.{State}
use Rattle.request.specs.Call.{stop_answer}
use Rattle.progress.specs.Progress.{Progress, progress}
use Rattle.progress.specs.Steps.{resumed}
use Rattle.fill.specs.Fill.{copy, copy_page, page_filled}
use Rattle.fill.proofs.KeepLaws.{page_keeps}
use Rattle.damage.specs.Run.{Meant}
use Rattle.write_changes.specs.Changes.{Update, stopped_at, update_source}
use Rattle.recovery.specs.Book.{Book, Change, entered}
use Rattle.fill_paused.specs.Paused.{Paused}
use Rattle.fill_paused.proofs.PausedLaws as paused
use Rattle.recovery_write.specs.Changed.{Agrees, MarkedBy, Proper, update_of}
use Rattle.recovery_write.proofs.HoldingLaws.{standing, standing_sound}
use Rattle.recovery_write.proofs.LongLaws.{Long, long_kept}
use Rattle.recovery_write.proofs.TryLaws as tries
use Rattle.recovery_write.proofs.DataLaws as phase

module _ (s : Setting) (mask_bytes : Bytes s.mask) (first : Line) (first_called : Called s first) (st₀ : State) (c : Change) (book : Book) (marked₀ failed₀ : ℕ → Bool)
    (marks₀ : MarkedBy s.geometry first.chip.array marked₀) (agrees : Agrees s.geometry first.chip.array st₀ book failed₀) (proper : Proper s.geometry c)
    (l : Line) (called : Called s l) (high : l.chip.interface.protected ≡ 0) where
  abbrev g : Geometry
  g = s.geometry

  abbrev u : Update
  u = update_of st₀ c

  -- the fill of block b began on array A, when the state was st
  module _ (st : State) (failed : Bool) (number_fits : next_number st < number_end) (A : List ℕ) (long_A : length A ≡ chip_size g) (before : List ArrayOperation)
      (state_is : st ≡ phase.moved s mask_bytes first first_called st₀ c book marked₀ failed₀ marks₀ agrees proper st.number st.invalid)
      (rest : phase.Rest s mask_bytes first first_called st₀ c book marked₀ failed₀ marks₀ agrees proper (next_number st) st.invalid A before)
      (clean : failed ≡ false → st.invalid ≡ st₀.invalid)
      (b : ℕ) (below : b < g.blocks) (may : permitted st.marked st.invalid (held_bits st₀ g.logical) b ≡ true) where
    abbrev from : Progress
    from = standing l A before

    mid : phase.Mid s mask_bytes first first_called st₀ c book marked₀ failed₀ marks₀ agrees proper st failed from
    unfolding is_passed
    mid = record { state_is = state_is; passed = refl; sound = standing_sound s l called A long_A before; long = long_A; high = high; rest = rest; clean = clean }

    abbrev main : ℕ → List ℕ
    main = entered g c book u.logical

    abbrev pages : ℕ → List ℕ
    pages i = copy_page g (copy data_kind u.logical (next_number st)) i (main i)

    pub meant : Meant s A b (copy data_kind u.logical (next_number st)) (update_source g st u) pages
    meant = phase.meant s mask_bytes first first_called st₀ c book marked₀ failed₀ marks₀ agrees proper st failed from mid number_fits b below may

    -- it stands at page n, and no cycle is left: what the chip shows
    pub paused_halted : (n : ℕ) (started : List ArrayOperation) → Paused g A before b pages n l.chip started → (cs : List Cycle) → l.left ≡ 0 → phase.Halted s c book marked₀ failed₀ 11 (progress l Cut cs started)
    unfolding is_passed is_failed is_silent is_cut_off stop_answer
    paused_halted n started w cs out =
        (phase.data_stopped s mask_bytes first first_called st₀ c book marked₀ failed₀ marks₀ agrees proper st failed from mid number_fits b below may (progress l Cut cs started)
        (phase.tried_so s mask_bytes first first_called st₀ c book marked₀ failed₀ marks₀ agrees proper st failed from mid number_fits b below may (progress l Cut cs started)
        (paused.cut_leaves s l called high A before b below pages n started w _ _ meant mask_bytes cs out)
        (paused.cut_touches s l called high A before b below pages n started w _ _ meant mask_bytes cs out))
        called.array_long refl refl).halted (λ z. omega (arith, z))

    -- it stands at page n, and that page is filled
    module _ (n : ℕ) (page_below : n < g.pages) (started : List ArrayOperation) (w : Paused g A before b pages n l.chip started) (cs : List Cycle) where
      abbrev next : Progress
      next = page_filled s b (copy data_kind u.logical (next_number st)) n (update_source g st u n) (progress l Passed cs started)

      next_long : Long (chip_size g) next
      next_long = page_keeps s (Long (chip_size g)) (long_kept s (chip_size g)) b _ n _ (progress l Passed cs started) called.array_long

      -- it passed, and another page is due: paused again, for a call with any other setting
      pub pauses : is_passed next.outcome ≡ true → Paused g A before b pages (suc n) next.line.chip next.started
      pauses = paused.paused_next s l called high A before b below pages n started w _ _ meant mask_bytes cs page_below

      -- and the chip takes the next command
      pub page_called : is_passed next.outcome ≡ true → Called s next.line
      page_called y = (paused.leaves_next s l called high A before b below pages n started w _ _ meant mask_bytes cs page_below).sound.called (passed_answered next.outcome y)

      module _ (last : is_passed next.outcome ≡ true → suc n ≡ g.pages) where
        try : tries.Tried s from next st₀.table b pages
        try = phase.tried_so s mask_bytes first first_called st₀ c book marked₀ failed₀ marks₀ agrees proper st failed from mid number_fits b below may next
            (paused.ended_leaves s l called high A before b below pages n started w _ _ meant mask_bytes cs page_below last)
            (paused.ended_touches s l called high A before b below pages n started w _ _ meant mask_bytes cs page_below)

        pub page_done : is_passed next.outcome ≡ true → phase.Done s mask_bytes first first_called st₀ c book marked₀ failed₀ marks₀ agrees proper (with_copy data_kind u.logical b (taken st)) failed next
        page_done = phase.data_done s mask_bytes first first_called st₀ c book marked₀ failed₀ marks₀ agrees proper st failed from mid number_fits b below may next try next_long

        pub page_failed : is_failed next.outcome ≡ true → phase.Mid s mask_bytes first first_called st₀ c book marked₀ failed₀ marks₀ agrees proper (with_invalid b (taken st)) true (resumed next)
        page_failed = phase.data_failed s mask_bytes first first_called st₀ c book marked₀ failed₀ marks₀ agrees proper st failed from mid number_fits b below may next try next_long

        pub page-stopped : is_passed next.outcome ≡ false → is_failed next.outcome ≡ false → phase.Ends s mask_bytes first first_called st₀ c book marked₀ failed₀ marks₀ agrees proper (stopped_at next)
        page-stopped = phase.data_stopped s mask_bytes first first_called st₀ c book marked₀ failed₀ marks₀ agrees proper st failed from mid number_fits b below may next try next_long
