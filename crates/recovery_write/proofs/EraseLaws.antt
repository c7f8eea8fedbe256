-- The erase with which a data fill or a table fill begins: the fill stands at its first page, another block is tried, or
-- the request stops. Assumes nothing.
use Prim.Native.Nat.{ℕ, ◌<◌}
use mathlib.Core.Bool.{Bool, true, false}
use mathlib.Core.List.{List}
use mathlib.Core.Path.{◌≡◌}
use native.Mathlib.Omega.{arith}
use Rattle.geometry.specs.declared.Geometry.{Geometry}
use Rattle.geometry.specs.Sizes.{chip_size}
use Rattle.cells.specs.Bytes.{Bytes}
use Rattle.chip_array.specs.Device.{Setting}
use Rattle.bus.specs.Line.{Line}
use Rattle.bus_polling.specs.Outcomes.{is_passed, is_failed}
use Rattle.bus_polling.proofs.OutcomeLaws.{passed_answered, failed_unpassed}
use Rattle.operations.specs.Ends.{Called}
use Rattle.pages.specs.Layout.{data_kind}
use Rattle.state_choose.specs.Choose.{permitted}
use Rattle.state.specs.State.{blank, next_number, number_end, taken, with_invalid, held_bits}
use Rattle.state.specs.declared.State.{State}
use Rattle.request.specs.Call.{stop_answer}
use Rattle.request.proofs.CallLaws.{stop_least}
use Rattle.progress.specs.Progress.{Progress}
use Rattle.progress.specs.Steps.{resumed, erase_on}
use Rattle.fill.specs.Fill.{copy, copy_page, table_copy, table_main, table_source}
use Rattle.fill_tables.specs.Tables.{tabled}
use Rattle.damage.specs.Run.{Meant}
use Rattle.write_changes.specs.Changes.{Update, stopped_at, update_source}
use Rattle.recovery.specs.Book.{Book, Change, entered}
use Rattle.fill_paused.specs.Paused.{Paused}
use Rattle.fill_paused.proofs.ErasedLaws as erases
use Rattle.recovery_write.specs.Changed.{Agrees, MarkedBy, Proper, update_of, Changed}
use Rattle.recovery_write.proofs.LongLaws.{Long, long_kept}
use Rattle.recovery_write.proofs.TryLaws as tries
use Rattle.recovery_write.proofs.DataLaws as phase
use Rattle.recovery_write.proofs.TableLaws as tables

module _ (s : Setting) (mask_bytes : Bytes s.mask) (first : Line) (called : Called s first) (st₀ : State) (c : Change) (book : Book) (marked₀ failed₀ : ℕ → Bool)
    (marks₀ : MarkedBy s.geometry first.chip.array marked₀) (agrees : Agrees s.geometry first.chip.array st₀ book failed₀) (proper : Proper s.geometry c) where
  abbrev g : Geometry
  g = s.geometry

  abbrev u : Update
  u = update_of st₀ c

  -- of a data fill
  module _ (st : State) (failed : Bool) (p : Progress) (m : phase.Mid s mask_bytes first called st₀ c book marked₀ failed₀ marks₀ agrees proper st failed p) (number_fits : next_number st < number_end)
      (b : ℕ) (below : b < g.blocks) (may : permitted st.marked st.invalid (held_bits st₀ g.logical) b ≡ true) where
    abbrev erased : Progress
    erased = erase_on s b p

    abbrev pages : ℕ → List ℕ
    pages i = copy_page g (copy data_kind u.logical (next_number st)) i (entered g c book u.logical i)

    p_called : Called s p.line
    p_called = m.sound.called (passed_answered p.outcome m.passed)

    meant : Meant s p.line.chip.array b (copy data_kind u.logical (next_number st)) (update_source g st u) pages
    meant = phase.meant s mask_bytes first called st₀ c book marked₀ failed₀ marks₀ agrees proper st failed p m number_fits b below may

    -- it passed: the fill stands at page 0
    pub data_begins : is_passed erased.outcome ≡ true → Paused g p.line.chip.array p.started b pages 0 erased.line.chip erased.started
    data_begins = erases.paused_first s p b below (copy data_kind u.logical (next_number st)) (update_source g st u) pages meant mask_bytes m.high m.passed p_called

    -- and the chip takes the next command
    pub data_begins_called : is_passed erased.outcome ≡ true → Called s erased.line
    data_begins_called = erases.erased_called s p b below (copy data_kind u.logical (next_number st)) (update_source g st u) pages meant mask_bytes m.high m.passed p_called

    erased_long : Long (chip_size g) erased
    erased_long = (long_kept s (chip_size g)).erase b p m.long

    try : is_passed erased.outcome ≡ false → tries.Tried s p erased st₀.table b pages
    try f =
        phase.tried_so s mask_bytes first called st₀ c book marked₀ failed₀ marks₀ agrees proper st failed p m number_fits b below may erased
        (erases.unerased_leaves s p b below (copy data_kind u.logical (next_number st)) (update_source g st u) pages meant mask_bytes m.high m.passed p_called f)
        (erases.unerased_touches s p b below (copy data_kind u.logical (next_number st)) (update_source g st u) pages meant mask_bytes m.high m.passed p_called f)

    -- it failed: the block is invalid, and another is tried
    pub data_erase_failed : is_failed erased.outcome ≡ true → phase.Mid s mask_bytes first called st₀ c book marked₀ failed₀ marks₀ agrees proper (with_invalid b (taken st)) true (resumed erased)
    data_erase_failed w = phase.data_failed s mask_bytes first called st₀ c book marked₀ failed₀ marks₀ agrees proper st failed p m number_fits b below may erased (try (failed_unpassed erased.outcome w)) erased_long w

    -- it was silent or cut
    pub data_erase_stopped : is_passed erased.outcome ≡ false → is_failed erased.outcome ≡ false → phase.Ends s mask_bytes first called st₀ c book marked₀ failed₀ marks₀ agrees proper (stopped_at erased)
    data_erase_stopped y f = phase.data_stopped s mask_bytes first called st₀ c book marked₀ failed₀ marks₀ agrees proper st failed p m number_fits b below may erased (try y) erased_long y f

  -- of a table fill, after a data fill that passed
  module _ (st₁ : State) (f₁ : Bool) (p₁ : Progress) (d : phase.Done s mask_bytes first called st₀ c book marked₀ failed₀ marks₀ agrees proper st₁ f₁ p₁)
      (st : State) (p : Progress) (m : tables.Mid s mask_bytes first called st₀ c book marked₀ failed₀ marks₀ agrees proper st₁ f₁ p₁ d st p) (number_fits : next_number st < number_end)
      (b : ℕ) (below : b < g.blocks) (may : permitted st.marked st.invalid (held_bits st₁ g.logical) b ≡ true) where
    abbrev table-erased : Progress
    table-erased = erase_on s b p

    abbrev table_pages_fact : ℕ → List ℕ
    table_pages_fact i = copy_page g (table_copy (next_number st)) i (table_main g st.invalid i)

    table_called : Called s p.line
    table_called = m.sound.called (passed_answered p.outcome m.passed)

    table_meant : Meant s p.line.chip.array b (table_copy (next_number st)) (table_source g st.invalid) table_pages_fact
    table_meant = tables.meant s mask_bytes first called st₀ c book marked₀ failed₀ marks₀ agrees proper st₁ f₁ p₁ d st p m number_fits b below may

    -- it passed: the fill stands at page 0
    pub table_begins : is_passed table-erased.outcome ≡ true → Paused g p.line.chip.array p.started b table_pages_fact 0 table-erased.line.chip table-erased.started
    table_begins = erases.paused_first s p b below (table_copy (next_number st)) (table_source g st.invalid) table_pages_fact table_meant mask_bytes m.high m.passed table_called

    -- and the chip takes the next command
    pub table_begins_called : is_passed table-erased.outcome ≡ true → Called s table-erased.line
    table_begins_called = erases.erased_called s p b below (table_copy (next_number st)) (table_source g st.invalid) table_pages_fact table_meant mask_bytes m.high m.passed table_called

    table_long : Long (chip_size g) table-erased
    table_long = (long_kept s (chip_size g)).erase b p m.long

    table_try : is_passed table-erased.outcome ≡ false → tries.Tried s p table-erased m.table b table_pages_fact
    table_try f =
        tables.tried_so s mask_bytes first called st₀ c book marked₀ failed₀ marks₀ agrees proper st₁ f₁ p₁ d st p m number_fits b below may table-erased
        (erases.unerased_leaves s p b below (table_copy (next_number st)) (table_source g st.invalid) table_pages_fact table_meant mask_bytes m.high m.passed table_called f)
        (erases.unerased_touches s p b below (table_copy (next_number st)) (table_source g st.invalid) table_pages_fact table_meant mask_bytes m.high m.passed table_called f)

    -- it failed: the block is invalid, and another is tried
    pub table_erase_failed : is_failed table-erased.outcome ≡ true → tables.Mid s mask_bytes first called st₀ c book marked₀ failed₀ marks₀ agrees proper st₁ f₁ p₁ d (with_invalid b (taken st)) (resumed table-erased)
    table_erase_failed w = tables.table_failed s mask_bytes first called st₀ c book marked₀ failed₀ marks₀ agrees proper st₁ f₁ p₁ d st p m number_fits b below may table-erased (table_try (failed_unpassed table-erased.outcome w)) table_long w

    -- it was silent or cut
    pub table_erase_stopped : is_passed table-erased.outcome ≡ false → is_failed table-erased.outcome ≡ false → Changed s c book marked₀ failed₀ (tabled table-erased (stop_answer table-erased.outcome) (blank 2))
    table_erase_stopped y f =
        tables.halted_changed s c book marked₀ failed₀ (stop_answer table-erased.outcome) table-erased (omega (arith, stop_least table-erased.outcome))
        (tables.table_stopped s mask_bytes first called st₀ c book marked₀ failed₀ marks₀ agrees proper st₁ f₁ p₁ d st p m number_fits b below may table-erased (table_try y) table_long y f)
