-- One table fill of a permitted block: what it leaves and what its operations find. Assumes nothing.
use Prim.Native.Nat.{ℕ, ◌<◌}
use mathlib.Core.Bool.{true}
use mathlib.Core.List.{List}
use mathlib.Core.Path.{◌≡◌, refl}
use native.Mathlib.Omega.{arith}
use lib.ListN.{length}
use Rattle.geometry.specs.declared.Geometry.{Geometry}
use Rattle.geometry.specs.Limits.{Valid}
use Rattle.geometry.specs.Sizes.{chip_size}
use Rattle.cells.specs.Bytes.{Bytes}
use Rattle.bools.proofs.BoolLaws.{clash}
use Rattle.bitmaps.proofs.BitmapLaws.{Bitmap}
use Rattle.chip_array.specs.Device.{Setting}
use Rattle.bus_polling.specs.Outcomes.{is_passed, is_failed, is_silent, is_cut_off, is_illegal, is_protected}
use Rattle.bus_polling.proofs.OutcomeLaws.{passed_answered, failed_answered}
use Rattle.operations.specs.Ends.{Called}
use Rattle.pages.specs.Over.{Over}
use Rattle.copies.specs.Blocks.{block_in, page_in, is_complete}
use Rattle.state.specs.State.{blank, next_number, number_end, numbers_left, taken, with_invalid, with_table}
use Rattle.state.specs.declared.State.{State}
use Rattle.state_choose.specs.Choose.{permitted}
use Rattle.request.proofs.CallLaws.{stop_least}
use Rattle.progress.specs.Progress.{Progress, line_of}
use Rattle.progress.specs.Steps.{resumed}
use Rattle.progress.proofs.WordLaws.{line_kept}
use Rattle.fill.specs.Fill.{copy_page, table_copy, table_main, table_source, table_filled}
use Rattle.fill.proofs.KeepLaws.{filled_keeps}
use Rattle.fill_tables.specs.Tables.{Tabled, tabled, tables_filled}
use Rattle.write_changes.proofs.LoopLaws.{tables_end}
use Rattle.damage.specs.Run.{Sound, Labelled, Meant, from_caller, Filled, block_on, fill_most}
use Rattle.damage.specs.Touched.{Touched}
use Rattle.damage.proofs.CopyLaws.{copy-long, copy_bytes, copy_complete}
use Rattle.damage.proofs.FillLaws.{fill_leaves}
use Rattle.damage.proofs.TouchLaws.{fill_touches}
use Rattle.format_laws.proofs.TableBlockLaws.{table_label, table_long, table_bytes}
use Rattle.recovery_stored.specs.After.{After}
use Rattle.recovery_stored.proofs.AfterLaws.{after_new}

-- a request that goes on after an operation that failed
pub resumed_sound : (s : Setting) (q : Progress) → Sound s q → is_failed q.outcome ≡ true → Sound s (resumed q)
unfolding is_failed is_silent is_cut_off is_illegal is_protected
resumed_sound s q x w =
    record { legal = x.legal; known = refl; unprotected = refl; used_up = λ e. clash e refl; silent_by = λ e. clash e refl; failed_by_fact = λ e. clash e refl; called = λ e. x.called (failed_answered q.outcome w) }

-- the pages of the table that a state fills next
abbrev pub table_pages : Geometry → State → ℕ → List ℕ
table_pages g st i = copy_page g (table_copy (next_number st)) i (table_main g st.invalid i)

pub record Fill (s : Setting) (st : State) (p q : Progress) (b : ℕ) : Type 0 where
  pub leaves : Filled s p q b (table_pages s.geometry st) s.geometry.pages (fill_most s.geometry)
  pub touches : Touched s p q b (table_pages s.geometry st)
  pub high : line_of q ≡ 0
  pub complete : is_passed q.outcome ≡ true → is_complete s.geometry (block_on s q b) ≡ true
  pub after : (x : List ℕ) → length x ≡ chip_size s.geometry → ((c : ℕ) → c < s.geometry.blocks → (c ≡ b → ⊥) → block_in s.geometry x c ≡ block_on s p c)
      → ((i : ℕ) → i < s.geometry.pages → Over (table_pages s.geometry st i) (page_in s.geometry (block_in s.geometry x b) i)) → After s.geometry p.line.chip.array x b (table_pages s.geometry st)

module _ (s : Setting) (mask_bytes : Bytes s.mask) (st : State) (p : Progress) (passed : is_passed p.outcome ≡ true) (sound : Sound s p) (high : line_of p ≡ 0)
    (bits : Bitmap s.geometry.blocks st.invalid) (fits : next_number st < number_end) (b : ℕ) (below : b < s.geometry.blocks) where
  abbrev g : Geometry
  g = s.geometry

  abbrev n : ℕ
  n = next_number st

  abbrev invalid : List ℕ
  invalid = st.invalid

  called : Called s p.line
  called = sound.called (passed_answered p.outcome passed)

  v : Valid g
  v = called.is_valid

  label : Labelled (table_copy n)
  label = table_label n fits

  main_long : (i : ℕ) → i < g.pages → length (table_main g invalid i) ≡ g.main
  main_long i h = table_long g v invalid bits i

  main_bytes : (i : ℕ) → i < g.pages → Bytes (table_main g invalid i)
  main_bytes i h = table_bytes g v invalid bits i

  meant : Meant s p.line.chip.array b (table_copy n) (table_source g invalid) (table_pages g st)
  meant =
      record {
        long = copy-long g v (table_copy n) label (table_main g invalid) main_long main_bytes;
        bytes = copy_bytes g v (table_copy n) label (table_main g invalid) main_long main_bytes;
        provides = λ i h. from_caller (table_main g invalid i);
      }

  left : Filled s p (table_filled s b n invalid p) b (table_pages g st) g.pages (fill_most g)
  left = fill_leaves s p b below (table_copy n) (table_source g invalid) (table_pages g st) meant mask_bytes high passed called

  pub table_fill : Fill s st p (table_filled s b n invalid p) b
  table_fill =
      record {
        leaves = left;
        touches = fill_touches s p b below (table_copy n) (table_source g invalid) (table_pages g st) meant mask_bytes high passed called;
        high = filled_keeps s (λ z. line_of z ≡ 0) (line_kept s 0) b _ _ p high;
        complete = λ y. copy_complete g v (table_copy n) label (table_main g invalid) main_long main_bytes (block_on s (table_filled s b n invalid p) b) (left.done y);
        after = λ x long others over. after_new g v (table_copy n) label (table_main g invalid) main_long main_bytes p.line.chip.array x b long others over;
      }

-- table fills until one passes: where each comes to what is asked for, so do they all. No answer but 0 is told apart
pub record Steps (s : Setting) (held : List ℕ) (Before : State → Progress → Type 0) (Ends : Tabled → Type 0) : Type 0 where
  pub last_below : (st : State) (p : Progress) → Before st p → st.last < s.geometry.blocks
  pub unfilled : (st : State) (p : Progress) → Before st p → (a : ℕ) → (a ≡ 0 → ⊥) → Ends (tabled p a (blank 2))
  pub passed : (st : State) (p : Progress) → Before st p → next_number st < number_end → (b : ℕ) → b < s.geometry.blocks → permitted st.marked st.invalid held b ≡ true
      → is_passed (table_filled s b (next_number st) st.invalid p).outcome ≡ true → Ends (tabled (table_filled s b (next_number st) st.invalid p) 0 (with_table b (taken st)))
  pub failed : (st : State) (p : Progress) → Before st p → next_number st < number_end → (b : ℕ) → b < s.geometry.blocks → permitted st.marked st.invalid held b ≡ true
      → is_failed (table_filled s b (next_number st) st.invalid p).outcome ≡ true → Before (with_invalid b (taken st)) (resumed (table_filled s b (next_number st) st.invalid p))
  pub stopped : (st : State) (p : Progress) → Before st p → next_number st < number_end → (b : ℕ) → b < s.geometry.blocks → permitted st.marked st.invalid held b ≡ true
      → (a : ℕ) → (a ≡ 0 → ⊥) → Ends (tabled (table_filled s b (next_number st) st.invalid p) a (blank 2))

pub tables_by : (s : Setting) (held : List ℕ) (Before : State → Progress → Type 0) (Ends : Tabled → Type 0) → Steps s held Before Ends → (st : State) (p : Progress) → Before st p
    → Ends (tables_filled s held (numbers_left st) st p)
tables_by s held Before Ends c st p x =
    tables_end s held Before Ends
    (record {
      last_below = c.last_below;
      spent = λ st p x h. c.unfilled st p x 9 (λ z. omega (arith, z));
      worn = λ st p x h f. c.unfilled st p x 8 (λ z. omega (arith, z));
      passed = c.passed;
      failed = c.failed;
      stopped = λ st p x h b l may f w. c.stopped st p x h b l may _ (λ z. omega (arith, z, stop_least (table_filled s b (next_number st) st.invalid p).outcome));
    })
    (numbers_left st) st p x refl
