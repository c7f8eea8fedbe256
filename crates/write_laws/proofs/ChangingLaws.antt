-- Every write and every erase that is not refused, on a ready chip, ends as Changing tells, and sends fewer cycles than the allowance
-- that cuts nothing. Assumes nothing.
use Prim.Native.Nat.{ℕ, ◌+◌, ◌-◌, ◌*◌, ◌≤◌, ◌<◌}
use mathlib.Core.Bool.{Bool, true, false, cond, false≢true}
use mathlib.Core.List.{List, []}
use mathlib.Core.Logic.{◌⊎◌, ◌↔◌, inl, inr, ⊎_elim}
use mathlib.Core.Path.{◌≡◌, refl, sym, ap, subst, ◌∙◌}
use native.Mathlib.Nat.{mul-le-mul}
use native.Mathlib.Omega.{arith}
use borrow.Table.Steps.{cases}
use borrow.Author.Tests.{eqb-true, eqb-false, eq-eqb, lt-ltb, le-ltb, ltb-true, ltb-false}
use lib.Dec.{eqb, ltb}
use lib.ListN.{length, get_or, set, length-set}
use lib.Seq.{get_or-set_same}
use Rattle.geometry.specs.declared.Geometry.{Geometry}
use Rattle.geometry.specs.Limits.{Valid}
use Rattle.geometry.specs.Sizes.{block_size}
use Rattle.bools.proofs.BoolLaws.{clash, or_none}
use Rattle.cells.specs.Bytes.{Bytes}
use Rattle.cells.proofs.PartLaws.{bytes_part}
use Rattle.bitmaps.specs.Bitmap.{bit_at}
use Rattle.bitmaps.proofs.BitmapLaws.{Bitmap}
use Rattle.chip_array.specs.Device.{Device, Setting}
use Rattle.chip_laws.proofs.ByteLaws.{run_bytes}
use Rattle.bus_polling.specs.Outcomes.{is_passed, is_failed, is_silent, is_cut_off, is_illegal, is_protected}
use Rattle.bus_polling.specs.declared.Outcome.{Outcome}
use Rattle.bus_polling.specs.declared.Outcome.TheVariants.{Passed, Cut, Protected}
use Rattle.bus_polling.proofs.OutcomeLaws.{is_passed_lem, passed_answered, passed_unfailed}
use Rattle.operations.specs.Ends.{Called}
use Rattle.operations.specs.Trace.{ArrayOperation}
use Rattle.pages.specs.Layout.{data_kind}
use Rattle.copies.specs.Blocks.{block_in, page_in}
use Rattle.state_choose.specs.Choose.{permitted, count_permitted}
use Rattle.state.specs.State.{blank, next_number, number_end, numbers_left, held_bits, mounted, Mounted, taken, with_invalid, with_copy, with_table}
use Rattle.state.specs.declared.State.{State}
use Rattle.state.proofs.MountedLaws.{mounted_facts, mounted_holds}
use Rattle.state.proofs.HeldLaws.{held_entry}
use Rattle.request.specs.Call.{Result, sized_for, call_line, result_of, stop_answer, status_answer, status_state}
use Rattle.request.proofs.CallLaws.{sizes, stop_least}
use Rattle.progress.specs.Progress.{Progress, progress, line_of}
use Rattle.progress.specs.Steps.{resumed}
use Rattle.progress.proofs.CountLaws.{allowance, allowance_kept}
use Rattle.progress.proofs.StatusLaws.{StatusLeft, status_leaves, status_started, status_counts, status_keeps, shown_high}
use Rattle.fill.specs.Fill.{copy, copy_page, main_of, data_source, table_copy, table_source, table_filled}
use Rattle.fill_tables.specs.Tables.{Tabled, tabled, end_of_run, tables_filled}
use Rattle.fill_tables.proofs.StatusLaws.{after_passed, after-stopped}
use Rattle.request_refusals.specs.Refusals.{refusal_of}
use Rattle.request_refusals.proofs.RefusalLaws.{accepts}
use Rattle.damage.specs.Replay.{Replayed}
use Rattle.damage.specs.Run.{Sound, Slow, Meant, Filled, failed_in, failed_count, block_on, fill_most, table_fill_most, read_most, program_most}
use Rattle.damage.proofs.TraceLaws.{unfailed-none}
use Rattle.damage.proofs.FailedLaws.{failed_none, failed_same}
use Rattle.damage.proofs.FillLaws.{fill_leaves, fill_given}
use Rattle.damage.proofs.ReplayLaws.{Leads, leads_first, leads_status, leads_kept, replayed, lengths_sized}
use Rattle.format_laws.proofs.FormatLaws.{count_most}
use Rattle.write_changes.specs.Changes.{Update, Copied, copied, copy_filled, stopped_at, copies_filled, then_table, change_run, change_first, changing, write_update, erase_update, write_request, writing, erase_refusal, erase_request, erasing_logical, update_source}
use Rattle.write_changes.proofs.KeepLaws.{change_keeps}
use Rattle.write_changes.proofs.StopLaws.{copies_stopped}
use Rattle.write_changes.proofs.LoopLaws.{Copying, copies_end, Tabling, tables_end}
use Rattle.write_laws.specs.Changing.{InRange, ChangeAnswer, is_done, is_worn, is_spent, is_silent_fact, is_cut, is_protected_fact, fills_most, change_most, new_page, new_table, Holds, copies_done, held_last, Acknowledged, ChangeLeft, Changing}
use Rattle.write_laws.proofs.NextLaws.{held_unpermitted, unheld_so, permitted_free, copy_held, table_held, next_copy, next_table}
use Rattle.write_laws.proofs.PhaseLaws as phase
use Rattle.write_laws.proofs.MeantLaws as meant

pub sized-valid : (s : Setting) (d : Device) → sized_for s d ≡ true → Valid s.geometry
sized-valid s d t = (sizes s.geometry (length d.array) (length d.register) (length d.history) (length s.mask) t).chip_fits.is_valid

-- from a chip that takes the next command, its line high
module _ (s : Setting) (first : Progress) (st₀ : State) (u : Update) (ranged : InRange s first.line.chip st₀) (first-passed : is_passed first.outcome ≡ true) (none_started : first.started ≡ [])
    (first_called : Called s first.line) (is_mounted : mounted st₀ s.geometry.blocks s.geometry.logical ≡ true) (proper : meant.Proper s.geometry (held_bits st₀ s.geometry.logical) u) (high : line_of first ≡ 0) where
  abbrev g : Geometry
  g = s.geometry

  abbrev array₀ : List ℕ
  array₀ = first.line.chip.array

  abbrev held : List ℕ
  held = held_bits st₀ g.logical

  pub v : Valid g
  v = first_called.is_valid

  facts : Mounted st₀ g.blocks g.logical
  facts = mounted_facts st₀ g.blocks g.logical v.blocks_most is_mounted

  abbrev total : ℕ
  total = count_permitted st₀.marked st₀.invalid held g.blocks

  -- a data fill that passed makes the new copy
  pub record CopyMade (next : State) (q : Progress) : Type 0 where
    map_is : next.map ≡ set st₀.map u.logical next.last
    table_same : next.table ≡ st₀.table
    pages_are : Holds g q.line.chip.array next.last (new_page g array₀ st₀ u (next_number st₀ + failed_count q.started g.blocks))

  -- before each data fill, and how they end
  abbrev Mid : State → Progress → Type 0
  Mid = phase.Mid s v st₀ held st₀ CopyMade first (fill_most g) total 0

  -- whether any block has failed
  abbrev flag : Progress → Bool
  flag p = ltb 0 (failed_count p.started g.blocks)

  pub record Before (st : State) (f : Bool) (p : Progress) : Type 0 where
    pub mid : Mid st p
    pub any_failed : f ≡ flag p

  pub record Copies (c : Copied) : Type 0 where
    pub ended : phase.Ended s v st₀ held st₀ CopyMade first (fill_most g) total 0 c.answer c.state c.progress
    pub any_failed : c.answer ≡ 0 → c.failed ≡ flag c.progress

  first_is : first.outcome ≡ Passed
  first_is = is_passed_lem first.outcome first-passed

  sound_first : Sound s first
  unfolding is_illegal is_protected is_cut_off is_silent is_failed
  sound_first =
      record {
        legal = first_called.legal;
        known = ap is_illegal first_is;
        unprotected = ap is_protected first_is;
        used_up = λ e. clash e (ap is_cut_off first_is);
        silent_by = λ e. clash e (ap is_silent first_is);
        failed_by_fact = λ e. clash e (ap is_failed first_is);
        called = λ e. first_called;
      }

  no_failure : (b : ℕ) → failed_in b first.started ≡ false
  unfolding failed_in
  no_failure b = ap (failed_in b) none_started

  no_failures : failed_count first.started g.blocks ≡ 0
  no_failures = ap (λ (os : List ArrayOperation). failed_count os g.blocks) none_started ∙ failed_none g.blocks

  mid_first : Mid st₀ first
  mid_first =
      record {
        passed = first-passed;
        sound = sound_first;
        high = high;
        facts = facts;
        held_is = refl;
        map_long = ranged.map_long;
        map_same = refl;
        kinds_same = refl;
        table_same = refl;
        marked_same = refl;
        bits = meant.bits_so g.blocks st₀.invalid ranged.invalid_long ranged.invalid_bytes facts.invalid_end;
        failures = λ b h. sym (ap (cond (bit_at st₀.invalid b) true) (no_failure b) ∙ or_none (bit_at st₀.invalid b));
        numbers = omega (arith, no_failures);
        kept = λ b h f. refl;
        spent = omega arith;
      }

  -- the data fill of a permitted block
  module _ (st : State) (p : Progress) (x : Mid st p) (fits : next_number st < number_end) (b : ℕ) (below : b < g.blocks) (may : permitted st.marked st.invalid held b ≡ true) where
    abbrev q : Progress
    q = copy_filled s u st b p

    pub p_called : Called s p.line
    p_called = x.sound.called (passed_answered p.outcome x.passed)

    -- the old copy is as it was
    old_same : u.old < g.blocks → block_on s p u.old ≡ block_in g array₀ u.old
    old_same h = x.kept u.old h (held_unpermitted st₀.marked st₀.invalid held u.old (proper.old_held h))

    pub old_bytes : u.old < g.blocks → Bytes (block_on s p u.old)
    old_bytes h = subst Bytes (sym (old_same h)) (bytes_part (u.old * block_size g) (block_size g) array₀ ranged.array_bytes)

    pub unheld : bit_at held b ≡ false
    unheld = unheld_so st.marked st.invalid held b may

    abbrev pub pages : ℕ → List ℕ
    pages = meant.pages_new s v held st u proper p.line.chip.array p_called.array_long old_bytes (next_number st) fits b unheld

    pub copy_meant : Meant s p.line.chip.array b (copy data_kind u.logical (next_number st)) (update_source g st u) pages
    copy_meant = meant.data_meant s v held st u proper p.line.chip.array p_called.array_long old_bytes (next_number st) fits b unheld

    left : Filled s p q b pages g.pages (fill_most g)
    left =
        fill_leaves s p b below (copy data_kind u.logical (next_number st)) (update_source g st u) pages copy_meant
        ranged.mask_bytes x.high x.passed p_called

    -- it passed
    module _ (y : is_passed q.outcome ≡ true) where
      none_more : failed_count q.started g.blocks ≡ failed_count p.started g.blocks
      none_more = failed_same p.started q.started (unfailed-none p q b (passed_unfailed q.outcome y) left.failures) g.blocks

      copy_made : CopyMade (with_copy data_kind u.logical b (taken st)) q
      copy_made =
          record {
            map_is = ap (λ (z : List ℕ). set z u.logical b) x.map_same;
            table_same = x.table_same;
            pages_are = λ i h.
                let number_is : next_number st ≡ next_number st₀ + failed_count q.started g.blocks = omega (arith, x.numbers, none_more) in
                left.done y i h
                ∙ ap (copy_page g (copy data_kind u.logical (next_number st)) i) (meant.same_main s v held st u proper p.line.chip.array array₀ old_same i)
                ∙ ap (λ (m : List ℕ). copy_page g (copy data_kind u.logical (next_number st)) i (main_of g array₀ i (data_source g u.old (get_or m u.logical 0) u.first u.count u.bytes i))) x.kinds_same
                ∙ ap (λ (k : ℕ). new_page g array₀ st₀ u k i) number_is;
          }

      copy_passed : (f : Bool) → f ≡ flag p → Copies (copied q 0 (with_copy data_kind u.logical b (taken st)) f)
      copy_passed f e =
          let free = subst (λ (z : List ℕ). permitted st.marked st.invalid z b ≡ true) (sym x.held_is) may in
          let room : u.logical < length st.map = omega (arith, x.map_long, proper.logical_below, v.logical_most, v.blocks_most) in
          record {
            ended = phase.ended_passed s v st₀ held st₀ CopyMade first (fill_most g) total 0 st p x b below may q pages g.pages left y (with_copy data_kind u.logical b (taken st)) copy_made
                (next_copy st g.blocks g.logical v.blocks_most x.facts b below free u.logical proper.logical_below room data_kind)
                (length-set st.map u.logical b ∙ x.map_long) (λ c h. copy_held st g.logical b c h data_kind u.logical room) refl refl refl;
            any_failed = λ z. e ∙ ap (ltb 0) (sym none_more);
          }

    copy_stopped : is_passed q.outcome ≡ false → is_failed q.outcome ≡ false → Copies (stopped_at q)
    copy_stopped y w =
        record {
          ended = phase.ended-stopped s v st₀ held st₀ CopyMade first (fill_most g) total 0 st p x b below may q pages g.pages left y w;
          any_failed = λ z. absurd (omega (arith, z, stop_least q.outcome));
        }

    pub copy_failed : is_failed q.outcome ≡ true → Before (with_invalid b (taken st)) true (resumed q)
    copy_failed w =
        let next = phase.mid_failed s v st₀ held st₀ CopyMade first (fill_most g) total 0 st p x b below may q pages g.pages left w in
        record { mid = next; any_failed = sym (lt-ltb 0 (failed_count q.started g.blocks) (omega (arith, next.numbers, x.numbers))) }

  copying : Copying s held u Before Copies
  copying =
      record {
        last_below = λ st f p x. x.mid.facts.last_below;
        spent = λ st f p x h. record { ended = phase.ended_spent s v st₀ held st₀ CopyMade first (fill_most g) total 0 st p x.mid h; any_failed = λ z. absurd (omega (arith, z)) };
        worn = λ st f p x h none. record { ended = phase.ended_worn s v st₀ held st₀ CopyMade first (fill_most g) total 0 st p x.mid none; any_failed = λ z. absurd (omega (arith, z)) };
        passed = λ st f p x h b below may y. copy_passed st p x.mid h b below may y f x.any_failed;
        failed = λ st f p x h b below may w. copy_failed st p x.mid h b below may w;
        stopped = λ st f p x h b below may y w. copy_stopped st p x.mid h b below may y w;
      }

  abbrev made : Copied
  made = copies_filled s held u (numbers_left st₀) false st₀ first

  pub before_first : Before st₀ false first
  before_first = record { mid = mid_first; any_failed = sym (le-ltb 0 (failed_count first.started g.blocks) (omega (arith, no_failures))) }

  pub copies : Copies made
  copies = copies_end s held u Before Copies copying (numbers_left st₀) st₀ false first before_first refl

  -- the table fills, after a data fill that passed
  module _ (st₁ : State) (p₁ : Progress) (done : phase.Next s v st₀ held st₀ CopyMade first (fill_most g) total 0 st₁ p₁) (sound₁ : Sound s p₁) where
    abbrev held₁ : List ℕ
    held₁ = held_bits st₁ g.logical

    abbrev total₁ : ℕ
    total₁ = count_permitted st₁.marked st₁.invalid held₁ g.blocks

    record TableMade (next : State) (q : Progress) : Type 0 where
      map_same : next.map ≡ st₁.map
      pages_are : Holds g q.line.chip.array next.table (new_table g next.invalid (next_number next - 1))

    abbrev TableMid : State → Progress → Type 0
    TableMid = phase.Mid s v st₀ held₁ st₁ TableMade p₁ (table_fill_most g) total₁ 1

    abbrev Tables : Tabled → Type 0
    Tables t = phase.Ended s v st₀ held₁ st₁ TableMade p₁ (table_fill_most g) total₁ 1 t.answer t.state t.progress

    table_first : TableMid st₁ p₁
    table_first =
        record {
          passed = done.passed;
          sound = sound₁;
          high = done.high;
          facts = done.facts;
          held_is = refl;
          map_long = done.map_long;
          map_same = refl;
          kinds_same = refl;
          table_same = refl;
          marked_same = done.marked_same;
          bits = done.bits;
          failures = done.failures;
          numbers = done.numbers;
          kept = λ b h f. refl;
          spent = omega arith;
        }

    table_left : (st : State) (p : Progress) → TableMid st p → (fits : next_number st < number_end) (b : ℕ) → b < g.blocks → (x : Bitmap g.blocks st.invalid)
        → Filled s p (table_filled s b (next_number st) st.invalid p) b (meant.table_pages s v st.invalid x (next_number st) fits) g.pages (table_fill_most g)
    table_left st p x fits b below bits =
        fill_given s p b below (table_copy (next_number st)) (table_source g st.invalid) (meant.table_pages s v st.invalid bits (next_number st) fits)
        (meant.table_meant s v st.invalid bits (next_number st) fits p.line.chip.array b) ranged.mask_bytes x.high
        (meant.table_given s v st.invalid bits (next_number st) fits) x.passed (x.sound.called (passed_answered p.outcome x.passed))

    table_facts : (st : State) (p : Progress) → TableMid st p → (b : ℕ) → b < g.blocks → permitted st.marked st.invalid held₁ b ≡ true → Mounted (with_table b (taken st)) g.blocks g.logical
    table_facts st p x b below may =
        next_table st g.blocks g.logical v.blocks_most x.facts b below (subst (λ (z : List ℕ). permitted st.marked st.invalid z b ≡ true) (sym x.held_is) may)

    table_made : (st : State) (p : Progress) (x : TableMid st p) (fits : next_number st < number_end) (b : ℕ) → b < g.blocks → is_passed (table_filled s b (next_number st) st.invalid p).outcome ≡ true
        → TableMade (with_table b (taken st)) (table_filled s b (next_number st) st.invalid p)
    table_made st p x fits b below y =
        record {
          map_same = x.map_same;
          pages_are = λ i h.
              let number_is : next_number st ≡ next_number (taken st) - 1 = omega arith in
              (table_left st p x fits b below x.bits).done y i h ∙ ap (λ (k : ℕ). new_table g st.invalid k i) number_is;
        }

    tabling : Tabling s held₁ TableMid Tables
    tabling =
        record {
          last_below = λ st p x. x.facts.last_below;
          spent = λ st p x h. phase.ended_spent s v st₀ held₁ st₁ TableMade p₁ (table_fill_most g) total₁ 1 st p x h;
          worn = λ st p x h none. phase.ended_worn s v st₀ held₁ st₁ TableMade p₁ (table_fill_most g) total₁ 1 st p x none;
          passed = λ st p x h b below may y. phase.ended_passed s v st₀ held₁ st₁ TableMade p₁ (table_fill_most g) total₁ 1 st p x b below may _ _ g.pages (table_left st p x h b below x.bits) y (with_table b (taken st)) (table_made st p x h b below y) (table_facts st p x b below may) x.map_long (λ c h. table_held st g.logical b c h) refl refl refl;
          failed = λ st p x h b below may w. phase.mid_failed s v st₀ held₁ st₁ TableMade p₁ (table_fill_most g) total₁ 1 st p x b below may _ _ g.pages (table_left st p x h b below x.bits) w;
          stopped = λ st p x h b below may y w. phase.ended-stopped s v st₀ held₁ st₁ TableMade p₁ (table_fill_most g) total₁ 1 st p x b below may _ _ g.pages (table_left st p x h b below x.bits) y w;
        }

    tables : Tables (tables_filled s held₁ (numbers_left st₁) st₁ p₁)
    tables = tables_end s held₁ TableMid Tables tabling (numbers_left st₁) st₁ p₁ table_first refl

  -- acknowledged, after a data fill and this many table fills passed
  pub record Done (tables : ℕ) (next : State) (q : Progress) : Type 0 where
    called : Called s q.line
    map_is : next.map ≡ set st₀.map u.logical made.state.last
    new_copy : Holds g q.line.chip.array made.state.last (new_page g array₀ st₀ u (next_number st₀ + failed_count made.progress.started g.blocks))
    same_table : made.failed ≡ false → next.table ≡ st₀.table
    new_table_fact : made.failed ≡ true → Holds g q.line.chip.array next.table (new_table g next.invalid (next_number next - 1))
    facts : Mounted next g.blocks g.logical
    map_long : length next.map ≡ 4096
    bits : Bitmap g.blocks next.invalid
    marked_same : next.marked ≡ st₀.marked
    failures : (b : ℕ) → b < g.blocks → bit_at next.invalid b ≡ cond (bit_at st₀.invalid b) true (failed_in b q.started)
    pub numbers : next_number next ≡ next_number st₀ + (failed_count q.started g.blocks + (1 + tables))

  -- the request as a whole; held₁ has the blocks that hold something current in the end, used is 1 after a data fill that passed
  pub record Whole (held₁ : List ℕ) (used tables : ℕ) (t : Tabled) : Type 0 where
    answers : ChangeAnswer t.answer
    pub at_most : t.answer ≤ 11
    sound : Sound s t.progress
    stopped : (t.answer ≡ 0 → ⊥) → t.state ≡ blank 2
    pub done : t.answer ≡ 0 → Done tables t.state t.progress
    untouched : (b : ℕ) → b < g.blocks → (bit_at st₀.marked b ≡ true) ⊎ (bit_at st₀.invalid b ≡ true) → block_on s t.progress b ≡ block_in g array₀ b
    current : (b : ℕ) → b < g.blocks → bit_at held₁ b ≡ true → block_on s t.progress b ≡ block_on s made.progress b
    pub spent : first.line.left ≤ t.progress.line.left + fills_most g
    worn_by : t.answer ≡ 8 → (b : ℕ) → b < g.blocks → permitted st₀.marked st₀.invalid held₁ b ≡ true → failed_in b t.progress.started ≡ true
    spent_by : t.answer ≡ 9 → number_end ≤ next_number st₀ + (failed_count t.progress.started g.blocks + used)
    silent_by : t.answer ≡ 10 → Slow s.fates
    pub used_up : t.answer ≡ 11 → t.progress.line.left ≡ 0

  unpermitted : (h : List ℕ) (b : ℕ) → (bit_at st₀.marked b ≡ true) ⊎ (bit_at st₀.invalid b ≡ true) → permitted st₀.marked st₀.invalid h b ≡ false
  unpermitted h b = ⊎_elim (phase.marked_unpermitted st₀.marked st₀.invalid h b) (phase.invalid_unpermitted st₀.marked st₀.invalid h b)

  data_most : total * fill_most g ≤ g.blocks * fill_most g
  data_most = mul-le-mul (count_most st₀.marked st₀.invalid held g.blocks) (omega arith)

  -- it ends with its data fills
  whole_copies : (h : List ℕ) (used tables : ℕ) → ((made.answer ≡ 0 → ⊥) → (h ≡ held) × (used ≡ 0)) → (made.answer ≡ 0 → (tables ≡ 0) × (made.failed ≡ false)) → Whole h used tables (tabled made.progress made.answer made.state)
  whole_copies h used tables same no-tables =
      let e = copies.ended in
      record {
        answers = e.answers;
        at_most = e.at_most;
        sound = e.sound;
        stopped = e.stopped;
        done = λ z.
            let x = e.done z in
            record {
              called = x.called;
              map_is = x.made.map_is;
              new_copy = x.made.pages_are;
              same_table = λ f. x.made.table_same;
              new_table_fact = λ w. clash w (no-tables z).1;
              facts = x.facts;
              map_long = x.map_long;
              bits = x.bits;
              marked_same = x.marked_same;
              failures = x.failures;
              numbers = omega (arith, x.numbers, (no-tables z).0);
            };
        untouched = λ b l k. e.kept b l (unpermitted held b k);
        current = λ b l k. refl;
        spent = omega (arith, e.spent, data_most);
        worn_by = λ z b l k. e.worn_by z b l (subst (λ (x : List ℕ). permitted st₀.marked st₀.invalid x b ≡ true) (same (λ y. omega (arith, y, z))).0 k);
        spent_by = λ z. omega (arith, e.spent_by z, (same (λ y. omega (arith, y, z))).1);
        silent_by = e.silent_by;
        used_up = e.used_up;
      }

  -- the new copy's block is held
  new_held : made.answer ≡ 0 → bit_at (held_bits made.state g.logical) made.state.last ≡ true
  new_held z =
      let x = copies.ended.done z in
      let room : u.logical < length st₀.map = omega (arith, ranged.map_long, proper.logical_below, v.logical_most, v.blocks_most) in
      let entry : get_or made.state.map u.logical 0 ≡ made.state.last = ap (λ (m : List ℕ). get_or m u.logical 0) x.made.map_is ∙ get_or-set_same st₀.map u.logical made.state.last 0 room in
      subst (λ (k : ℕ). bit_at (held_bits made.state g.logical) k ≡ true) entry
      (held_entry made.state g.logical u.logical proper.logical_below (omega (arith, entry, x.facts.last_below, v.blocks_most)))

  -- table fills follow
  whole_tables : made.answer ≡ 0 → made.failed ≡ true → Whole (held_bits made.state g.logical) 1 1 (tables_filled s (held_bits made.state g.logical) (numbers_left made.state) made.state made.progress)
  whole_tables z w =
      let e = copies.ended in
      let f = tables made.state made.progress (copies.ended.done z) e.sound in
      let h = held_bits made.state g.logical in
      let last_below : made.state.last < g.blocks = (e.done z).facts.last_below in
      let still : (b : ℕ) → b < g.blocks → bit_at h b ≡ true → block_on s (tables_filled s h (numbers_left made.state) made.state made.progress).progress b ≡ block_on s made.progress b = λ b l k. f.kept b l (held_unpermitted st₀.marked st₀.invalid h b k) in
      let last_held : bit_at h made.state.last ≡ true = new_held z in
      let few : count_permitted made.state.marked made.state.invalid h g.blocks * table_fill_most g ≤ g.blocks * table_fill_most g = mul-le-mul (count_most made.state.marked made.state.invalid h g.blocks) (omega arith) in
      record {
        answers = f.answers;
        at_most = f.at_most;
        sound = f.sound;
        stopped = f.stopped;
        done = λ y.
            let x = f.done y in
            record {
              called = x.called;
              map_is = x.made.map_same ∙ (e.done z).made.map_is;
              new_copy = λ i k. ap (λ (row : List ℕ). page_in g row i) (still made.state.last last_below last_held) ∙ (e.done z).made.pages_are i k;
              same_table = λ k. clash w k;
              new_table_fact = λ w. x.made.pages_are;
              facts = x.facts;
              map_long = x.map_long;
              bits = x.bits;
              marked_same = x.marked_same;
              failures = x.failures;
              numbers = omega (arith, x.numbers);
            };
        untouched = λ b l k. f.kept b l (unpermitted h b k) ∙ e.kept b l (unpermitted held b k);
        current = still;
        spent = omega (arith, e.spent, f.spent, data_most, few);
        worn_by = f.worn_by;
        spent_by = f.spent_by;
        silent_by = f.silent_by;
        used_up = f.used_up;
      }

  abbrev run : Tabled
  run = change_run s st₀ u first

  pub whole : Whole (held_last s st₀ made) (cond (eqb made.answer 0) 1 0) (cond made.failed 1 0) run
  unfolding then_table
  whole =
      cases (eqb made.answer 0)
      (λ t.
      let z = eqb-true made.answer 0 t in
      cases made.failed
      (λ f. rw (t, f) (whole_tables z f))
      (λ f. rw (t, f) (subst (λ (a : ℕ). Whole (held_bits made.state g.logical) 1 0 (tabled made.progress a made.state)) z (whole_copies (held_bits made.state g.logical) 1 0 (λ y. absurd (y z)) (λ y. (refl, f))))))
      (λ t. rw t (whole_copies held 0 (cond made.failed 1 0) (λ y. (refl, refl)) (λ y. absurd (eqb-false made.answer 0 t y))))

  -- an acknowledged request has a data fill that passed
  pub data_passed : run.answer ≡ 0 → made.answer ≡ 0
  unfolding then_table
  data_passed z = cases (eqb made.answer 0) (λ t. eqb-true made.answer 0 t) (λ t. rw t at z)

  -- blocks that were permitted at the start, where it is worn
  pub worn_start : run.answer ≡ 8 → (b : ℕ) → b < g.blocks → permitted st₀.marked st₀.invalid held b ≡ true
      → (failed_in b run.progress.started ≡ true) ⊎ ((made.answer ≡ 0) × (b ≡ made.state.last))
  worn_start w b h may =
      cases (eqb made.answer 0)
      (λ t.
      let z = eqb-true made.answer 0 t in
      let held₁ = held_bits made.state g.logical in
      cases (bit_at held₁ b)
      (λ y. ⊎_elim (λ e. inr (z, e)) (λ e. clash e (unheld_so st₀.marked st₀.invalid held b may)) ((copies.ended.done z).held_more b (omega (arith, h, v.blocks_most)) y))
      (λ y. inl (whole.worn_by w b h (permitted_free st₀.marked st₀.invalid held (held_last s st₀ made) b may (rw t y)))))
      (λ t. inl (whole.worn_by w b h (rw t may)))

-- the request from the chip handed in
module _ (s : Setting) (d : Device) (n : ℕ) (st₀ : State) (u : Update) (ranged : InRange s d st₀) (is_ready : d.interface.phase ≤ 2) (sized : sized_for s d ≡ true)
    (is_mounted : mounted st₀ s.geometry.blocks s.geometry.logical ≡ true) (proper : meant.Proper s.geometry (held_bits st₀ s.geometry.logical) u) where
  abbrev geo : Geometry
  geo = s.geometry

  abbrev held_first : List ℕ
  held_first = held_bits st₀ geo.logical

  abbrev begun : Progress
  begun = progress (call_line d n) Passed [] []

  abbrev shown : Progress
  shown = change_first s d n

  begun_called : Called s (call_line d n)
  begun_called =
      let z = sizes geo (length d.array) (length d.register) (length d.history) (length s.mask) sized in
      record {
        is_valid = z.chip_fits.is_valid;
        array_long = z.chip_fits.array_long;
        register_long = z.chip_fits.register_long;
        history_long = z.chip_fits.history_long;
        mask_long = z.mask_long;
        ready = is_ready;
        legal = refl;
        uncut = refl;
      }

  pub status_left : StatusLeft s begun shown
  unfolding is_passed
  status_left = status_leaves s begun refl begun_called

  pub shown_started : shown.started ≡ []
  unfolding is_passed
  shown_started = status_started s begun refl begun_called

  shown_block : (b : ℕ) → block_on s shown b ≡ block_in geo d.array b
  shown_block b = ap (λ (a : List ℕ). block_in geo a b) status_left.same_array

  -- the cycles are counted, and lead to the chip that is left
  counted : (t : Tabled) → allowance t.progress ≡ allowance shown → length t.progress.cycles + t.progress.line.left ≡ n
  counted t e = omega (arith, e, status_counts s begun)

  shown_leads : Leads s (call_line d n).chip shown
  shown_leads = leads_status s (call_line d n).chip begun (leads_first s (call_line d n))

  module _ (t : Tabled) (leads : Leads s (call_line d n).chip t.progress) (legal : t.progress.line.chip.interface.illegal ≡ 0) where
    played : Replayed s (call_line d n).chip t.progress.line.chip t.progress.cycles
    played = replayed s (call_line d n).chip t.progress leads legal

    bytes_still : Bytes t.progress.line.chip.array
    bytes_still = subst (λ (x : Device). Bytes x.array) played.leads (run_bytes s ranged.mask_bytes (call_line d n).chip t.progress.cycles ranged.array_bytes)

  -- its fills, where the status shows that the chip may be written
  module _ (passed : is_passed shown.outcome ≡ true) where
    pub shown_called : Called s shown.line
    shown_called = status_left.next_called (passed_answered shown.outcome passed)

    pub shown_range : InRange s shown.line.chip st₀
    shown_range =
        record {
          array_bytes = subst Bytes (sym status_left.same_array) ranged.array_bytes;
          mask_bytes = ranged.mask_bytes;
          invalid_long = ranged.invalid_long;
          invalid_bytes = ranged.invalid_bytes;
          map_long = ranged.map_long;
        }

    pub line_high : line_of shown ≡ 0
    unfolding is_passed
    line_high = shown_high s begun refl passed

    abbrev fills : Tabled
    fills = change_run s st₀ u shown

    abbrev made₁ : Copied
    made₁ = copies_done s d n st₀ u

    all : Whole s shown st₀ u shown_range passed shown_started shown_called is_mounted proper line_high (held_last s st₀ made₁) (cond (eqb made₁.answer 0) 1 0) (cond made₁.failed 1 0) fills
    all = whole s shown st₀ u shown_range passed shown_started shown_called is_mounted proper line_high

    by_copies : Copies s shown st₀ u shown_range passed shown_started shown_called is_mounted proper line_high made₁
    by_copies = copies s shown st₀ u shown_range passed shown_started shown_called is_mounted proper line_high

    fills_leads : Leads s (call_line d n).chip fills.progress
    fills_leads = change_keeps s _ (leads_kept s (call_line d n).chip) st₀ u shown shown_leads

    fills_counted : length fills.progress.cycles + fills.progress.line.left ≡ n
    fills_counted = counted fills (change_keeps s _ (allowance_kept s (allowance shown)) st₀ u shown refl)

    acknowledged : fills.answer ≡ 0 → Acknowledged s d n st₀ u fills (end_of_run n fills)
    acknowledged z =
        let x = all.done z in
        let filled = data_passed s shown st₀ u shown_range passed shown_started shown_called is_mounted proper line_high z in
        record {
          counts_mounted = mounted_holds fills.state geo.blocks geo.logical begun_called.is_valid.blocks_most x.facts;
          still_ready = x.called.ready;
          still_in_range = record { array_bytes = bytes_still fills fills_leads all.sound.legal; mask_bytes = ranged.mask_bytes; invalid_long = x.bits.long; invalid_bytes = x.bits.bytes; map_long = x.map_long };
          map_is = x.map_is;
          new_copy = λ i h.
              x.new_copy i h ∙ ap (λ (a : List ℕ). new_page geo a st₀ u (next_number st₀ + failed_count made₁.progress.started geo.blocks) i) status_left.same_array;
          any_failed = by_copies.any_failed filled;
          same_table = x.same_table;
          new_table_fact = x.new_table_fact;
          same_marked = x.marked_same;
          invalid_are = x.failures;
          number_is = rw (eq-eqb made₁.answer 0 filled) (omega (arith, x.numbers));
        }

    fills_end : ChangeLeft s d n st₀ u fills (end_of_run n fills)
    fills_end =
        record {
          legal = all.sound.legal;
          replayed = played fills fills_leads all.sound.legal;
          sizes_kept = lengths_sized s (played fills fills_leads all.sound.legal).same_lengths ∙ sized;
          bytes_kept = bytes_still fills fills_leads all.sound.legal;
          answers = all.answers;
          stopped_so = λ z x. all.stopped z;
          protected_exactly = (λ z. absurd (omega (arith, z, all.at_most)), λ z. absurd (z.1 (sym (status_keeps s begun) ∙ line_high)));
          unwritten = λ z. absurd (omega (arith, z, all.at_most));
          acknowledged = acknowledged;
          marked_kept = λ b h t. all.untouched b h (inl t) ∙ shown_block b;
          invalid_kept = λ b h t. all.untouched b h (inr t) ∙ shown_block b;
          present_kept = λ b h t. by_copies.ended.kept b h (held_unpermitted st₀.marked st₀.invalid held_first b t) ∙ shown_block b;
          current_kept = all.current;
          sent_is = omega (arith, fills_counted);
          sent-most = omega (arith, all.spent, status_left.left_is);
          worn_by = all.worn_by;
          worn_start = worn_start s shown st₀ u shown_range passed shown_started shown_called is_mounted proper line_high;
          spent_by = all.spent_by;
          silent_by = all.silent_by;
          cut_at = λ z. omega (arith, all.used_up z);
        }

  shown_unfailed : is_failed shown.outcome ≡ false
  unfolding is_failed
  shown_unfailed =
      ap is_failed status_left.outcome_is
      ∙ cases (ltb n 2) (λ t. rw t) (λ t. cases (eqb d.interface.protected 0) (λ y. rw (t, y)) (λ y. rw (t, y)))

  -- nothing follows a status read that did not pass: the data fills, too, are over where it stopped
  module _ (f : is_passed shown.outcome ≡ false) where
    abbrev made₂ : Copied
    made₂ = copies_done s d n st₀ u

    not_begun : (made₂.progress ≡ shown) × (made₂.answer ≡ 0 → ⊥)
    not_begun = copies_stopped s held_first u shown f shown_unfailed st₀ (mounted_facts st₀ geo.blocks geo.logical begun_called.is_valid.blocks_most is_mounted).last_below

    stays : (answer : ℕ) (state : State) → ChangeAnswer answer → 10 < answer → (answer ≡ 11 → shown.line.left ≡ 0) → ((answer ≡ 13 → ⊥) → state ≡ blank 2) → (answer ≡ 13) ↔ ((2 ≤ n) × (d.interface.protected ≡ 0 → ⊥))
        → (answer ≡ 13 → state ≡ st₀) → ChangeLeft s d n st₀ u (tabled shown answer state) (end_of_run n (tabled shown answer state))
    stays answer state told some cut stops exactly same =
        let t = tabled shown answer state in
        let whole-count = counted t refl in
        record {
          legal = status_left.legal;
          replayed = played t shown_leads status_left.legal;
          sizes_kept = lengths_sized s (played t shown_leads status_left.legal).same_lengths ∙ sized;
          bytes_kept = bytes_still t shown_leads status_left.legal;
          answers = told;
          stopped_so = λ z x. stops x;
          protected_exactly = exactly;
          unwritten = λ z. record { low = (exactly.0 z).1; same_state = same z; same_array = status_left.same_array; same_history = status_left.same_history };
          acknowledged = λ z. absurd (omega (arith, z, some));
          marked_kept = λ b h y. shown_block b;
          invalid_kept = λ b h y. shown_block b;
          present_kept = λ b h y. ap (λ (p : Progress). block_on s p b) not_begun.0 ∙ shown_block b;
          current_kept = λ b h y. ap (λ (p : Progress). block_on s p b) (sym not_begun.0);
          sent_is = omega (arith, whole-count);
          sent-most = omega (arith, status_left.left_is);
          worn_by = λ z. absurd (omega (arith, z, some));
          worn_start = λ z. absurd (omega (arith, z, some));
          spent_by = λ z. absurd (omega (arith, z, some));
          silent_by = λ z. absurd (omega (arith, z, some));
          cut_at = λ z. omega (arith, cut z);
        }

    -- where the status read ended as o
    abbrev StopsWith : Outcome → Type 0
    StopsWith o =
        let t = tabled shown (status_answer o) (status_state o st₀) in ChangeLeft s d n st₀ u t (end_of_run n t)

    stops_so : StopsWith shown.outcome
    unfolding status_answer status_state stop_answer is_passed is_protected is_silent is_cut_off
    stops_so =
        cases (ltb n 2)
        (λ t.
        let few = ltb-true n 2 t in
        let o : shown.outcome ≡ Cut = status_left.outcome_is ∙ rw t in
        subst StopsWith (sym o) (stays 11 (blank 2) is_cut (omega arith) (λ z. omega (arith, status_left.left_is, few)) (λ x. refl) (λ z. absurd (omega (arith, z)), λ z. absurd (omega (arith, z.0, few))) (λ z. absurd (omega (arith, z)))))
        (λ t.
        let enough = ltb-false n 2 t in
        let low : eqb d.interface.protected 0 ≡ false = cases (eqb d.interface.protected 0) (λ y. absurd (let o = sym f ∙ ap is_passed status_left.outcome_is in false≢true (rw (t, y) at o))) (λ y. y) in
        let o : shown.outcome ≡ Protected = status_left.outcome_is ∙ rw (t, low) in
        subst StopsWith (sym o) (stays 13 st₀ is_protected_fact (omega arith) (λ z. absurd (omega (arith, z))) (λ x. absurd (x refl)) (λ z. (enough, eqb-false d.interface.protected 0 low), λ z. refl) (λ z. refl)))

  pub change_ends : Changing s d n st₀ u (changing s d n st₀ u)
  change_ends =
      cases (is_passed shown.outcome)
      (λ t. subst (λ (x : Tabled). ChangeLeft s d n st₀ u x (end_of_run n x)) (sym (after_passed st₀ shown (change_run s st₀ u shown) t)) (fills_end t))
      (λ f. subst (λ (x : Tabled). ChangeLeft s d n st₀ u x (end_of_run n x)) (sym (after-stopped st₀ shown (change_run s st₀ u shown) f)) (stops_so f))

-- the largest geometry, every operation with 256 status reads
pub change_fits : (g : Geometry) → Valid g → change_most g ≤ 3565469698
change_fits g v =
    let page : read_most g.main + program_most g ≤ 8977 = omega (arith, v.main_most, v.spare_most) in
    let programs = mul-le-mul v.pages_most page in
    let block : fill_most g ≤ 574790 = omega (arith, programs) in
    let table_page_fact : program_most g ≤ 4616 = omega (arith, v.main_most, v.spare_most) in
    let table-programs = mul-le-mul v.pages_most table_page_fact in
    let table : table_fill_most g ≤ 295686 = omega (arith, table-programs) in
    let copies-all = mul-le-mul v.blocks_most block in
    let tables-all = mul-le-mul v.blocks_most table in
    omega (arith, copies-all, tables-all)

-- as much for the largest geometry
pub most_reached : change_most record { main = 4096; spare = 256; pages = 64; blocks = 4096; logical = 4094 } ≡ 3565469698
most_reached = refl

-- what holds of a request that ended so
module _ (s : Setting) (d : Device) (n : ℕ) (st : State) (u : Update) (r : Result) (c : Changing s d n st u r) where
  zero_else : (k : ℕ) → ChangeAnswer k → (k ≡ 8 → ⊥) → (k ≡ 9 → ⊥) → (k ≡ 10 → ⊥) → (k ≡ 11 → ⊥) → (k ≡ 13 → ⊥) → k ≡ 0
  zero_else k is_done w x y z p = refl
  zero_else k is_worn w x y z p = absurd (w refl)
  zero_else k is_spent w x y z p = absurd (x refl)
  zero_else k is_silent_fact w x y z p = absurd (y refl)
  zero_else k is_cut w x y z p = absurd (z refl)
  zero_else k is_protected_fact w x y z p = absurd (p refl)

  -- acknowledged where it is neither worn nor spent, the line is high, no fate word is slow and the allowance reaches
  pub done_else : (r.answer ≡ 8 → ⊥) → (r.answer ≡ 9 → ⊥) → d.interface.protected ≡ 0 → (Slow s.fates → ⊥) → change_most s.geometry < n → r.answer ≡ 0
  done_else w x high fast h =
      zero_else r.answer c.answers w x (λ z. fast (c.silent_by z)) (λ z. omega (arith, c.cut_at z, c.sent-most, h)) (λ z. (c.protected_exactly.0 z).1 high)

-- a write and an erase that are not refused
module _ (s : Setting) (d : Device) (n : ℕ) (st : State) (ranged : InRange s d st) (is_ready : d.interface.phase ≤ 2) (logical : ℕ) where
  pub write_ends : (page : ℕ) (bytes : List ℕ) → refusal_of s d st logical page bytes ≡ 0 → Bytes bytes
      → Changing s d n st (write_update st logical page bytes) (writing s d n st logical page bytes)
  unfolding result_of write_request
  write_ends page bytes z are_bytes =
      let a = accepts s.geometry (sized_for s d) st logical page (length bytes) z in
      rw (eq-eqb (refusal_of s d st logical page bytes) 0 z)
      (change_ends s d n st (write_update st logical page bytes) ranged is_ready a.sizes_fit a.is_mounted
      (meant.write_proper s.geometry (sized-valid s d a.sizes_fit) st logical a.logical_below page bytes a.buffer_long are_bytes))

  pub erase_ends : erase_refusal s d st logical ≡ 0 → Changing s d n st (erase_update logical) (erasing_logical s d n st logical)
  unfolding result_of erase_request
  erase_ends z =
      let a = accepts s.geometry (sized_for s d) st logical 0 s.geometry.main z in
      rw (eq-eqb (erase_refusal s d st logical) 0 z)
      (change_ends s d n st (erase_update logical) ranged is_ready a.sizes_fit a.is_mounted
      (meant.erase_proper s.geometry (sized-valid s d a.sizes_fit) st logical a.logical_below))
