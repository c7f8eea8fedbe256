-- A formatting as a whole: every cycle legal, marked blocks untouched, and what an acknowledged one leaves. Assumes nothing.
use Prim.Native.Nat.{ℕ, zero, suc, ◌+◌, ◌*◌, ◌≤◌, ◌<◌, max}
use mathlib.Core.Bool.{Bool, true, false, cond, false≢true}
use mathlib.Core.List.{List, []}
use mathlib.Core.Logic.{◌⊎◌, ◌↔◌, inl, inr, ⊎_elim}
use mathlib.Core.Path.{◌≡◌, refl, sym, ap, subst, ◌∙◌}
use native.Mathlib.Nat.{mul-le-mul_right, add-zero}
use native.Mathlib.Omega.{arith}
use borrow.Table.Steps.{cases}
use borrow.Author.Tests.{eqb-true, eqb-false, ltb-true, ltb-false, lt-ltb, le-ltb}
use lib.Dec.{eqb, ltb}
use lib.ListN.{length, replicate}
use Rattle.geometry.specs.declared.Geometry.{Geometry}
use Rattle.geometry.specs.Limits.{Valid}
use Rattle.geometry.specs.Sizes.{page_size, block_size, chip_size}
use Rattle.cells.specs.Bytes.{Bytes}
use Rattle.cells.proofs.PartLaws.{bytes_part}
use Rattle.bitmaps.specs.Bitmap.{bit_at}
use Rattle.chip_array.specs.Device.{Device, Setting}
use Rattle.bus_polling.specs.Outcomes.{is_passed, is_failed, is_silent, is_cut_off, is_illegal, is_protected, is_read_end}
use Rattle.bus_polling.specs.declared.Outcome.{Outcome}
use Rattle.bus_polling.specs.declared.Outcome.TheVariants.{Passed, Cut, Protected}
use Rattle.bus_polling.proofs.OutcomeLaws.{is_passed_lem, passed_answered}
use Rattle.operations.specs.Ends.{Called}
use Rattle.operations.specs.Trace.{ArrayOperation}
use Rattle.copies.specs.Blocks.{block_in, page_in, whole_in, is_marked, is_data, greatest_to}
use Rattle.copies.specs.Carried.{carried_table, is_carried}
use Rattle.copies.specs.Pick.{at}
use Rattle.copies.specs.Current.{current_table, filled_last, greatest_below}
use Rattle.state_choose.specs.Choose.{permitted, count_permitted}
use Rattle.state.specs.State.{blank, number_end, held_bits}
use Rattle.state.proofs.NumberLaws.{mounted-told}
use Rattle.state.specs.declared.State.{State}
use Rattle.scan_found.specs.Contents.{entry_of, map_in, kinds_of}
use Rattle.scan_found.specs.Found.{bits_at, marks_to}
use Rattle.request.specs.Call.{sized_for, call_line, stop_answer, status_answer, status_state}
use Rattle.request.proofs.CallLaws.{sizes, stop_answer_lem, stop_cut, stop_silent}
use Rattle.progress.specs.Progress.{Progress, progress, line_of, reset_on, status_on}
use Rattle.progress.proofs.StatusLaws.{StatusLeft, status_leaves, status_keeps}
use Rattle.progress.proofs.WordLaws.{line_kept}
use Rattle.scan.proofs.KeepLaws.{blocks_keep}
use Rattle.format_erase.proofs.KeepLaws.{round_keeps}
use Rattle.fill.specs.Fill.{table_copy, table_main, copy_page}
use Rattle.mount.specs.Mount.{mounted_state, block_of}
use Rattle.scan_quick.specs.BlockRead.{block_read}
use Rattle.scan.specs.Scan.{blocks_read}
use Rattle.scan_summary.specs.declared.Depth.TheVariants.{Full}
use Rattle.format_scan.specs.Survey.{surveyed, union_to, passed_over}
use Rattle.format_scan.specs.declared.Survey.{Survey}
use Rattle.format_scan.proofs.UnionLaws.{union_bit, union_bits}
use Rattle.format_erase.specs.Round.{Round, erased_to}
use Rattle.format_erase.proofs.RoundLaws.{round-stopped}
use Rattle.fill_tables.specs.Tables.{Tabled, tabled, end_of_run}
use Rattle.fill_tables.proofs.StatusLaws.{after_passed, after-stopped}
use Rattle.format.specs.Format.{first_state, too_few, stopped, tables_from, late_run, tables_run, round_run, status_run, reads_run, format_run}
use Rattle.damage.specs.Protect.{Unwritten}
use Rattle.damage.specs.Run.{failed_in, failed_count, NoneFailed, Sound, Unchanged, Spent, read_most, scan_most, block_on, Slow, Failing, erase_most, table_fill_most}
use Rattle.damage.proofs.FailedLaws.{failed_least}
use Rattle.damage.proofs.PlaceLaws.{page-erased}
use Rattle.damage.proofs.ReadLaws.{pages_calm, blocks_unchanged, blocks_spend, reset_unchanged, reset_spends}
use Rattle.damage.proofs.CopyLaws.{erased_unmarked}
use Rattle.format_laws.proofs.SettledLaws as settled
use Rattle.format_laws.proofs.TablesLaws.{neither, second, Ready}
use Rattle.format_laws.proofs.LateLaws.{LateDone, Spare, Late, held_table, late_leaves}
use Rattle.format_laws.proofs.SurveyedLaws.{by_carried, carried_at, marked_bit, carried_bit, carried_bits, carried_apart, over_marked, over_carried, over_old, due_unmarked, due_so, old_is, old_unlisted, old_unmarked, old_whole, old_no_data, found_lower}
use Rattle.format_laws.proofs.RoundLaws.{Rounded, round_leaves}
use Rattle.format_laws.proofs.CountLaws.{Counted, count_unfailed, none-unfailed, some_unfailed, two_unfailed}
use Rattle.format_laws.specs.Formatting.{Formatted, FormatAnswer, is_worn, is_silent_fact, is_cut, is_protected_fact, unfailed, count_of, tables_held, reads_done, status_done, round_from, round_done, NumbersEnd, block_most, format_most}

-- how a formatting of chip d ends that may send n cycles, whatever fails or is cut
pub record FormatLeft (s : Setting) (d : Device) (n : ℕ) (state : State) (t : Tabled) : Type 0 where
  pub legal : t.progress.line.chip.interface.illegal ≡ 0
  pub answers : FormatAnswer t.answer
  pub worn_by : t.answer ≡ 8 → (unfailed s.geometry d.array (round_done s d n).started s.geometry.blocks < s.geometry.logical + 2)
      ⊎ (unfailed s.geometry d.array t.progress.started s.geometry.blocks ≤ tables_held s.geometry d.array)
  pub worn_so : is_passed (round_done s d n).outcome ≡ true → unfailed s.geometry d.array (round_done s d n).started s.geometry.blocks < s.geometry.logical + 2 → t.answer ≡ 8
  pub worn_out : is_passed (round_done s d n).outcome ≡ true → unfailed s.geometry d.array t.progress.started s.geometry.blocks ≤ tables_held s.geometry d.array → (t.answer ≡ 8) ⊎ (t.answer ≡ 9)
  pub spent_exactly : (t.answer ≡ 9) ↔ NumbersEnd s.geometry d.array (round_from s (status_done s d n)) t.progress.started
  pub spent_by : t.answer ≡ 9 → (number_end ≤ greatest_below s.geometry d.array s.geometry.blocks + 1) ⊎ Failing s.fates
  pub silent_by : t.answer ≡ 10 → Slow s.fates
  pub used_up : t.answer ≡ 11 → t.progress.line.left ≡ 0
  pub round_failed : (b : ℕ) → b < s.geometry.blocks → failed_in b (round_done s d n).started ≡ true → Failing s.fates
  pub failed_by_fact : (b : ℕ) → b < s.geometry.blocks → failed_in b t.progress.started ≡ true → Failing s.fates
  pub stopped_so : (t.answer ≡ 0 → ⊥) → (t.answer ≡ 13 → ⊥) → t.state ≡ blank 2
  pub protected_exactly : (t.answer ≡ 13) ↔ (is_protected (status_done s d n).outcome ≡ true)
  pub unwritten : t.answer ≡ 13 → Unwritten d state (end_of_run n t)
  pub marked_kept : (b : ℕ) → b < s.geometry.blocks → is_marked s.geometry (block_in s.geometry d.array b) ≡ true
      → block_in s.geometry t.progress.line.chip.array b ≡ block_in s.geometry d.array b
  pub carried_kept : (b : ℕ) → b < s.geometry.blocks → is_carried s.geometry d.array b ≡ true → block_in s.geometry t.progress.line.chip.array b ≡ block_in s.geometry d.array b
  pub marks : t.answer ≡ 0 → (b : ℕ) → b < s.geometry.blocks → is_marked s.geometry (block_in s.geometry t.progress.line.chip.array b) ≡ is_marked s.geometry (block_in s.geometry d.array b)
  pub called : t.answer ≡ 0 → Called s t.progress.line
  pub formatted : t.answer ≡ 0 → Formatted s.geometry t.progress.line.chip.array t.state
  pub failures : t.answer ≡ 0 → (b : ℕ) → b < s.geometry.blocks → cond (is_carried s.geometry d.array b) true (failed_in b t.progress.started) ≡ bit_at t.state.invalid b
  pub spent : n ≤ t.progress.line.left + format_most s.geometry

-- no block fails in the page reads
pub blocks_calm : (s : Setting) (array history : List ℕ) → Valid s.geometry → (n : ℕ) → n ≤ s.geometry.blocks → (p : Progress) → Unchanged s array history p → NoneFailed p (blocks_read Full s n p)
unfolding blocks_read block_read
blocks_calm s array history v zero h p u c = refl
blocks_calm s array history v (suc n) h p u c =
    pages_calm s array history v n (omega (arith, h)) s.geometry.pages (omega arith) (blocks_read Full s n p) (blocks_unchanged s array history v Full n (omega (arith, h)) p u) c
    ∙ blocks_calm s array history v n (omega (arith, h)) p u c

-- where the marks are the same, so is their bitmap
pub marks_same : (g : Geometry) (a b : List ℕ) (n : ℕ) → ((k : ℕ) → k < n → is_marked g (block_in g a k) ≡ is_marked g (block_in g b k)) → marks_to g a n ≡ marks_to g b n
unfolding marks_to
marks_same g a b zero f = refl
marks_same g a b (suc n) f = rw (f n (omega arith), marks_same g a b n (λ k h. f k (omega (arith, h))))

pub count_most : (marked invalid held : List ℕ) (n : ℕ) → count_permitted marked invalid held n ≤ n
unfolding count_permitted
count_most marked invalid held zero = omega arith
count_most marked invalid held (suc n) =
    let less = count_most marked invalid held n in
    cases (permitted marked invalid held n) (λ t. rw t (omega (arith, less))) (λ t. rw t (omega (arith, less)))

-- silent or cut
stop_least : (o : Outcome) → is_read_end o ≡ true → is_passed o ≡ false → FormatAnswer (stop_answer o) × (10 ≤ stop_answer o)
stop_least o r f =
    ⊎_elim (λ e. (subst FormatAnswer (sym e) is_silent_fact, omega (arith, e))) (λ e. (subst FormatAnswer (sym e) is_cut, omega (arith, e))) (stop_answer_lem o r f)

stop_unlike : (o : Outcome) → is_read_end o ≡ true → is_passed o ≡ false → stop_answer o ≡ 13 → ⊥
stop_unlike o r f z = ⊎_elim (λ e. omega (arith, e, z)) (λ e. omega (arith, e, z)) (stop_answer_lem o r f)

-- a formatting that led from p to t
pub record Whole (s : Setting) (p : Progress) (t : Tabled) : Type 0 where
  pub sound : Sound s t.progress
  pub answers : FormatAnswer t.answer
  pub unprotected : t.answer ≡ 13 → ⊥
  pub worn_by : t.answer ≡ 8 → (unfailed s.geometry p.line.chip.array (round_from s p).progress.started s.geometry.blocks < s.geometry.logical + 2)
      ⊎ (unfailed s.geometry p.line.chip.array t.progress.started s.geometry.blocks ≤ tables_held s.geometry p.line.chip.array)
  pub worn_so : is_passed (round_from s p).progress.outcome ≡ true → unfailed s.geometry p.line.chip.array (round_from s p).progress.started s.geometry.blocks < s.geometry.logical + 2
      → t.answer ≡ 8
  pub worn_out : is_passed (round_from s p).progress.outcome ≡ true → unfailed s.geometry p.line.chip.array t.progress.started s.geometry.blocks ≤ tables_held s.geometry p.line.chip.array → (t.answer ≡ 8) ⊎ (t.answer ≡ 9)
  pub spent_exactly : (t.answer ≡ 9) ↔ NumbersEnd s.geometry p.line.chip.array (round_from s p) t.progress.started
  pub spent_by : t.answer ≡ 9 → (number_end ≤ greatest_below s.geometry p.line.chip.array s.geometry.blocks + 1) ⊎ Failing s.fates
  pub silent_by : t.answer ≡ 10 → Slow s.fates
  pub used_up : t.answer ≡ 11 → t.progress.line.left ≡ 0
  pub round_failed : (b : ℕ) → b < s.geometry.blocks → failed_in b (round_from s p).progress.started ≡ true → Failing s.fates
  pub failed_by_fact : (b : ℕ) → b < s.geometry.blocks → failed_in b t.progress.started ≡ true → Failing s.fates
  pub stopped_so : (t.answer ≡ 0 → ⊥) → t.state ≡ blank 2
  pub marked_kept : (b : ℕ) → b < s.geometry.blocks → is_marked s.geometry (block_on s p b) ≡ true → block_on s t.progress b ≡ block_on s p b
  pub carried_kept : (b : ℕ) → b < s.geometry.blocks → is_carried s.geometry p.line.chip.array b ≡ true → block_on s t.progress b ≡ block_on s p b
  pub marks : t.answer ≡ 0 → (b : ℕ) → b < s.geometry.blocks → is_marked s.geometry (block_on s t.progress b) ≡ is_marked s.geometry (block_on s p b)
  pub called : t.answer ≡ 0 → Called s t.progress.line
  pub formatted : t.answer ≡ 0 → Formatted s.geometry t.progress.line.chip.array t.state
  pub failures : t.answer ≡ 0 → (b : ℕ) → b < s.geometry.blocks → cond (is_carried s.geometry p.line.chip.array b) true (failed_in b t.progress.started) ≡ bit_at t.state.invalid b
  pub spent : Spent p t.progress (s.geometry.blocks * block_most s.geometry + (s.geometry.blocks * table_fill_most s.geometry + erase_most))

module _ (s : Setting) (v : Valid s.geometry) (mask_bytes : Bytes s.mask) (p : Progress) (sound : Sound s p) (ends : is_read_end p.outcome ≡ true) (none : (b : ℕ) → failed_in b p.started ≡ false) (high : line_of p ≡ 0)
    (long : length p.line.chip.array ≡ chip_size s.geometry) (bytes : Bytes p.line.chip.array) where
  abbrev g : Geometry
  g = s.geometry

  abbrev array : List ℕ
  array = p.line.chip.array

  -- what was found before
  abbrev found : Survey
  found = surveyed g array

  abbrev marked : List ℕ
  marked = found.marked

  abbrev carried : List ℕ
  carried = found.carried

  abbrev old : ℕ
  old = found.old

  mark_is : (b : ℕ) → b < g.blocks → is_marked g (block_on s p b) ≡ bit_at marked b
  mark_is b h = sym (marked_bit g v array long b h)

  carried_is : (b : ℕ) → b < g.blocks → bit_at carried b ≡ is_carried g array b
  carried_is = carried_bit g v array long

  abbrev r : Round
  r = erased_to s (passed_over g found) g.blocks p

  rounded : Rounded s (passed_over g found) p g.blocks r
  rounded = round_leaves s v mask_bytes (passed_over g found) p (λ b h f. due_unmarked g v array long b h f) sound ends none high g.blocks (omega arith)

  -- the blocks carried over and those that failed
  abbrev invalid : List ℕ
  invalid = union_to carried r.invalid g.blocks

  invalid_is : (b : ℕ) → b < g.blocks → bit_at invalid b ≡ cond (bit_at carried b) true (bit_at r.invalid b)
  invalid_is b h =
      union_bit carried r.invalid g.blocks b v.blocks_most (carried_bits g v array long bytes).long
      ∙ ap (λ (x : Bool). cond (bit_at carried b) true (cond x (bit_at r.invalid b) false)) (lt-ltb b g.blocks h)

  failed_is : (b : ℕ) → b < g.blocks → cond (bit_at carried b) true (failed_in b r.progress.started) ≡ bit_at invalid b
  failed_is b h = ap (λ (x : Bool). cond (bit_at carried b) true x) (rounded.failures b h) ∙ sym (invalid_is b h)

  -- the blocks left after the first round
  abbrev unfailed-round : ℕ
  unfailed-round = unfailed g array r.progress.started g.blocks

  round_count : unfailed-round ≡ count_permitted marked invalid (replicate 512 0) g.blocks
  round_count =
      count_unfailed g array r.progress.started marked invalid g.blocks v.blocks_most mark_is
      (λ b h. ap (λ (x : Bool). cond x true (failed_in b r.progress.started)) (sym (carried_is b h)) ∙ failed_is b h)

  kept_marked : (b : ℕ) → b < g.blocks → is_marked g (block_on s p b) ≡ true → block_on s r.progress b ≡ block_on s p b
  kept_marked b h m = rounded.kept b h (over_marked g v array long b h m)

  kept_carried : (b : ℕ) → b < g.blocks → is_carried g array b ≡ true → block_on s r.progress b ≡ block_on s p b
  kept_carried b h c = rounded.kept b h (over_carried g v array long b h c)

  -- a run that ends with the first round
  stops : (a : ℕ) → FormatAnswer a → (a ≡ 13 → ⊥) → (a ≡ 0 → ⊥) → (a ≡ 8 → unfailed-round < g.logical + 2) → (is_passed r.progress.outcome ≡ true → unfailed-round < g.logical + 2 → a ≡ 8) → (a ≡ 9 → ⊥)
      → (is_passed r.progress.outcome ≡ true → unfailed-round < g.logical + 2) → (a ≡ 10 → Slow s.fates) → (a ≡ 11 → r.progress.line.left ≡ 0) → Whole s p (tabled r.progress a (blank 2))
  stops a is unprotected not_done worn_by worn_so not-spent few silent_by used =
      record {
        sound = rounded.sound;
        answers = is;
        unprotected = unprotected;
        worn_by = λ z. inl (worn_by z);
        worn_so = worn_so;
        worn_out = λ y none. inl (worn_so y (few y));
        spent_exactly = (λ z. absurd (not-spent z), λ e. absurd (omega (arith, e.blocks_left, few e.round_passed)));
        spent_by = λ z. absurd (not-spent z);
        silent_by = silent_by;
        used_up = used;
        round_failed = rounded.failed_by_fact;
        failed_by_fact = rounded.failed_by_fact;
        stopped_so = λ y. refl;
        marked_kept = kept_marked;
        carried_kept = kept_carried;
        marks = λ z. absurd (not_done z);
        called = λ z. absurd (not_done z);
        formatted = λ z. absurd (not_done z);
        failures = λ z. absurd (not_done z);
        spent = omega (arith, rounded.spent);
      }

  -- the first round passed
  module _ (y : is_passed r.progress.outcome ≡ true) where
    abbrev seen : ℕ
    seen = max found.greatest r.numbers.greatest

    abbrev first : State
    first = first_state g marked invalid seen old

    unmarked_so : (b : ℕ) → b < g.blocks → bit_at marked b ≡ false → is_marked g (block_on s p b) ≡ false
    unmarked_so b h f = mark_is b h ∙ f

    -- a block that is neither marked nor invalid nor the old table's
    erased_row : (b : ℕ) → b < g.blocks → bit_at marked b ≡ false → bit_at invalid b ≡ false → (b ≡ old → ⊥) → block_on s r.progress b ≡ replicate (block_size g) 255
    erased_row b h m f x =
        let c = neither (bit_at carried b) (bit_at r.invalid b) (sym (invalid_is b h) ∙ f) in
        rounded.erased y b h (due_so g v array long b h (unmarked_so b h m) (sym (carried_is b h) ∙ c.0) x) c.1

    old_row : old < g.blocks → block_on s r.progress old ≡ block_on s p old
    old_row h = rounded.kept old h (over_old g v array long old h refl)

    old_free : old < g.blocks → bit_at marked old ≡ false
    old_free h = sym (mark_is old h) ∙ old_unmarked g v array long h

    old_valid : old < g.blocks → bit_at invalid old ≡ false
    old_valid h =
        invalid_is old h ∙ rw (carried_is old h ∙ old_unlisted g v array long h, rounded.apart old h (over_old g v array long old h refl))

    marks_after : (b : ℕ) → b < g.blocks → is_marked g (block_on s r.progress b) ≡ bit_at marked b
    marks_after b h =
        cases (bit_at (passed_over g found) b)
        (λ t. ap (is_marked g) (rounded.kept b h t) ∙ mark_is b h)
        (λ f.
        let clear = sym (mark_is b h) ∙ due_unmarked g v array long b h f in
        cases (bit_at r.invalid b)
        (λ i. rounded.unmarked y b h i ∙ sym clear)
        (λ i.
        erased_unmarked g v (block_on s r.progress b) (λ k l. ap (λ (row : List ℕ). page_in g row k) (rounded.erased y b h f i) ∙ page-erased g k l) ∙ sym clear))

    -- the numbers on what is invalid
    listed_lower : (b : ℕ) → b < g.blocks → bit_at marked b ≡ false → bit_at invalid b ≡ true → greatest_to g (block_on s r.progress b) g.pages ≤ seen
    listed_lower b h m t =
        cases (bit_at carried b)
        (λ c.
        subst (λ (row : List ℕ). greatest_to g row g.pages ≤ seen) (sym (kept_carried b h (sym (carried_is b h) ∙ c)))
        (omega (arith, found_lower g v array long b h (unmarked_so b h m))))
        (λ c. omega (arith, rounded.numbers y b h (second (bit_at carried b) (bit_at r.invalid b) c (sym (invalid_is b h) ∙ t))))

    apart_so : (b : ℕ) → b < g.blocks → bit_at marked b ≡ true → bit_at invalid b ≡ false
    apart_so b h m =
        let is = mark_is b h ∙ m in
        invalid_is b h ∙ rw (carried_is b h ∙ carried_apart g v array long b h is, rounded.apart b h (over_marked g v array long b h is))

    few_logical : g.logical ≤ 4096
    few_logical = omega (arith, v.logical_most, v.blocks_most)

    ready : Ready s carried (held_bits first g.logical) old r.progress first
    unfolding first_state
    ready =
        record {
          passed = y;
          sound = rounded.sound;
          high = round_keeps s (λ x. line_of x ≡ 0) (line_kept s 0) (passed_over g found) g.blocks p high;
          last_below = omega (arith, v.blocks_least);
          number_some = omega arith;
          invalid_bits = union_bits carried r.invalid g.blocks g.blocks v.blocks_most (omega arith) (carried_bits g v array long bytes);
          marks = marks_after;
          erased = erased_row;
          listed = λ b h m t. omega (arith, listed_lower b h m t);
          apart = apart_so;
          failures = failed_is;
          failed_by_fact = rounded.failed_by_fact;
          former_held = λ h. held_table first g.logical few_logical refl (omega (arith, h, v.blocks_most));
          former_lower = λ h.
              subst (λ (row : List ℕ). greatest_to g row g.pages < seen + 1) (sym (old_row h)) (omega (arith, found_lower g v array long old h (old_unmarked g v array long h)));
          former_no_data = λ h. ap (is_data g) (old_row h) ∙ old_no_data g v array long h;
        }

    abbrev t : Tabled
    t = late_run s old (tables_from s first r.progress)

    old_bytes : old < g.blocks → Bytes (block_on s r.progress old)
    old_bytes h = subst Bytes (sym (old_row h)) (bytes_part (old * block_size g) (block_size g) array bytes)

    left : Late s carried old first r.progress t
    unfolding first_state
    left =
        late_leaves s mask_bytes carried old first r.progress refl refl ready old_free old_valid
        (λ h i l. ap (λ (row : List ℕ). whole_in g row i) (old_row h) ∙ old_whole g v array long h i l)
        old_bytes

    -- a table fill passed
    module _ (z : t.answer ≡ 0) where
      abbrev after : List ℕ
      after = t.progress.line.chip.array

      d : LateDone s carried first t.progress t.state
      d = left.done z

      marked_is : t.state.marked ≡ marks_to g after g.blocks
      unfolding first_state
      marked_is = d.marked_same ∙ marks_same g array after g.blocks (λ k h. mark_is k h ∙ sym (d.marks k h))

      marks_kept : (b : ℕ) → b < g.blocks → is_marked g (block_in g after b) ≡ is_marked g (block_on s p b)
      unfolding first_state
      marks_kept b h = d.marks b h ∙ sym (mark_is b h)

      state_is : t.state ≡ mounted_state g after
      unfolding first_state mounted_state block_of
      state_is =
          let table_is : t.state.table ≡ block_of (current_table g after) = sym (ap block_of (settled.current_is d.settled)) in
          let last_is : t.state.last ≡ block_of (filled_last g after) = d.last_is ∙ sym (ap block_of (settled.last_is d.settled)) in
          let number_is : t.state.number ≡ greatest_below g after g.blocks = d.number_is ∙ sym (settled.greatest_is d.settled) in
          let invalid_is : t.state.invalid ≡ bits_at g after (block_of (current_table g after)) = sym (settled.bitmap_back d.settled) ∙ ap (bits_at g after) table_is in
          let map_is : t.state.map ≡ map_in g after (block_of (current_table g after)) = d.map_same ∙ sym (settled.map_blank d.settled) ∙ ap (map_in g after) table_is in
          let kinds_is : t.state.kinds ≡ kinds_of g after (block_of (current_table g after)) = d.kinds_same ∙ sym (settled.kinds_blank d.settled) ∙ ap (kinds_of g after) table_is in
          mounted-told t.state d.status_same number_is table_is last_is marked_is invalid_is map_is kinds_is

      formats : Formatted g after t.state
      formats =
          record {
            table_is = settled.current_is d.settled;
            lists_are = settled.lists_invalid d.settled;
            number_next = ap (λ (k : ℕ). k + 1) (d.number_is ∙ sym (settled.number_is d.settled));
            table_pages_fact = λ i h.
                d.settled.table_pages_fact i h ∙ ap (λ (k : ℕ). copy_page g (table_copy k) i (table_main g t.state.invalid i)) (sym (settled.number_is d.settled));
            table_whole = settled.table_whole d.settled;
            table_bytes = settled.page_bytes d.settled;
            former = d.former;
            erased = λ b h x z m l. d.settled.erased b h x z m (sym (settled.lists_invalid d.settled b h) ∙ l);
            former_whole = d.former_whole;
            former_bytes = d.former_bytes;
            only_table = λ b h c l. settled.only_table d.settled b h c (sym (settled.lists_invalid d.settled b h) ∙ l);
            mounts = settled.mounts_well d.settled;
            state_is = state_is;
            reads_blank = settled.reads_blank d.settled;
          }

    tables_spent : Spent r.progress t.progress (g.blocks * table_fill_most g + erase_most)
    unfolding first_state
    tables_spent = omega (arith, left.spent, mul-le-mul_right (table_fill_most g) (count_most marked invalid (held_bits first g.logical) g.blocks))

    -- a block that is counted
    counted : (b : ℕ) → Spare s first.marked carried t.progress b → Counted g array t.progress.started b
    unfolding first_state
    counted b x = (mark_is b x.below ∙ x.unmarked, (sym (carried_is b x.below) ∙ x.uncarried, x.unfailed))

    -- the block of a complete table is held where a list is carried over
    one_held : old < g.blocks → tables_held g array ≡ 1
    unfolding count_of
    one_held h = ap count_of (old_is g v array long h)

    none_held : g.blocks ≤ old → tables_held g array ≡ 0
    unfolding count_of entry_of
    none_held h =
        by_carried (carried_table g array) (ap count_of)
        (λ k e. let there : old ≡ k = ap entry_of e in absurd (omega (arith, (carried_at g array k e).below, there, h)))

    -- worn: every block but that failed
    worn_most : t.answer ≡ 8 → unfailed g array t.progress.started g.blocks ≤ tables_held g array
    unfolding first_state
    worn_most z =
        let most = none-unfailed g array t.progress.started g.blocks left.held
        (λ b h x m c. left.worn_by z b h x (sym (mark_is b h) ∙ m) (carried_is b h ∙ c)) in
        cases (ltb old g.blocks)
        (λ h. let on = ltb-true old g.blocks h in omega (arith, one_held on, rw (lt-ltb left.held g.blocks (left.held_on on).below) at most))
        (λ h. let off = ltb-false old g.blocks h in omega (arith, none_held off, rw (le-ltb left.held g.blocks (left.held_off off)) at most))

    -- neither worn nor spent: one more has not failed
    left_more : (t.answer ≡ 8 → ⊥) → (t.answer ≡ 9 → ⊥) → tables_held g array < unfailed g array t.progress.started g.blocks
    left_more x w =
        let u = left.unworn x w in
        let here = counted u.block u.spare in
        cases (ltb old g.blocks)
        (λ h.
        let on = ltb-true old g.blocks h in
        let k = left.held_on on in
        omega (arith, one_held on, two_unfailed g array t.progress.started g.blocks u.block left.held u.spare.below k.below u.off here (counted left.held k)))
        (λ h. omega (arith, none_held (ltb-false old g.blocks h), some_unfailed g array t.progress.started g.blocks u.block u.spare.below here))

    none_left : unfailed g array t.progress.started g.blocks ≤ tables_held g array → (t.answer ≡ 8) ⊎ (t.answer ≡ 9)
    none_left most =
        cases (eqb t.answer 8)
        (λ e. inl (eqb-true t.answer 8 e))
        (λ e.
        cases (eqb t.answer 9)
        (λ i. inr (eqb-true t.answer 9 i))
        (λ i. absurd (omega (arith, most, left_more (eqb-false t.answer 8 e) (eqb-false t.answer 9 i)))))

    -- spent: the chip bore the last number, an erase failed, or a fill
    spent_failing : t.answer ≡ 9 → (number_end ≤ found.greatest + 1) ⊎ Failing s.fates
    unfolding first_state
    spent_failing z =
        ⊎_elim
        (λ most.
        cases (ltb (found.greatest + 1) number_end)
        (λ h. inr (rounded.greatest_by_fact (λ z. omega (arith, most, z, ltb-true (found.greatest + 1) number_end h))))
        (λ h. inl (ltb-false (found.greatest + 1) number_end h)))
        inr
        (left.spent_fails z)

    -- and exactly where the numbers end
    fails_more : failed_count r.progress.started g.blocks ≤ failed_count t.progress.started g.blocks
    fails_more = failed_least r.progress.started t.progress.started left.failed_kept g.blocks

    numbers_end : g.logical + 2 ≤ unfailed-round → (t.answer ≡ 9) ↔ NumbersEnd g array r t.progress.started
    unfolding first_state
    numbers_end enough = (
      λ z. record { round_passed = y; blocks_left = enough; above = omega (arith, left.spent_by z, fails_more) },
      λ e. left.spent_so (omega (arith, e.above, fails_more)),
    )

    few_blocks : too_few g marked invalid ≡ true → unfailed-round < g.logical + 2
    unfolding too_few
    few_blocks few = omega (arith, round_count, ltb-true (count_permitted marked invalid (replicate 512 0) g.blocks) (g.logical + 2) few)

    enough_blocks : too_few g marked invalid ≡ false → g.logical + 2 ≤ unfailed-round
    unfolding too_few
    enough_blocks enough = omega (arith, round_count, ltb-false (count_permitted marked invalid (replicate 512 0) g.blocks) (g.logical + 2) enough)

    all_kept : (b : ℕ) → b < g.blocks → (bit_at marked b ≡ true) ⊎ (bit_at carried b ≡ true) → block_on s t.progress b ≡ block_on s r.progress b
    unfolding first_state
    all_kept = left.kept

    tables_whole : Whole s p (tables_run s marked invalid seen old r.progress)
    unfolding tables_run
    tables_whole =
        cases (too_few g marked invalid)
        (λ few. subst (Whole s p) (sym (rw few))
        (stops 8 is_worn (λ z. omega (arith, z)) (λ z. omega (arith, z)) (λ z. few_blocks few) (λ x less. refl) (λ z. omega (arith, z)) (λ x. few_blocks few) (λ z. absurd (omega (arith, z))) (λ z. absurd (omega (arith, z)))))
        (λ enough.
        subst (Whole s p) (sym (rw enough))
        (record {
          sound = left.sound;
          answers = left.answers;
          unprotected = left.unprotected;
          worn_by = λ z. inr (worn_most z);
          worn_so = λ x less. absurd (omega (arith, less, enough_blocks enough));
          worn_out = λ x none. none_left none;
          spent_exactly = numbers_end (enough_blocks enough);
          spent_by = spent_failing;
          silent_by = left.silent_by;
          used_up = left.used_up;
          round_failed = rounded.failed_by_fact;
          failed_by_fact = left.failed_by_fact;
          stopped_so = left.stopped;
          marked_kept = λ b h m. all_kept b h (inl (sym (mark_is b h) ∙ m)) ∙ kept_marked b h m;
          carried_kept = λ b h c. all_kept b h (inr (carried_is b h ∙ c)) ∙ kept_carried b h c;
          marks = marks_kept;
          called = λ z. (d z).called;
          formatted = formats;
          failures = λ z b h. ap (λ (x : Bool). cond x true (failed_in b t.progress.started)) (sym (carried_is b h)) ∙ (d z).failures b h;
          spent = omega (arith, rounded.spent, tables_spent);
        }))

  -- the first round and what follows it
  round_whole : Whole s p (round_run s found p)
  unfolding round_run
  round_whole =
      cases (is_passed r.progress.outcome)
      (λ y. subst (Whole s p) (sym (rw y)) (tables_whole y))
      (λ f.
      let stop = stop_least r.progress.outcome rounded.ends f in
      let least = stop.1 in
      subst (Whole s p) (sym (rw f))
      (stops (stop_answer r.progress.outcome) stop.0 (stop_unlike r.progress.outcome rounded.ends f) (λ z. omega (arith, z, least)) (λ z. absurd (omega (arith, z, least))) (λ y. absurd (false≢true (sym f ∙ y)))
      (λ z. omega (arith, z, least)) (λ y. absurd (false≢true (sym f ∙ y))) (λ z. rounded.sound.silent_by (stop_silent r.progress.outcome z)) (λ z. rounded.sound.used_up (stop_cut r.progress.outcome z))))

-- a status read after page reads that did not pass is not sent
pub status_same : (s : Setting) (d : Device) (n : ℕ) → is_passed (reads_done s d n).outcome ≡ false → status_done s d n ≡ reads_done s d n
unfolding status_on
status_same s d n f = rw f

-- the request by how its page reads and its status read ended
module _ (s : Setting) (d : Device) (n : ℕ) (state : State) where
  pub unread_is : is_passed (reads_done s d n).outcome ≡ false → format_run s d n state ≡ stopped (reads_done s d n)
  unfolding reads_run
  unread_is f = rw f

  module _ (y : is_passed (reads_done s d n).outcome ≡ true) where
    pub round_is : is_passed (status_done s d n).outcome ≡ true
        → format_run s d n state ≡ round_run s (surveyed s.geometry (reads_done s d n).line.chip.array) (status_done s d n)
    unfolding reads_run status_run
    round_is z = rw y (after_passed state (status_done s d n) _ z)

    pub status_is : is_passed (status_done s d n).outcome ≡ false
        → format_run s d n state ≡ tabled (status_done s d n) (status_answer (status_done s d n).outcome) (status_state (status_done s d n).outcome state)
    unfolding reads_run status_run
    status_is f = rw y (after-stopped state (status_done s d n) _ f)

-- the request from its reset on
module _ (s : Setting) (d : Device) (n : ℕ) (t : sized_for s d ≡ true) where
  abbrev begun : Progress
  begun = reset_on s (progress (call_line d n) Passed [] [])

  fitted : Valid s.geometry
  fitted = (sizes s.geometry (length d.array) (length d.register) (length d.history) (length s.mask) t).chip_fits.is_valid

  abbrev q : Progress
  q = reads_done s d n

  pub reads-left : Unchanged s d.array d.history q
  reads-left = blocks_unchanged s d.array d.history fitted Full s.geometry.blocks (omega arith) begun (reset_unchanged s d n t)

  pub reads_line : line_of q ≡ d.interface.protected
  reads_line =
      let k = d.interface.protected in
      blocks_keep Full s (λ x. line_of x ≡ k) (line_kept s k) s.geometry.blocks begun
      ((line_kept s k).reset (progress (call_line d n) Passed [] []) refl)

  reads_none : (b : ℕ) → failed_in b q.started ≡ false
  unfolding reset_on is_passed failed_in
  reads_none b = blocks_calm s d.array d.history fitted s.geometry.blocks (omega arith) begun (reset_unchanged s d n t) b

  reads_few : n ≤ q.line.left + (3 + s.geometry.blocks * (s.geometry.pages * read_most (page_size s.geometry)))
  unfolding scan_most
  reads_few = omega (arith, reset_spends s d n t, blocks_spend s d.array d.history fitted Full s.geometry.blocks (omega arith) begun (reset_unchanged s d n t))

  -- after the status read
  abbrev p : Progress
  p = status_done s d n

  pub status_left : is_passed q.outcome ≡ true → StatusLeft s q p
  status_left y = status_leaves s q y (reads-left.sound.called (passed_answered q.outcome y))

  pub same_array : p.line.chip.array ≡ d.array
  unfolding status_on
  same_array = cases (is_passed q.outcome) (λ y. (status_left y).same_array) (λ f. rw f) ∙ reads-left.same_array

  pub same_history : p.line.chip.history ≡ d.history
  unfolding status_on
  same_history = cases (is_passed q.outcome) (λ y. (status_left y).same_history) (λ f. rw f) ∙ reads-left.same_history

  status_legal : p.line.chip.interface.illegal ≡ 0
  unfolding status_on
  status_legal = cases (is_passed q.outcome) (λ y. (status_left y).legal) (λ f. rw f reads-left.sound.legal)

  calm : (b : ℕ) → failed_in b p.started ≡ false
  unfolding status_on
  calm b = cases (is_passed q.outcome) (λ y. rw y (reads_none b)) (λ f. rw f (reads_none b))

  few : n ≤ p.line.left + (5 + s.geometry.blocks * (s.geometry.pages * read_most (page_size s.geometry)))
  unfolding status_on
  few = cases (is_passed q.outcome) (λ y. omega (arith, reads_few, (status_left y).left_is)) (λ f. rw f (omega (arith, reads_few)))

  block_same : (b : ℕ) → block_on s p b ≡ block_in s.geometry d.array b
  block_same b = ap (λ (a : List ℕ). block_in s.geometry a b) same_array

  -- the count of blocks is that of the chip as it was handed in
  unfailed_same : (trace : List ArrayOperation) → unfailed s.geometry p.line.chip.array trace s.geometry.blocks ≡ unfailed s.geometry d.array trace s.geometry.blocks
  unfailed_same trace = ap (λ (a : List ℕ). unfailed s.geometry a trace s.geometry.blocks) same_array

  -- how the status read ends
  module _ (y : is_passed q.outcome ≡ true) where
    pub status_cut : ltb q.line.left 2 ≡ true → p.outcome ≡ Cut
    status_cut c = (status_left y).outcome_is ∙ rw c

    pub status_high : ltb q.line.left 2 ≡ false → eqb (line_of q) 0 ≡ true → p.outcome ≡ Passed
    status_high c h = (status_left y).outcome_is ∙ rw (c, h)

    pub status_low : ltb q.line.left 2 ≡ false → eqb (line_of q) 0 ≡ false → p.outcome ≡ Protected
    status_low c h = (status_left y).outcome_is ∙ rw (c, h)

    status_sound : p.outcome ≡ Passed → Sound s p
    unfolding is_illegal is_protected is_cut_off is_silent is_failed
    status_sound e =
        record {
          legal = status_legal;
          known = ap is_illegal e;
          unprotected = ap is_protected e;
          used_up = λ x. absurd (false≢true (sym (ap is_cut_off e) ∙ x));
          silent_by = λ x. absurd (false≢true (sym (ap is_silent e) ∙ x));
          failed_by_fact = λ x. absurd (false≢true (sym (ap is_failed e) ∙ x));
          called = (status_left y).next_called;
        }

  module _ (state : State) (mask_bytes : Bytes s.mask) (array_bytes : Bytes d.array) where
    -- what a status read that passed led to
    whole_run : (x : Tabled) → is_passed p.outcome ≡ true → Whole s p x → FormatLeft s d n state x
    unfolding is_protected
    whole_run x z w =
        record {
          legal = w.sound.legal;
          answers = w.answers;
          worn_by = λ z.
              ⊎_elim (λ e. inl (subst (λ (k : ℕ). k < s.geometry.logical + 2) (unfailed_same (round_from s p).progress.started) e))
              (λ e. inr (subst (λ (a : List ℕ). unfailed s.geometry a x.progress.started s.geometry.blocks ≤ tables_held s.geometry a) same_array e)) (w.worn_by z);
          worn_so = λ y less. w.worn_so y (subst (λ (k : ℕ). k < s.geometry.logical + 2) (sym (unfailed_same (round_from s p).progress.started)) less);
          worn_out = λ y none. w.worn_out y (subst (λ (a : List ℕ). unfailed s.geometry a x.progress.started s.geometry.blocks ≤ tables_held s.geometry a) (sym same_array) none);
          spent_exactly = subst (λ (a : List ℕ). (x.answer ≡ 9) ↔ NumbersEnd s.geometry a (round_from s p) x.progress.started) same_array w.spent_exactly;
          spent_by = subst (λ (a : List ℕ). x.answer ≡ 9 → (number_end ≤ greatest_below s.geometry a s.geometry.blocks + 1) ⊎ Failing s.fates) same_array w.spent_by;
          silent_by = w.silent_by;
          used_up = w.used_up;
          round_failed = w.round_failed;
          failed_by_fact = w.failed_by_fact;
          stopped_so = λ y u. w.stopped_so y;
          protected_exactly = (λ u. absurd (w.unprotected u), λ e. absurd (false≢true (sym (ap is_protected (is_passed_lem p.outcome z)) ∙ e)));
          unwritten = λ u. absurd (w.unprotected u);
          marked_kept = λ b h m. w.marked_kept b h (ap (is_marked s.geometry) (block_same b) ∙ m) ∙ block_same b;
          carried_kept = λ b h c. w.carried_kept b h (ap (λ (a : List ℕ). is_carried s.geometry a b) same_array ∙ c) ∙ block_same b;
          marks = λ z b h. w.marks z b h ∙ ap (is_marked s.geometry) (block_same b);
          called = w.called;
          formatted = w.formatted;
          failures = λ z b h. ap (λ (a : List ℕ). cond (is_carried s.geometry a b) true (failed_in b x.progress.started)) (sym same_array) ∙ w.failures z b h;
          spent = omega (arith, w.spent, few);
        }

    -- a round that does not begin erases nothing
    none_erased : is_passed p.outcome ≡ false → (round_from s p).progress ≡ p
    unfolding erased_to
    none_erased f =
        let skip : List ℕ = passed_over s.geometry (surveyed s.geometry p.line.chip.array) in
        ap (λ (k : ℕ). (erased_to s skip k p).progress) (sym (add-zero s.geometry.blocks)) ∙ round-stopped s skip 0 p f s.geometry.blocks

    -- a run that ends with the status read or before it
    stop_run : (a : ℕ) (st : State) → is_passed p.outcome ≡ false → FormatAnswer a → 10 ≤ a → (a ≡ 10 → Slow s.fates) → (a ≡ 11 → p.line.left ≡ 0)
        → ((a ≡ 13 → ⊥) → st ≡ blank 2) → (a ≡ 13) ↔ (is_protected p.outcome ≡ true) → (a ≡ 13 → Unwritten d state (end_of_run n (tabled p a st))) → FormatLeft s d n state (tabled p a st)
    stop_run a st f is least silent_by used stopped_so protected unwritten =
        record {
          legal = status_legal;
          answers = is;
          worn_by = λ z. absurd (omega (arith, z, least));
          worn_so = λ y. absurd (false≢true (sym (ap (λ (x : Progress). is_passed x.outcome) (none_erased f) ∙ f) ∙ y));
          worn_out = λ y. absurd (false≢true (sym (ap (λ (x : Progress). is_passed x.outcome) (none_erased f) ∙ f) ∙ y));
          spent_exactly = (λ z. absurd (omega (arith, z, least)), λ e. absurd (false≢true (sym (ap (λ (x : Progress). is_passed x.outcome) (none_erased f) ∙ f) ∙ e.round_passed)));
          spent_by = λ z. absurd (omega (arith, z, least));
          silent_by = silent_by;
          used_up = used;
          round_failed = λ b h y. absurd (false≢true (sym (ap (λ (x : Progress). failed_in b x.started) (none_erased f) ∙ calm b) ∙ y));
          failed_by_fact = λ b h y. absurd (false≢true (sym (calm b) ∙ y));
          stopped_so = λ y. stopped_so;
          protected_exactly = protected;
          unwritten = unwritten;
          marked_kept = λ b h m. block_same b;
          carried_kept = λ b h c. block_same b;
          marks = λ z. absurd (omega (arith, z, least));
          called = λ z. absurd (omega (arith, z, least));
          formatted = λ z. absurd (omega (arith, z, least));
          failures = λ z. absurd (omega (arith, z, least));
          spent = omega (arith, few);
        }

    -- the page reads did not pass
    reads_stop : is_passed q.outcome ≡ false → FormatLeft s d n state (format_run s d n state)
    reads_stop f =
        let e = status_same s d n f in
        let o = ap (λ (x : Progress). x.outcome) e in
        let stop = stop_least q.outcome reads-left.ends f in
        let unlike = stop_unlike q.outcome reads-left.ends f in
        subst (FormatLeft s d n state) {x = tabled p (stop_answer q.outcome) (blank 2)}
        (ap (λ (x : Progress). tabled x (stop_answer q.outcome) (blank 2)) e ∙ sym (unread_is s d n state f))
        (stop_run (stop_answer q.outcome) (blank 2) (ap is_passed o ∙ f) stop.0 stop.1
        (λ z. reads-left.sound.silent_by (stop_silent q.outcome z))
        (λ z. ap (λ (x : Progress). x.line.left) e ∙ reads-left.sound.used_up (stop_cut q.outcome z))
        (λ u. refl)
        (λ z. absurd (unlike z), λ x. absurd (false≢true (sym reads-left.sound.unprotected ∙ sym (ap is_protected o) ∙ x)))
        (λ z. absurd (unlike z)))

    -- the page reads passed, and the status read was cut
    cut_stop : is_passed q.outcome ≡ true → ltb q.line.left 2 ≡ true → FormatLeft s d n state (format_run s d n state)
    unfolding is_passed is_protected status_answer status_state stop_answer is_silent is_cut_off
    cut_stop y c =
        let o = status_cut y c in
        subst (FormatLeft s d n state) {x = tabled p 11 (blank 2)}
        ((λ i. tabled p (status_answer (sym o i)) (status_state (sym o i) state)) ∙ sym (status_is s d n state y (ap is_passed o)))
        (stop_run 11 (blank 2) (ap is_passed o) is_cut (omega arith) (λ z. absurd (omega (arith, z)))
        (λ z. omega (arith, (status_left y).left_is, ltb-true q.line.left 2 c))
        (λ u. refl)
        (λ z. absurd (omega (arith, z)), λ x. absurd (false≢true (sym (ap is_protected o) ∙ x)))
        (λ z. absurd (omega (arith, z))))

    -- the line is low
    low_stop : is_passed q.outcome ≡ true → ltb q.line.left 2 ≡ false → eqb (line_of q) 0 ≡ false → FormatLeft s d n state (format_run s d n state)
    unfolding is_passed is_protected status_answer status_state
    low_stop y c h =
        let o = status_low y c h in
        subst (FormatLeft s d n state) {x = tabled p 13 state}
        ((λ i. tabled p (status_answer (sym o i)) (status_state (sym o i) state)) ∙ sym (status_is s d n state y (ap is_passed o)))
        (stop_run 13 state (ap is_passed o) is_protected_fact (omega arith) (λ z. absurd (omega (arith, z))) (λ z. absurd (omega (arith, z)))
        (λ u. absurd (u refl))
        (λ z. ap is_protected o, λ x. refl)
        (λ z. record { low = λ e. eqb-false (line_of q) 0 h (reads_line ∙ e); same_state = refl; same_array = same_array; same_history = same_history }))

    -- and high
    high_goes : is_passed q.outcome ≡ true → ltb q.line.left 2 ≡ false → eqb (line_of q) 0 ≡ true → FormatLeft s d n state (format_run s d n state)
    unfolding is_passed is_read_end
    high_goes y c h =
        let o = status_high y c h in
        let passed : is_passed p.outcome ≡ true = ap is_passed o in
        let array_long : length p.line.chip.array ≡ chip_size s.geometry = ((status_left y).next_called (passed_answered p.outcome passed)).array_long in
        subst (FormatLeft s d n state) {x = round_run s (surveyed s.geometry p.line.chip.array) p}
        (ap (λ (a : List ℕ). round_run s (surveyed s.geometry a) p) (status_left y).same_array ∙ sym (round_is s d n state y passed))
        (whole_run _ passed
        (round_whole s fitted mask_bytes p (status_sound y o) (ap is_read_end o) calm (status_keeps s q ∙ eqb-true (line_of q) 0 h) array_long (subst Bytes (sym same_array) array_bytes)))

    pub format_leaves : FormatLeft s d n state (format_run s d n state)
    format_leaves =
        cases (is_passed q.outcome)
        (λ y.
        cases (ltb q.line.left 2)
        (λ c. cut_stop y c)
        (λ c. cases (eqb (line_of q) 0) (λ h. high_goes y c h) (λ h. low_stop y c h)))
        (λ f. reads_stop f)
