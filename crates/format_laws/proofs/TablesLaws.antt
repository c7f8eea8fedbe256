-- Table fills until one passes, on a chip whose permitted blocks are erased. Assumes nothing.
use Prim.Native.Nat.{ℕ, zero, suc, ◌+◌, ◌*◌, ◌/◌, ◌≤◌, ◌<◌}
use mathlib.Core.Bool.{Bool, true, false, cond, true≢false, false≢true}
use mathlib.Core.List.{List}
use mathlib.Core.Logic.{◌⊎◌, inl, inr, ⊎_elim}
use mathlib.Core.Path.{◌≡◌, refl, sym, ap, subst, ◌∙◌}
use native.Mathlib.Nat.{suc-mul}
use native.Mathlib.Numerals.{add-one}
use native.Mathlib.Omega.{arith}
use borrow.Table.Steps.{cases}
use borrow.Author.Tests.{eq-eqb, ne_eqb, eqb-true, eqb-false}
use lib.Dec.{eqb}
use lib.ListN.{length, replicate}
use Rattle.std.specs.Prelude.{Option, Some, None}
use Rattle.geometry.specs.Limits.{Valid}
use Rattle.geometry.specs.Sizes.{page_size, block_size}
use Rattle.cells.specs.Bytes.{Bytes}
use Rattle.cells.specs.Cells.{raised}
use Rattle.bitmaps.specs.Bitmap.{bit_at, with_bit}
use Rattle.bitmaps.proofs.BitLaws.{bit-set, bit_kept}
use Rattle.chip_array.specs.Device.{Setting}
use Rattle.bus_polling.specs.Outcomes.{is_passed, is_failed, is_illegal, is_protected, is_cut_off, is_silent}
use Rattle.operations.specs.Ends.{Called}
use Rattle.pages.specs.Over.{Over}
use Rattle.copies.specs.Blocks.{page_in, is_marked, is_data, greatest_to}
use Rattle.bools.proofs.BoolLaws.{and_none, or_none, one_true, unless}
use Rattle.state_choose.specs.Choose.{permitted, chosen, count_permitted}
use Rattle.state.specs.State.{blank, next_number, number_end, numbers_left, taken, with_invalid, with_table}
use Rattle.state.specs.declared.State.{State}
use Rattle.state_choose.proofs.ChooseLaws as choose
use Rattle.request.specs.Call.{answer_for, state_for}
use Rattle.progress.specs.Progress.{Progress, line_of}
use Rattle.fill.specs.Fill.{table_copy, table_source, table_main, table_filled, copy_page}
use Rattle.progress.specs.Steps.{resumed}
use Rattle.request.proofs.CallLaws.{stop_answer_lem, stop_least, answer_silent, answer_cut, answer_passed, answer_stopped}
use Rattle.fill_tables.proofs.AfterLaws.{after_passed, after_failed}
use Rattle.bus_polling.proofs.OutcomeLaws.{unfailed_end, failed_unpassed, passed_answered, failed_answered, passed_unfailed}
use Rattle.fill_tables.specs.Tables.{Tried, try_block, try_table, after_fill, Tabled, tabled, ended_by, tables_filled}
use Rattle.damage.specs.Run.{failed_in, failed_count, Sound, Meant, from_caller, Filled, Spent, block_on, page_on, Slow, Failing, program_most, table_fill_most, source_most}
use Rattle.damage.proofs.TraceLaws.{unfailed-none}
use Rattle.damage.proofs.FailedLaws.{failed_same, failed_more}
use Rattle.damage.proofs.PlaceLaws.{page-erased}
use Rattle.damage.proofs.FillLaws.{fill_given, over-erased}
use Rattle.damage.proofs.CopyLaws.{copy-long, copy_bytes, copy_unmarked, raised_greatest, raised_unmarked}
use Rattle.bitmaps.proofs.BitmapLaws.{Bitmap, bits_more, bit_more}
use Rattle.cells.proofs.CellLaws.{raised-erased}
use Rattle.format_laws.proofs.SettledLaws.{Settled}
use Rattle.format_laws.proofs.TableBlockLaws.{table_label, table_long, table_bytes}
use Rattle.state_choose.proofs.ChooseLaws.{by_choice, permitted_parts, permitted_other, permitted_gone, count_less}
use Rattle.bus_polling.specs.declared.Outcome.{Outcome}
use Rattle.format_laws.specs.Formatting.{FormatAnswer, is_done, is_worn, is_spent, is_silent_fact, is_cut}

-- of two tests neither holds, or the second does
pub neither : (a b : Bool) → cond a true b ≡ false → (a ≡ false) × (b ≡ false)
neither true b e = absurd (true≢false e)
neither false b e = (refl, e)

pub second : (a b : Bool) → a ≡ false → cond a true b ≡ true → b ≡ true
second true b f e = absurd (true≢false f)
second false b f e = e

pub or_or : (a b c : Bool) → cond a true (cond b true c) ≡ cond (cond a true b) true c
or_or true b c = refl
or_or false b c = refl

pub permitted_unheld : (marked invalid held : List ℕ) (b : ℕ) → permitted marked invalid held b ≡ true → bit_at held b ≡ false
unfolding permitted
permitted_unheld marked invalid held b t =
    (unless (bit_at held b) true (unless (bit_at invalid b) _ (unless (bit_at marked b) _ t).1).1).0

-- before a table fill: every unmarked block is erased, or is invalid and has only lower numbers, or is the one block that is held, that of the
-- former table: block `former`, none if it is not on the chip
pub record Ready (s : Setting) (carried held : List ℕ) (former : ℕ) (p : Progress) (st : State) : Type 0 where
  pub passed : is_passed p.outcome ≡ true
  pub sound : Sound s p
  pub high : line_of p ≡ 0
  pub last_below : st.last < s.geometry.blocks
  pub number_some : 0 < next_number st
  pub invalid_bits : Bitmap s.geometry.blocks st.invalid
  pub marks : (b : ℕ) → b < s.geometry.blocks → is_marked s.geometry (block_on s p b) ≡ bit_at st.marked b
  pub erased : (b : ℕ) → b < s.geometry.blocks → bit_at st.marked b ≡ false → bit_at st.invalid b ≡ false → (b ≡ former → ⊥) → block_on s p b ≡ replicate (block_size s.geometry) 255
  pub listed : (b : ℕ) → b < s.geometry.blocks → bit_at st.marked b ≡ false → bit_at st.invalid b ≡ true → greatest_to s.geometry (block_on s p b) s.geometry.pages < next_number st
  pub apart : (b : ℕ) → b < s.geometry.blocks → bit_at st.marked b ≡ true → bit_at st.invalid b ≡ false
  pub failures : (b : ℕ) → b < s.geometry.blocks → cond (bit_at carried b) true (failed_in b p.started) ≡ bit_at st.invalid b
  pub failed_by_fact : (b : ℕ) → b < s.geometry.blocks → failed_in b p.started ≡ true → Failing s.fates
  pub former_held : former < s.geometry.blocks → bit_at held former ≡ true
  pub former_lower : former < s.geometry.blocks → greatest_to s.geometry (block_on s p former) s.geometry.pages < next_number st
  pub former_no_data : former < s.geometry.blocks → is_data s.geometry (block_on s p former) ≡ false

-- after a table fill that passed
pub record Done (s : Setting) (carried held : List ℕ) (former : ℕ) (st : State) (p q : Progress) (next : State) : Type 0 where
  pub number : ℕ
  pub number_is : next.number ≡ number
  pub counted : number + failed_count p.started s.geometry.blocks ≡ next_number st + failed_count q.started s.geometry.blocks
  pub status_same : next.status ≡ st.status
  pub last_is : next.last ≡ next.table
  pub marked_same : next.marked ≡ st.marked
  pub map_same : next.map ≡ st.map
  pub kinds_same : next.kinds ≡ st.kinds
  pub marks : (b : ℕ) → b < s.geometry.blocks → is_marked s.geometry (block_on s q b) ≡ bit_at st.marked b
  pub settled : Settled s.geometry q.line.chip.array next.invalid next.table former number
  pub erased : (b : ℕ) → b < s.geometry.blocks → bit_at st.marked b ≡ false → bit_at next.invalid b ≡ false → (b ≡ next.table → ⊥) → (b ≡ former → ⊥) → block_on s q b ≡ replicate (block_size s.geometry) 255
  pub free : permitted st.marked next.invalid held next.table ≡ true
  pub called : Called s q.line
  pub failures : (b : ℕ) → b < s.geometry.blocks → cond (bit_at carried b) true (failed_in b q.started) ≡ bit_at next.invalid b
  pub fills : ℕ
  pub fills_spent : Spent p q (fills * table_fill_most s.geometry)
  pub fills_counted : fills + count_permitted st.marked next.invalid held s.geometry.blocks ≡ count_permitted st.marked st.invalid held s.geometry.blocks + 1

-- a block that might be filled and has not failed
pub record Unfailed (s : Setting) (marked invalid held : List ℕ) (p : Progress) : Type 0 where
  pub block : ℕ
  pub below : block < s.geometry.blocks
  pub free : permitted marked invalid held block ≡ true
  pub unfailed : failed_in block p.started ≡ false

-- however table fills end: worn only where every block that was permitted has failed since, spent exactly where the numbers were
-- taken by the fills that failed since, so only where no number was left or a fill failed
pub record Left (s : Setting) (carried held : List ℕ) (former : ℕ) (st : State) (p : Progress) (t : Tabled) : Type 0 where
  pub sound : Sound s t.progress
  pub answers : FormatAnswer t.answer
  pub unprotected : t.answer ≡ 13 → ⊥
  pub worn_by : t.answer ≡ 8 → (b : ℕ) → b < s.geometry.blocks → permitted st.marked st.invalid held b ≡ true → failed_in b t.progress.started ≡ true
  pub unworn : (t.answer ≡ 8 → ⊥) → (t.answer ≡ 9 → ⊥) → Unfailed s st.marked st.invalid held t.progress
  pub spent_by : t.answer ≡ 9 → number_end + failed_count p.started s.geometry.blocks ≤ next_number st + failed_count t.progress.started s.geometry.blocks
  pub spent_so : number_end + failed_count p.started s.geometry.blocks ≤ next_number st + failed_count t.progress.started s.geometry.blocks → t.answer ≡ 9
  pub spent_fails : t.answer ≡ 9 → (number_end ≤ next_number st) ⊎ Failing s.fates
  pub silent_by : t.answer ≡ 10 → Slow s.fates
  pub used_up : t.answer ≡ 11 → t.progress.line.left ≡ 0
  pub failed_kept : (b : ℕ) → failed_in b p.started ≡ true → failed_in b t.progress.started ≡ true
  pub failed_by_fact : (b : ℕ) → b < s.geometry.blocks → failed_in b t.progress.started ≡ true → Failing s.fates
  pub stopped : (t.answer ≡ 0 → ⊥) → t.state ≡ blank 2
  pub kept : (b : ℕ) → b < s.geometry.blocks → permitted st.marked st.invalid held b ≡ false → block_on s t.progress b ≡ block_on s p b
  pub held_unfailed : (b : ℕ) → b < s.geometry.blocks → bit_at held b ≡ true → failed_in b t.progress.started ≡ failed_in b p.started
  pub done : t.answer ≡ 0 → Done s carried held former st p t.progress t.state
  pub spent : Spent p t.progress (count_permitted st.marked st.invalid held s.geometry.blocks * table_fill_most s.geometry)

module _ (s : Setting) (mask_bytes : Bytes s.mask) (carried held : List ℕ) (former : ℕ) (st : State) (p : Progress) (r : Ready s carried held former p st) (number_fits : next_number st < number_end) where
  called : Called s p.line
  called = r.sound.called (passed_answered p.outcome r.passed)

  v : Valid s.geometry
  v = called.is_valid

  -- a block that is not invalid has not failed
  pub not_failed : (b : ℕ) → b < s.geometry.blocks → bit_at st.invalid b ≡ false → failed_in b p.started ≡ false
  not_failed b h f = (neither (bit_at carried b) (failed_in b p.started) (r.failures b h ∙ f)).1

  -- the fill of block b, which is permitted
  module _ (b : ℕ) (below : b < s.geometry.blocks) (unmarked : bit_at st.marked b ≡ false) (unlisted : bit_at st.invalid b ≡ false) (unheld : bit_at held b ≡ false) where
    abbrev q : Progress
    q = table_filled s b (next_number st) st.invalid p

    permitted_so : permitted st.marked st.invalid held b ≡ true
    unfolding permitted
    permitted_so = rw (unmarked, unlisted, unheld)

    off_former : b ≡ former → ⊥
    off_former e = false≢true (sym unheld ∙ ap (bit_at held) e ∙ r.former_held (omega (arith, below, e)))

    abbrev pages : ℕ → List ℕ
    pages i = copy_page s.geometry (table_copy (next_number st)) i (table_main s.geometry st.invalid i)

    main_long : (i : ℕ) → i < s.geometry.pages → length (table_main s.geometry st.invalid i) ≡ s.geometry.main
    main_long i h = table_long s.geometry v st.invalid r.invalid_bits i

    main_bytes : (i : ℕ) → i < s.geometry.pages → Bytes (table_main s.geometry st.invalid i)
    main_bytes i h = table_bytes s.geometry v st.invalid r.invalid_bits i

    page_bytes : (i : ℕ) → i < s.geometry.pages → Bytes (pages i)
    page_bytes = copy_bytes s.geometry v (table_copy (next_number st)) (table_label (next_number st) number_fits) (table_main s.geometry st.invalid) main_long main_bytes

    page-long : (i : ℕ) → i < s.geometry.pages → length (pages i) ≡ page_size s.geometry
    page-long = copy-long s.geometry v (table_copy (next_number st)) (table_label (next_number st) number_fits) (table_main s.geometry st.invalid) main_long main_bytes

    meant : Meant s p.line.chip.array b (table_copy (next_number st)) (table_source s.geometry st.invalid) pages
    meant = record { long = page-long; bytes = page_bytes; provides = λ i h. from_caller (table_main s.geometry st.invalid i) }

    left : Filled s p q b pages s.geometry.pages (table_fill_most s.geometry)
    unfolding source_most
    left = fill_given s p b below (table_copy (next_number st)) (table_source s.geometry st.invalid) pages meant mask_bytes r.high given_all r.passed called
      where
        given_all : (i : ℕ) → i < s.geometry.pages → source_most s.geometry (table_source s.geometry st.invalid i) ≤ program_most s.geometry
        given_all i h = omega arith

    -- whatever became of it, its pages are over those that were meant
    blank_over : (row : List ℕ) → row ≡ replicate (block_size s.geometry) 255 → (i : ℕ) → i < s.geometry.pages → Over (pages i) (page_in s.geometry row i)
    blank_over row e i h =
        subst (Over (pages i)) (sym (ap (λ (x : List ℕ). page_in s.geometry x i) e ∙ page-erased s.geometry i h))
        (subst (λ (n : ℕ). Over (pages i) (replicate n 255)) (page-long i h) (over-erased (pages i) (page_bytes i h)))

    was_blank : block_on s p b ≡ replicate (block_size s.geometry) 255
    was_blank = r.erased b below unmarked unlisted off_former

    over : is_passed q.outcome ≡ false → (i : ℕ) → i < s.geometry.pages → Over (pages i) (page_on s q b i)
    over f =
        ⊎_elim
        (λ same. blank_over (block_on s q b) (same ∙ was_blank))
        (⊎_elim
        (λ partly. blank_over (block_on s q b) (partly ∙ ap (λ (x : List ℕ). raised x s.mask) was_blank ∙ raised-erased (block_size s.geometry) s.mask mask_bytes))
        (λ new. new))
        (left.damaged f)

    -- the other blocks
    former_row : former < s.geometry.blocks → block_on s q former ≡ block_on s p former
    former_row h = left.others former h (λ e. off_former (sym e))

    marks_other : (c : ℕ) → c < s.geometry.blocks → (c ≡ b → ⊥) → is_marked s.geometry (block_on s q c) ≡ bit_at st.marked c
    marks_other c h x = ap (is_marked s.geometry) (left.others c h x) ∙ r.marks c h

    off_marked : (c : ℕ) → bit_at st.marked c ≡ true → c ≡ b → ⊥
    off_marked c t e = false≢true (sym unmarked ∙ ap (bit_at st.marked) (sym e) ∙ t)

    off_listed : (c : ℕ) → bit_at st.invalid c ≡ true → c ≡ b → ⊥
    off_listed c t e = false≢true (sym unlisted ∙ ap (bit_at st.invalid) (sym e) ∙ t)

    -- it passed
    module _ (y : is_passed q.outcome ≡ true) where
      marks_passed : (c : ℕ) → c < s.geometry.blocks → is_marked s.geometry (block_on s q c) ≡ bit_at st.marked c
      marks_passed c h =
          cases (eqb c b)
          (λ e.
          subst (λ (k : ℕ). is_marked s.geometry (block_on s q k) ≡ bit_at st.marked k) (sym (eqb-true c b e))
          (copy_unmarked s.geometry v (table_copy (next_number st)) (table_label (next_number st) number_fits) (table_main s.geometry st.invalid) main_long main_bytes (block_on s q b) (left.done y) ∙ sym unmarked))
          (λ e. marks_other c h (eqb-false c b e))

      settles : Settled s.geometry q.line.chip.array st.invalid b former (next_number st)
      settles =
          record {
            is_valid = v;
            array_long = (left.sound.called (passed_answered q.outcome y)).array_long;
            invalid_bits = r.invalid_bits;
            table_below = below;
            table_valid = unlisted;
            number_some = r.number_some;
            number_fits = number_fits;
            table_pages_fact = left.done y;
            erased = λ c h x z m f i l.
                ap (λ (row : List ℕ). page_in s.geometry row i) (left.others c h x ∙ r.erased c h (sym (marks_other c h x) ∙ m) f z) ∙ page-erased s.geometry i l;
            listed = λ c h m t.
                let x = off_listed c t in
                subst (λ (row : List ℕ). greatest_to s.geometry row s.geometry.pages < next_number st) (sym (left.others c h x)) (r.listed c h (sym (marks_other c h x) ∙ m) t);
            apart = λ c h m. r.apart c h (sym (marks_passed c h) ∙ m);
            former_lower = λ h. subst (λ (row : List ℕ). greatest_to s.geometry row s.geometry.pages < next_number st) (sym (former_row h)) (r.former_lower h);
            former_no_data = λ h. ap (is_data s.geometry) (former_row h) ∙ r.former_no_data h;
          }

      done_so : Done s carried held former st p q (with_table b (taken st))
      done_so =
          record {
            number = next_number st;
            number_is = refl;
            counted = omega (arith, failed_same p.started q.started (unfailed-none p q b (passed_unfailed q.outcome y) left.failures) s.geometry.blocks);
            status_same = refl;
            last_is = refl;
            marked_same = refl;
            map_same = refl;
            kinds_same = refl;
            marks = marks_passed;
            settled = settles;
            erased = λ c h m f x z. left.others c h x ∙ r.erased c h m f z;
            free = permitted_so;
            called = left.sound.called (passed_answered q.outcome y);
            failures = λ c h. ap (λ (x : Bool). cond (bit_at carried c) true x) (unfailed-none p q b (passed_unfailed q.outcome y) left.failures c) ∙ r.failures c h;
            fills = 1;
            fills_spent = omega (arith, left.spent);
            fills_counted = omega arith;
          }

    -- it failed: the block is invalid, and what is left of it has no greater number
    module _ (w : is_failed q.outcome ≡ true) where
      unpassed : is_passed q.outcome ≡ false
      unpassed = failed_unpassed q.outcome w

      abbrev next : State
      next = with_invalid b (taken st)

      marks_failed : (c : ℕ) → c < s.geometry.blocks → is_marked s.geometry (block_on s q c) ≡ bit_at st.marked c
      marks_failed c h =
          cases (eqb c b)
          (λ e.
          subst (λ (k : ℕ). is_marked s.geometry (block_on s q k) ≡ bit_at st.marked k) (sym (eqb-true c b e))
          (raised_unmarked s.geometry v (table_copy (next_number st)) (table_label (next_number st) number_fits) (table_main s.geometry st.invalid) main_long main_bytes (block_on s q b) (over unpassed) ∙ sym unmarked))
          (λ e. marks_other c h (eqb-false c b e))

      byte_there : b / 8 < length st.invalid
      byte_there = omega (arith, below, v.blocks_most, r.invalid_bits.long)

      listed_failed : (c : ℕ) → c < s.geometry.blocks → bit_at st.marked c ≡ false → bit_at (with_bit st.invalid b) c ≡ true → greatest_to s.geometry (block_on s q c) s.geometry.pages < next_number st + 1
      listed_failed c h m t =
          cases (eqb c b)
          (λ e.
          subst (λ (k : ℕ). greatest_to s.geometry (block_on s q k) s.geometry.pages < next_number st + 1) (sym (eqb-true c b e))
          (raised_greatest s.geometry v (table_copy (next_number st)) (table_label (next_number st) number_fits) (table_main s.geometry st.invalid) main_long main_bytes (block_on s q b) (over unpassed)))
          (λ e.
          let x = eqb-false c b e in
          let before = r.listed c h m (sym (bit_kept st.invalid b c x) ∙ t) in
          subst (λ (row : List ℕ). greatest_to s.geometry row s.geometry.pages < next_number st + 1) (sym (left.others c h x)) (omega (arith, before)))

      off_next : (c : ℕ) → bit_at (with_bit st.invalid b) c ≡ false → c ≡ b → ⊥
      off_next c f e = true≢false (sym (bit-set st.invalid b byte_there) ∙ ap (bit_at (with_bit st.invalid b)) (sym e) ∙ f)

      ready_next : Ready s carried held former (resumed q) next
      unfolding is_passed is_illegal is_protected is_cut_off is_silent is_failed
      ready_next =
          record {
            passed = refl;
            sound = record { legal = left.sound.legal; known = refl; unprotected = refl; used_up = λ c. absurd (false≢true c); silent_by = λ c. absurd (false≢true c); failed_by_fact = λ c. absurd (false≢true c); called = λ a. left.sound.called (failed_answered q.outcome w) };
            high = left.same_line ∙ r.high;
            last_below = r.last_below;
            number_some = omega arith;
            invalid_bits = bits_more s.geometry.blocks st.invalid b v.blocks_most below r.invalid_bits;
            marks = marks_failed;
            erased = λ c h m f z.
                let x = off_next c f in
                left.others c h x ∙ r.erased c h m (sym (bit_kept st.invalid b c x) ∙ f) z;
            listed = listed_failed;
            apart = λ c h t. bit_kept st.invalid b c (off_marked c t) ∙ r.apart c h t;
            failures = λ c h.
                ap (λ (x : Bool). cond (bit_at carried c) true x) (left.failures c ∙ ap (λ (x : Bool). cond (failed_in c p.started) true (cond (eqb b c) x false)) w)
                ∙ or_or (bit_at carried c) (failed_in c p.started) (cond (eqb b c) true false)
                ∙ ap (λ (x : Bool). cond x true (cond (eqb b c) true false)) (r.failures c h)
                ∙ bit_more st.invalid b c byte_there;
            failed_by_fact = λ c h z. left.sound.failed_by_fact w;
            former_held = r.former_held;
            former_lower = λ h. subst (λ (row : List ℕ). greatest_to s.geometry row s.geometry.pages < next_number st + 1) (sym (former_row h)) (omega (arith, r.former_lower h));
            former_no_data = λ h. ap (is_data s.geometry) (former_row h) ∙ r.former_no_data h;
          }

-- an answer after a fill that did not fail
end_answers : (o : Outcome) → is_illegal o ≡ false → is_protected o ≡ false → is_failed o ≡ false → FormatAnswer (answer_for o)
end_answers o k u f =
    cases (is_passed o) (λ t. rw t is_done)
    (λ y. rw y (⊎_elim (λ e. rw e is_silent_fact) (λ e. rw e is_cut) (stop_answer_lem o (unfailed_end o k f u) y)))

end_unprotected : (o : Outcome) → is_illegal o ≡ false → is_protected o ≡ false → is_failed o ≡ false → answer_for o ≡ 13 → ⊥
end_unprotected o k u f z =
    cases (is_passed o) (λ t. omega (arith, rw t at z))
    (λ y. ⊎_elim (λ e. omega (arith, e, rw y at z)) (λ e. omega (arith, e, rw y at z)) (stop_answer_lem o (unfailed_end o k f u) y))

-- 0, or 10 and more
end_unlike : {P : Type 0} (o : Outcome) (a : ℕ) → 0 < a → a < 10 → answer_for o ≡ a → P
end_unlike o a l h z =
    cases (is_passed o) (λ t. absurd (omega (arith, rw t at z, l))) (λ f. absurd (omega (arith, rw f at z, h, stop_least o)))

module _ (s : Setting) (mask_bytes : Bytes s.mask) (carried held : List ℕ) (former : ℕ) where
  -- what one try makes of it
  after_try : ℕ → Tried → Tabled
  after_try k t =
      cond (eqb t.worn 0)
      (cond (is_failed t.progress.outcome) (tables_filled s held k t.state (resumed t.progress)) (ended_by t.progress t.state))
      (tabled t.progress 8 (blank 2))

  one_try : (k : ℕ) (st : State) (p : Progress) → tables_filled s held (suc k) st p ≡ after_try k (try_table s held st p)
  unfolding tables_filled after_try
  one_try k st p = refl

  module _ (k : ℕ) (st : State) (p : Progress) (r : Ready s carried held former p st) (number_fits : next_number st < number_end) where
    abbrev choice : Option ℕ
    choice = chosen st.marked st.invalid held s.geometry.blocks st.last

    try_is : (c : Option ℕ) → choice ≡ c → try_table s held st p ≡ try_block s st p c
    unfolding try_table
    try_is c e = ap (try_block s st p) e

    -- no block is left
    worn : choice ≡ None → Left s carried held former st p (after_try k (try_block s st p None))
    unfolding after_try try_block
    worn e =
        let none = (choose.worn_exactly (permitted st.marked st.invalid held) s.geometry.blocks st.last r.last_below).0 e in
        record {
          sound = r.sound;
          answers = is_worn;
          unprotected = λ z. omega (arith, z);
          worn_by = λ z b h t. absurd (false≢true (sym (none b h) ∙ t));
          unworn = λ x y. absurd (x refl);
          spent_by = λ z. absurd (omega (arith, z));
          spent_so = λ h. absurd (omega (arith, h, number_fits));
          spent_fails = λ z. absurd (omega (arith, z));
          silent_by = λ z. absurd (omega (arith, z));
          used_up = λ z. absurd (omega (arith, z));
          failed_kept = λ b t. t;
          failed_by_fact = r.failed_by_fact;
          stopped = λ x. refl;
          kept = λ b l f. refl;
          held_unfailed = λ b l t. refl;
          done = λ z. absurd (omega (arith, z));
          spent = omega arith;
        }

    -- block b is filled
    module _ (b : ℕ) (e : choice ≡ Some b) where
      chosen_is : choose.Found (permitted st.marked st.invalid held) s.geometry.blocks s.geometry.blocks st.last b
      chosen_is = choose.found (permitted st.marked st.invalid held) s.geometry.blocks s.geometry.blocks st.last b r.last_below e

      below : b < s.geometry.blocks
      below =
          subst (λ (c : ℕ). c < s.geometry.blocks) chosen_is.is
          (choose.after_below s.geometry.blocks st.last (suc chosen_is.steps) (omega (arith, r.last_below)))

      free : (bit_at st.marked b ≡ false) × (bit_at st.invalid b ≡ false)
      free = permitted_parts st.marked st.invalid held b chosen_is.passes

      unheld : bit_at held b ≡ false
      unheld = permitted_unheld st.marked st.invalid held b chosen_is.passes

      unfailed_here : failed_in b p.started ≡ false
      unfailed_here = not_failed s mask_bytes carried held former st p r number_fits b below free.1

      abbrev numbered : State
      numbered = taken st

      abbrev ended : Progress
      ended = table_filled s b (next_number st) st.invalid p

      block_left : Filled s p ended b (λ i. copy_page s.geometry (table_copy (next_number st)) i (table_main s.geometry st.invalid i)) s.geometry.pages (table_fill_most s.geometry)
      block_left = left s mask_bytes carried held former st p r number_fits b below free.0 free.1 unheld

      bit_room : b / 8 < length st.invalid
      bit_room = omega (arith, below, (v s mask_bytes carried held former st p r number_fits).blocks_most, r.invalid_bits.long)

      -- one permitted block less
      abbrev fewer : ℕ
      fewer = count_permitted st.marked (with_bit st.invalid b) held s.geometry.blocks

      one_less : fewer + 1 ≡ count_permitted st.marked st.invalid held s.geometry.blocks
      one_less =
          count_less st.marked st.invalid held b bit_room chosen_is.passes s.geometry.blocks below

      one_fill : count_permitted st.marked st.invalid held s.geometry.blocks * table_fill_most s.geometry ≡ fewer * table_fill_most s.geometry + table_fill_most s.geometry
      one_fill = ap (λ (k : ℕ). k * table_fill_most s.geometry) (sym one_less ∙ add-one fewer) ∙ suc-mul fewer (table_fill_most s.geometry)

      suc_fills : (n : ℕ) → (n + 1) * table_fill_most s.geometry ≡ n * table_fill_most s.geometry + table_fill_most s.geometry
      suc_fills n = ap (λ (k : ℕ). k * table_fill_most s.geometry) (add-one n) ∙ suc-mul n (table_fill_most s.geometry)

      off_kept : (c : ℕ) → permitted st.marked st.invalid held c ≡ false → c ≡ b → ⊥
      off_kept c f e = false≢true (sym f ∙ ap (permitted st.marked st.invalid held) e ∙ chosen_is.passes)

      off_held : (c : ℕ) → bit_at held c ≡ true → b ≡ c → ⊥
      off_held c t e = false≢true (sym unheld ∙ ap (bit_at held) e ∙ t)

      kept_others : (c : ℕ) → c < s.geometry.blocks → permitted st.marked st.invalid held c ≡ false → block_on s ended c ≡ block_on s p c
      kept_others c h f = block_left.others c h (off_kept c f)

      held_same : (c : ℕ) → bit_at held c ≡ true → failed_in c ended.started ≡ failed_in c p.started
      held_same c t = block_left.failures c ∙ rw (ne_eqb b c (off_held c t)) (or_none (failed_in c p.started))

      failed_is : is_failed ended.outcome ≡ true → tables_filled s held k (with_invalid b numbered) (resumed ended) ≡ after_try k (try_block s st p (Some b))
      unfolding after_try try_block
      failed_is w = rw w (ap (λ (x : State). tables_filled s held k x (resumed ended)) (sym (after_failed b numbered ended.outcome w)))

      ended_is : is_failed ended.outcome ≡ false → ended_by ended (after_fill b ended.outcome numbered) ≡ after_try k (try_block s st p (Some b))
      unfolding after_try try_block
      ended_is f = rw f

      -- what failed before, and the block if its fill did
      failed_before : (c : ℕ) → failed_in c p.started ≡ true → failed_in c ended.started ≡ true
      failed_before c t = block_left.failures c ∙ rw t

      failed_now : is_failed ended.outcome ≡ true → failed_in b ended.started ≡ true
      failed_now w = block_left.failures b ∙ rw (w, eq-eqb b b refl) (one_true (failed_in b p.started))

      failed_since : (c : ℕ) → c < s.geometry.blocks → failed_in c ended.started ≡ true → Failing s.fates
      failed_since c h t =
          cases (failed_in c p.started)
          (λ y. r.failed_by_fact c h y)
          (λ y.
          cases (is_failed ended.outcome)
          (λ w. block_left.sound.failed_by_fact w)
          (λ f. absurd (false≢true (sym (block_left.failures c ∙ rw (y, f) (and_none (eqb b c))) ∙ t))))

      one_failed : is_failed ended.outcome ≡ true → failed_count ended.started s.geometry.blocks ≡ failed_count p.started s.geometry.blocks + 1
      one_failed w =
          failed_more p.started ended.started b (unfailed_here)
          (λ c. block_left.failures c ∙ ap (λ (x : Bool). cond (failed_in c p.started) true (cond (eqb b c) x false)) w) s.geometry.blocks below

      -- the fills that follow a failed one
      goes_on : is_failed ended.outcome ≡ true → (t : Tabled) → Left s carried held former (with_invalid b numbered) (resumed ended) t → Left s carried held former st p t
      goes_on w t x =
          record {
            sound = x.sound;
            answers = x.answers;
            unprotected = x.unprotected;
            worn_by = λ z c h y.
                cases (eqb c b)
                (λ e. subst (λ (k : ℕ). failed_in k t.progress.started ≡ true) (sym (eqb-true c b e)) (x.failed_kept b (failed_now w)))
                (λ e. x.worn_by z c h (permitted_other st.marked st.invalid held b bit_room c (eqb-false c b e) ∙ y));
            unworn = λ y z.
                let u = x.unworn y z in
                let off : u.block ≡ b → ⊥ = λ e. true≢false (sym u.free ∙ ap (permitted st.marked (with_bit st.invalid b) held) e ∙ permitted_gone st.marked st.invalid held b bit_room) in
                record { block = u.block; below = u.below; free = sym (permitted_other st.marked st.invalid held b bit_room u.block off) ∙ u.free; unfailed = u.unfailed };
            spent_by = λ z. omega (arith, x.spent_by z, one_failed w);
            spent_so = λ h. x.spent_so (omega (arith, h, one_failed w));
            spent_fails = λ z. inr (block_left.sound.failed_by_fact w);
            silent_by = x.silent_by;
            used_up = x.used_up;
            failed_kept = λ c y. x.failed_kept c (failed_before c y);
            failed_by_fact = x.failed_by_fact;
            stopped = x.stopped;
            kept = λ c h f. x.kept c h (permitted_other st.marked st.invalid held b bit_room c (off_kept c f) ∙ f) ∙ kept_others c h f;
            held_unfailed = λ c h t. x.held_unfailed c h t ∙ held_same c t;
            done = λ z.
                let d = x.done z in
                record {
                  number = d.number;
                  number_is = d.number_is;
                  counted = omega (arith, d.counted, one_failed w);
                  status_same = d.status_same;
                  last_is = d.last_is;
                  marked_same = d.marked_same;
                  map_same = d.map_same;
                  kinds_same = d.kinds_same;
                  marks = d.marks;
                  settled = d.settled;
                  erased = d.erased;
                  free = d.free;
                  called = d.called;
                  failures = d.failures;
                  fills = d.fills + 1;
                  fills_spent = omega (arith, d.fills_spent, block_left.spent, suc_fills d.fills);
                  fills_counted = omega (arith, d.fills_counted, one_less);
                };
            spent = omega (arith, x.spent, block_left.spent, one_less, one_fill);
          }

      ends_so : is_failed ended.outcome ≡ false → Left s carried held former st p (ended_by ended (after_fill b ended.outcome numbered))
      ends_so f =
          record {
            sound = block_left.sound;
            answers = end_answers ended.outcome block_left.sound.known block_left.sound.unprotected f;
            unprotected = end_unprotected ended.outcome block_left.sound.known block_left.sound.unprotected f;
            worn_by = λ z. end_unlike ended.outcome 8 (omega arith) (omega arith) z;
            unworn = λ x y. record { block = b; below = below; free = chosen_is.passes; unfailed = unfailed-none p ended b f block_left.failures b ∙ unfailed_here };
            spent_by = λ z. end_unlike ended.outcome 9 (omega arith) (omega arith) z;
            spent_so = λ h. absurd (omega (arith, h, number_fits, failed_same p.started ended.started (unfailed-none p ended b f block_left.failures) s.geometry.blocks));
            spent_fails = λ z. end_unlike ended.outcome 9 (omega arith) (omega arith) z;
            silent_by = λ z. block_left.sound.silent_by (answer_silent ended.outcome z);
            failed_kept = failed_before;
            failed_by_fact = failed_since;
            used_up = λ z. block_left.sound.used_up (answer_cut ended.outcome z);
            stopped = answer_stopped ended.outcome (after_fill b ended.outcome numbered);
            kept = kept_others;
            held_unfailed = λ c h t. held_same c t;
            done = λ z.
                let y = answer_passed ended.outcome z in
                let state_is : state_for ended.outcome (after_fill b ended.outcome numbered) ≡ with_table b numbered = rw y (after_passed b numbered ended.outcome y) in
                subst (Done s carried held former st p ended) (sym state_is) (done_so s mask_bytes carried held former st p r number_fits b below free.0 free.1 unheld y);
            spent = omega (arith, block_left.spent, one_less, one_fill);
          }

      filled_so : ((st' : State) (p' : Progress) → Ready s carried held former p' st' → k ≡ numbers_left st' → Left s carried held former st' p' (tables_filled s held k st' p')) → suc k ≡ numbers_left st
          → Left s carried held former st p (after_try k (try_block s st p (Some b)))
      filled_so less h =
          cases (is_failed ended.outcome)
          (λ w. subst (Left s carried held former st p) (failed_is w)
          (goes_on w _ (less (with_invalid b numbered) (resumed ended) (ready_next s mask_bytes carried held former st p r number_fits b below free.0 free.1 unheld w) (omega (arith, h)))))
          (λ f. subst (Left s carried held former st p) (ended_is f) (ends_so f))

  pub tables_leave : (k : ℕ) (st : State) (p : Progress) → Ready s carried held former p st → k ≡ numbers_left st → Left s carried held former st p (tables_filled s held k st p)
  unfolding tables_filled
  tables_leave zero st p r h =
      record {
        sound = r.sound;
        answers = is_spent;
        unprotected = λ z. omega (arith, z);
        worn_by = λ z. absurd (omega (arith, z));
        unworn = λ x y. absurd (y refl);
        spent_by = λ z. omega (arith, h);
        spent_so = λ z. refl;
        spent_fails = λ z. inl (omega (arith, h));
        silent_by = λ z. absurd (omega (arith, z));
        used_up = λ z. absurd (omega (arith, z));
        failed_kept = λ b t. t;
        failed_by_fact = r.failed_by_fact;
        stopped = λ x. refl;
        kept = λ b l f. refl;
        held_unfailed = λ b l t. refl;
        done = λ z. absurd (omega (arith, z));
        spent = omega arith;
      }
  tables_leave (suc k) st p r h =
      let fits : next_number st < number_end = omega (arith, h) in
      subst (Left s carried held former st p) (sym (one_try k st p))
      (by_choice (chosen st.marked st.invalid held s.geometry.blocks st.last)
      (λ e. subst (λ (t : Tried). Left s carried held former st p (after_try k t)) (sym (try_is k st p r fits None e)) (worn k st p r fits e))
      (λ b e. subst (λ (t : Tried). Left s carried held former st p (after_try k t)) (sym (try_is k st p r fits (Some b) e)) (filled_so k st p r fits b e (tables_leave k) h)))
