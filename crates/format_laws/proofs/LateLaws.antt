-- The erase of the old table's block once a new table is complete, and the table fills that follow where it fails. Assumes nothing.
use Prim.Native.Nat.{ℕ, zero, suc, ◌+◌, ◌*◌, ◌/◌, ◌≤◌, ◌<◌}
use mathlib.Core.Bool.{Bool, true, false, cond, true≢false, false≢true}
use mathlib.Core.List.{List}
use mathlib.Core.Logic.{◌⊎◌, inl, inr, ⊎_elim}
use mathlib.Core.Path.{◌≡◌, refl, sym, ap, subst, ◌∙◌}
use native.Mathlib.Nat.{add-mul}
use native.Mathlib.Omega.{arith}
use borrow.Table.Steps.{cases}
use borrow.Author.Tests.{eqb-true, eqb-false, ltb-true, ltb-false, lt-ltb}
use lib.Dec.{eqb, ltb}
use lib.ListN.{length, get_or, replicate, length-replicate, get_or-replicate}
use Rattle.geometry.specs.declared.Geometry.{Geometry}
use Rattle.geometry.specs.Limits.{Valid}
use Rattle.geometry.specs.Sizes.{block_size}
use Rattle.cells.specs.Bytes.{Bytes}
use Rattle.bitmaps.specs.Bitmap.{bit_at, with_bit}
use Rattle.bitmaps.proofs.BitLaws.{bit-set, bit_kept}
use Rattle.bitmaps.proofs.BitmapLaws.{bits_more, bit_more, blank-bit}
use Rattle.chip_array.specs.Device.{Setting}
use Rattle.bus_polling.specs.Outcomes.{is_passed, is_failed, is_illegal, is_protected, is_cut_off, is_silent}
use Rattle.bus_polling.proofs.OutcomeLaws.{failed_unpassed, failed_answered, passed_answered, passed_unfailed, unfailed_end}
use Rattle.operations.specs.Ends.{Called}
use Rattle.copies.specs.Blocks.{page_in, is_marked, is_data, whole_in, greatest_to}
use Rattle.state_choose.specs.Choose.{permitted, count_permitted}
use Rattle.state_choose.proofs.ChooseLaws.{permitted_parts}
use Rattle.state.specs.State.{blank, none, next_number, number_end, numbers_left, with_invalid, add_block, copy_bits, held_bits}
use Rattle.state.specs.declared.State.{State}
use Rattle.request.proofs.CallLaws.{stop_answer_lem, stop_cut, stop_silent}
use Rattle.request.specs.Call.{stop_answer}
use Rattle.progress.specs.Progress.{Progress, line_of}
use Rattle.progress.specs.Steps.{erase_on, resumed}
use Rattle.progress.proofs.WordLaws.{line_kept}
use Rattle.fill_tables.specs.Tables.{Tabled, tabled}
use Rattle.fill_tables.proofs.KeepLaws.{tables_keep}
use Rattle.format.specs.Format.{stopped, tables_from, after_late, late_run}
use Rattle.format.proofs.EndLaws.{tables_passed, late_unpassed, late_alone, late_erased}
use Rattle.damage.specs.Run.{failed_in, failed_count, Sound, Erased, Spent, block_on, page_on, Slow, Failing, erase_most, table_fill_most}
use Rattle.damage.proofs.CopyLaws.{erased_unmarked}
use Rattle.damage.proofs.EraseLaws.{erase_leaves}
use Rattle.damage.proofs.FailedLaws.{failed_same, failed_more}
use Rattle.damage.proofs.PlaceLaws.{block_long, page-erased}
use Rattle.damage.proofs.TraceLaws.{unfailed-none}
use Rattle.format_laws.proofs.CountLaws.{count_moved}
use Rattle.format_laws.proofs.RaisedLaws.{raised_lower}
use Rattle.format_laws.proofs.RoundLaws.{raised_no_mark}
use Rattle.format_laws.proofs.SettledLaws as settled
use Rattle.format_laws.proofs.SettledLaws.{Settled}
use Rattle.format_laws.proofs.TablesLaws.{neither, second, or_or, permitted_unheld, Ready, Done, Left, tables_leave}
use Rattle.format_laws.specs.Formatting.{FormatAnswer, is_done, is_silent_fact, is_cut}

-- a state whose map is empty holds the block of its table alone
empty_bits : (n : ℕ) (bits : List ℕ) → n ≤ 4096 → copy_bits (replicate 4096 none) n bits ≡ bits
unfolding copy_bits
empty_bits zero bits h = refl
empty_bits (suc n) bits h =
    let e : get_or (replicate 4096 none) n 0 ≡ none = get_or-replicate 4096 n none 0 (omega (arith, h)) in
    rw e (empty_bits n bits (omega (arith, h)))

module _ (st : State) (n : ℕ) (few : n ≤ 4096) (empty : st.map ≡ replicate 4096 none) where
  pub held_is : held_bits st n ≡ add_block st.table (replicate 512 0)
  held_is = ap (λ (m : List ℕ). copy_bits m n (add_block st.table (replicate 512 0))) empty ∙ empty_bits n (add_block st.table (replicate 512 0)) few

  pub held_table : st.table < 4096 → bit_at (held_bits st n) st.table ≡ true
  held_table h =
      ap (λ (x : List ℕ). bit_at x st.table) held_is
      ∙ rw (lt-ltb st.table 4096 h) (bit-set (replicate 512 0) st.table (omega (arith, h, length-replicate {A = ℕ} 512 0)))

  pub held_other : (b : ℕ) → (b ≡ st.table → ⊥) → bit_at (held_bits st n) b ≡ false
  held_other b x =
      ap (λ (y : List ℕ). bit_at y b) held_is
      ∙ cases (ltb st.table 4096) (λ t. rw t (bit_kept (replicate 512 0) st.table b x ∙ blank-bit 512 b)) (λ t. rw t (blank-bit 512 b))

-- what a formatting that was acknowledged leaves: a table, and a former one where the erase of the old table's block failed
pub record LateDone (s : Setting) (carried : List ℕ) (st : State) (q : Progress) (next : State) : Type 0 where
  pub former : ℕ
  pub number : ℕ
  pub number_is : next.number ≡ number
  pub status_same : next.status ≡ st.status
  pub last_is : next.last ≡ next.table
  pub marked_same : next.marked ≡ st.marked
  pub map_same : next.map ≡ st.map
  pub kinds_same : next.kinds ≡ st.kinds
  pub marks : (b : ℕ) → b < s.geometry.blocks → is_marked s.geometry (block_on s q b) ≡ bit_at st.marked b
  pub settled : Settled s.geometry q.line.chip.array next.invalid next.table former number
  pub former_whole : former < s.geometry.blocks → (i : ℕ) → i < s.geometry.pages → whole_in s.geometry (block_on s q former) i ≡ true
  pub former_bytes : former < s.geometry.blocks → (i : ℕ) → i < s.geometry.pages → Bytes (page_on s q former i)
  pub called : Called s q.line
  pub failures : (b : ℕ) → b < s.geometry.blocks → cond (bit_at carried b) true (failed_in b q.started) ≡ bit_at next.invalid b

-- a block that is unmarked, not carried over and has not failed
pub record Spare (s : Setting) (marked carried : List ℕ) (p : Progress) (b : ℕ) : Type 0 where
  pub below : b < s.geometry.blocks
  pub unmarked : bit_at marked b ≡ false
  pub uncarried : bit_at carried b ≡ false
  pub unfailed : failed_in b p.started ≡ false

-- one more than block x
pub record Other (s : Setting) (marked carried : List ℕ) (p : Progress) (x : ℕ) : Type 0 where
  pub block : ℕ
  pub spare : Spare s marked carried p block
  pub off : block ≡ x → ⊥

-- however the table fills and the erase of block old, if it is on the chip, end; held is a block that is not filled, on the chip if old is: it is worn only
-- where every block but that has failed
pub record Late (s : Setting) (carried : List ℕ) (old : ℕ) (st : State) (p : Progress) (t : Tabled) : Type 0 where
  pub sound : Sound s t.progress
  pub answers : FormatAnswer t.answer
  pub unprotected : t.answer ≡ 13 → ⊥
  pub held : ℕ
  pub held_off : s.geometry.blocks ≤ old → s.geometry.blocks ≤ held
  pub held_on : old < s.geometry.blocks → Spare s st.marked carried t.progress held
  pub worn_by : t.answer ≡ 8 → (b : ℕ) → b < s.geometry.blocks → (b ≡ held → ⊥) → bit_at st.marked b ≡ false → bit_at carried b ≡ false → failed_in b t.progress.started ≡ true
  pub unworn : (t.answer ≡ 8 → ⊥) → (t.answer ≡ 9 → ⊥) → Other s st.marked carried t.progress held
  pub spent_by : t.answer ≡ 9 → number_end + failed_count p.started s.geometry.blocks ≤ next_number st + failed_count t.progress.started s.geometry.blocks
  pub spent_so : number_end + failed_count p.started s.geometry.blocks ≤ next_number st + failed_count t.progress.started s.geometry.blocks → t.answer ≡ 9
  pub spent_fails : t.answer ≡ 9 → (number_end ≤ next_number st) ⊎ Failing s.fates
  pub silent_by : t.answer ≡ 10 → Slow s.fates
  pub used_up : t.answer ≡ 11 → t.progress.line.left ≡ 0
  pub failed_kept : (b : ℕ) → failed_in b p.started ≡ true → failed_in b t.progress.started ≡ true
  pub failed_by_fact : (b : ℕ) → b < s.geometry.blocks → failed_in b t.progress.started ≡ true → Failing s.fates
  pub stopped : (t.answer ≡ 0 → ⊥) → t.state ≡ blank 2
  pub kept : (b : ℕ) → b < s.geometry.blocks → (bit_at st.marked b ≡ true) ⊎ (bit_at carried b ≡ true) → block_on s t.progress b ≡ block_on s p b
  pub done : t.answer ≡ 0 → LateDone s carried st t.progress t.state
  pub spent : Spent p t.progress (count_permitted st.marked st.invalid (held_bits st s.geometry.logical) s.geometry.blocks * table_fill_most s.geometry + erase_most)

permitted_held : (marked invalid held : List ℕ) (b : ℕ) → bit_at held b ≡ true → permitted marked invalid held b ≡ false
unfolding permitted
permitted_held marked invalid held b t =
    cases (bit_at marked b) (λ m. rw m) (λ m. cases (bit_at invalid b) (λ i. rw (m, i)) (λ i. rw (m, i, t)))

permitted_marked : (marked invalid held : List ℕ) (b : ℕ) → bit_at marked b ≡ true → permitted marked invalid held b ≡ false
unfolding permitted
permitted_marked marked invalid held b t = rw t

permitted_invalid : (marked invalid held : List ℕ) (b : ℕ) → bit_at invalid b ≡ true → permitted marked invalid held b ≡ false
unfolding permitted
permitted_invalid marked invalid held b t = cases (bit_at marked b) (λ m. rw m) (λ m. rw (m, t))

permitted_so : (marked invalid held : List ℕ) (b : ℕ) → bit_at marked b ≡ false → bit_at invalid b ≡ false → bit_at held b ≡ false → permitted marked invalid held b ≡ true
unfolding permitted
permitted_so marked invalid held b m i h = rw (m, i, h)

-- table fills from a state that holds block x alone, that of its table
module _ (s : Setting) (carried : List ℕ) (x : ℕ) (st : State) (p : Progress) (few : s.geometry.logical ≤ 4096) (blocks : s.geometry.blocks ≤ 4096) (table_is : st.table ≡ x) (empty : st.map ≡ replicate 4096 none)
    (r : Ready s carried (held_bits st s.geometry.logical) x p st) (unmarked : x < s.geometry.blocks → bit_at st.marked x ≡ false) (valid : x < s.geometry.blocks → bit_at st.invalid x ≡ false)
    (t : Tabled) (left : Left s carried (held_bits st s.geometry.logical) x st p t) where
  abbrev own_held : List ℕ
  own_held = held_bits st s.geometry.logical

  x_held : x < s.geometry.blocks → bit_at own_held x ≡ true
  x_held h = subst (λ (b : ℕ). bit_at own_held b ≡ true) table_is (held_table st s.geometry.logical few empty (omega (arith, h, table_is, blocks)))

  off_held : (b : ℕ) → (b ≡ x → ⊥) → bit_at own_held b ≡ false
  off_held b o = held_other st s.geometry.logical few empty b (λ e. o (e ∙ table_is))

  uncarried : (b : ℕ) → b < s.geometry.blocks → bit_at st.invalid b ≡ false → (bit_at carried b ≡ false) × (failed_in b p.started ≡ false)
  uncarried b h f = neither (bit_at carried b) (failed_in b p.started) (r.failures b h ∙ f)

  pub left_held : x < s.geometry.blocks → Spare s st.marked carried t.progress x
  left_held h =
      let c = uncarried x h (valid h) in
      record { below = h; unmarked = unmarked h; uncarried = c.0; unfailed = left.held_unfailed x h (x_held h) ∙ c.1 }

  pub left_worn : t.answer ≡ 8 → (b : ℕ) → b < s.geometry.blocks → (b ≡ x → ⊥) → bit_at st.marked b ≡ false → bit_at carried b ≡ false → failed_in b t.progress.started ≡ true
  left_worn z b h o m c =
      cases (bit_at st.invalid b)
      (λ i. left.failed_kept b (second (bit_at carried b) (failed_in b p.started) c (r.failures b h ∙ i)))
      (λ i. left.worn_by z b h (permitted_so st.marked st.invalid own_held b m i (off_held b o)))

  pub left_other : (t.answer ≡ 8 → ⊥) → (t.answer ≡ 9 → ⊥) → Other s st.marked carried t.progress x
  left_other y z =
      let u = left.unworn y z in
      let parts = permitted_parts st.marked st.invalid own_held u.block u.free in
      let unheld = permitted_unheld st.marked st.invalid own_held u.block u.free in
      record {
        block = u.block;
        spare = record { below = u.below; unmarked = parts.0; uncarried = (uncarried u.block u.below parts.1).0; unfailed = u.unfailed };
        off = λ e. false≢true (sym unheld ∙ ap (bit_at own_held) e ∙ x_held (omega (arith, e, u.below)));
      }

  pub left_kept : (b : ℕ) → b < s.geometry.blocks → (bit_at st.marked b ≡ true) ⊎ (bit_at carried b ≡ true) → block_on s t.progress b ≡ block_on s p b
  left_kept b h why =
      left.kept b h
      (⊎_elim (permitted_marked st.marked st.invalid own_held b) (λ c. permitted_invalid st.marked st.invalid own_held b (sym (r.failures b h) ∙ rw c)) why)

  pub left_table : x < s.geometry.blocks → block_on s t.progress x ≡ block_on s p x
  left_table h = left.kept x h (permitted_held st.marked st.invalid own_held x (x_held h))

module _ (s : Setting) (mask_bytes : Bytes s.mask) (carried : List ℕ) (old : ℕ) (st : State) (p : Progress) (table_is : st.table ≡ old) (empty : st.map ≡ replicate 4096 none)
    (r : Ready s carried (held_bits st s.geometry.logical) old p st) (unmarked : old < s.geometry.blocks → bit_at st.marked old ≡ false) (valid : old < s.geometry.blocks → bit_at st.invalid old ≡ false)
    (whole : old < s.geometry.blocks → (i : ℕ) → i < s.geometry.pages → whole_in s.geometry (block_on s p old) i ≡ true) (bytes : old < s.geometry.blocks → Bytes (block_on s p old)) where
  abbrev g : Geometry
  g = s.geometry

  abbrev held : List ℕ
  held = held_bits st g.logical

  called : Called s p.line
  called = r.sound.called (passed_answered p.outcome r.passed)

  v : Valid g
  v = called.is_valid

  few : g.logical ≤ 4096
  few = omega (arith, v.logical_most, v.blocks_most)

  abbrev t : Tabled
  t = tables_from s st p

  left : Left s carried held old st p t
  left = tables_leave s mask_bytes carried held old (numbers_left st) st p r refl

  -- no table fill passed, or there is no old table
  alone : (t.answer ≡ 0 → g.blocks ≤ old) → Late s carried old st p t
  alone none =
      record {
        sound = left.sound;
        answers = left.answers;
        unprotected = left.unprotected;
        held = old;
        held_off = λ h. h;
        held_on = left_held s carried old st p few v.blocks_most table_is empty r unmarked valid t left;
        worn_by = left_worn s carried old st p few v.blocks_most table_is empty r unmarked valid t left;
        unworn = left_other s carried old st p few v.blocks_most table_is empty r unmarked valid t left;
        spent_by = left.spent_by;
        spent_so = left.spent_so;
        spent_fails = left.spent_fails;
        silent_by = left.silent_by;
        used_up = left.used_up;
        failed_kept = left.failed_kept;
        failed_by_fact = left.failed_by_fact;
        stopped = left.stopped;
        kept = left_kept s carried old st p few v.blocks_most table_is empty r unmarked valid t left;
        done = λ z.
            let d = left.done z in
            record {
              former = old;
              number = d.number;
              number_is = d.number_is;
              status_same = d.status_same;
              last_is = d.last_is;
              marked_same = d.marked_same;
              map_same = d.map_same;
              kinds_same = d.kinds_same;
              marks = d.marks;
              settled = d.settled;
              former_whole = λ h. absurd (omega (arith, h, none z));
              former_bytes = λ h. absurd (omega (arith, h, none z));
              called = d.called;
              failures = d.failures;
            };
        spent = omega (arith, left.spent);
      }

  -- the block of the old table is erased
  module _ (z : t.answer ≡ 0) (on : old < g.blocks) where
    abbrev q : Progress
    q = t.progress

    abbrev e : Progress
    e = erase_on s old q

    abbrev next : State
    next = t.state

    d : Done s carried held old st p q next
    d = left.done z

    passed : is_passed q.outcome ≡ true
    passed = tables_passed s held (numbers_left st) st p z

    high : line_of q ≡ 0
    high = tables_keep s (λ x. line_of x ≡ 0) (line_kept s 0) held (numbers_left st) st p r.high

    er : Erased s q e old
    er = erase_leaves s q old on passed d.called high

    held_old : bit_at held old ≡ true
    held_old = subst (λ (b : ℕ). bit_at held b ≡ true) table_is (held_table st g.logical few empty (omega (arith, on, table_is, v.blocks_most)))

    abbrev table : ℕ
    table = next.table

    table_below : table < g.blocks
    table_below = d.settled.table_below

    off_table : table ≡ old → ⊥
    off_table x = false≢true (sym (permitted_unheld st.marked next.invalid held table d.free) ∙ ap (bit_at held) x ∙ held_old)

    table_unmarked : bit_at st.marked table ≡ false
    table_unmarked = (permitted_parts st.marked next.invalid held table d.free).0

    unlisted : (b : ℕ) → b < g.blocks → bit_at next.invalid b ≡ false → (bit_at carried b ≡ false) × (failed_in b q.started ≡ false)
    unlisted b h f = neither (bit_at carried b) (failed_in b q.started) (d.failures b h ∙ f)

    old_spare : Spare s st.marked carried q old
    old_spare = left_held s carried old st p few v.blocks_most table_is empty r unmarked valid t left on

    table_spare : Spare s st.marked carried q table
    table_spare =
        let x = unlisted table table_below d.settled.table_valid in
        record { below = table_below; unmarked = table_unmarked; uncarried = x.0; unfailed = x.1 }

    off_kept : (b : ℕ) → (bit_at st.marked b ≡ true) ⊎ (bit_at carried b ≡ true) → b ≡ old → ⊥
    off_kept b why x =
        ⊎_elim (λ m. false≢true (sym (unmarked on) ∙ ap (bit_at st.marked) (sym x) ∙ m)) (λ c. false≢true (sym old_spare.uncarried ∙ ap (bit_at carried) (sym x) ∙ c)) why

    kept_so : (b : ℕ) → b < g.blocks → (bit_at st.marked b ≡ true) ⊎ (bit_at carried b ≡ true) → block_on s e b ≡ block_on s p b
    kept_so b h why = er.others b h (off_kept b why) ∙ left_kept s carried old st p few v.blocks_most table_is empty r unmarked valid t left b h why

    old_row : block_on s q old ≡ block_on s p old
    old_row = left_table s carried old st p few v.blocks_most table_is empty r unmarked valid t left on

    -- it did not fail: no block more has failed
    module _ (f : is_failed e.outcome ≡ false) where
      same_failed : (b : ℕ) → failed_in b e.started ≡ failed_in b q.started
      same_failed = unfailed-none q e old f er.failures

      count_same : failed_count e.started g.blocks ≡ failed_count q.started g.blocks
      count_same = failed_same q.started e.started same_failed g.blocks

      still : (b : ℕ) → Spare s st.marked carried q b → Spare s st.marked carried e b
      still b x = record { below = x.below; unmarked = x.unmarked; uncarried = x.uncarried; unfailed = same_failed b ∙ x.unfailed }

      -- it ends with an answer that is neither 8 nor 9
      ends_with : (a : ℕ) (st' : State) → FormatAnswer a → (a ≡ 8 → ⊥) → (a ≡ 9 → ⊥) → (a ≡ 13 → ⊥) → (a ≡ 10 → Slow s.fates) → (a ≡ 11 → e.line.left ≡ 0) → ((a ≡ 0 → ⊥) → st' ≡ blank 2)
          → (a ≡ 0 → LateDone s carried st e st') → Late s carried old st p (tabled e a st')
      ends_with a st' is unworn unspent unprotected silent cut stops done =
          record {
            sound = er.sound;
            answers = is;
            unprotected = unprotected;
            held = old;
            held_off = λ h. h;
            held_on = λ h. still old old_spare;
            worn_by = λ y. absurd (unworn y);
            unworn = λ x y. record { block = table; spare = still table table_spare; off = off_table };
            spent_by = λ y. absurd (unspent y);
            spent_so = λ h. absurd (omega (arith, z, left.spent_so (omega (arith, h, count_same))));
            spent_fails = λ y. absurd (unspent y);
            silent_by = silent;
            used_up = cut;
            failed_kept = λ b y. same_failed b ∙ left.failed_kept b y;
            failed_by_fact = λ b h y. left.failed_by_fact b h (sym (same_failed b) ∙ y);
            stopped = stops;
            kept = kept_so;
            done = done;
            spent = omega (arith, left.spent, er.spent);
          }

      -- it passed: the former table is gone
      module _ (y : is_passed e.outcome ≡ true) where
        marks_passed : (b : ℕ) → b < g.blocks → is_marked g (block_on s e b) ≡ bit_at st.marked b
        marks_passed b h =
            cases (eqb b old)
            (λ x.
            subst (λ (k : ℕ). is_marked g (block_on s e k) ≡ bit_at st.marked k) (sym (eqb-true b old x))
            (erased_unmarked g v (block_on s e old) (λ i l. ap (λ (row : List ℕ). page_in g row i) (er.whole y) ∙ page-erased g i l) ∙ sym (unmarked on)))
            (λ x. ap (is_marked g) (er.others b h (eqb-false b old x)) ∙ d.marks b h)

        settles : Settled g e.line.chip.array next.invalid table g.blocks d.number
        settles =
            let c = d.settled in
            record {
              is_valid = v;
              array_long = (er.sound.called (passed_answered e.outcome y)).array_long;
              invalid_bits = c.invalid_bits;
              table_below = c.table_below;
              table_valid = c.table_valid;
              number_some = c.number_some;
              number_fits = c.number_fits;
              table_pages_fact = λ i h. ap (λ (row : List ℕ). page_in g row i) (er.others table table_below off_table) ∙ c.table_pages_fact i h;
              erased = λ b h x w m i k l.
                  cases (eqb b old)
                  (λ u. ap (λ (row : List ℕ). page_in g row k) (ap (block_on s e) (eqb-true b old u) ∙ er.whole y) ∙ page-erased g k l)
                  (λ u.
                  let o = eqb-false b old u in
                  ap (λ (row : List ℕ). page_in g row k) (er.others b h o) ∙ c.erased b h x o (sym (ap (is_marked g) (er.others b h o)) ∙ m) i k l);
              listed = λ b h m i.
                  let o : b ≡ old → ⊥ = λ u. false≢true (sym old_valid ∙ ap (bit_at next.invalid) (sym u) ∙ i) in
                  subst (λ (row : List ℕ). greatest_to g row g.pages < d.number) (sym (er.others b h o)) (c.listed b h (sym (ap (is_marked g) (er.others b h o)) ∙ m) i);
              apart = λ b h m. apart_so b h (sym (marks_passed b h) ∙ m);
              former_lower = λ h. absurd (omega (arith, h));
              former_no_data = λ h. absurd (omega (arith, h));
            }
          where
            old_valid : bit_at next.invalid old ≡ false
            old_valid = sym (d.failures old on) ∙ rw (old_spare.uncarried, old_spare.unfailed)

            apart_so : (b : ℕ) → b < g.blocks → bit_at st.marked b ≡ true → bit_at next.invalid b ≡ false
            apart_so b h m = d.settled.apart b h (d.marks b h ∙ m)

        late_passed : Late s carried old st p (tabled e 0 next)
        late_passed =
            ends_with 0 next is_done (λ x. omega (arith, x)) (λ x. omega (arith, x)) (λ x. omega (arith, x)) (λ x. absurd (omega (arith, x))) (λ x. absurd (omega (arith, x))) (λ x. absurd (x refl))
            (λ w.
            record {
              former = g.blocks;
              number = d.number;
              number_is = d.number_is;
              status_same = d.status_same;
              last_is = d.last_is;
              marked_same = d.marked_same;
              map_same = d.map_same;
              kinds_same = d.kinds_same;
              marks = marks_passed;
              settled = settles;
              former_whole = λ h. absurd (omega (arith, h));
              former_bytes = λ h. absurd (omega (arith, h));
              called = er.sound.called (passed_answered e.outcome y);
              failures = λ b h. ap (λ (x : Bool). cond (bit_at carried b) true x) (same_failed b) ∙ d.failures b h;
            })

      -- it was silent or cut
      late_stopped : is_passed e.outcome ≡ false → Late s carried old st p (stopped e)
      late_stopped y =
          let ends = stop_answer_lem e.outcome (unfailed_end e.outcome er.sound.known f er.sound.unprotected) y in
          let is = ⊎_elim (λ x. subst FormatAnswer (sym x) is_silent_fact) (λ x. subst FormatAnswer (sym x) is_cut) ends in
          let least : 10 ≤ stop_answer e.outcome = ⊎_elim (λ x. omega (arith, x)) (λ x. omega (arith, x)) ends in
          ends_with (stop_answer e.outcome) (blank 2) is (λ x. omega (arith, x, least)) (λ x. omega (arith, x, least)) (λ x. ⊎_elim (λ w. omega (arith, x, w)) (λ w. omega (arith, x, w)) ends)
          (λ x. er.sound.silent_by (stop_silent e.outcome x)) (λ x. er.sound.used_up (stop_cut e.outcome x)) (λ x. refl) (λ x. absurd (omega (arith, x, least)))

    -- it failed: the block is invalid, and another table follows, the block of the new one being held
    module _ (w : is_failed e.outcome ≡ true) where
      abbrev listed : State
      listed = with_invalid old next

      abbrev held' : List ℕ
      held' = held_bits listed g.logical

      empty_still : listed.map ≡ replicate 4096 none
      empty_still = d.map_same ∙ empty

      unpassed : is_passed e.outcome ≡ false
      unpassed = failed_unpassed e.outcome w

      room : old / 8 < length next.invalid
      room = omega (arith, on, v.blocks_most, d.settled.invalid_bits.long)

      row_long : length (block_on s q old) ≡ block_size g
      row_long = block_long g v q.line.chip.array d.called.array_long old on

      was_unmarked : is_marked g (block_on s q old) ≡ false
      was_unmarked = d.marks old on ∙ unmarked on

      still_unmarked : is_marked g (block_on s e old) ≡ false
      still_unmarked =
          ⊎_elim
          (λ same. ap (is_marked g) same ∙ was_unmarked)
          (λ partly. ap (is_marked g) partly ∙ raised_no_mark g v (block_on s q old) s.mask row_long mask_bytes was_unmarked)
          (er.partly unpassed)

      old_lower : greatest_to g (block_on s q old) g.pages < d.number
      old_lower = d.settled.former_lower on

      still_lower : greatest_to g (block_on s e old) g.pages < d.number
      still_lower =
          ⊎_elim
          (λ same. subst (λ (row : List ℕ). greatest_to g row g.pages < d.number) (sym same) old_lower)
          (λ partly.
          subst (λ (row : List ℕ). greatest_to g row g.pages < d.number) (sym partly)
          (raised_lower g v (block_on s q old) s.mask row_long (subst Bytes (sym old_row) (bytes on)) mask_bytes
          (λ i h. ap (λ (row : List ℕ). whole_in g row i) old_row ∙ whole on i h) d.number old_lower))
          (er.partly unpassed)

      marks_failed : (b : ℕ) → b < g.blocks → is_marked g (block_on s e b) ≡ bit_at st.marked b
      marks_failed b h =
          cases (eqb b old)
          (λ x. subst (λ (k : ℕ). is_marked g (block_on s e k) ≡ bit_at st.marked k) (sym (eqb-true b old x)) (still_unmarked ∙ sym (unmarked on)))
          (λ x. ap (is_marked g) (er.others b h (eqb-false b old x)) ∙ d.marks b h)

      off_old : (b : ℕ) → bit_at (with_bit next.invalid old) b ≡ false → b ≡ old → ⊥
      off_old b f x = true≢false (sym (bit-set next.invalid old room) ∙ ap (bit_at (with_bit next.invalid old)) (sym x) ∙ f)

      lists_lower : (b : ℕ) → b < g.blocks → bit_at st.marked b ≡ false → bit_at (with_bit next.invalid old) b ≡ true → greatest_to g (block_on s e b) g.pages < d.number
      lists_lower b h m i =
          cases (eqb b old)
          (λ x. subst (λ (k : ℕ). greatest_to g (block_on s e k) g.pages < d.number) (sym (eqb-true b old x)) still_lower)
          (λ x.
          let o = eqb-false b old x in
          subst (λ (row : List ℕ). greatest_to g row g.pages < d.number) (sym (er.others b h o))
          (d.settled.listed b h (d.marks b h ∙ m) (sym (bit_kept next.invalid old b o) ∙ i)))

      table_row : block_on s e table ≡ block_on s q table
      table_row = er.others table table_below off_table

      marked_is : next.marked ≡ st.marked
      marked_is = d.marked_same

      now_failed : (b : ℕ) → b < g.blocks → cond (bit_at carried b) true (failed_in b e.started) ≡ bit_at (with_bit next.invalid old) b
      now_failed b h =
          ap (λ (x : Bool). cond (bit_at carried b) true x) (er.failures b ∙ ap (λ (x : Bool). cond (failed_in b q.started) true (cond (eqb old b) x false)) w)
          ∙ or_or (bit_at carried b) (failed_in b q.started) (cond (eqb old b) true false)
          ∙ ap (λ (x : Bool). cond x true (cond (eqb old b) true false)) (d.failures b h)
          ∙ bit_more next.invalid old b room

      ready : Ready s carried held' table (resumed e) listed
      unfolding is_passed is_illegal is_protected is_cut_off is_silent is_failed
      ready =
          record {
            passed = refl;
            sound = record { legal = er.sound.legal; known = refl; unprotected = refl; used_up = λ c. absurd (false≢true c); silent_by = λ c. absurd (false≢true c); failed_by_fact = λ c. absurd (false≢true c); called = λ a. er.sound.called (failed_answered e.outcome w) };
            high = (line_kept s 0).erase old q high;
            last_below = omega (arith, d.last_is, table_below);
            number_some = omega arith;
            invalid_bits = bits_more g.blocks next.invalid old v.blocks_most on d.settled.invalid_bits;
            marks = λ b h. marks_failed b h ∙ ap (λ (x : List ℕ). bit_at x b) (sym marked_is);
            erased = λ b h m f x.
                let o = off_old b f in
                er.others b h o ∙ d.erased b h (ap (λ (x : List ℕ). bit_at x b) (sym marked_is) ∙ m) (sym (bit_kept next.invalid old b o) ∙ f) x o;
            listed = λ b h m i. omega (arith, lists_lower b h (ap (λ (x : List ℕ). bit_at x b) (sym marked_is) ∙ m) i, d.number_is);
            apart = λ b h m.
                let marked_so : bit_at st.marked b ≡ true = ap (λ (x : List ℕ). bit_at x b) (sym marked_is) ∙ m in
                bit_kept next.invalid old b (off_kept b (inl marked_so)) ∙ d.settled.apart b h (d.marks b h ∙ marked_so);
            failures = now_failed;
            failed_by_fact = λ b h y. er.sound.failed_by_fact w;
            former_held = λ h. held_table listed g.logical few empty_still (omega (arith, h, v.blocks_most));
            former_lower = λ h. subst (λ (row : List ℕ). greatest_to g row g.pages < next_number listed) (sym table_row) (omega (arith, table_greatest, d.number_is));
            former_no_data = λ h. ap (is_data g) table_row ∙ table_no_data;
          }
        where
          table_greatest : greatest_to g (block_on s q table) g.pages ≡ d.number
          table_greatest = settled.table_greatest d.settled

          table_no_data : is_data g (block_on s q table) ≡ false
          table_no_data = settled.table_no_data d.settled

      abbrev t' : Tabled
      t' = tables_from s listed (resumed e)

      left' : Left s carried held' table listed (resumed e) t'
      left' = tables_leave s mask_bytes carried held' table (numbers_left listed) listed (resumed e) ready refl

      -- marks as in the first state
      listed_unmarked : table < g.blocks → bit_at listed.marked table ≡ false
      listed_unmarked h = ap (λ (x : List ℕ). bit_at x table) marked_is ∙ table_unmarked

      listed_valid : table < g.blocks → bit_at listed.invalid table ≡ false
      listed_valid h = bit_kept next.invalid old table off_table ∙ d.settled.table_valid

      one_failed : failed_count e.started g.blocks ≡ failed_count q.started g.blocks + 1
      one_failed =
          failed_more q.started e.started old old_spare.unfailed
          (λ c. er.failures c ∙ ap (λ (x : Bool). cond (failed_in c q.started) true (cond (eqb old c) x false)) w) g.blocks on

      -- both rounds of fills together are no more than one could be
      fewer : count_permitted st.marked (with_bit next.invalid old) held' g.blocks + 1 ≡ count_permitted st.marked next.invalid held g.blocks
      unfolding permitted
      fewer = count_moved st.marked next.invalid held (with_bit next.invalid old) held' table others d.free gone g.blocks table_below
        where
          gone : permitted st.marked (with_bit next.invalid old) held' table ≡ false
          gone = permitted_held st.marked (with_bit next.invalid old) held' table (held_table listed g.logical few empty_still (omega (arith, table_below, v.blocks_most)))

          others : (b : ℕ) → (b ≡ table → ⊥) → permitted st.marked (with_bit next.invalid old) held' b ≡ permitted st.marked next.invalid held b
          others b x =
              cases (eqb b old)
              (λ u.
              let o = eqb-true b old u in
              permitted_invalid st.marked (with_bit next.invalid old) held' b (ap (bit_at (with_bit next.invalid old)) o ∙ bit-set next.invalid old room)
              ∙ sym (permitted_held st.marked next.invalid held b (ap (bit_at held) o ∙ held_old)))
              (λ u.
              let o = eqb-false b old u in
              let unheld' = held_other listed g.logical few empty_still b x in
              let unheld = held_other st g.logical few empty b (λ k. o (k ∙ table_is)) in
              rw (bit_kept next.invalid old b o, unheld', unheld))

      fills_all : d.fills + count_permitted st.marked (with_bit next.invalid old) held' g.blocks ≡ count_permitted st.marked st.invalid held g.blocks
      fills_all = omega (arith, d.fills_counted, fewer)

      marked_so : (b : ℕ) → (bit_at st.marked b ≡ true) ⊎ (bit_at carried b ≡ true) → (bit_at listed.marked b ≡ true) ⊎ (bit_at carried b ≡ true)
      marked_so b why = ⊎_elim (λ m. inl (ap (λ (x : List ℕ). bit_at x b) marked_is ∙ m)) inr why

      first_marks : (b : ℕ) → Spare s listed.marked carried t'.progress b → Spare s st.marked carried t'.progress b
      first_marks b x =
          record { below = x.below; unmarked = ap (λ (y : List ℕ). bit_at y b) (sym marked_is) ∙ x.unmarked; uncarried = x.uncarried; unfailed = x.unfailed }

      table_still : block_on s t'.progress table ≡ block_on s q table
      table_still = left_table s carried table listed (resumed e) few v.blocks_most refl empty_still ready listed_unmarked listed_valid t' left' table_below ∙ table_row

      late_done : t'.answer ≡ 0 → LateDone s carried st t'.progress t'.state
      late_done y =
          let c = left'.done y in
          record {
            former = table;
            number = c.number;
            number_is = c.number_is;
            status_same = c.status_same ∙ d.status_same;
            last_is = c.last_is;
            marked_same = c.marked_same ∙ marked_is;
            map_same = c.map_same ∙ d.map_same;
            kinds_same = c.kinds_same ∙ d.kinds_same;
            marks = λ b h. c.marks b h ∙ ap (λ (x : List ℕ). bit_at x b) marked_is;
            settled = c.settled;
            former_whole = λ h i l. ap (λ (row : List ℕ). whole_in g row i) table_still ∙ settled.table_whole d.settled i l;
            former_bytes = λ h i l. subst (λ (row : List ℕ). Bytes (page_in g row i)) (sym table_still) (settled.page_bytes d.settled i l);
            called = c.called;
            failures = c.failures;
          }

      late_again : Late s carried old st p t'
      late_again =
          record {
            sound = left'.sound;
            answers = left'.answers;
            unprotected = left'.unprotected;
            held = table;
            held_off = λ h. absurd (omega (arith, h, on));
            held_on = λ h. first_marks table (left_held s carried table listed (resumed e) few v.blocks_most refl empty_still ready listed_unmarked listed_valid t' left' table_below);
            worn_by = λ y b h x m c.
                left_worn s carried table listed (resumed e) few v.blocks_most refl empty_still ready listed_unmarked listed_valid t' left' y b h x (ap (λ (k : List ℕ). bit_at k b) marked_is ∙ m) c;
            unworn = λ x y.
                let u = left_other s carried table listed (resumed e) few v.blocks_most refl empty_still ready listed_unmarked listed_valid t' left' x y in
                record { block = u.block; spare = first_marks u.block u.spare; off = u.off };
            spent_by = λ y. omega (arith, left'.spent_by y, one_failed, d.counted, d.number_is);
            spent_so = λ h. left'.spent_so (omega (arith, h, one_failed, d.counted, d.number_is));
            spent_fails = λ y. inr (er.sound.failed_by_fact w);
            silent_by = left'.silent_by;
            used_up = left'.used_up;
            failed_kept = λ b y. left'.failed_kept b (er.failures b ∙ rw (left.failed_kept b y));
            failed_by_fact = left'.failed_by_fact;
            stopped = left'.stopped;
            kept = λ b h why.
                left_kept s carried table listed (resumed e) few v.blocks_most refl empty_still ready listed_unmarked listed_valid t' left' b h (marked_so b why) ∙ kept_so b h why;
            done = late_done;
            spent = all_spent;
          }
        where
          again_spent : Spent (resumed e) t'.progress (count_permitted st.marked (with_bit next.invalid old) held' g.blocks * table_fill_most g)
          again_spent = subst (λ (m : List ℕ). Spent (resumed e) t'.progress (count_permitted m (with_bit next.invalid old) held' g.blocks * table_fill_most g)) marked_is left'.spent

          all_fills : d.fills * table_fill_most g + count_permitted st.marked (with_bit next.invalid old) held' g.blocks * table_fill_most g ≡ count_permitted st.marked st.invalid held g.blocks * table_fill_most g
          all_fills = sym (add-mul d.fills _ (table_fill_most g)) ∙ ap (λ (k : ℕ). k * table_fill_most g) fills_all

          all_spent : Spent p t'.progress (count_permitted st.marked st.invalid held g.blocks * table_fill_most g + erase_most)
          all_spent = omega (arith, d.fills_spent, er.spent, again_spent, all_fills)

    -- however it ended
    late_after : Late s carried old st p (after_late s old next e)
    unfolding after_late
    late_after =
        cases (is_passed e.outcome)
        (λ y. rw y (late_passed (passed_unfailed e.outcome y) y))
        (λ y.
        cases (is_failed e.outcome)
        (λ w. rw (y, w) (late_again w))
        (λ f. rw (y, f) (late_stopped f y)))

  -- the table fills, and that erase if one of them passed
  pub late_leaves : Late s carried old st p (late_run s old t)
  late_leaves =
      cases (eqb t.answer 0)
      (λ z.
      cases (ltb old g.blocks)
      (λ h.
      let on = ltb-true old g.blocks h in
      subst (Late s carried old st p) (late_erased s old t (eqb-true t.answer 0 z) on) (late_after (eqb-true t.answer 0 z) on))
      (λ h. let off = ltb-false old g.blocks h in subst (Late s carried old st p) (late_alone s old t off) (alone (λ x. off))))
      (λ z. let other = eqb-false t.answer 0 z in subst (Late s carried old st p) (late_unpassed s old t other) (alone (λ x. absurd (other x))))
