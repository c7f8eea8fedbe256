-- With the fate words of the dearest write every write that bears so many failed fills has so many, and sends the dearest write's cycles.
-- Assumes nothing.
use Prim.Native.Nat.{ℕ, ◌+◌, ◌-◌, ◌*◌, ◌≤◌, ◌<◌}
use mathlib.Core.Bool.{Bool, true, false, cond, false≢true}
use mathlib.Core.List.{List, []}
use mathlib.Core.Path.{◌≡◌, refl, sym, ap, subst, ◌∙◌}
use native.Mathlib.Nat.{suc-mul, mul-le-mul_right}
use native.Mathlib.Numerals.{add-one}
use native.Mathlib.Omega.{arith}
use borrow.Table.Steps.{cases}
use borrow.Author.Tests.{eqb-true, eqb-false, eq-eqb, ne_eqb, lt-ltb, le-ltb, ltb-true, ltb-false}
use lib.Dec.{eqb, ltb}
use lib.ListN.{length, get_or}
use Rattle.geometry.specs.declared.Geometry.{Geometry}
use Rattle.geometry.specs.Limits.{Valid}
use Rattle.bools.proofs.BoolLaws.{clash}
use Rattle.bitmaps.proofs.BitmapLaws.{Bitmap}
use Rattle.chip_interface.specs.Interface.{fate_word, failed_for}
use Rattle.chip_array.specs.Device.{Device, Setting, setting}
use Rattle.bus_polling.specs.Outcomes.{is_passed, is_failed}
use Rattle.bus_polling.specs.declared.Outcome.TheVariants.{Passed, Failed}
use Rattle.bus_polling.proofs.OutcomeLaws.{passed_answered}
use Rattle.operations.specs.Ends.{Called}
use Rattle.operations.specs.Trace.{ArrayOperation}
use Rattle.pages.specs.Layout.{data_kind}
use Rattle.state_choose.specs.Choose.{permitted, count_permitted}
use Rattle.state.specs.State.{next_number, number_end, numbers_left, held_bits, taken, with_invalid, with_copy, mounted, free_blocks, form_of}
use Rattle.state.specs.declared.State.{State}
use Rattle.request.specs.Call.{Result, sized_for, call_line}
use Rattle.request_refusals.proofs.RefusalLaws.{Accepted}
use Rattle.progress.specs.Progress.{Progress, progress, line_of}
use Rattle.progress.proofs.StatusLaws.{StatusLeft}
use Rattle.progress.specs.Steps.{resumed}
use Rattle.fill.specs.Fill.{copy, table_copy, table_source, table_filled}
use Rattle.fill_tables.specs.Tables.{Tabled, end_of_run, tables_filled}
use Rattle.fill_tables.proofs.StatusLaws.{after_passed}
use Rattle.damage.specs.Run.{failed_count}
use Rattle.damage.proofs.FailedLaws.{failed_none}
use Rattle.dearest.specs.Dearest.{slow_word, fail_word, copy_operations, table_operations, dearest_length, dearest_fates, copy_cycles, table_cycles, dearest_cycles}
use Rattle.dearest.proofs.WordLaws.{length_fates, slow_at, fails_at}
use Rattle.write_changes.specs.Changes.{Update, Copied, copied, copy_filled, copies_filled, change_run, change_first, change_call, write_update, writing}
use Rattle.write_changes.proofs.LoopLaws.{Copying, copies_end, Tabling, tables_end}
use Rattle.write_laws.specs.Changing.{InRange}
use Rattle.write_laws.proofs.MeantLaws as meant
use Rattle.write_laws.proofs.PhaseLaws as phase
use Rattle.write_laws.proofs.ChangingLaws as changing
use Rattle.write_laws.proofs.ChangingLaws.{sized-valid}
use Rattle.write_dearest.specs.Dearest.{failed_fills, numbers_for, Bears, Sends}
use Rattle.write_dearest.specs.Exactly.{SlowWord, Exactly}
use Rattle.write_dearest.proofs.FillWordLaws.{exactly_then, exactly_as, fill_exactly}
use Rattle.write_dearest.proofs.ChipLaws.{begins_at}
use Rattle.write_dearest.proofs.WriteLaws.{with_table_fact, without_table, accepted, written_is, failed_is}
use Rattle.write_dearest.proofs.OldLaws.{worn_count, old_free}
use Rattle.write_dearest.proofs.SourceLaws.{write_source, copy_words, copy_cycles_fact, table_words, table_cycles_fact}

-- the words of the list, by the fill and the place in it
module _ (g : Geometry) (v : Valid g) (mask : List ℕ) (failed : ℕ) where
  abbrev dear : Setting
  dear = setting g mask (dearest_fates g failed)

  abbrev fill : ℕ
  fill = copy_operations g

  some_pages : 0 < g.pages
  some_pages = omega (arith, v.pages_least)

  word_is : (at w : ℕ) → at < dearest_length g failed → get_or (dearest_fates g failed) at 0 ≡ w → fate_word (dearest_fates g failed) at ≡ w
  unfolding fate_word
  word_is at w h e = rw (lt-ltb at (length (dearest_fates g failed)) (omega (arith, h, length_fates g some_pages failed))) e

  slow_word_lem : (j i : ℕ) → i < fill → (i + 1 ≡ fill → failed ≤ j) → j * fill + i < dearest_length g failed → SlowWord dear (j * fill + i) slow_word
  slow_word_lem j i h late within =
      record {
        within = omega (arith, within, length_fates g some_pages failed);
        word_is = word_is (j * fill + i) slow_word within (slow_at g some_pages failed j i h late within);
        busy = refl;
      }

  -- a data fill, the last of which passes
  in_copies : (j i : ℕ) → j ≤ failed → i < fill → j * fill + i < dearest_length g failed
  unfolding dearest_length
  in_copies j i h k =
      let next : (failed + 1) * fill ≡ failed * fill + fill = ap (λ (n : ℕ). n * fill) (add-one failed) ∙ suc-mul failed fill in
      omega (arith, k, mul-le-mul_right fill h, next)

  fail_word_fact : (j : ℕ) → j < failed → SlowWord dear (j * fill + (fill - 1)) fail_word
  fail_word_fact j h =
      let within = in_copies j (fill - 1) (omega (arith, h)) (omega (arith, some_pages)) in
      record {
        within = omega (arith, within, length_fates g some_pages failed);
        word_is = word_is (j * fill + (fill - 1)) fail_word within (fails_at g some_pages failed j h);
        busy = refl;
      }

  -- the table fill
  table_word : (i : ℕ) → 0 < failed → i < table_operations g → SlowWord dear ((failed + 1) * fill + i) slow_word
  unfolding dearest_length
  table_word i some h =
      slow_word_lem (failed + 1) i (omega (arith, h, v.pages_least)) (λ e. omega arith) (rw (ne_eqb failed 0 (λ z. omega (arith, z, some))) (omega (arith, h)))

-- where the fills of a write begin: on a ready chip whose line is high, no fate word taken; of blocks, numbers and cycles there are enough
module _ (g : Geometry) (mask : List ℕ) (failed : ℕ) (first : Progress) (st₀ : State) (logical page : ℕ) (bytes : List ℕ) where
  abbrev words : Setting
  words = setting g mask (dearest_fates g failed)

  abbrev u : Update
  u = write_update st₀ logical page bytes

  abbrev held : List ℕ
  held = held_bits st₀ g.logical

  pub record Begins : Type 0 where
    pub in_range : InRange words first.line.chip st₀
    pub passed : is_passed first.outcome ≡ true
    pub none_started : first.started ≡ []
    pub called : Called words first.line
    pub is_mounted : mounted st₀ g.blocks g.logical ≡ true
    pub proper : meant.Proper g held u
    pub high : line_of first ≡ 0
    pub fresh : first.line.chip.interface.fate ≡ 0
    pub old_below : u.old < g.blocks
    pub page_below : page < g.pages
    pub blocks_left : failed < count_permitted st₀.marked st₀.invalid held g.blocks
    pub numbers_left_fact : numbers_for failed ≤ numbers_left st₀
    pub enough : (failed + 1) * copy_cycles g + cond (eqb failed 0) 0 (table_cycles g) ≤ first.line.left

  module _ (x : Begins) where
    v : Valid g
    v = x.called.is_valid

    abbrev fill_words : ℕ
    fill_words = copy_operations g

    -- before each data fill; those before it have failed
    abbrev Standing : State → Bool → Progress → Type 0
    Standing = changing.Before words first st₀ u x.in_range x.passed x.none_started x.called x.is_mounted x.proper x.high

    abbrev failed_on : Progress → ℕ
    failed_on p = failed_count p.started g.blocks

    record Before (st : State) (f : Bool) (p : Progress) : Type 0 where
      standing : Standing st f p
      few : failed_on p ≤ failed
      exactly : Exactly first p (failed_on p * fill_words) (failed_on p * copy_cycles g)

    -- once one has passed
    pub record Copies (c : Copied) : Type 0 where
      pub done : c.answer ≡ 0
      pub numbers : next_number c.state ≡ next_number st₀ + (failed + 1)
      pub exactly : Exactly first c.progress ((failed + 1) * fill_words) ((failed + 1) * copy_cycles g)
      pub free : permitted c.state.marked c.state.invalid (held_bits c.state g.logical) u.old ≡ true

    -- one fill more
    one_more : (n k : ℕ) → (n + 1) * k ≡ n * k + k
    one_more n k = ap (λ (m : ℕ). m * k) (add-one n) ∙ suc-mul n k

    module _ (st : State) (f : Bool) (p : Progress) (y : Before st f p) (fits : next_number st < number_end) (b : ℕ) (below : b < g.blocks) (may : permitted st.marked st.invalid held b ≡ true) where
      abbrev q : Progress
      q = copy_filled words u st b p

      abbrev j : ℕ
      j = failed_on p

      place : p.line.chip.interface.fate ≡ j * fill_words
      place = omega (arith, y.exactly.words_taken, x.fresh)

      left_enough : copy_cycles g ≤ p.line.left
      left_enough =
          omega (arith, y.exactly.cycles_sent, x.enough, one_more j (copy_cycles g), mul-le-mul_right {m = j + 1} {n = failed + 1} (copy_cycles g) (omega (arith, y.few)))

      -- w: the last word of the fill
      fill_goes : (w : ℕ) → SlowWord words (j * fill_words + (fill_words - 1)) w → Exactly p q fill_words (copy_cycles g) × (q.outcome ≡ cond (eqb (failed_for 2 w) 0) Passed Failed)
      fill_goes w slow =
          let mid = y.standing.mid in
          let long = copy_words g u.old (form_of st logical) page bytes v x.old_below x.page_below in
          let cost = copy_cycles_fact g u.old (form_of st logical) page bytes v x.old_below x.page_below in
          let z = fill_exactly words p b below (copy data_kind logical (next_number st)) (write_source g u.old (form_of st logical) page bytes) _
          (changing.copy_meant words first st₀ u x.in_range x.passed x.none_started x.called x.is_mounted x.proper x.high st p mid fits b below may)
          x.in_range.mask_bytes mid.high mid.passed (mid.sound.called (passed_answered p.outcome mid.passed))
          (λ i h.
          subst (λ (k : ℕ). SlowWord words (k + i) slow_word) (sym place)
          (slow_word_lem g v mask failed j i (omega (arith, h, long)) (λ e. absurd (omega (arith, e, h, long))) (in_copies g v mask failed j i y.few (omega (arith, h, long)))))
          (omega (arith, left_enough, cost))
          w (subst (λ (k : ℕ). SlowWord words k w) (omega (arith, place, long, v.pages_least)) slow) in
          (exactly_as fill_words (copy_cycles g) long cost z.0, z.1)

      -- it fails, or it is the last one and passes
      fails : j < failed → Exactly p q fill_words (copy_cycles g) × (q.outcome ≡ Failed)
      fails h = fill_goes fail_word (fail_word_fact g v mask failed j h)

      passes : failed ≤ j → Exactly p q fill_words (copy_cycles g) × (q.outcome ≡ Passed)
      passes h =
          let within : fill_words - 1 < fill_words = omega (arith, v.pages_least) in
          fill_goes slow_word (slow_word_lem g v mask failed j (fill_words - 1) within (λ e. h) (in_copies g v mask failed j (fill_words - 1) y.few within))

      copy_passed : is_passed q.outcome ≡ true → Copies (copied q 0 (with_copy data_kind logical b (taken st)) f)
      unfolding is_passed
      copy_passed t =
          let mid = y.standing.mid in
          let last : j ≡ failed = cases (ltb j failed) (λ h. absurd (false≢true (sym (ap is_passed (fails (ltb-true j failed h)).1) ∙ t))) (λ h. omega (arith, y.few, ltb-false j failed h)) in
          let z = exactly_then y.exactly (passes (omega (arith, last))).0 in
          let long : length st.map ≡ 4096 = mid.map_long in
          let room : logical < length st.map = omega (arith, long, x.proper.logical_below, v.logical_most, v.blocks_most) in
          let same : get_or st.map logical 0 ≡ u.old = ap (λ (m : List ℕ). get_or m logical 0) mid.map_same in
          let free = old_free st g.blocks g.logical v.blocks_most mid.facts b (subst (λ (h : List ℕ). permitted st.marked st.invalid h b ≡ true) (sym mid.held_is) may) logical x.proper.logical_below room (omega (arith, same, x.old_below)) in
          record {
            done = refl;
            numbers = omega (arith, mid.numbers, last);
            exactly = exactly_as ((failed + 1) * fill_words) ((failed + 1) * copy_cycles g) (sym (one_more j fill_words) ∙ ap (λ (k : ℕ). (k + 1) * fill_words) last) (sym (one_more j (copy_cycles g)) ∙ ap (λ (k : ℕ). (k + 1) * copy_cycles g) last) z;
            free = subst (λ (k : ℕ). permitted st.marked st.invalid (held_bits (with_copy data_kind logical b (taken st)) g.logical) k ≡ true) same free;
          }

      copy_failed : is_failed q.outcome ≡ true → Before (with_invalid b (taken st)) true (resumed q)
      unfolding is_failed
      copy_failed t =
          let mid = y.standing.mid in
          let less : j < failed = cases (ltb j failed) (λ h. ltb-true j failed h) (λ h. absurd (false≢true (sym (ap is_failed (passes (ltb-false j failed h)).1) ∙ t))) in
          let next = changing.copy_failed words first st₀ u x.in_range x.passed x.none_started x.called x.is_mounted x.proper x.high st p mid fits b below may t in
          let count : failed_on q ≡ j + 1 = omega (arith, mid.numbers, next.mid.numbers) in
          let z = exactly_then y.exactly (fails less).0 in
          record {
            standing = next;
            few = omega (arith, count, less);
            exactly = record {
              words_taken = omega (arith, z.words_taken, one_more j fill_words, ap (λ (k : ℕ). k * fill_words) count);
              cycles_sent = omega (arith, z.cycles_sent, one_more j (copy_cycles g), ap (λ (k : ℕ). k * copy_cycles g) count);
            };
          }

      copy_goes : is_passed q.outcome ≡ false → is_failed q.outcome ≡ false → ⊥
      unfolding is_passed is_failed
      copy_goes n w =
          cases (ltb j failed)
          (λ h. false≢true (sym w ∙ ap is_failed (fails (ltb-true j failed h)).1))
          (λ h. false≢true (sym n ∙ ap is_passed (passes (ltb-false j failed h)).1))

    -- no number and no block is missing
    numbers_enough : (st : State) (f : Bool) (p : Progress) → Before st f p → number_end ≤ next_number st → ⊥
    numbers_enough st f p y h = omega (arith, h, y.standing.mid.numbers, y.few, x.numbers_left_fact)

    blocks_enough : (st : State) (f : Bool) (p : Progress) → Before st f p → ((b : ℕ) → b < g.blocks → permitted st.marked st.invalid held b ≡ false) → ⊥
    blocks_enough st f p y none =
        let worn = phase.ended_worn _ _ _ _ _ _ _ _ _ _ st p y.standing.mid none in
        omega (arith, worn_count st₀.marked st₀.invalid held p.started g.blocks (worn.worn_by refl), y.few, x.blocks_left)

    copying : Copying words held u Before Copies
    copying =
        record {
          last_below = λ st f p y. y.standing.mid.facts.last_below;
          spent = λ st f p y h. absurd (numbers_enough st f p y h);
          worn = λ st f p y h none. absurd (blocks_enough st f p y none);
          passed = copy_passed;
          failed = copy_failed;
          stopped = λ st f p y h b below may n w. absurd (copy_goes st f p y h b below may n w);
        }

    abbrev pub made : Copied
    made = copies_filled words held u (numbers_left st₀) false st₀ first

    copies : Copies made
    copies =
        copies_end words held u Before Copies copying (numbers_left st₀) st₀ false first
        (record {
          standing = changing.before_first words first st₀ u x.in_range x.passed x.none_started x.called x.is_mounted x.proper x.high;
          few = omega (arith, no_failures);
          exactly = record {
            words_taken = omega (arith, ap (λ (k : ℕ). k * fill_words) no_failures);
            cycles_sent = omega (arith, ap (λ (k : ℕ). k * copy_cycles g) no_failures);
          };
        })
        refl
      where
        no_failures : failed_on first ≡ 0
        no_failures = ap (λ (os : List ArrayOperation). failed_count os g.blocks) x.none_started ∙ failed_none g.blocks

    -- what they leave: so many blocks have failed
    ended : changing.Copies words first st₀ u x.in_range x.passed x.none_started x.called x.is_mounted x.proper x.high made
    ended = changing.copies words first st₀ u x.in_range x.passed x.none_started x.called x.is_mounted x.proper x.high

    pub failed_so : made.failed ≡ ltb 0 failed
    failed_so =
        let next = ended.ended.done copies.done in
        let count : failed_on made.progress ≡ failed = omega (arith, next.numbers, copies.numbers) in
        ended.any_failed copies.done ∙ ap (ltb 0) count

    -- the whole run
    pub record Runs (t : Tabled) : Type 0 where
      pub done : t.answer ≡ 0
      pub numbers : next_number t.state ≡ next_number st₀ + numbers_for failed
      pub cycles : t.progress.line.left + ((failed + 1) * copy_cycles g + cond (eqb failed 0) 0 (table_cycles g)) ≡ first.line.left

    -- a table fill follows where any failed
    module _ (some : 0 < failed) where
      not_zero : eqb failed 0 ≡ false
      not_zero = ne_eqb failed 0 (λ z. omega (arith, z, some))

      numbers_more : failed + 1 + 1 ≤ numbers_left st₀
      numbers_more = rw not_zero at x.numbers_left_fact

      cycles_more : (failed + 1) * copy_cycles g + table_cycles g ≤ first.line.left
      cycles_more = rw not_zero at x.enough

      abbrev held_now : List ℕ
      held_now = held_bits made.state g.logical

      record TableBefore (st : State) (p : Progress) : Type 0 where
        all_passed : is_passed p.outcome ≡ true
        ready : Called words p.line
        still_high : line_of p ≡ 0
        last_below : st.last < g.blocks
        bits : Bitmap g.blocks st.invalid
        numbers : next_number st ≡ next_number st₀ + (failed + 1)
        free : permitted st.marked st.invalid held_now u.old ≡ true
        exactly : Exactly first p ((failed + 1) * fill_words) ((failed + 1) * copy_cycles g)

      module _ (st : State) (p : Progress) (y : TableBefore st p) (fits : next_number st < number_end) (b : ℕ) (below : b < g.blocks) where
        abbrev r : Progress
        r = table_filled words b (next_number st) st.invalid p

        table_goes : Exactly p r (table_operations g) (table_cycles g) × (r.outcome ≡ Passed)
        table_goes =
            let long = table_words g v st.invalid in
            let cost = table_cycles_fact g v st.invalid in
            let place : p.line.chip.interface.fate ≡ (failed + 1) * fill_words = omega (arith, y.exactly.words_taken, x.fresh) in
            let slow : (i : ℕ) → i < table_operations g → SlowWord words (p.line.chip.interface.fate + i) slow_word = λ i h. subst (λ (k : ℕ). SlowWord words (k + i) slow_word) (sym place) (table_word g v mask failed i some h) in
            let z = fill_exactly words p b below (table_copy (next_number st)) (table_source g st.invalid) _
            (meant.table_meant words v st.invalid y.bits (next_number st) fits p.line.chip.array b)
            x.in_range.mask_bytes y.still_high y.all_passed y.ready
            (λ i h. slow i (omega (arith, h, long)))
            (omega (arith, cost, cycles_more, y.exactly.cycles_sent))
            slow_word (slow _ (omega (arith, long))) in
            (exactly_as (table_operations g) (table_cycles g) long cost z.0, z.1)

      tabling : Tabling words held_now TableBefore Runs
      unfolding is_passed is_failed
      tabling =
          record {
            last_below = λ st p y. y.last_below;
            spent = λ st p y h. absurd (omega (arith, h, y.numbers, numbers_more));
            worn = λ st p y h none. clash y.free (none u.old x.old_below);
            passed = λ st p y h b below may t.
                let z = exactly_then y.exactly (table_goes st p y h b below).0 in
                record {
                  done = refl;
                  numbers = rw not_zero (omega (arith, y.numbers));
                  cycles = rw not_zero (omega (arith, z.cycles_sent));
                };
            failed = λ st p y h b below may w. absurd (false≢true (sym (ap is_failed (table_goes st p y h b below).1) ∙ w));
            stopped = λ st p y h b below may n w. absurd (false≢true (sym n ∙ ap is_passed (table_goes st p y h b below).1));
          }

      tables : Runs (tables_filled words held_now (numbers_left made.state) made.state made.progress)
      tables =
          let next = ended.ended.done copies.done in
          tables_end words held_now TableBefore Runs tabling (numbers_left made.state) made.state made.progress
          (record {
            all_passed = next.passed;
            ready = next.called;
            still_high = next.high;
            last_below = next.facts.last_below;
            bits = next.bits;
            numbers = copies.numbers;
            free = copies.free;
            exactly = copies.exactly;
          })
          refl

    pub runs : Runs (change_run words st₀ u first)
    runs =
        cases (eqb failed 0)
        (λ t.
        let none = eqb-true failed 0 t in
        let e = without_table words made copies.done (failed_so ∙ le-ltb 0 failed (omega (arith, none))) in
        subst Runs (sym e)
        (record {
          done = refl;
          numbers = rw t (omega (arith, copies.numbers));
          cycles = rw t (omega (arith, copies.exactly.cycles_sent));
        }))
        (λ f.
        let some : 0 < failed = omega (arith, eqb-false failed 0 f) in
        subst Runs (sym (with_table_fact words made copies.done (failed_so ∙ lt-ltb 0 failed some))) (tables some))

-- the write from the chip handed in
module _ (g : Geometry) (mask : List ℕ) (failed : ℕ) (d : Device) (n : ℕ) (st : State) (logical page : ℕ) (bytes : List ℕ)
    (b : Bears (setting g mask (dearest_fates g failed)) failed (dearest_cycles g failed) d n st logical page bytes) where
  abbrev dearest : Setting
  dearest = setting g mask (dearest_fates g failed)

  abbrev asked : Update
  asked = write_update st logical page bytes

  abbrev shown : Progress
  shown = change_first dearest d n

  taken_on : Accepted g (sized_for dearest d) st logical page (length bytes)
  taken_on = accepted dearest d n st logical page bytes b.accepted

  is_proper : meant.Proper g (held_bits st g.logical) asked
  is_proper =
      meant.write_proper g (sized-valid dearest d taken_on.sizes_fit) st logical taken_on.logical_below page bytes taken_on.buffer_long b.are_bytes

  status_so : StatusLeft dearest (progress (call_line d n) Passed [] []) shown
  status_so = changing.status_left dearest d n st asked b.in_range b.is_ready taken_on.sizes_fit taken_on.is_mounted is_proper

  -- the status read passes
  two_cycles : 2 ≤ n
  unfolding dearest_cycles
  two_cycles = omega (arith, b.allowed)

  passed : is_passed shown.outcome ≡ true
  unfolding is_passed
  passed =
      let o : shown.outcome ≡ Passed = status_so.outcome_is ∙ rw (le-ltb n 2 two_cycles, eq-eqb d.interface.protected 0 b.line_high) in
      ap is_passed o

  begins : Begins g mask failed shown st logical page bytes
  unfolding free_blocks dearest_cycles
  begins =
      record {
        in_range = changing.shown_range dearest d n st asked b.in_range b.is_ready taken_on.sizes_fit taken_on.is_mounted is_proper passed;
        passed = passed;
        none_started = changing.shown_started dearest d n st asked b.in_range b.is_ready taken_on.sizes_fit taken_on.is_mounted is_proper;
        called = changing.shown_called dearest d n st asked b.in_range b.is_ready taken_on.sizes_fit taken_on.is_mounted is_proper passed;
        is_mounted = taken_on.is_mounted;
        proper = is_proper;
        high = changing.line_high dearest d n st asked b.in_range b.is_ready taken_on.sizes_fit taken_on.is_mounted is_proper passed;
        fresh = status_so.same_fate;
        old_below = b.over_old;
        page_below = taken_on.page_below;
        blocks_left = rw taken_on.is_mounted at b.blocks_left;
        numbers_left_fact = b.numbers_left_fact;
        enough = omega (arith, b.allowed, status_so.left_is);
      }

  ran : Runs g mask failed shown st logical page bytes begins (change_run dearest st asked shown)
  ran = runs g mask failed shown st logical page bytes begins

  abbrev written : Result
  written = writing dearest d n st logical page bytes

  written_so : written ≡ end_of_run n (change_run dearest st asked shown)
  written_so = written_is dearest d n st logical page bytes b.accepted ∙ ap (end_of_run n) (after_passed st shown (change_run dearest st asked shown) passed)

  acknowledged : written.answer ≡ 0
  acknowledged = ap (λ (r : Result). r.answer) written_so ∙ ran.done

  count : failed_fills dearest d n st logical page bytes ≡ failed
  count =
      let call = after_passed st shown (change_run dearest st asked shown) passed in
      let taken = begins_at dearest n st asked taken_on.is_mounted is_proper shown (change_call dearest d n st asked) begins.in_range passed begins.none_started begins.called begins.high
      (omega (arith, status_so.left_is)) call (ap (λ (t : Tabled). t.answer) call ∙ ran.done) in
      let any = failed_so g mask failed shown st logical page bytes begins in
      let count : failed_fills dearest d n st logical page bytes ≡ failed_count (change_call dearest d n st asked).progress.started g.blocks = failed_is dearest d n st logical page bytes b.accepted in
      let same = ap (λ (t : Tabled). next_number t.state) call in
      let told = subst (λ (f : Bool). next_number (change_call dearest d n st asked).state ≡ next_number st + (failed_count (change_call dearest d n st asked).progress.started g.blocks + 1 + cond f 1 0)) any taken.numbers in
      cases (eqb failed 0)
      (λ t. omega (arith, count, same, rw (le-ltb 0 failed (omega (arith, eqb-true failed 0 t))) at told, rw t at ran.numbers))
      (λ f. omega (arith, count, same, rw (lt-ltb 0 failed (omega (arith, eqb-false failed 0 f))) at told, rw f at ran.numbers))

  pub write_attains : Sends dearest failed (dearest_cycles g failed) d n st logical page bytes
  unfolding dearest_cycles
  write_attains =
      record {
        done = acknowledged;
        fills_failed = count;
        cycles_sent = omega (arith, ap (λ (r : Result). r.sent) written_so, ran.cycles, status_so.left_is, two_cycles);
      }
