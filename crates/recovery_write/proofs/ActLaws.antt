-- A write or erase on its way, action by action: where it stands in the data phase and in the table phase, and that each
-- action leads from one such place to the next, whatever the setting of the call that performs it. Assumes nothing.
use Prim.Native.Nat.{ℕ, zero, suc, ◌-◌, ◌≤◌, ◌<◌}
use mathlib.Core.Bool.{Bool, true, false, cond}
use mathlib.Core.List.{List, []}
use mathlib.Core.Path.{◌≡◌, refl, sym, ap, subst, ◌∙◌}
use native.Mathlib.Omega.{arith}
use borrow.Table.Steps.{cases}
use borrow.Author.Tests.{ltb-true, ltb-false}
use lib.Dec.{eqb, ltb}
use lib.ListN.{length}
use Rattle.geometry.specs.declared.Geometry.{Geometry}
use Rattle.geometry.specs.Sizes.{chip_size}
use Rattle.cells.specs.Bytes.{Bytes}
use Rattle.chip_array.specs.Device.{Setting}
use Rattle.chip.specs.Chip.{Cycle}
use Rattle.bus.specs.Line.{Line}
use Rattle.bus_polling.specs.Outcomes.{is_passed, is_failed, is_silent, is_cut_off}
use Rattle.bus_polling.specs.declared.Outcome.{Outcome}
use Rattle.bus_polling.specs.declared.Outcome.TheVariants.{Passed}
use Rattle.bus_polling.proofs.OutcomeLaws.{is_passed_lem, passed_unfailed, failed_unpassed}
use Rattle.operations.specs.Ends.{Called}
use Rattle.operations.specs.Trace.{ArrayOperation}
use Rattle.pages.specs.Layout.{data_kind}
use Rattle.state_choose.specs.Choose.{permitted}
use Rattle.state_choose.proofs.ChooseLaws.{by_choice}
use Rattle.state.specs.State.{blank, next_number, number_end, taken, with_invalid, with_copy, with_table, held_bits}
use Rattle.state.specs.declared.State.{State}
use Rattle.request.specs.Call.{stop_answer}
use Rattle.request.proofs.CallLaws.{stop_least}
use Rattle.progress.specs.Progress.{Progress, progress, line_of}
use Rattle.progress.specs.Steps.{resumed, erase_on}
use Rattle.progress.proofs.WordLaws.{erase_keeps, line_kept}
use Rattle.fill.specs.Fill.{copy, copy_page, table_copy, table_main, table_source, page_filled}
use Rattle.fill.proofs.KeepLaws.{page_keeps}
use Rattle.fill_tables.specs.Tables.{tabled}
use Rattle.fill_cursor.specs.Cursor.{running, moved, first_cursor, ended, filling, on_page, replaced, in_table, choice_of, on_block, prepared, filled_whole, unfilled, withdrawn, settled, after_due, programs, is_open_now}
use Rattle.fill_cursor.specs.declared.Cursor.{Cursor}
use Rattle.fill_cursor.specs.declared.Running.{Running}
use Rattle.fill_driver.specs.Driver.{Ran, copy_of, source_of, performed, gone, gone_on, acted, ran}
use Rattle.fill_laws.proofs.BlockLaws.{after_fill, erase_decides, page_decides, erase_goes, page_goes}
use Rattle.fill_laws.proofs.TableLaws.{prepared_open, prepared-none}
use Rattle.bools.proofs.BoolLaws.{clash}
use Rattle.write_changes.specs.Changes.{Update, stopped_at, update_source}
use Rattle.write_changes.proofs.LoopLaws.{chosen_permitted}
use Rattle.write_laws.specs.Changing.{ChangeAnswer, is_worn, is_spent}
use Rattle.recovery.specs.Book.{Book, Change, entered}
use Rattle.fill_paused.specs.Paused.{Paused}
use Rattle.recovery_write.specs.Changed.{Agrees, MarkedBy, Proper, update_of, Changed}
use Rattle.recovery_write.proofs.DataLaws as phase
use Rattle.recovery_write.proofs.TableLaws as tables
use Rattle.recovery_write.proofs.PauseLaws as pause
use Rattle.recovery_write.proofs.TablePauseLaws as table-pause
use Rattle.recovery_write.proofs.EraseLaws as erasing

-- a request goes on after an operation that failed, and nothing else changes
gone_same : (q : Progress) → is_failed q.outcome ≡ false → gone_on q ≡ q
unfolding gone
gone_same q f =
    let e : gone q.outcome ≡ q.outcome = rw f in
    ap (λ (o : Outcome). progress q.line o q.cycles q.started) e

gone_failed : (q : Progress) → is_failed q.outcome ≡ true → gone_on q ≡ resumed q
unfolding gone
gone_failed q w =
    let e : gone q.outcome ≡ Passed = rw w in
    ap (λ (o : Outcome). progress q.line o q.cycles q.started) e

as_passed : (q : Progress) → is_passed q.outcome ≡ true → q ≡ progress q.line Passed q.cycles q.started
as_passed q y = ap (λ (o : Outcome). progress q.line o q.cycles q.started) (is_passed_lem q.outcome y)

-- what is due after a fill that did not pass
fill_failed : (c : Cursor) (st : State) (o : Outcome) → is_failed o ≡ true → after_fill c st o ≡ running (replaced c) (with_invalid c.block st)
unfolding after_fill unfilled settled withdrawn
fill_failed c st o w = rw (failed_unpassed o w, w)

fill_stopped : (c : Cursor) (st : State) (o : Outcome) → is_passed o ≡ false → is_failed o ≡ false → after_fill c st o ≡ running (ended (stop_answer o)) (blank 2)
unfolding after_fill unfilled settled withdrawn
fill_stopped c st o y f = rw (y, f)

fill_tabled : (c : Cursor) (st : State) (o : Outcome) → c.phase ≡ 1 → is_passed o ≡ true → after_fill c st o ≡ running (ended 0) (with_table c.block st)
unfolding after_fill filled_whole settled
fill_tabled c st o e y = rw (y, e)

-- an operation that was silent or cut is not answered 13
stop_unprotected : (o : Outcome) → stop_answer o ≡ 13 → ⊥
unfolding stop_answer
stop_unprotected o z =
    cases (is_silent o)
    (λ t. omega (arith, rw t at z))
    (λ t. cases (is_cut_off o) (λ u. omega (arith, rw (t, u) at z)) (λ u. omega (arith, rw (t, u) at z)))

-- one that has ended is not open
ended_shut : (a left : ℕ) → is_open_now (ended a) left ≡ false
unfolding is_open_now
ended_shut a left = cases (eqb left 0) (λ t. rw t) (λ t. rw t)

module _ (s : Setting) (mask_bytes : Bytes s.mask) (first : Line) (called : Called s first) (st₀ : State) (c : Change) (book : Book) (marked₀ failed₀ : ℕ → Bool)
    (marks₀ : MarkedBy s.geometry first.chip.array marked₀) (agrees : Agrees s.geometry first.chip.array st₀ book failed₀) (proper : Proper s.geometry c) where
  abbrev g : Geometry
  g = s.geometry

  abbrev u : Update
  u = update_of st₀ c

  abbrev Mid : State → Bool → Progress → Type 0
  Mid = phase.Mid s mask_bytes first called st₀ c book marked₀ failed₀ marks₀ agrees proper

  abbrev Rest : ℕ → List ℕ → List ℕ → List ArrayOperation → Type 0
  Rest = phase.Rest s mask_bytes first called st₀ c book marked₀ failed₀ marks₀ agrees proper

  abbrev Done : State → Bool → Progress → Type 0
  Done = phase.Done s mask_bytes first called st₀ c book marked₀ failed₀ marks₀ agrees proper

  -- the cursor before each data fill, and before each table fill
  abbrev pub data_cursor : Bool → Cursor
  data_cursor f = moved 0 0 0 0 0 (cond f 1 0) (first_cursor 0 u.logical u.first u.count u.old)

  abbrev pub table_cursor : Cursor
  table_cursor = in_table (data_cursor true)

  abbrev pub data_pages : ℕ → ℕ → List ℕ
  data_pages n i = copy_page g (copy data_kind u.logical n) i (entered g c book u.logical i)

  abbrev pub table_pages : ℕ → List ℕ → ℕ → List ℕ
  table_pages n invalid i = copy_page g (table_copy n) i (table_main g invalid i)

  -- data, step 0: a number and a block are due
  pub record BeforeData (r : Running) (p : Progress) : Type 0 where
    pub st : State
    pub failed : Bool
    pub mid : Mid st failed p
    pub r_is : r ≡ running (data_cursor failed) st

  -- data, step 1: the erase of a permitted block
  pub record EraseData (r : Running) (p : Progress) : Type 0 where
    pub st : State
    pub failed : Bool
    pub mid : Mid st failed p
    pub fits : next_number st < number_end
    pub block : ℕ
    pub below : block < g.blocks
    pub may : permitted st.marked st.invalid (held_bits st₀ g.logical) block ≡ true
    pub r_is : r ≡ running (filling block (next_number st) (data_cursor failed)) (taken st)

  -- data, step 2: a page; the fill began on array A, after the operations of before, when the state was st
  pub record InData (r : Running) (p : Progress) : Type 0 where
    pub st : State
    pub failed : Bool
    pub fits : next_number st < number_end
    pub A : List ℕ
    pub long_A : length A ≡ chip_size g
    pub before : List ArrayOperation
    pub state_is : st ≡ phase.moved s mask_bytes first called st₀ c book marked₀ failed₀ marks₀ agrees proper st.number st.invalid
    pub rest : Rest (next_number st) st.invalid A before
    pub clean : failed ≡ false → st.invalid ≡ st₀.invalid
    pub block : ℕ
    pub below : block < g.blocks
    pub may : permitted st.marked st.invalid (held_bits st₀ g.logical) block ≡ true
    pub page : ℕ
    pub page_below : page < g.pages
    pub line : Line
    pub line_called : Called s line
    pub line_high : line.chip.interface.protected ≡ 0
    pub cycles : List Cycle
    pub started : List ArrayOperation
    pub stands : Paused g A before block (data_pages (next_number st)) page line.chip started
    pub r_is : r ≡ running (on_page page (filling block (next_number st) (data_cursor failed))) (taken st)
    pub p_is : p ≡ progress line Passed cycles started

  -- the table phase, after a data fill that passed at p₁, when a block had failed
  module _ (st₁ : State) (p₁ : Progress) (d : Done st₁ true p₁) where
    pub record BeforeTable (r : Running) (p : Progress) : Type 0 where
      pub st : State
      pub mid : tables.Mid s mask_bytes first called st₀ c book marked₀ failed₀ marks₀ agrees proper st₁ true p₁ d st p
      pub r_is : r ≡ running table_cursor st

    pub record EraseTable (r : Running) (p : Progress) : Type 0 where
      pub st : State
      pub mid : tables.Mid s mask_bytes first called st₀ c book marked₀ failed₀ marks₀ agrees proper st₁ true p₁ d st p
      pub fits : next_number st < number_end
      pub block : ℕ
      pub below : block < g.blocks
      pub may : permitted st.marked st.invalid (held_bits st₁ g.logical) block ≡ true
      pub r_is : r ≡ running (filling block (next_number st) table_cursor) (taken st)

    pub record InTable (r : Running) (p : Progress) : Type 0 where
      pub st : State
      pub fits : next_number st < number_end
      pub A : List ℕ
      pub long_A : length A ≡ chip_size g
      pub before : List ArrayOperation
      pub state_is : st ≡ tables.moved s mask_bytes first called st₀ c book marked₀ failed₀ marks₀ agrees proper st₁ true p₁ d st.number st.invalid
      pub table : ℕ
      pub rest : tables.Rest s mask_bytes first called st₀ c book marked₀ failed₀ marks₀ agrees proper st₁ true p₁ d (next_number st) st.invalid table A before
      pub block : ℕ
      pub below : block < g.blocks
      pub may : permitted st.marked st.invalid (held_bits st₁ g.logical) block ≡ true
      pub page : ℕ
      pub page_below : page < g.pages
      pub line : Line
      pub line_called : Called s line
      pub line_high : line.chip.interface.protected ≡ 0
      pub cycles : List Cycle
      pub started : List ArrayOperation
      pub stands : Paused g A before block (table_pages (next_number st) st.invalid) page line.chip started
      pub r_is : r ≡ running (on_page page (filling block (next_number st) table_cursor)) (taken st)
      pub p_is : p ≡ progress line Passed cycles started

  -- the request has ended
  pub record Ended (r : Running) (p : Progress) : Type 0 where
    pub answer : ℕ
    pub unprotected : answer ≡ 13 → ⊥
    pub state : State
    pub changed : Changed s c book marked₀ failed₀ (tabled p answer state)
    pub r_is : r ≡ running (ended answer) state

  -- where a request stands
  pub data At (r : Running) (p : Progress) : Type 0 where
    before_data : BeforeData r p → At r p
    erase_data : EraseData r p → At r p
    in_data : InData r p → At r p
    before_table : (st₁ : State) (p₁ : Progress) (d : Done st₁ true p₁) → BeforeTable st₁ p₁ d r p → At r p
    erase_table : (st₁ : State) (p₁ : Progress) (d : Done st₁ true p₁) → EraseTable st₁ p₁ d r p → At r p
    in_table_fact : (st₁ : State) (p₁ : Progress) (d : Done st₁ true p₁) → InTable st₁ p₁ d r p → At r p
    has_ended : Ended r p → At r p

  abbrev pub AtRan : Ran → Type 0
  AtRan t = At t.running t.progress

  -- the start
  pub at_first : first.chip.interface.protected ≡ 0 → At (running (first_cursor 0 u.logical u.first u.count u.old) st₀) (progress first Passed [] [])
  at_first high = before_data (record { st = st₀; failed = false; mid = phase.mid_first s mask_bytes first called st₀ c book marked₀ failed₀ marks₀ agrees proper [] high; r_is = refl })

  as_due : {r r' : Running} {p p' : Progress} → r ≡ r' → p ≡ p' → At r' p' → At r p
  as_due {r} {r'} {p} {p'} e f a = subst (λ (x : Running). At x p) (sym e) (subst (At r') (sym f) a)

  -- stopped with an answer
  halts : (answer : ℕ) (p : Progress) → 0 < answer → phase.Halted s c book marked₀ failed₀ answer p → At (running (ended answer) (blank 2)) p
  halts answer p some h =
      has_ended (record { answer = answer; unprotected = λ z. omega (arith, z, h.most); state = blank 2; changed = tables.halted_changed s c book marked₀ failed₀ answer p some h; r_is = refl })

  -- a data fill has ended so
  module _ (st : State) (b n : ℕ) (q : Progress) where
    fill_whole : (f : Bool) → is_passed q.outcome ≡ true → Done (with_copy data_kind u.logical b (taken st)) f q → At (after_fill (filling b n (data_cursor f)) (taken st) q.outcome) (gone_on q)
    unfolding after_fill filled_whole settled
    fill_whole true y d =
        as_due (rw y) (gone_same q (passed_unfailed q.outcome y))
        (before_table (with_copy data_kind u.logical b (taken st)) q d (record { st = with_copy data_kind u.logical b (taken st); mid = tables.mid_first s mask_bytes first called st₀ c book marked₀ failed₀ marks₀ agrees proper (with_copy data_kind u.logical b (taken st)) true q d; r_is = refl }))
    fill_whole false y d =
        as_due (rw y) (gone_same q (passed_unfailed q.outcome y))
        (has_ended (record { answer = 0; unprotected = λ z. omega (arith, z); state = with_copy data_kind u.logical b (taken st); changed = tables.data_change s mask_bytes first called st₀ c book marked₀ failed₀ marks₀ agrees proper (with_copy data_kind u.logical b (taken st)) false q d refl; r_is = refl }))

    data_filled : (f : Bool) → (is_passed q.outcome ≡ true → Done (with_copy data_kind u.logical b (taken st)) f q) → (is_failed q.outcome ≡ true → Mid (with_invalid b (taken st)) true (resumed q))
        → (is_passed q.outcome ≡ false → is_failed q.outcome ≡ false → phase.Ends s mask_bytes first called st₀ c book marked₀ failed₀ marks₀ agrees proper (stopped_at q)) → At (after_fill (filling b n (data_cursor f)) (taken st) q.outcome) (gone_on q)
    data_filled f done again ends =
        cases (is_passed q.outcome)
        (λ y. fill_whole f y (done y))
        (λ y.
        cases (is_failed q.outcome)
        (λ w. as_due (fill_failed (filling b n (data_cursor f)) (taken st) q.outcome w) (gone_failed q w) (before_data (record { st = with_invalid b (taken st); failed = true; mid = again w; r_is = refl })))
        (λ w.
        as_due (fill_stopped (filling b n (data_cursor f)) (taken st) q.outcome y w) (gone_same q w)
        (halts (stop_answer q.outcome) q (omega (arith, stop_least q.outcome)) ((ends y w).halted (λ z. omega (arith, z, stop_least q.outcome))))))

  -- data, step 0
  act_prepared : (st : State) (f : Bool) (p : Progress) → Mid st f p → At (prepared g (data_cursor f) st) p
  unfolding on_block
  act_prepared st f p m =
      cases (ltb (next_number st) number_end)
      (λ y. let fits = ltb-true (next_number st) number_end y in as_due (prepared_open g (data_cursor f) st fits) refl (chosen_block fits))
      (λ y. as_due (prepared-none g (data_cursor f) st (ltb-false (next_number st) number_end y)) refl (none_left 9 is_spent (omega arith) (omega arith)))
    where
      none_left : (answer : ℕ) → ChangeAnswer answer → 0 < answer → answer < 10 → At (running (ended answer) (blank 2)) p
      none_left answer is some few = halts answer p some ((phase.data_none s mask_bytes first called st₀ c book marked₀ failed₀ marks₀ agrees proper answer is some few st f p m).halted (λ z. omega (arith, z, some)))

      held_is : held_bits st g.logical ≡ held_bits st₀ g.logical
      held_is = ap (λ (z : State). held_bits z g.logical) m.state_is

      chosen_block : next_number st < number_end → At (on_block (data_cursor f) st (choice_of g st)) p
      chosen_block fits =
          by_choice (choice_of g st)
          (λ e. as_due (ap (on_block (data_cursor f) st) e) refl (none_left 8 is_worn (omega arith) (omega arith)))
          (λ b e.
          let found = chosen_permitted st.marked st.invalid (held_bits st g.logical) g.blocks st.last (phase.last_same s mask_bytes first called st₀ c book marked₀ failed₀ marks₀ agrees proper st f p m) b e in
          as_due (ap (on_block (data_cursor f) st) e) refl
          (erase_data (record { st = st; failed = f; mid = m; fits = fits; block = b; below = found.0; may = subst (λ (z : List ℕ). permitted st.marked st.invalid z b ≡ true) held_is found.1; r_is = refl })))

  -- data, step 1
  act_erase : (st : State) (f : Bool) (p : Progress) → Mid st f p → next_number st < number_end → (b : ℕ) → b < g.blocks → permitted st.marked st.invalid (held_bits st₀ g.logical) b ≡ true
      → At (after_due g.pages (running (filling b (next_number st) (data_cursor f)) (taken st)) (erase_on s b p).outcome) (gone_on (erase_on s b p))
  act_erase st f p m fits b below may =
      let q = erase_on s b p in
      let k = filling b (next_number st) (data_cursor f) in
      cases (is_passed q.outcome)
      (λ y.
      as_due (ap (after_due g.pages (running k (taken st))) (is_passed_lem q.outcome y) ∙ erase_goes g.pages k (taken st) (omega (arith, called.is_valid.pages_least)) refl) (gone_same q (passed_unfailed q.outcome y))
      (in_data (record {
        st = st;
        failed = f;
        fits = fits;
        A = p.line.chip.array;
        long_A = m.long;
        before = p.started;
        state_is = m.state_is;
        rest = m.rest;
        clean = m.clean;
        block = b;
        below = below;
        may = may;
        page = 0;
        page_below = omega (arith, called.is_valid.pages_least);
        line = q.line;
        line_called = erasing.data_begins_called s mask_bytes first called st₀ c book marked₀ failed₀ marks₀ agrees proper st f p m fits b below may y;
        line_high = erase_keeps s b p ∙ m.high;
        cycles = q.cycles;
        started = q.started;
        stands = erasing.data_begins s mask_bytes first called st₀ c book marked₀ failed₀ marks₀ agrees proper st f p m fits b below may y;
        r_is = refl;
        p_is = as_passed q y;
      })))
      (λ y.
      as_due (erase_decides g.pages k (taken st) q.outcome y) refl
      (data_filled st b (next_number st) q f (λ z. clash z y) (erasing.data_erase_failed s mask_bytes first called st₀ c book marked₀ failed₀ marks₀ agrees proper st f p m fits b below may) (erasing.data_erase_stopped s mask_bytes first called st₀ c book marked₀ failed₀ marks₀ agrees proper st f p m fits b below may)))

  -- data, step 2
  module _ {r : Running} {p : Progress} (w : InData r p) where
    abbrev data_next : Progress
    data_next =
        page_filled s w.block (copy data_kind u.logical (next_number w.st)) w.page (update_source g w.st u w.page) (progress w.line Passed w.cycles w.started)

    abbrev data_fill : Cursor
    data_fill = filling w.block (next_number w.st) (data_cursor w.failed)

    data_ends : (is_passed data_next.outcome ≡ true → suc w.page ≡ g.pages)
        → At (after_due g.pages (running (on_page w.page data_fill) (taken w.st)) data_next.outcome) (gone_on data_next)
    data_ends last =
        as_due (page_decides g.pages data_fill (taken w.st) w.page data_next.outcome (λ y. omega (arith, last y))) refl
        (data_filled w.st w.block (next_number w.st) data_next w.failed
        (pause.page_done s mask_bytes first called st₀ c book marked₀ failed₀ marks₀ agrees proper w.line w.line_called w.line_high w.st w.failed w.fits w.A w.long_A w.before w.state_is w.rest w.clean w.block w.below w.may w.page w.page_below w.started w.stands w.cycles last)
        (pause.page_failed s mask_bytes first called st₀ c book marked₀ failed₀ marks₀ agrees proper w.line w.line_called w.line_high w.st w.failed w.fits w.A w.long_A w.before w.state_is w.rest w.clean w.block w.below w.may w.page w.page_below w.started w.stands w.cycles last)
        (pause.page-stopped s mask_bytes first called st₀ c book marked₀ failed₀ marks₀ agrees proper w.line w.line_called w.line_high w.st w.failed w.fits w.A w.long_A w.before w.state_is w.rest w.clean w.block w.below w.may w.page w.page_below w.started w.stands w.cycles last))

    data_goes : is_passed data_next.outcome ≡ true → suc w.page < g.pages → At (after_due g.pages (running (on_page w.page data_fill) (taken w.st)) data_next.outcome) (gone_on data_next)
    data_goes y h =
        as_due (ap (after_due g.pages (running (on_page w.page data_fill) (taken w.st))) (is_passed_lem data_next.outcome y) ∙ page_goes g.pages data_fill (taken w.st) w.page h) (gone_same data_next (passed_unfailed data_next.outcome y))
        (in_data (record {
          st = w.st;
          failed = w.failed;
          fits = w.fits;
          A = w.A;
          long_A = w.long_A;
          before = w.before;
          state_is = w.state_is;
          rest = w.rest;
          clean = w.clean;
          block = w.block;
          below = w.below;
          may = w.may;
          page = suc w.page;
          page_below = h;
          line = data_next.line;
          line_called = pause.page_called s mask_bytes first called st₀ c book marked₀ failed₀ marks₀ agrees proper w.line w.line_called w.line_high w.st w.failed w.fits w.A w.long_A w.before w.state_is w.rest w.clean w.block w.below w.may w.page w.page_below w.started w.stands w.cycles y;
          line_high = page_keeps s (λ x. line_of x ≡ 0) (line_kept s 0) w.block _ w.page _ (progress w.line Passed w.cycles w.started) w.line_high;
          cycles = data_next.cycles;
          started = data_next.started;
          stands = pause.pauses s mask_bytes first called st₀ c book marked₀ failed₀ marks₀ agrees proper w.line w.line_called w.line_high w.st w.failed w.fits w.A w.long_A w.before w.state_is w.rest w.clean w.block w.below w.may w.page w.page_below w.started w.stands w.cycles y;
          r_is = refl;
          p_is = as_passed data_next y;
        }))

    data_page_lem : At (after_due g.pages (running (on_page w.page data_fill) (taken w.st)) data_next.outcome) (gone_on data_next)
    data_page_lem =
        cases (is_passed data_next.outcome)
        (λ y.
        cases (ltb (suc w.page) g.pages)
        (λ h. data_goes y (ltb-true (suc w.page) g.pages h))
        (λ h. data_ends (λ z. omega (arith, ltb-false (suc w.page) g.pages h, w.page_below))))
        (λ y. data_ends (λ z. clash z y))

    pub act_page : AtRan (acted s u.bytes r p)
    unfolding acted performed copy_of source_of
    act_page =
        subst (λ (x : Running). AtRan (acted s u.bytes x p)) (sym w.r_is)
        (subst (λ (x : Progress). AtRan (acted s u.bytes (running (on_page w.page data_fill) (taken w.st)) x)) (sym w.p_is) data_page_lem)

  -- the table phase
  module _ (st₁ : State) (p₁ : Progress) (d : Done st₁ true p₁) where
    abbrev TableMid : State → Progress → Type 0
    TableMid = tables.Mid s mask_bytes first called st₀ c book marked₀ failed₀ marks₀ agrees proper st₁ true p₁ d

    -- a table fill has ended so
    table_filled : (st : State) (b n : ℕ) (q : Progress) → (is_passed q.outcome ≡ true → Changed s c book marked₀ failed₀ (tabled q 0 (with_table b (taken st))))
        → (is_failed q.outcome ≡ true → TableMid (with_invalid b (taken st)) (resumed q))
        → (is_passed q.outcome ≡ false → is_failed q.outcome ≡ false → Changed s c book marked₀ failed₀ (tabled q (stop_answer q.outcome) (blank 2)))
        → At (after_fill (filling b n table_cursor) (taken st) q.outcome) (gone_on q)
    table_filled st b n q done again ends =
        cases (is_passed q.outcome)
        (λ y. as_due (table_whole y) (gone_same q (passed_unfailed q.outcome y)) (has_ended (record { answer = 0; unprotected = λ z. omega (arith, z); state = with_table b (taken st); changed = done y; r_is = refl })))
        (λ y.
        cases (is_failed q.outcome)
        (λ w. as_due (fill_failed (filling b n table_cursor) (taken st) q.outcome w) (gone_failed q w) (before_table st₁ p₁ d (record { st = with_invalid b (taken st); mid = again w; r_is = refl })))
        (λ w.
        as_due (fill_stopped (filling b n table_cursor) (taken st) q.outcome y w) (gone_same q w)
        (has_ended (record { answer = stop_answer q.outcome; unprotected = stop_unprotected q.outcome; state = blank 2; changed = ends y w; r_is = refl }))))
      where
        table_whole : is_passed q.outcome ≡ true → after_fill (filling b n table_cursor) (taken st) q.outcome ≡ running (ended 0) (with_table b (taken st))
        table_whole y = fill_tabled (filling b n table_cursor) (taken st) q.outcome refl y

    -- table, step 0
    act_table_prepared : (st : State) (p : Progress) → TableMid st p → At (prepared g table_cursor st) p
    unfolding on_block
    act_table_prepared st p m =
        cases (ltb (next_number st) number_end)
        (λ y. let fits = ltb-true (next_number st) number_end y in as_due (prepared_open g table_cursor st fits) refl (chosen_block fits))
        (λ y. as_due (prepared-none g table_cursor st (ltb-false (next_number st) number_end y)) refl (none_left 9 is_spent (omega arith) (omega arith)))
      where
        none_left : (answer : ℕ) → ChangeAnswer answer → 0 < answer → answer < 10 → At (running (ended answer) (blank 2)) p
        none_left answer is some few = has_ended (record { answer = answer; unprotected = λ z. omega (arith, z, few); state = blank 2; changed = tables.table_none s mask_bytes first called st₀ c book marked₀ failed₀ marks₀ agrees proper st₁ true p₁ d answer is some few st p m; r_is = refl })

        last_below : st.last < g.blocks
        last_below = omega (arith, ap (λ (z : State). z.last) m.state_is, ap (λ (z : State). z.last) d.state_is, d.below)

        held_is : held_bits st g.logical ≡ held_bits st₁ g.logical
        held_is = ap (λ (z : State). held_bits z g.logical) m.state_is

        chosen_block : next_number st < number_end → At (on_block table_cursor st (choice_of g st)) p
        chosen_block fits =
            by_choice (choice_of g st)
            (λ e. as_due (ap (on_block table_cursor st) e) refl (none_left 8 is_worn (omega arith) (omega arith)))
            (λ b e.
            let found = chosen_permitted st.marked st.invalid (held_bits st g.logical) g.blocks st.last last_below b e in
            as_due (ap (on_block table_cursor st) e) refl
            (erase_table st₁ p₁ d (record { st = st; mid = m; fits = fits; block = b; below = found.0; may = subst (λ (z : List ℕ). permitted st.marked st.invalid z b ≡ true) held_is found.1; r_is = refl })))

    -- table, step 1
    act_table_erase : (st : State) (p : Progress) → TableMid st p → next_number st < number_end → (b : ℕ) → b < g.blocks → permitted st.marked st.invalid (held_bits st₁ g.logical) b ≡ true
        → At (after_due g.pages (running (filling b (next_number st) table_cursor) (taken st)) (erase_on s b p).outcome) (gone_on (erase_on s b p))
    act_table_erase st p m fits b below may =
        let q = erase_on s b p in
        let k = filling b (next_number st) table_cursor in
        cases (is_passed q.outcome)
        (λ y.
        as_due (ap (after_due g.pages (running k (taken st))) (is_passed_lem q.outcome y) ∙ erase_goes g.pages k (taken st) (omega (arith, called.is_valid.pages_least)) refl) (gone_same q (passed_unfailed q.outcome y))
        (in_table_fact st₁ p₁ d (record {
          st = st;
          fits = fits;
          A = p.line.chip.array;
          long_A = m.long;
          before = p.started;
          state_is = m.state_is;
          table = m.table;
          rest = m.rest;
          block = b;
          below = below;
          may = may;
          page = 0;
          page_below = omega (arith, called.is_valid.pages_least);
          line = q.line;
          line_called = erasing.table_begins_called s mask_bytes first called st₀ c book marked₀ failed₀ marks₀ agrees proper st₁ true p₁ d st p m fits b below may y;
          line_high = erase_keeps s b p ∙ m.high;
          cycles = q.cycles;
          started = q.started;
          stands = erasing.table_begins s mask_bytes first called st₀ c book marked₀ failed₀ marks₀ agrees proper st₁ true p₁ d st p m fits b below may y;
          r_is = refl;
          p_is = as_passed q y;
        })))
        (λ y.
        as_due (erase_decides g.pages k (taken st) q.outcome y) refl
        (table_filled st b (next_number st) q (λ z. clash z y) (erasing.table_erase_failed s mask_bytes first called st₀ c book marked₀ failed₀ marks₀ agrees proper st₁ true p₁ d st p m fits b below may) (erasing.table_erase_stopped s mask_bytes first called st₀ c book marked₀ failed₀ marks₀ agrees proper st₁ true p₁ d st p m fits b below may)))

    -- table, step 2
    module _ {r : Running} {p : Progress} (w : InTable st₁ p₁ d r p) where
      abbrev table_next_here : Progress
      table_next_here = page_filled s w.block (table_copy (next_number w.st)) w.page (table_source g w.st.invalid w.page) (progress w.line Passed w.cycles w.started)

      abbrev table_fill_here : Cursor
      table_fill_here = filling w.block (next_number w.st) table_cursor

      table_ends : (is_passed table_next_here.outcome ≡ true → suc w.page ≡ g.pages)
          → At (after_due g.pages (running (on_page w.page table_fill_here) (taken w.st)) table_next_here.outcome) (gone_on table_next_here)
      table_ends last =
          as_due (page_decides g.pages table_fill_here (taken w.st) w.page table_next_here.outcome (λ y. omega (arith, last y))) refl
          (table_filled w.st w.block (next_number w.st) table_next_here
          (table-pause.page_done s mask_bytes first called st₀ c book marked₀ failed₀ marks₀ agrees proper w.line w.line_called w.line_high st₁ true p₁ d w.st w.fits w.A w.long_A w.before w.state_is w.table w.rest w.block w.below w.may w.page w.page_below w.started w.stands w.cycles last)
          (table-pause.page_failed s mask_bytes first called st₀ c book marked₀ failed₀ marks₀ agrees proper w.line w.line_called w.line_high st₁ true p₁ d w.st w.fits w.A w.long_A w.before w.state_is w.table w.rest w.block w.below w.may w.page w.page_below w.started w.stands w.cycles last)
          (table-pause.page-stopped s mask_bytes first called st₀ c book marked₀ failed₀ marks₀ agrees proper w.line w.line_called w.line_high st₁ true p₁ d w.st w.fits w.A w.long_A w.before w.state_is w.table w.rest w.block w.below w.may w.page w.page_below w.started w.stands w.cycles last))

      table_goes : is_passed table_next_here.outcome ≡ true → suc w.page < g.pages → At (after_due g.pages (running (on_page w.page table_fill_here) (taken w.st)) table_next_here.outcome) (gone_on table_next_here)
      table_goes y h =
          as_due (ap (after_due g.pages (running (on_page w.page table_fill_here) (taken w.st))) (is_passed_lem table_next_here.outcome y) ∙ page_goes g.pages table_fill_here (taken w.st) w.page h) (gone_same table_next_here (passed_unfailed table_next_here.outcome y))
          (in_table_fact st₁ p₁ d (record {
            st = w.st;
            fits = w.fits;
            A = w.A;
            long_A = w.long_A;
            before = w.before;
            state_is = w.state_is;
            table = w.table;
            rest = w.rest;
            block = w.block;
            below = w.below;
            may = w.may;
            page = suc w.page;
            page_below = h;
            line = table_next_here.line;
            line_called = table-pause.page_called s mask_bytes first called st₀ c book marked₀ failed₀ marks₀ agrees proper w.line w.line_called w.line_high st₁ true p₁ d w.st w.fits w.A w.long_A w.before w.state_is w.table w.rest w.block w.below w.may w.page w.page_below w.started w.stands w.cycles y;
            line_high = page_keeps s (λ x. line_of x ≡ 0) (line_kept s 0) w.block _ w.page _ (progress w.line Passed w.cycles w.started) w.line_high;
            cycles = table_next_here.cycles;
            started = table_next_here.started;
            stands = table-pause.pauses s mask_bytes first called st₀ c book marked₀ failed₀ marks₀ agrees proper w.line w.line_called w.line_high st₁ true p₁ d w.st w.fits w.A w.long_A w.before w.state_is w.table w.rest w.block w.below w.may w.page w.page_below w.started w.stands w.cycles y;
            r_is = refl;
            p_is = as_passed table_next_here y;
          }))

      table_page_fact : At (after_due g.pages (running (on_page w.page table_fill_here) (taken w.st)) table_next_here.outcome) (gone_on table_next_here)
      table_page_fact =
          cases (is_passed table_next_here.outcome)
          (λ y.
          cases (ltb (suc w.page) g.pages)
          (λ h. table_goes y (ltb-true (suc w.page) g.pages h))
          (λ h. table_ends (λ z. omega (arith, ltb-false (suc w.page) g.pages h, w.page_below))))
          (λ y. table_ends (λ z. clash z y))

      pub act_table_page : AtRan (acted s u.bytes r p)
      unfolding acted performed copy_of source_of
      act_table_page =
          subst (λ (x : Running). AtRan (acted s u.bytes x p)) (sym w.r_is)
          (subst (λ (x : Progress). AtRan (acted s u.bytes (running (on_page w.page table_fill_here) (taken w.st)) x)) (sym w.p_is) table_page_fact)

  -- one action, wherever the request stands
  pub act_keeps : (left : ℕ) {r : Running} {p : Progress} → At r p → is_open_now r.cursor left ≡ true → AtRan (acted s u.bytes r p)
  unfolding acted performed
  act_keeps left {r} {p} (before_data w) o =
      subst (λ (x : Running). AtRan (acted s u.bytes x p)) (sym w.r_is) (act_prepared w.st w.failed p w.mid)
  act_keeps left {r} {p} (erase_data w) o =
      subst (λ (x : Running). AtRan (acted s u.bytes x p)) (sym w.r_is) (act_erase w.st w.failed p w.mid w.fits w.block w.below w.may)
  act_keeps left (in_data w) o = act_page w
  act_keeps left {r} {p} (before_table st₁ p₁ d w) o =
      subst (λ (x : Running). AtRan (acted s u.bytes x p)) (sym w.r_is) (act_table_prepared st₁ p₁ d w.st p w.mid)
  act_keeps left {r} {p} (erase_table st₁ p₁ d w) o =
      subst (λ (x : Running). AtRan (acted s u.bytes x p)) (sym w.r_is) (act_table_erase st₁ p₁ d w.st p w.mid w.fits w.block w.below w.may)
  act_keeps left (in_table_fact st₁ p₁ d w) o = act_table_page st₁ p₁ d w
  act_keeps left {r} {p} (has_ended w) o = clash o (ap (λ (x : Running). is_open_now x.cursor left) w.r_is ∙ ended_shut w.answer left)

  -- as many actions as the page programs allow
  pub run_keeps : (n left : ℕ) (r : Running) (p : Progress) → At r p → AtRan (ran s u.bytes n left r p)
  unfolding ran
  run_keeps zero left r p a = a
  run_keeps (suc n) left r p a =
      cases (is_open_now r.cursor left)
      (λ t. rw t (run_keeps n (left - programs r.cursor) (acted s u.bytes r p).running (acted s u.bytes r p).progress (act_keeps left a t)))
      (λ t. rw t a)

  -- a request whose cursor says that it has ended has come to an end as a plain one does
  pub at_ended : {r : Running} {p : Progress} → At r p → 2 ≤ r.cursor.phase → Changed s c book marked₀ failed₀ (tabled p r.cursor.answer r.state)
  at_ended (before_data w) h = absurd (omega (arith, h, ap (λ (x : Running). x.cursor.phase) w.r_is))
  at_ended (erase_data w) h = absurd (omega (arith, h, ap (λ (x : Running). x.cursor.phase) w.r_is))
  at_ended (in_data w) h = absurd (omega (arith, h, ap (λ (x : Running). x.cursor.phase) w.r_is))
  at_ended (before_table st₁ p₁ d w) h = absurd (omega (arith, h, ap (λ (x : Running). x.cursor.phase) w.r_is))
  at_ended (erase_table st₁ p₁ d w) h = absurd (omega (arith, h, ap (λ (x : Running). x.cursor.phase) w.r_is))
  at_ended (in_table_fact st₁ p₁ d w) h = absurd (omega (arith, h, ap (λ (x : Running). x.cursor.phase) w.r_is))
  at_ended {r} {p} (has_ended w) h =
      subst (λ (x : Running). Changed s c book marked₀ failed₀ (tabled p x.cursor.answer x.state)) (sym w.r_is) w.changed

  -- and its answer is not 13, which comes with the status read of a plain one alone
  pub at_unprotected : {r : Running} {p : Progress} → At r p → 2 ≤ r.cursor.phase → r.cursor.answer ≡ 13 → ⊥
  at_unprotected (before_data w) h z = omega (arith, h, ap (λ (x : Running). x.cursor.phase) w.r_is)
  at_unprotected (erase_data w) h z = omega (arith, h, ap (λ (x : Running). x.cursor.phase) w.r_is)
  at_unprotected (in_data w) h z = omega (arith, h, ap (λ (x : Running). x.cursor.phase) w.r_is)
  at_unprotected (before_table st₁ p₁ d w) h z = omega (arith, h, ap (λ (x : Running). x.cursor.phase) w.r_is)
  at_unprotected (erase_table st₁ p₁ d w) h z = omega (arith, h, ap (λ (x : Running). x.cursor.phase) w.r_is)
  at_unprotected (in_table_fact st₁ p₁ d w) h z = omega (arith, h, ap (λ (x : Running). x.cursor.phase) w.r_is)
  at_unprotected (has_ended w) h z = w.unprotected (sym (ap (λ (x : Running). x.cursor.answer) w.r_is) ∙ z)
