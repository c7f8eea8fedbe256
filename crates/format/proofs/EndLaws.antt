-- The ends of a formatting after its first round. Assumes nothing.
use Prim.Native.Nat.{ℕ, zero, suc, ◌+◌, ◌≤◌, ◌<◌}
use mathlib.Core.Bool.{true, false}
use mathlib.Core.List.{List, [], ◌∷◌}
use mathlib.Core.Logic.{⊎_elim}
use mathlib.Core.Path.{◌≡◌, refl, sym, ap, subst, ◌∙◌}
use native.Mathlib.Omega.{arith}
use borrow.Table.Steps.{cases}
use denote.Enum.Declared.{tag_of}
use types.Run.{OneOf}
use borrow.Author.Tests.{eq-eqb, ne_eqb, lt-ltb, le-ltb}
use lib.Dec.{eqb}
use lib.ListN.{length, replicate}
use Rattle.geometry.specs.declared.Geometry.{Geometry}
use Rattle.geometry.specs.Limits.{Valid}
use Rattle.geometry.specs.Sizes.{row_of}
use Rattle.chip_array.specs.Device.{Setting}
use Rattle.chip.specs.Chip.{Cycle}
use Rattle.bus.specs.Line.{Line, send_all}
use Rattle.bus.proofs.LineLaws.{sent_counts}
use Rattle.bus_polling.specs.Outcomes.{is_passed, is_failed}
use Rattle.bus_polling.specs.Polling.{answer_of}
use Rattle.bus_polling.specs.declared.Outcome.{Outcome}
use Rattle.bus_polling.specs.contracts.Outcome.{the_type}
use Rattle.bus_polling.specs.declared.Outcome.TheVariants.{Passed, Failed, Silent, Cut, Illegal, Protected}
use Rattle.bus_polling.proofs.OutcomeLaws.{is_passed_lem}
use Rattle.bus_sequences.specs.Cycles.{erase_cycles}
use Rattle.operations.specs.Ends.{Called}
use Rattle.operations.specs.Trace.{ArrayOperation}
use Rattle.operations.proofs.UnreadyLaws.{called_lent}
use Rattle.state_choose.specs.Choose.{count_permitted}
use Rattle.state.specs.State.{blank, none, numbers_left, with_invalid, held_bits}
use Rattle.state.specs.declared.State.{State}
use Rattle.request.specs.Call.{Result, end_at, stop_answer}
use Rattle.request.proofs.CallLaws.{answer_passed}
use Rattle.progress.specs.Progress.{Progress, progress}
use Rattle.progress.specs.Steps.{ComesTo, erase_on, resumed}
use Rattle.progress.proofs.ComesLaws.{erase_comes}
use Rattle.progress.proofs.CountLaws.{allowance_kept}
use Rattle.fill_tables.specs.Tables.{Tried, Tabled, try_table, tables_filled, end_of_run}
use Rattle.fill_tables.proofs.KeepLaws.{tables_keep}
use Rattle.fill_cursor.specs.Cursor.{running, ended, first_cursor}
use Rattle.fill_cursor.specs.declared.Cursor.{Cursor}
use Rattle.fill_cursor.specs.declared.Running.{Running}
use Rattle.fill_driver.specs.Driver.{Ran, RanAs, ran_to, run_for}
use Rattle.fill_laws.proofs.TableLaws.{tables_ran}
use Rattle.format.specs.Fills.{TablesDone}
use Rattle.format.specs.Format.{first_state, too_few, tables_from, after_late, late_run, tables_run}

-- the search starts on the chip
pub last_small : (g : Geometry) (marked invalid : List ℕ) (greatest old : ℕ) → Valid g → (first_state g marked invalid greatest old).last < g.blocks
unfolding first_state
last_small g marked invalid greatest old v = omega (arith, v.blocks_least)

-- table fills that are answered 0 ended with one that passed
pub tables_passed : (s : Setting) (held : List ℕ) (k : ℕ) (st : State) (p : Progress) → (tables_filled s held k st p).answer ≡ 0 → is_passed (tables_filled s held k st p).progress.outcome ≡ true
unfolding tables_filled
tables_passed s held zero st p z = absurd (omega (arith, z))
tables_passed s held (suc k) st p z =
    let t : Tried = try_table s held st p in
    cases (eqb t.worn 0)
    (λ w.
    cases (is_failed t.progress.outcome)
    (λ f. rw (w, f) (tables_passed s held k t.state (resumed t.progress) (rw (w, f) at z)))
    (λ f. rw (w, f) (answer_passed t.progress.outcome (rw (w, f) at z))))
    (λ w. absurd (omega (arith, rw w at z)))

-- the table fills as the loop ran them, from a state as it is built
module _ (s : Setting) (v : Valid s.geometry) (st : State) (cursor : Cursor) (start : cursor ≡ first_cursor 1 0 0 0 none) (l m : Line) (r : Running) (most : ℕ)
    (run : RanAs s [] most (running cursor st) l m r) (size : length st.invalid ≡ 512) (last : st.last < s.geometry.blocks) (enough : 524288 < most) where
  abbrev to : List Cycle → List ArrayOperation → Tabled
  to cs os = tables_from s st (progress l Passed cs os)

  from : RanAs s [] most (running (first_cursor 1 0 0 0 none) st) l m r
  from = subst (λ (x : Cursor). RanAs s [] most (running x st) l m r) start run

  whole : (cs : List Cycle) (os : List ArrayOperation) → run_for s [] most (running (first_cursor 1 0 0 0 none) st) (progress l Passed cs os) ≡ ran_to (to cs os).progress (running (ended (to cs os).answer) (to cs os).state)
  whole cs os = tables_ran s v [] (first_cursor 1 0 0 0 none) refl refl st (progress l Passed cs os) most size last (omega (arith, v.blocks_most, enough))

  running_is : (cs : List Cycle) (os : List ArrayOperation) → r ≡ running (ended (to cs os).answer) (to cs os).state
  running_is cs os = from.running_is cs os ∙ ap (λ (x : Ran). x.running) (whole cs os)

  ended_so : r.cursor.phase ≡ 2
  ended_so = ap (λ (x : Running). x.cursor.phase) (running_is [] [])

  pub tables_done : TablesDone s st l m r.cursor.answer r.state
  tables_done =
      record {
        line_is = λ cs os. from.line_is cs os ∙ ap (λ (x : Ran). x.progress.line) (whole cs os);
        answer_is = λ cs os. ap (λ (x : Running). x.cursor.answer) (running_is cs os);
        state_is = λ cs os. ap (λ (x : Running). x.state) (running_is cs os);
        next_called = λ z. from.next_called (omega arith) (λ h. omega (arith, h, ended_so)) z;
      }

-- a request that ends with them
module _ (s : Setting) (n : ℕ) (st : State) (l m : Line) (answer : ℕ) (next : State) (d : TablesDone s st l m answer next) where
  pub tables_left : m.left ≤ l.left
  tables_left =
      omega (arith, tables_keep s _ (allowance_kept s _) (held_bits st s.geometry.logical) (numbers_left st) st (progress l Passed [] []) refl, ap (λ (x : Line). x.left) (d.line_is [] []))

  pub tables_end : (cs : List Cycle) (os : List ArrayOperation) → end_at n answer next m ≡ end_of_run n (tables_from s st (progress l Passed cs os))
  tables_end cs os = λ i. end_at n (d.answer_is cs os i) (d.state_is cs os i) (d.line_is cs os i)

  -- where they came to once one passed
  pub tables_at : answer ≡ 0 → (cs : List Cycle) (os : List ArrayOperation)
      → let t = tables_from s st (progress l Passed cs os) in progress m Passed t.progress.cycles t.progress.started ≡ t.progress
  tables_at z cs os =
      let t = tables_from s st (progress l Passed cs os) in
      let passed = is_passed_lem t.progress.outcome (tables_passed s (held_bits st s.geometry.logical) (numbers_left st) st (progress l Passed cs os) (sym (d.answer_is cs os) ∙ z)) in
      λ i. record { line = d.line_is cs os i; outcome = sym passed i; cycles = t.progress.cycles; started = t.progress.started }

-- neither passed nor failed
pub stops_by_tag : (o : Outcome) → OneOf (2 ∷ 3 ∷ 4 ∷ 5 ∷ []) (tag_of the_type o) → (is_passed o ≡ false) × (is_failed o ≡ false)
unfolding is_passed is_failed
stops_by_tag Passed h = absurd (⊎_elim (λ e. omega (arith, e)) (⊎_elim (λ e. omega (arith, e)) (⊎_elim (λ e. omega (arith, e)) (λ e. omega (arith, e)))) h)
stops_by_tag Failed h = absurd (⊎_elim (λ e. omega (arith, e)) (⊎_elim (λ e. omega (arith, e)) (⊎_elim (λ e. omega (arith, e)) (λ e. omega (arith, e)))) h)
stops_by_tag Silent h = (refl, refl)
stops_by_tag Cut h = (refl, refl)
stops_by_tag Illegal h = (refl, refl)
stops_by_tag Protected h = (refl, refl)

pub stops_by_not : (o : Outcome) → (o ≡ Passed → ⊥) → (o ≡ Failed → ⊥) → (is_passed o ≡ false) × (is_failed o ≡ false)
unfolding is_passed is_failed
stops_by_not Passed h k = absurd (h refl)
stops_by_not Failed h k = absurd (k refl)
stops_by_not Silent h k = (refl, refl)
stops_by_not Cut h k = (refl, refl)
stops_by_not Illegal h k = (refl, refl)
stops_by_not Protected h k = (refl, refl)

-- the erase of the old table's block
module _ (s : Setting) (l : Line) (old : ℕ) (called : Called s l) (below : old < s.geometry.blocks) (row : ℕ) (is : row ≡ row_of s.geometry old 0) (m : Line) (o : Outcome)
    (e : m ≡ send_all s l (erase_cycles s l row)) (q : o ≡ answer_of m) where
  pub late_comes : ComesTo s (erase_on s old) l m o
  late_comes = erase_comes s l old (called_lent called) below m o (e ∙ ap (λ (x : ℕ). send_all s l (erase_cycles s l x)) is) q

  pub late_left : m.left ≤ l.left
  late_left = omega (arith, sent_counts s l (erase_cycles s l row), ap (λ (x : Line). x.left) e)

-- it came to line m with outcome o
module _ (s : Setting) (n old : ℕ) (st : State) (l m : Line) (o : Outcome) (c : ComesTo s (erase_on s old) l m o) where
  abbrev to-erase : List Cycle → List ArrayOperation → Progress
  to-erase cs os = erase_on s old (progress l Passed cs os)

  pub late_passed : is_passed o ≡ true → (cs : List Cycle) (os : List ArrayOperation) → end_at n 0 st m ≡ end_of_run n (after_late s old st (to-erase cs os))
  unfolding after_late
  late_passed t cs os =
      let passed : is_passed (to-erase cs os).outcome ≡ true = sym (ap is_passed (c.outcome_is cs os)) ∙ t in
      ap (end_at n 0 st) (c.line_is cs os) ∙ rw passed

  pub late_failed : is_failed o ≡ true → is_passed o ≡ false → (listed : State) → listed ≡ with_invalid old st → (r : Result)
      → ((cs : List Cycle) (os : List ArrayOperation) → r ≡ end_of_run n (tables_from s listed (progress m Passed cs os))) → (cs : List Cycle) (os : List ArrayOperation) → r ≡ end_of_run n (after_late s old st (to-erase cs os))
  unfolding after_late
  late_failed w f listed e r h cs os =
      let q = to-erase cs os in
      let failed : is_failed q.outcome ≡ true = sym (ap is_failed (c.outcome_is cs os)) ∙ w in
      let unpassed : is_passed q.outcome ≡ false = sym (ap is_passed (c.outcome_is cs os)) ∙ f in
      h q.cycles q.started
      ∙ (λ i. end_of_run n (tables_from s (e i) (progress (c.line_is cs os i) Passed q.cycles q.started)))
      ∙ rw (unpassed, failed)

  pub late_stopped : is_passed o ≡ false → is_failed o ≡ false → (a : ℕ) (x : State) → a ≡ stop_answer o → x ≡ blank 2 → (cs : List Cycle) (os : List ArrayOperation) → end_at n a x m ≡ end_of_run n (after_late s old st (to-erase cs os))
  unfolding after_late
  late_stopped f w a x h k cs os =
      let q = to-erase cs os in
      let unfailed : is_failed q.outcome ≡ false = sym (ap is_failed (c.outcome_is cs os)) ∙ w in
      let unpassed : is_passed q.outcome ≡ false = sym (ap is_passed (c.outcome_is cs os)) ∙ f in
      (λ i. end_at n ((h ∙ ap stop_answer (c.outcome_is cs os)) i) (k i) (c.line_is cs os i)) ∙ rw (unpassed, unfailed)

-- whether it is erased
module _ (s : Setting) (old : ℕ) (t : Tabled) where
  pub late_unpassed : (t.answer ≡ 0 → ⊥) → t ≡ late_run s old t
  unfolding late_run
  late_unpassed z = rw (ne_eqb t.answer 0 z)

  pub late_alone : s.geometry.blocks ≤ old → t ≡ late_run s old t
  unfolding late_run
  late_alone h = cases (eqb t.answer 0) (λ e. rw (e, le-ltb old s.geometry.blocks h)) (λ e. rw e)

  pub late_erased : t.answer ≡ 0 → old < s.geometry.blocks → after_late s old t.state (erase_on s old t.progress) ≡ late_run s old t
  unfolding late_run
  late_erased z h = rw (eq-eqb t.answer 0 z, lt-ltb old s.geometry.blocks h)

-- the count of blocks and what follows it
module _ (s : Setting) (n : ℕ) (marked invalid : List ℕ) (greatest old : ℕ) (count : ℕ) (c : count ≡ count_permitted marked invalid (replicate 512 0) s.geometry.blocks) where
  pub few_end : count < s.geometry.logical + 2 → (l : Line) (st : State) → st ≡ blank 2 → (cs : List Cycle) (os : List ArrayOperation) → end_at n 8 st l ≡ end_of_run n (tables_run s marked invalid greatest old (progress l Passed cs os))
  unfolding tables_run too_few
  few_end h l st e cs os =
      rw (← c, lt-ltb count (s.geometry.logical + 2) h) (ap (λ (x : State). end_at n 8 x l) e)

  module _ (enough : s.geometry.logical + 2 ≤ count) (first : State) (e : first ≡ first_state s.geometry marked invalid greatest old) (l m : Line) (answer : ℕ) (next : State) (d : TablesDone s first l m answer next) where
    abbrev from_first : List Cycle → List ArrayOperation → Tabled
    from_first cs os = tables_from s first (progress l Passed cs os)

    run_is : (cs : List Cycle) (os : List ArrayOperation) → late_run s old (from_first cs os) ≡ tables_run s marked invalid greatest old (progress l Passed cs os)
    unfolding tables_run too_few
    run_is cs os =
        rw (← c, le-ltb count (s.geometry.logical + 2) enough) (ap (λ (x : State). late_run s old (tables_from s x (progress l Passed cs os))) e)

    -- no fill passed, or there is no old table
    pub unpassed_end : (answer ≡ 0 → ⊥) → (cs : List Cycle) (os : List ArrayOperation) → end_at n answer next m ≡ end_of_run n (tables_run s marked invalid greatest old (progress l Passed cs os))
    unpassed_end z cs os =
        tables_end s n first l m answer next d cs os ∙ ap (end_of_run n) (late_unpassed s old (from_first cs os) (λ x. z (d.answer_is cs os ∙ x)) ∙ run_is cs os)

    pub alone_end : answer ≡ 0 → s.geometry.blocks ≤ old → (cs : List Cycle) (os : List ArrayOperation) → end_at n answer next m ≡ end_of_run n (tables_run s marked invalid greatest old (progress l Passed cs os))
    alone_end z h cs os =
        tables_end s n first l m answer next d cs os ∙ ap (end_of_run n) (late_alone s old (from_first cs os) h ∙ run_is cs os)

    -- its block is erased
    pub late_end : answer ≡ 0 → old < s.geometry.blocks → (r : Result) → ((cs : List Cycle) (os : List ArrayOperation) → r ≡ end_of_run n (after_late s old next (erase_on s old (progress m Passed cs os))))
        → (cs : List Cycle) (os : List ArrayOperation) → r ≡ end_of_run n (tables_run s marked invalid greatest old (progress l Passed cs os))
    late_end z h r f cs os =
        let t = from_first cs os in
        let same = tables_at s n first l m answer next d z cs os in
        f t.progress.cycles t.progress.started
        ∙ (λ i. end_of_run n (after_late s old (d.state_is cs os i) (erase_on s old (same i))))
        ∙ ap (end_of_run n) (late_erased s old t (sym (d.answer_is cs os) ∙ z) h ∙ run_is cs os)
