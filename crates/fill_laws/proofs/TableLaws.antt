-- The table phase run to its end: table fills until one passes. Assumes nothing.
use Prim.Native.Nat.{ℕ, zero, suc, ◌+◌, ◌-◌, ◌*◌, ◌<◌, ◌≤◌}
use mathlib.Core.Bool.{cond}
use mathlib.Core.List.{List}
use mathlib.Core.Path.{◌≡◌, refl, sym, subst, ◌∙◌}
use native.Mathlib.Omega.{arith}
use borrow.Table.Steps.{cases}
use borrow.Author.Tests.{lt-leb, le-leb, lt-ltb}
use lib.Dec.{eqb}
use lib.ListN.{length, length-set}
use Rattle.std.specs.Prelude.{Option, Some, None}
use Rattle.bitmaps.specs.Bitmap.{with_bit}
use Rattle.geometry.specs.declared.Geometry.{Geometry}
use Rattle.geometry.specs.Limits.{Valid}
use Rattle.chip_array.specs.Device.{Setting}
use Rattle.bus_polling.specs.Outcomes.{is_passed, is_failed, is_silent, is_cut_off}
use Rattle.bus_polling.specs.declared.Outcome.{Outcome}
use Rattle.bus_polling.specs.declared.Outcome.TheVariants.{Passed, Failed, Silent, Cut, Illegal, Protected}
use Rattle.state_choose.specs.Choose.{chosen, permitted, count_permitted}
use Rattle.state_choose.proofs.ChooseLaws.{by_choice, count_less}
use Rattle.write_changes.proofs.LoopLaws.{chosen_permitted}
use Rattle.state.specs.State.{blank, next_number, number_end, numbers_left, taken, with_invalid, held_bits}
use Rattle.state.specs.declared.State.{State}
use Rattle.request.specs.Call.{stop_answer}
use Rattle.progress.specs.Progress.{Progress, progress}
use Rattle.progress.specs.Steps.{resumed}
use Rattle.fill.specs.Fill.{table_filled}
use Rattle.fill_tables.specs.Tables.{Tried, Tabled, tabled, try_block, try_table, after_fill, ended_by, tables_filled}
use Rattle.fill_cursor.specs.Cursor.{running, ended, filling, replaced, stopped, choice_of, on_block, prepared, filled_whole, unfilled, withdrawn, settled, actions_most}
use Rattle.fill_cursor.specs.declared.Cursor.{Cursor}
use Rattle.fill_cursor.specs.declared.Running.{Running}
use Rattle.fill_driver.specs.Driver.{copy_of, source_of, gone, ran_to, run_for}
use Rattle.fill_laws.proofs.ReachLaws.{Reaches, reach_still, reach_on, reach_less, reach_prepared, reach_end}
use Rattle.fill_laws.proofs.BlockLaws as block

-- a progress by its outcome
pub as_gone : (q : Progress) (o : Outcome) → q.outcome ≡ o → gone o ≡ o → progress q.line (gone o) q.cycles q.started ≡ q
as_gone q o e h = λ i. progress q.line ((h ∙ sym e) i) q.cycles q.started

-- a fill is prepared while a number is left
pub prepared_open : (g : Geometry) (c : Cursor) (st : State) → next_number st < number_end → prepared g c st ≡ on_block c st (choice_of g st)
unfolding prepared
prepared_open g c st h = rw (lt-leb number_end (next_number st) h)

pub prepared-none : (g : Geometry) (c : Cursor) (st : State) → number_end ≤ next_number st → prepared g c st ≡ stopped 9
unfolding prepared
prepared-none g c st h = rw (le-leb number_end (next_number st) h)

-- a bit more keeps the length; no more blocks may be filled than there are
pub length_with : (bits : List ℕ) (b : ℕ) → length (with_bit bits b) ≡ length bits
unfolding with_bit
length_with bits b = length-set bits _ _

pub count_most : (marked invalid held : List ℕ) (n : ℕ) → count_permitted marked invalid held n ≤ n
unfolding count_permitted
count_most marked invalid held zero = omega arith
count_most marked invalid held (suc n) =
    let less = count_most marked invalid held n in
    cases (permitted marked invalid held n) (λ t. rw t (omega (arith, less))) (λ t. rw t (omega (arith, less)))

-- a request that has ended so
abbrev pub end_of : Tabled → Running
end_of d = running (ended d.answer) d.state

module _ (s : Setting) (v : Valid s.geometry) (bytes : List ℕ) where
  abbrev g : Geometry
  g = s.geometry

  abbrev Ends : ℕ → Running → Progress → Tabled → Type 0
  Ends k r p d = Reaches s bytes (66 * k + 1) (64 * k) r p (end_of d) d.progress

  -- what follows a try, by how it ended
  abbrev after : (State → Progress → Tabled) → Tried → Tabled
  after more t =
      cond (eqb t.worn 0) (cond (is_failed t.progress.outcome) (more t.state (resumed t.progress)) (ended_by t.progress t.state))
      (tabled t.progress 8 (blank 2))

  abbrev after_block : (State → Progress → Tabled) → ℕ → State → Progress → Outcome → Tabled
  after_block more b st q o =
      cond (is_failed o) (more (after_fill b o st) (resumed q)) (tabled q (cond (is_passed o) 0 (stop_answer o)) (cond (is_passed o) (after_fill b o st) (blank 2)))

  module _ (c : Cursor) (table : c.phase ≡ 1) (k : ℕ) (st : State) (more : State → Progress → Tabled) (b : ℕ)
      (on : (p : Progress) → Ends k (running (replaced c) (with_invalid b (taken st))) p (more (with_invalid b (taken st)) p)) where
    try_ends : (q : Progress) (o : Outcome) → q.outcome ≡ o
        → Ends k (block.after_fill (filling b (next_number st) c) (taken st) o) (progress q.line (gone o) q.cycles q.started) (after_block more b (taken st) q o)
    unfolding block.after_fill filled_whole unfilled withdrawn settled after_fill gone is_passed is_failed is_silent is_cut_off stop_answer
    try_ends q Passed e = rw (table, as_gone q Passed e refl) (reach_less s bytes (omega arith) (omega arith) (reach_still s bytes _ q))
    try_ends q Failed e = on (resumed q)
    try_ends q Silent e = rw (as_gone q Silent e refl) (reach_less s bytes (omega arith) (omega arith) (reach_still s bytes (stopped 10) q))
    try_ends q Cut e = rw (as_gone q Cut e refl) (reach_less s bytes (omega arith) (omega arith) (reach_still s bytes (stopped 11) q))
    try_ends q Illegal e = rw (as_gone q Illegal e refl) (reach_less s bytes (omega arith) (omega arith) (reach_still s bytes (stopped 255) q))
    try_ends q Protected e = rw (as_gone q Protected e refl) (reach_less s bytes (omega arith) (omega arith) (reach_still s bytes (stopped 255) q))

    try_block_fact : (p : Progress) → Reaches s bytes (66 * suc k) (64 * suc k) (on_block c st (Some b)) p (end_of (after more (try_block s st p (Some b)))) (after more (try_block s st p (Some b))).progress
    unfolding on_block try_block copy_of source_of
    try_block_fact p =
        let q = table_filled s b (next_number st) st.invalid p in
        reach_less s bytes (omega arith) (omega arith)
        (reach_on s bytes (block.fill_reach s v bytes (filling b (next_number st) c) (taken st) (omega (arith, table)) refl p q (rw table)) (try_ends q q.outcome refl))

  try_worn : (c : Cursor) (k : ℕ) (st : State) (more : State → Progress → Tabled) (p : Progress) → Reaches s bytes (66 * k) (64 * k) (on_block c st None) p (end_of (after more (try_block s st p None))) (after more (try_block s st p None)).progress
  unfolding on_block try_block
  try_worn c k st more p = reach_less s bytes (omega arith) (omega arith) (reach_still s bytes (stopped 8) p)

  module _ (held : List ℕ) where
    tables_none : (c : Cursor) → c.phase ≡ 1 → c.step ≡ 0 → (st : State) (p : Progress) → 0 ≡ numbers_left st → Ends 0 (running c st) p (tables_filled s held 0 st p)
    unfolding tables_filled
    tables_none c table first st p e =
        subst (λ (r : Running). Reaches s bytes (66 * 0 + 1) (64 * 0) (running c st) p r p) (prepared-none g c st (omega (arith, e)))
        (reach_less s bytes (omega arith) (omega arith) (reach_prepared s bytes (running c st) p (omega (arith, table)) first))

    -- a state as its type has it, whose blocks that may be filled are j at most
    tables_more : (c : Cursor) → c.phase ≡ 1 → c.step ≡ 0 → (k : ℕ) (st : State) (p : Progress) → suc k ≡ numbers_left st → held_bits st g.logical ≡ held
        → length st.invalid ≡ 512 → st.last < g.blocks → (j : ℕ) → count_permitted st.marked st.invalid held g.blocks ≤ j
        → ((b i : ℕ) (p' : Progress) → b < g.blocks → count_permitted st.marked (with_bit st.invalid b) held g.blocks ≤ i → Ends i (running (replaced c) (with_invalid b (taken st))) p' (tables_filled s held k (with_invalid b (taken st)) p'))
        → Ends j (running c st) p (tables_filled s held (suc k) st p)
    unfolding tables_filled try_table
    tables_more c table first k st p e h size last j few on =
        let own = held_bits st g.logical in
        let more = tables_filled s held k in
        let To : ℕ → Option ℕ → Type 0 = λ i x. Reaches s bytes (66 * i) (64 * i) (on_block c st x) p (end_of (after more (try_block s st p x))) (after more (try_block s st p x)).progress in
        let here : To j (choice_of g st) =
        by_choice (choice_of g st)
        (λ w. subst (To j) (sym w) (try_worn c j st more p))
        (λ b w.
        let f = chosen_permitted st.marked st.invalid own g.blocks st.last last b w in
        let less = count_less st.marked st.invalid own b (omega (arith, size, f.0, v.blocks_most)) f.1 g.blocks f.0 in
        let most : count_permitted st.marked st.invalid own g.blocks ≤ j = subst (λ (x : List ℕ). count_permitted st.marked st.invalid x g.blocks ≤ j) (sym h) few in
        let next : count_permitted st.marked (with_bit st.invalid b) held g.blocks ≤ j - 1 = subst (λ (x : List ℕ). count_permitted st.marked (with_bit st.invalid b) x g.blocks ≤ j - 1) h (omega (arith, less, most)) in
        let one : suc (j - 1) ≡ j = omega (arith, less, most) in
        subst (To j) (sym w) (subst (λ (n : ℕ). To n (Some b)) one (try_block_fact c table (j - 1) st more b (λ p'. on b (j - 1) p' f.0 next) p))) in
        let tried = subst (λ (x : List ℕ). Reaches s bytes (66 * j) (64 * j) (on_block c st (choice_of g st)) p (end_of (after more (try_block s st p (chosen st.marked st.invalid x g.blocks st.last)))) (after more (try_block s st p (chosen st.marked st.invalid x g.blocks st.last))).progress) h here in
        let from = subst (λ (r : Running). Reaches s bytes 1 0 (running c st) p r p) (prepared_open g c st (omega (arith, e))) (reach_prepared s bytes (running c st) p (omega (arith, table)) first) in
        reach_less s bytes (omega arith) (omega arith) (reach_on s bytes from tried)

    pub tables_reach : (k : ℕ) (c : Cursor) → c.phase ≡ 1 → c.step ≡ 0 → (st : State) (p : Progress) → k ≡ numbers_left st → held_bits st g.logical ≡ held
        → length st.invalid ≡ 512 → st.last < g.blocks → (j : ℕ) → count_permitted st.marked st.invalid held g.blocks ≤ j → Ends j (running c st) p (tables_filled s held k st p)
    tables_reach zero c table first st p e h size last j few = reach_less s bytes (omega arith) (omega arith) (tables_none c table first st p e)
    tables_reach (suc k) c table first st p e h size last j few =
        tables_more c table first k st p e h size last j few
        (λ b i p' below n. tables_reach k (replaced c) table refl (with_invalid b (taken st)) p' (omega (arith, e)) h (length_with st.invalid b ∙ size) last i n)

  -- a table phase with page programs enough: 64 for each block that may be filled
  pub tables_ran : (c : Cursor) → c.phase ≡ 1 → c.step ≡ 0 → (st : State) (p : Progress) (left : ℕ) → length st.invalid ≡ 512 → st.last < g.blocks → 64 * g.blocks < left
      → let t = tables_filled s (held_bits st g.logical) (numbers_left st) st p in run_for s bytes left (running c st) p ≡ ran_to t.progress (end_of t)
  unfolding actions_most
  tables_ran c table first st p left size last h =
      let most : 66 * g.blocks + 1 ≤ actions_most left (running c st) = rw (lt-ltb c.phase 2 (omega (arith, table))) (omega (arith, h)) in
      reach_end s bytes (tables_reach (held_bits st g.logical) (numbers_left st) c table first st p refl refl size last g.blocks (count_most st.marked st.invalid (held_bits st g.logical) g.blocks)) (omega arith) (actions_most left (running c st)) left most (omega (arith, h))
