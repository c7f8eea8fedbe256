-- A write or erase run to its end is the one by whole fills. Assumes nothing.
use Prim.Native.Nat.{ℕ, zero, suc, ◌+◌, ◌-◌, ◌*◌, ◌<◌, ◌≤◌}
use mathlib.Core.Bool.{Bool, true, false, cond}
use mathlib.Core.List.{List}
use mathlib.Core.Path.{◌≡◌, refl, sym, subst, ◌∙◌}
use native.Mathlib.Omega.{arith}
use borrow.Table.Steps.{cases}
use borrow.Author.Tests.{eqb-true}
use lib.Dec.{eqb}
use lib.ListN.{length}
use Rattle.std.specs.Prelude.{Option, Some, None}
use Rattle.bitmaps.specs.Bitmap.{with_bit}
use Rattle.geometry.specs.declared.Geometry.{Geometry}
use Rattle.geometry.specs.Limits.{Valid}
use Rattle.chip_array.specs.Device.{Setting}
use Rattle.bus_polling.specs.Outcomes.{is_passed, is_failed, is_silent, is_cut_off}
use Rattle.bus_polling.specs.declared.Outcome.{Outcome}
use Rattle.bus_polling.specs.declared.Outcome.TheVariants.{Passed, Failed, Silent, Cut, Illegal, Protected}
use Rattle.state_choose.specs.Choose.{chosen, count_permitted}
use Rattle.state_choose.proofs.ChooseLaws.{by_choice, count_less}
use Rattle.write_changes.proofs.LoopLaws.{chosen_permitted, copies_end}
use Rattle.request.proofs.CallLaws.{stop_least}
use Rattle.state.specs.State.{next_number, numbers_left, taken, with_invalid, held_bits}
use Rattle.state.specs.declared.State.{State}
use Rattle.request.specs.Call.{stop_answer}
use Rattle.progress.specs.Progress.{Progress, progress}
use Rattle.progress.specs.Steps.{resumed}
use Rattle.write_changes.specs.Changes.{Update, Copied, copied, copy_filled, after_try, copy_tried, copies_filled, then_table, change_run}
use Rattle.fill_cursor.specs.Cursor.{running, moved, ended, first_cursor, filling, in_table, stopped, choice_of, on_block, filled_whole, unfilled, withdrawn, settled, weight, actions_most}
use Rattle.fill_cursor.specs.declared.Cursor.{Cursor}
use Rattle.fill_cursor.specs.declared.Running.{Running}
use Rattle.fill_driver.specs.Driver.{copy_of, source_of, gone, ran_to, run_for}
use Rattle.fill_laws.proofs.ReachLaws.{Reaches, reach_still, reach_on, reach_less, reach_prepared, reach_end}
use Rattle.fill_laws.proofs.BlockLaws as block
use Rattle.fill_laws.proofs.TableLaws.{as_gone, prepared_open, prepared-none, end_of, tables_reach, length_with, count_most}

-- the cursor of an update, before and after a block failed
abbrev pub update_cursor : Update → Cursor
update_cursor u = first_cursor 0 u.logical u.first u.count u.old

abbrev failing : Update → Bool → Cursor
failing u f = moved 0 0 0 0 0 (cond f 1 0) (update_cursor u)

-- what follows data fills that ended so
abbrev after_copies : Update → Copied → Running
after_copies u d =
    cond (eqb d.answer 0) (cond d.failed (running (in_table (failing u true)) d.state) (running (ended 0) d.state))
    (running (ended d.answer) d.state)

stop_some : (o : Outcome) → stop_answer o ≡ 0 → ⊥
stop_some o z = omega (arith, stop_least o, z)

module _ (s : Setting) (v : Valid s.geometry) (u : Update) where
  abbrev g : Geometry
  g = s.geometry

  abbrev Copies : ℕ → Running → Progress → Copied → Type 0
  Copies k r p d = Reaches s u.bytes (66 * k + 1) (64 * k) r p (after_copies u d) d.progress

  module _ (k : ℕ) (st : State) (more : State → Progress → Copied) (b : ℕ)
      (on : (p : Progress) → Copies k (running (failing u true) (with_invalid b (taken st))) p (more (with_invalid b (taken st)) p)) where
    abbrev try_of : Bool → Progress → Outcome → Copied
    try_of f q o =
        cond (is_passed o) (copied q 0 (settled (filling b (next_number st) (failing u f)) (taken st) Passed) f)
        (cond (is_failed o) (more (with_invalid b (taken st)) (resumed q)) (copied q (stop_answer o) (stopped 0).state false))

    try_ends : (f : Bool) (q : Progress) (o : Outcome) → q.outcome ≡ o
        → Copies k (block.after_fill (filling b (next_number st) (failing u f)) (taken st) o) (progress q.line (gone o) q.cycles q.started) (try_of f q o)
    unfolding block.after_fill filled_whole unfilled withdrawn settled gone is_passed is_failed is_silent is_cut_off stop_answer
    try_ends true q Passed e = rw (as_gone q Passed e refl) (reach_less s u.bytes (omega arith) (omega arith) (reach_still s u.bytes _ q))
    try_ends false q Passed e = rw (as_gone q Passed e refl) (reach_less s u.bytes (omega arith) (omega arith) (reach_still s u.bytes _ q))
    try_ends f q Failed e = on (resumed q)
    try_ends f q Silent e = rw (as_gone q Silent e refl) (reach_less s u.bytes (omega arith) (omega arith) (reach_still s u.bytes (stopped 10) q))
    try_ends f q Cut e = rw (as_gone q Cut e refl) (reach_less s u.bytes (omega arith) (omega arith) (reach_still s u.bytes (stopped 11) q))
    try_ends f q Illegal e = rw (as_gone q Illegal e refl) (reach_less s u.bytes (omega arith) (omega arith) (reach_still s u.bytes (stopped 255) q))
    try_ends f q Protected e = rw (as_gone q Protected e refl) (reach_less s u.bytes (omega arith) (omega arith) (reach_still s u.bytes (stopped 255) q))

    try_block_fact : (f : Bool) (p : Progress) → Reaches s u.bytes (66 * suc k) (64 * suc k) (on_block (failing u f) st (Some b)) p (after_copies u (copy_tried s u st f p more (Some b))) (copy_tried s u st f p more (Some b)).progress
    unfolding on_block copy_tried after_try copy_of source_of settled is_passed
    try_block_fact f p =
        let q = copy_filled s u st b p in
        reach_less s u.bytes (omega arith) (omega arith)
        (reach_on s u.bytes (block.fill_reach s v u.bytes (filling b (next_number st) (failing u f)) (taken st) (omega arith) refl p q refl) (try_ends f q q.outcome refl))

  try_worn : (k : ℕ) (st : State) (more : State → Progress → Copied) (f : Bool) (p : Progress) → Reaches s u.bytes (66 * k) (64 * k) (on_block (failing u f) st None) p (after_copies u (copy_tried s u st f p more None)) (copy_tried s u st f p more None).progress
  unfolding on_block copy_tried
  try_worn k st more f p = reach_less s u.bytes (omega arith) (omega arith) (reach_still s u.bytes (stopped 8) p)

  module _ (held : List ℕ) where
    copies_none : (f : Bool) (st : State) (p : Progress) → 0 ≡ numbers_left st → Copies 0 (running (failing u f) st) p (copies_filled s held u 0 f st p)
    unfolding copies_filled
    copies_none f st p e =
        subst (λ (r : Running). Reaches s u.bytes (66 * 0 + 1) (64 * 0) (running (failing u f) st) p r p) (prepared-none g (failing u f) st (omega (arith, e)))
        (reach_less s u.bytes (omega arith) (omega arith) (reach_prepared s u.bytes (running (failing u f) st) p (omega arith) refl))

    copies_more : (f : Bool) (k : ℕ) (st : State) (p : Progress) → suc k ≡ numbers_left st → held_bits st g.logical ≡ held
        → length st.invalid ≡ 512 → st.last < g.blocks → (j : ℕ) → count_permitted st.marked st.invalid held g.blocks ≤ j
        → ((b i : ℕ) (p' : Progress) → count_permitted st.marked (with_bit st.invalid b) held g.blocks ≤ i → Copies i (running (failing u true) (with_invalid b (taken st))) p' (copies_filled s held u k true (with_invalid b (taken st)) p'))
        → Copies j (running (failing u f) st) p (copies_filled s held u (suc k) f st p)
    unfolding copies_filled
    copies_more f k st p e h size last j few on =
        let c = failing u f in
        let own = held_bits st g.logical in
        let more = copies_filled s held u k true in
        let To : ℕ → Option ℕ → Type 0 = λ i x. Reaches s u.bytes (66 * i) (64 * i) (on_block c st x) p (after_copies u (copy_tried s u st f p more x)) (copy_tried s u st f p more x).progress in
        let here : To j (choice_of g st) =
        by_choice (choice_of g st)
        (λ w. subst (To j) (sym w) (try_worn j st more f p))
        (λ b w.
        let x = chosen_permitted st.marked st.invalid own g.blocks st.last last b w in
        let less = count_less st.marked st.invalid own b (omega (arith, size, x.0, v.blocks_most)) x.1 g.blocks x.0 in
        let most : count_permitted st.marked st.invalid own g.blocks ≤ j = subst (λ (y : List ℕ). count_permitted st.marked st.invalid y g.blocks ≤ j) (sym h) few in
        let next : count_permitted st.marked (with_bit st.invalid b) held g.blocks ≤ j - 1 = subst (λ (y : List ℕ). count_permitted st.marked (with_bit st.invalid b) y g.blocks ≤ j - 1) h (omega (arith, less, most)) in
        let one : suc (j - 1) ≡ j = omega (arith, less, most) in
        subst (To j) (sym w) (subst (λ (n : ℕ). To n (Some b)) one (try_block_fact (j - 1) st more b (λ p'. on b (j - 1) p' next) f p))) in
        let tried = subst (λ (y : List ℕ). Reaches s u.bytes (66 * j) (64 * j) (on_block c st (choice_of g st)) p (after_copies u (copy_tried s u st f p more (chosen st.marked st.invalid y g.blocks st.last))) (copy_tried s u st f p more (chosen st.marked st.invalid y g.blocks st.last)).progress) h here in
        let from = subst (λ (r : Running). Reaches s u.bytes 1 0 (running c st) p r p) (prepared_open g c st (omega (arith, e))) (reach_prepared s u.bytes (running c st) p (omega arith) refl) in
        reach_less s u.bytes (omega arith) (omega arith) (reach_on s u.bytes from tried)

    copies_reach : (k : ℕ) (f : Bool) (st : State) (p : Progress) → k ≡ numbers_left st → held_bits st g.logical ≡ held
        → length st.invalid ≡ 512 → st.last < g.blocks → (j : ℕ) → count_permitted st.marked st.invalid held g.blocks ≤ j → Copies j (running (failing u f) st) p (copies_filled s held u k f st p)
    copies_reach zero f st p e h size last j few = reach_less s u.bytes (omega arith) (omega arith) (copies_none f st p e)
    copies_reach (suc k) f st p e h size last j few =
        copies_more f k st p e h size last j few
        (λ b i p' n. copies_reach k true (with_invalid b (taken st)) p' (omega (arith, e)) h (length_with st.invalid b ∙ size) last i n)

    -- what the table fills ask of the state that the data fills leave
    record As (st : State) : Type 0 where
      size : length st.invalid ≡ 512
      last : st.last < g.blocks

    copies_as : (k : ℕ) (st : State) (f : Bool) (p : Progress) → As st → k ≡ numbers_left st → (copies_filled s held u k f st p).answer ≡ 0 → As (copies_filled s held u k f st p).state
    copies_as k st f p x e =
        copies_end s held u (λ y b q. As y) (λ d. d.answer ≡ 0 → As d.state)
        (record {
          last_below = λ y b q a. a.last;
          spent = λ y b q a h z. absurd (omega (arith, z));
          worn = λ y b q a h n z. absurd (omega (arith, z));
          passed = λ y b q a h c l may t z. record { size = a.size; last = l };
          failed = λ y b q a h c l may t. record { size = length_with y.invalid c ∙ a.size; last = a.last };
          stopped = λ y b q a h c l may n t z. absurd (stop_some _ z);
        })
        k st f p x e

  -- data fills, then a table if any block failed
  change_reach : (st : State) (p : Progress) → length st.invalid ≡ 512 → st.last < g.blocks → Reaches s u.bytes (66 * (2 * g.blocks) + 2) (64 * (2 * g.blocks)) (running (update_cursor u) st) p (end_of (change_run s st u p)) (change_run s st u p).progress
  unfolding then_table
  change_reach st p size last =
      let held = held_bits st g.logical in
      let d = copies_filled s held u (numbers_left st) false st p in
      let first = copies_reach held (numbers_left st) false st p refl refl size last g.blocks (count_most st.marked st.invalid held g.blocks) in
      let from = running (update_cursor u) st in
      let To : Running → Type 0 = λ r. Reaches s u.bytes (66 * g.blocks + 1) (64 * g.blocks) from p r d.progress in
      cases (eqb d.answer 0)
      (λ t.
      cases d.failed
      (λ f.
      let to : after_copies u d ≡ running (in_table (failing u true)) d.state = rw (t, f) in
      let left_as = copies_as held (numbers_left st) st false p (record { size = size; last = last }) refl (eqb-true d.answer 0 t) in
      let held' = held_bits d.state g.logical in
      let second = tables_reach s v u.bytes held' (numbers_left d.state) (in_table (failing u true)) refl refl d.state d.progress refl refl left_as.size left_as.last g.blocks (count_most d.state.marked d.state.invalid held' g.blocks) in
      rw (t, f) (reach_less s u.bytes (omega arith) (omega arith) (reach_on s u.bytes (subst To to first) second)))
      (λ f.
      let to : after_copies u d ≡ running (ended 0) d.state = rw (t, f) in
      rw (t, f) (reach_less s u.bytes (omega arith) (omega arith) (subst To to first))))
      (λ t.
      let to : after_copies u d ≡ running (ended d.answer) d.state = rw t in
      rw t (reach_less s u.bytes (omega arith) (omega arith) (subst To to first)))

  -- a request with page programs enough
  pub change_ran : (st : State) (p : Progress) (left : ℕ) → length st.invalid ≡ 512 → st.last < g.blocks → 64 * (2 * g.blocks) < left → run_for s u.bytes left (running (update_cursor u) st) p ≡ ran_to (change_run s st u p).progress (end_of (change_run s st u p))
  unfolding actions_most weight
  change_ran st p left size last h =
      let most : 66 * (2 * g.blocks) + 2 ≤ actions_most left (running (update_cursor u) st) = omega (arith, h) in
      reach_end s u.bytes (change_reach st p size last) (omega arith) (actions_most left (running (update_cursor u) st)) left most h
