-- Fills one after the other until one passes: what holds of each holds of all, for data fills and for table fills. Assumes nothing.
use Prim.Native.Nat.{ℕ, zero, suc, ◌≤◌, ◌<◌}
use mathlib.Core.Bool.{Bool, true, false, cond}
use mathlib.Core.List.{List}
use mathlib.Core.Path.{◌≡◌, sym, subst}
use native.Mathlib.Omega.{arith}
use borrow.Table.Steps.{cases}
use lib.Dec.{eqb}
use Rattle.std.specs.Prelude.{Option, Some, None}
use Rattle.chip_array.specs.Device.{Setting}
use Rattle.bus_polling.specs.Outcomes.{is_passed, is_failed}
use Rattle.bus_polling.proofs.OutcomeLaws.{passed_unfailed}
use Rattle.state_choose.specs.Choose.{permitted, chosen}
use Rattle.state_choose.proofs.ChooseLaws as choose
use Rattle.pages.specs.Layout.{data_kind}
use Rattle.state.specs.State.{blank, next_number, number_end, numbers_left, taken, with_invalid, with_copy, with_table}
use Rattle.state.specs.declared.State.{State}
use Rattle.request.specs.Call.{stop_answer}
use Rattle.progress.specs.Progress.{Progress}
use Rattle.progress.specs.Steps.{resumed}
use Rattle.fill.specs.Fill.{table_filled}
use Rattle.fill_tables.specs.Tables.{Tried, Tabled, tabled, try_block, try_table, ended_by, tables_filled}
use Rattle.fill_tables.proofs.AfterLaws.{after_passed, after_failed}
use Rattle.write_changes.specs.Changes.{Update, Copied, copied, copy_filled, stopped_at, after_try, copy_tried, copies_filled}

-- the search finds a permitted block of the chip, or there is none
module _ (marked invalid held : List ℕ) (blocks last : ℕ) (last_below : last < blocks) where
  pub chosen_permitted : (b : ℕ) → chosen marked invalid held blocks last ≡ Some b → (b < blocks) × (permitted marked invalid held b ≡ true)
  chosen_permitted b e =
      let f = choose.found (permitted marked invalid held) blocks blocks last b last_below e in
      (subst (λ (c : ℕ). c < blocks) f.is (choose.after_below blocks last (suc f.steps) (omega (arith, last_below))), f.passes)

  pub none_permitted : chosen marked invalid held blocks last ≡ None → (b : ℕ) → b < blocks → permitted marked invalid held b ≡ false
  none_permitted e = (choose.worn_exactly (permitted marked invalid held) blocks last last_below).0 e

-- what holds before each data fill (Before) leads to what is said of how they end (Ends)
pub record Copying (s : Setting) (held : List ℕ) (u : Update) (Before : State → Bool → Progress → Type 0) (Ends : Copied → Type 0) : Type 0 where
  pub last_below : (st : State) (f : Bool) (p : Progress) → Before st f p → st.last < s.geometry.blocks
  pub spent : (st : State) (f : Bool) (p : Progress) → Before st f p → number_end ≤ next_number st → Ends (copied p 9 (blank 2) f)
  pub worn : (st : State) (f : Bool) (p : Progress) → Before st f p → next_number st < number_end
      → ((b : ℕ) → b < s.geometry.blocks → permitted st.marked st.invalid held b ≡ false) → Ends (copied p 8 (blank 2) f)
  pub passed : (st : State) (f : Bool) (p : Progress) → Before st f p → next_number st < number_end → (b : ℕ) → b < s.geometry.blocks → permitted st.marked st.invalid held b ≡ true
      → is_passed (copy_filled s u st b p).outcome ≡ true → Ends (copied (copy_filled s u st b p) 0 (with_copy data_kind u.logical b (taken st)) f)
  pub failed : (st : State) (f : Bool) (p : Progress) → Before st f p → next_number st < number_end → (b : ℕ) → b < s.geometry.blocks → permitted st.marked st.invalid held b ≡ true
      → is_failed (copy_filled s u st b p).outcome ≡ true → Before (with_invalid b (taken st)) true (resumed (copy_filled s u st b p))
  pub stopped : (st : State) (f : Bool) (p : Progress) → Before st f p → next_number st < number_end → (b : ℕ) → b < s.geometry.blocks → permitted st.marked st.invalid held b ≡ true
      → is_passed (copy_filled s u st b p).outcome ≡ false → is_failed (copy_filled s u st b p).outcome ≡ false → Ends (stopped_at (copy_filled s u st b p))

module _ (s : Setting) (held : List ℕ) (u : Update) (Before : State → Bool → Progress → Type 0) (Ends : Copied → Type 0) (c : Copying s held u Before Ends) where
  abbrev choice : State → Option ℕ
  choice st = chosen st.marked st.invalid held s.geometry.blocks st.last

  module _ (k : ℕ) (more : (st : State) (f : Bool) (p : Progress) → Before st f p → k ≡ numbers_left st → Ends (copies_filled s held u k f st p)) (st : State) (f : Bool) (p : Progress) (x : Before st f p)
      (h : suc k ≡ numbers_left st) where
    fits : next_number st < number_end
    fits = omega (arith, h)

    -- block b is filled
    module _ (b : ℕ) (e : choice st ≡ Some b) where
      found : (b < s.geometry.blocks) × (permitted st.marked st.invalid held b ≡ true)
      found = chosen_permitted st.marked st.invalid held s.geometry.blocks st.last (c.last_below st f p x) b e

      abbrev q : Progress
      q = copy_filled s u st b p

      block_tried : Ends (copy_tried s u st f p (copies_filled s held u k true) (Some b))
      unfolding copy_tried after_try
      block_tried =
          cases (is_passed q.outcome)
          (λ y. rw y (c.passed st f p x fits b found.0 found.1 y))
          (λ n.
          cases (is_failed q.outcome)
          (λ w. rw (n, w) (more (with_invalid b (taken st)) true (resumed q) (c.failed st f p x fits b found.0 found.1 w) (omega (arith, h))))
          (λ w. rw (n, w) (c.stopped st f p x fits b found.0 found.1 n w)))

    none_left : choice st ≡ None → Ends (copy_tried s u st f p (copies_filled s held u k true) None)
    unfolding copy_tried
    none_left e = c.worn st f p x fits (none_permitted st.marked st.invalid held s.geometry.blocks st.last (c.last_below st f p x) e)

    copies_next : Ends (copy_tried s u st f p (copies_filled s held u k true) (choice st))
    copies_next =
        choose.by_choice (choice st)
        (λ e. subst (λ (o : Option ℕ). Ends (copy_tried s u st f p (copies_filled s held u k true) o)) (sym e) (none_left e))
        (λ b e. subst (λ (o : Option ℕ). Ends (copy_tried s u st f p (copies_filled s held u k true) o)) (sym e) (block_tried b e))

  pub copies_end : (k : ℕ) (st : State) (f : Bool) (p : Progress) → Before st f p → k ≡ numbers_left st → Ends (copies_filled s held u k f st p)
  unfolding copies_filled
  copies_end zero st f p x h = c.spent st f p x (omega (arith, h))
  copies_end (suc k) st f p x h = copies_next k (copies_end k) st f p x h

-- the same for table fills
pub record Tabling (s : Setting) (held : List ℕ) (Before : State → Progress → Type 0) (Ends : Tabled → Type 0) : Type 0 where
  pub last_below : (st : State) (p : Progress) → Before st p → st.last < s.geometry.blocks
  pub spent : (st : State) (p : Progress) → Before st p → number_end ≤ next_number st → Ends (tabled p 9 (blank 2))
  pub worn : (st : State) (p : Progress) → Before st p → next_number st < number_end
      → ((b : ℕ) → b < s.geometry.blocks → permitted st.marked st.invalid held b ≡ false) → Ends (tabled p 8 (blank 2))
  pub passed : (st : State) (p : Progress) → Before st p → next_number st < number_end → (b : ℕ) → b < s.geometry.blocks → permitted st.marked st.invalid held b ≡ true
      → is_passed (table_filled s b (next_number st) st.invalid p).outcome ≡ true → Ends (tabled (table_filled s b (next_number st) st.invalid p) 0 (with_table b (taken st)))
  pub failed : (st : State) (p : Progress) → Before st p → next_number st < number_end → (b : ℕ) → b < s.geometry.blocks → permitted st.marked st.invalid held b ≡ true
      → is_failed (table_filled s b (next_number st) st.invalid p).outcome ≡ true → Before (with_invalid b (taken st)) (resumed (table_filled s b (next_number st) st.invalid p))
  pub stopped : (st : State) (p : Progress) → Before st p → next_number st < number_end → (b : ℕ) → b < s.geometry.blocks → permitted st.marked st.invalid held b ≡ true
      → is_passed (table_filled s b (next_number st) st.invalid p).outcome ≡ false → is_failed (table_filled s b (next_number st) st.invalid p).outcome ≡ false
      → Ends (tabled (table_filled s b (next_number st) st.invalid p) (stop_answer (table_filled s b (next_number st) st.invalid p).outcome) (blank 2))

module _ (s : Setting) (held : List ℕ) (Before : State → Progress → Type 0) (Ends : Tabled → Type 0) (c : Tabling s held Before Ends) where
  abbrev table_choice : State → Option ℕ
  table_choice st = chosen st.marked st.invalid held s.geometry.blocks st.last

  -- what one try makes of it
  abbrev after_table : ℕ → Tried → Tabled
  after_table k t =
      cond (eqb t.worn 0)
      (cond (is_failed t.progress.outcome) (tables_filled s held k t.state (resumed t.progress)) (ended_by t.progress t.state))
      (tabled t.progress 8 (blank 2))

  module _ (k : ℕ) (more : (st : State) (p : Progress) → Before st p → k ≡ numbers_left st → Ends (tables_filled s held k st p)) (st : State) (p : Progress) (x : Before st p)
      (h : suc k ≡ numbers_left st) where
    number_left : next_number st < number_end
    number_left = omega (arith, h)

    module _ (b : ℕ) (e : table_choice st ≡ Some b) where
      table_found : (b < s.geometry.blocks) × (permitted st.marked st.invalid held b ≡ true)
      table_found = chosen_permitted st.marked st.invalid held s.geometry.blocks st.last (c.last_below st p x) b e

      abbrev r : Progress
      r = table_filled s b (next_number st) st.invalid p

      table_tried : Ends (after_table k (try_block s st p (Some b)))
      unfolding try_block
      table_tried =
          cases (is_passed r.outcome)
          (λ y.
          rw (passed_unfailed r.outcome y, y) (subst (λ (z : State). Ends (tabled r 0 z)) (sym (after_passed b (taken st) r.outcome y)) (c.passed st p x number_left b table_found.0 table_found.1 y)))
          (λ n.
          cases (is_failed r.outcome)
          (λ w.
          rw w (subst (λ (z : State). Ends (tables_filled s held k z (resumed r))) (sym (after_failed b (taken st) r.outcome w))
          (more (with_invalid b (taken st)) (resumed r) (c.failed st p x number_left b table_found.0 table_found.1 w) (omega (arith, h)))))
          (λ w. rw (w, n) (c.stopped st p x number_left b table_found.0 table_found.1 n w)))

    table_none : table_choice st ≡ None → Ends (after_table k (try_block s st p None))
    unfolding try_block
    table_none e = c.worn st p x number_left (none_permitted st.marked st.invalid held s.geometry.blocks st.last (c.last_below st p x) e)

    tables_next : Ends (after_table k (try_table s held st p))
    unfolding try_table
    tables_next =
        choose.by_choice (table_choice st)
        (λ e. subst (λ (o : Option ℕ). Ends (after_table k (try_block s st p o))) (sym e) (table_none e))
        (λ b e. subst (λ (o : Option ℕ). Ends (after_table k (try_block s st p o))) (sym e) (table_tried b e))

  pub tables_end : (k : ℕ) (st : State) (p : Progress) → Before st p → k ≡ numbers_left st → Ends (tables_filled s held k st p)
  unfolding tables_filled
  tables_end zero st p x h = c.spent st p x (omega (arith, h))
  tables_end (suc k) st p x h = tables_next k (tables_end k) st p x h
