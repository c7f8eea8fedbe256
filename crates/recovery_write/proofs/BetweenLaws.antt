-- Where a request stands between two calls: no erase is due, its state counts as mounted, and its words are on the chip. Assumes nothing.
use Prim.Native.Nat.{ℕ, zero, suc, ◌-◌, ◌≤◌, ◌<◌}
use mathlib.Core.Bool.{Bool, true, false}
use mathlib.Core.List.{List}
use mathlib.Core.Path.{◌≡◌, refl, sym, ap, subst, ◌∙◌}
use native.Mathlib.Omega.{arith}
use borrow.Table.Steps.{cases}
use borrow.Author.Tests.{eqb-true, lt-ltb, ltb-true, ltb-false}
use lib.Dec.{eqb, ltb}
use lib.ListN.{get_or}
use Rattle.geometry.specs.declared.Geometry.{Geometry}
use Rattle.geometry.specs.Limits.{Valid}
use Rattle.bools.proofs.BoolLaws.{clash}
use Rattle.cells.specs.Bytes.{Bytes}
use Rattle.bitmaps.specs.Bitmap.{bit_at}
use Rattle.chip_array.specs.Device.{Setting}
use Rattle.bus.specs.Line.{Line}
use Rattle.operations.specs.Ends.{Called}
use Rattle.operations.specs.Trace.{ArrayOperation}
use Rattle.copies.specs.Pick.{at}
use Rattle.copies.specs.Current.{current_copy}
use Rattle.scan_found.specs.Contents.{entry_of}
use Rattle.state.specs.State.{Mounted, mounted, none, next_number, taken}
use Rattle.state.specs.declared.State.{State}
use Rattle.state.proofs.HeldLaws.{held_entry}
use Rattle.state.proofs.MountedLaws.{mounted_holds}
use Rattle.progress.specs.Progress.{Progress}
use Rattle.fill_cursor.specs.Cursor.{programs, is_open_now, actions_most}
use Rattle.fill_cursor.specs.declared.Cursor.{Cursor}
use Rattle.fill_cursor.specs.declared.Running.{Running}
use Rattle.fill_cursor.proofs.FitLaws.{by_after}
use Rattle.fill_driver.specs.Driver.{Ran, acted, ran}
use Rattle.fill_driver.proofs.RunLaws.{open_left, acted_performed, ran_acted, ran_over}
use Rattle.fill_laws.proofs.PortionLaws.{next_step, next_less}
use Rattle.write_changes.specs.Changes.{Update}
use Rattle.recovery_stored.proofs.KnowsLaws.{knows_facts, knows_marked, knows_entry}
use Rattle.recovery.specs.Book.{Book, Change}
use Rattle.recovery_write.specs.Changed.{Agrees, MarkedBy, Proper, update_of}
use Rattle.recovery_write.proofs.ContentLaws.{by_current, change_content}
use Rattle.recovery_write.proofs.DataLaws as phase
use Rattle.recovery_write.proofs.TableLaws as tables
use Rattle.recovery_write.proofs.ActLaws as act
use Rattle.recovery_write.proofs.ActLaws.At.{before_data, erase_data, in_data, before_table, erase_table, in_table_fact, has_ended}

-- a run that goes on has stopped before a number and a block, or before a page
pub record Resting (c : Cursor) : Type 0 where
  pub step_most : c.step ≤ 2
  pub no_erase : c.phase < 2 → c.step ≡ 1 → ⊥

shut_left : (c : Cursor) (left : ℕ) → is_open_now c left ≡ false → c.phase < 2 → left ≡ 0
unfolding is_open_now
shut_left c left f h =
    cases (eqb left 0) (λ t. eqb-true left 0 t) (λ t. clash (lt-ltb c.phase 2 h) (sym (rw t) ∙ f))

module _ (s : Setting) (bytes : List ℕ) where
  -- the last page program of a call is not followed by an erase
  last_program : (left : ℕ) (r : Running) (p : Progress) → is_open_now r.cursor left ≡ true → left - programs r.cursor ≡ 0 → (acted s bytes r p).running.cursor.step ≡ 1 → ⊥
  unfolding programs
  last_program left r p o e =
      cases (eqb r.cursor.step 2)
      (λ t.
      subst (λ (x : Ran). x.running.cursor.step ≡ 1 → ⊥) (sym (acted_performed s bytes r p (λ z. omega (arith, z, eqb-true r.cursor.step 2 t))))
      (by_after s.geometry.pages r.cursor r.state (λ x. x.cursor.step ≡ 1 → ⊥) (λ a x z. omega (arith, z)) _ (λ h k z. omega (arith, z)) (λ h k z. omega (arith, z)) (λ h z. omega (arith, z))))
      (λ t. absurd (open_left r.cursor left o (omega (arith, rw t at e))))

  pub run_rests : (n left : ℕ) (r : Running) (p : Progress) → r.cursor.step ≤ 2 → actions_most left r ≤ n → (left ≡ 0 → r.cursor.step ≡ 1 → ⊥) → Resting (ran s bytes n left r p).running.cursor
  run_rests zero left r p most h rests =
      cases (is_open_now r.cursor left)
      (λ t. absurd (omega (arith, next_less s bytes left r p most t, h)))
      (λ f. subst (λ (x : Ran). Resting x.running.cursor) (sym (ran_over s bytes r p zero left f)) (record { step_most = most; no_erase = λ k. rests (shut_left r.cursor left f k) }))
  run_rests (suc n) left r p most h rests =
      cases (is_open_now r.cursor left)
      (λ t.
      subst (λ (x : Ran). Resting x.running.cursor) (sym (ran_acted s bytes r p n left t))
      (run_rests n (left - programs r.cursor) (acted s bytes r p).running (acted s bytes r p).progress (next_step s bytes left r p most) (omega (arith, next_less s bytes left r p most t, h)) (last_program left r p t)))
      (λ f. subst (λ (x : Ran). Resting x.running.cursor) (sym (ran_over s bytes r p (suc n) left f)) (record { step_most = most; no_erase = λ k. rests (shut_left r.cursor left f k) }))

-- its words: a first page and a number of pages given, and places on the chip
pub record Words (g : Geometry) (first count : ℕ) (k : Cursor) : Type 0 where
  pub logical_below : k.logical < g.logical
  pub first_is : k.first ≡ first
  pub count_is : k.count ≡ count
  pub unanswered : k.answer ≡ 0
  pub block_below : k.block < g.blocks
  pub page_below : k.page < g.pages

module _ (s : Setting) (mask_bytes : Bytes s.mask) (first : Line) (called : Called s first) (st₀ : State) (c : Change) (book : Book) (marked₀ failed₀ : ℕ → Bool)
    (marks₀ : MarkedBy s.geometry first.chip.array marked₀) (agrees : Agrees s.geometry first.chip.array st₀ book failed₀) (proper : Proper s.geometry c) where
  abbrev g : Geometry
  g = s.geometry

  v : Valid g
  v = called.is_valid

  abbrev array₀ : List ℕ
  array₀ = first.chip.array

  abbrev u : Update
  u = update_of st₀ c

  abbrev Placed : Cursor → Type 0
  Placed = Words g u.first u.count

  logical_below : u.logical < g.logical
  logical_below = (change_content g array₀ st₀ book failed₀ agrees c proper).logical_below

  pub at_words : {r : Running} {p : Progress} → act.At s mask_bytes first called st₀ c book marked₀ failed₀ marks₀ agrees proper r p → r.cursor.phase < 2 → Placed r.cursor
  at_words (before_data w) h =
      subst (λ (x : Running). Placed x.cursor) (sym w.r_is)
      (record { logical_below = logical_below; first_is = refl; count_is = refl; unanswered = refl; block_below = omega (arith, v.blocks_least); page_below = omega (arith, v.pages_least) })
  at_words (erase_data w) h =
      subst (λ (x : Running). Placed x.cursor) (sym w.r_is)
      (record { logical_below = logical_below; first_is = refl; count_is = refl; unanswered = refl; block_below = w.below; page_below = omega (arith, v.pages_least) })
  at_words (in_data w) h =
      subst (λ (x : Running). Placed x.cursor) (sym w.r_is)
      (record { logical_below = logical_below; first_is = refl; count_is = refl; unanswered = refl; block_below = w.below; page_below = w.page_below })
  at_words (before_table st₁ p₁ d w) h =
      subst (λ (x : Running). Placed x.cursor) (sym w.r_is)
      (record { logical_below = logical_below; first_is = refl; count_is = refl; unanswered = refl; block_below = omega (arith, v.blocks_least); page_below = omega (arith, v.pages_least) })
  at_words (erase_table st₁ p₁ d w) h =
      subst (λ (x : Running). Placed x.cursor) (sym w.r_is)
      (record { logical_below = logical_below; first_is = refl; count_is = refl; unanswered = refl; block_below = w.below; page_below = omega (arith, v.pages_least) })
  at_words (in_table_fact st₁ p₁ d w) h =
      subst (λ (x : Running). Placed x.cursor) (sym w.r_is)
      (record { logical_below = logical_below; first_is = refl; count_is = refl; unanswered = refl; block_below = w.below; page_below = w.page_below })
  at_words (has_ended w) h = absurd (omega (arith, h, ap (λ (x : Running). x.cursor.phase) w.r_is))

  -- its state in the data phase
  facts₀ : Mounted st₀ g.blocks g.logical
  facts₀ = knows_facts g array₀ st₀ agrees.stored agrees.knows

  data_mounted : (n m : ℕ) (invalid array : List ℕ) (os : List ArrayOperation) → phase.Rest s mask_bytes first called st₀ c book marked₀ failed₀ marks₀ agrees proper n invalid array os
      → mounted (phase.moved s mask_bytes first called st₀ c book marked₀ failed₀ marks₀ agrees proper m invalid) g.blocks g.logical ≡ true
  data_mounted n m invalid array os rest =
      mounted_holds (phase.moved s mask_bytes first called st₀ c book marked₀ failed₀ marks₀ agrees proper m invalid) g.blocks g.logical v.blocks_most
      (record {
        status_one = facts₀.status_one;
        last_below = facts₀.last_below;
        marks_end = facts₀.marks_end;
        invalid_end = rest.bits.clear;
        apart = λ b h y.
            cases (ltb b g.blocks)
            (λ z. let low = ltb-true b g.blocks z in rest.apart b low (sym (knows_marked g array₀ st₀ agrees.stored agrees.knows b low) ∙ y))
            (λ z. rest.bits.clear b (ltb-false b g.blocks z) h);
        entries_end = facts₀.entries_end;
        table_below = facts₀.table_below;
        table_unmarked = facts₀.table_unmarked;
        table_valid = rest.valid st₀.table (phase.table_held s mask_bytes first called st₀ c book marked₀ failed₀ marks₀ agrees proper) facts₀.table_valid;
        copy_below = facts₀.copy_below;
        copy_unmarked = facts₀.copy_unmarked;
        copy_valid = λ l h x. rest.valid (get_or st₀.map l 0) (held_entry st₀ g.logical l h (omega (arith, facts₀.copy_below l h x, v.blocks_most))) (facts₀.copy_valid l h x);
        copy_off_table = facts₀.copy_off_table;
        once = facts₀.once;
      })

  -- and in the table phase
  module _ (st₁ : State) (p₁ : Progress) (d : phase.Done s mask_bytes first called st₀ c book marked₀ failed₀ marks₀ agrees proper st₁ true p₁) where
    abbrev listing : State
    listing =
        record { status = st₁.status; table = st₁.table; last = st₁.last; number = st₁.number; marked = st₁.marked; invalid = st₀.invalid; map = st₁.map; kinds = st₁.kinds }

    facts₁ : Mounted listing g.blocks g.logical
    facts₁ = knows_facts g p₁.line.chip.array listing d.stored (tables.listing_knows s mask_bytes first called st₀ c book marked₀ failed₀ marks₀ agrees proper st₁ true p₁ d)

    table_is : st₁.table ≡ st₀.table
    table_is = ap (λ (z : State). z.table) d.state_is

    -- an entry of the map is the current copy's block
    entry_copy : (l : ℕ) → l < g.logical → (get_or st₁.map l 0 ≡ none → ⊥) → current_copy g p₁.line.chip.array st₀.table l ≡ at (get_or st₁.map l 0)
    unfolding entry_of
    entry_copy l h x =
        let is = knows_entry g p₁.line.chip.array listing d.stored (tables.listing_knows s mask_bytes first called st₀ c book marked₀ failed₀ marks₀ agrees proper st₁ true p₁ d) l h in
        let here : current_copy g p₁.line.chip.array st₁.table l ≡ at (get_or st₁.map l 0) =
        by_current (current_copy g p₁.line.chip.array st₁.table l) (λ e. absurd (x (is ∙ ap entry_of e))) (λ b e. e ∙ ap at (sym (is ∙ ap entry_of e))) in
        ap (λ (t : ℕ). current_copy g p₁.line.chip.array t l) (sym table_is) ∙ here

    table_mounted : (n m : ℕ) (invalid : List ℕ) (table : ℕ) (array : List ℕ) (os : List ArrayOperation) → tables.Rest s mask_bytes first called st₀ c book marked₀ failed₀ marks₀ agrees proper st₁ true p₁ d n invalid table array os
        → mounted (tables.moved s mask_bytes first called st₀ c book marked₀ failed₀ marks₀ agrees proper st₁ true p₁ d m invalid) g.blocks g.logical ≡ true
    table_mounted n m invalid table array os rest =
        mounted_holds (tables.moved s mask_bytes first called st₀ c book marked₀ failed₀ marks₀ agrees proper st₁ true p₁ d m invalid) g.blocks g.logical v.blocks_most
        (record {
          status_one = facts₁.status_one;
          last_below = facts₁.last_below;
          marks_end = facts₁.marks_end;
          invalid_end = rest.bits.clear;
          apart = λ b h y.
              cases (ltb b g.blocks)
              (λ z.
              let low = ltb-true b g.blocks z in
              rest.apart b low (sym (knows_marked g array₀ st₀ agrees.stored agrees.knows b low) ∙ sym (ap (λ (x : State). bit_at x.marked b) d.state_is) ∙ y))
              (λ z. rest.bits.clear b (ltb-false b g.blocks z) h);
          entries_end = facts₁.entries_end;
          table_below = facts₁.table_below;
          table_unmarked = facts₁.table_unmarked;
          table_valid = ap (bit_at invalid) table_is ∙ rest.table_valid;
          copy_below = facts₁.copy_below;
          copy_unmarked = facts₁.copy_unmarked;
          copy_valid = λ l h x. rest.valid l (get_or st₁.map l 0) h (entry_copy l h x);
          copy_off_table = facts₁.copy_off_table;
          once = facts₁.once;
        })

  abbrev Counts : State → Type 0
  Counts st = mounted st g.blocks g.logical ≡ true

  pub at_mounted : {r : Running} {p : Progress} → act.At s mask_bytes first called st₀ c book marked₀ failed₀ marks₀ agrees proper r p → r.cursor.phase < 2 → Counts r.state
  at_mounted {r} {p} (before_data w) h =
      subst (λ (x : Running). Counts x.state) (sym w.r_is) (subst Counts (sym w.mid.state_is) (data_mounted _ w.st.number w.st.invalid _ _ w.mid.rest))
  at_mounted (erase_data w) h =
      subst (λ (x : Running). Counts x.state) (sym w.r_is) (subst (λ (x : State). Counts (taken x)) (sym w.mid.state_is) (data_mounted _ (next_number w.st) w.st.invalid _ _ w.mid.rest))
  at_mounted (in_data w) h =
      subst (λ (x : Running). Counts x.state) (sym w.r_is) (subst (λ (x : State). Counts (taken x)) (sym w.state_is) (data_mounted _ (next_number w.st) w.st.invalid w.A w.before w.rest))
  at_mounted (before_table st₁ p₁ d w) h =
      subst (λ (x : Running). Counts x.state) (sym w.r_is) (subst Counts (sym w.mid.state_is) (table_mounted st₁ p₁ d _ w.st.number w.st.invalid w.mid.table _ _ w.mid.rest))
  at_mounted (erase_table st₁ p₁ d w) h =
      subst (λ (x : Running). Counts x.state) (sym w.r_is) (subst (λ (x : State). Counts (taken x)) (sym w.mid.state_is) (table_mounted st₁ p₁ d _ (next_number w.st) w.st.invalid w.mid.table _ _ w.mid.rest))
  at_mounted (in_table_fact st₁ p₁ d w) h =
      subst (λ (x : Running). Counts x.state) (sym w.r_is) (subst (λ (x : State). Counts (taken x)) (sym w.state_is) (table_mounted st₁ p₁ d _ (next_number w.st) w.st.invalid w.table w.A w.before w.rest))
  at_mounted (has_ended w) h = absurd (omega (arith, h, ap (λ (x : Running). x.cursor.phase) w.r_is))
