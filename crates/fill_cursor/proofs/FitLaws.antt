-- A cursor that goes on still fits the chip, and fewer actions are left. Assumes nothing.
use Prim.Native.Nat.{ℕ, suc, ◌-◌, ◌≤◌, ◌<◌}
use mathlib.Core.Bool.{true, false}
use mathlib.Core.List.{List}
use mathlib.Core.Path.{◌≡◌, refl, subst}
use native.Mathlib.Omega.{arith}
use borrow.Table.Steps.{cases}
use borrow.Author.Tests.{eqb-true, eqb-false, ltb-true, lt-ltb, leb-false}
use lib.Dec.{eqb, ltb}
use Rattle.std.specs.Prelude.{Option, Some, None}
use Rattle.geometry.specs.declared.Geometry.{Geometry}
use Rattle.bus_polling.specs.Outcomes.{is_passed, is_failed, answered, is_protected}
use Rattle.bus_polling.specs.declared.Outcome.{Outcome}
use Rattle.bus_polling.specs.declared.Outcome.TheVariants.{Passed, Failed, Silent, Cut, Illegal, Protected}
use Rattle.bus_polling.proofs.OutcomeLaws.{passed_answered, failed_answered, passed_unprotected, failed_unprotected}
use Rattle.state_choose.specs.Choose.{chosen, permitted}
use Rattle.state_choose.proofs.ChooseLaws.{found, after_below}
use Rattle.pages.specs.Layout.{data_kind}
use Rattle.state.specs.State.{next_number, number_end, spent, taken, with_invalid, with_copy}
use Rattle.state.specs.declared.State.{State}
use Rattle.fill_cursor.specs.Cursor.{Fits, running, ended, filling, on_page, in_table, replaced, stopped, choice_of, on_block, prepared, page_after, filled_whole, unfilled, after_action, withdrawn, settled, state_after, after_due, programs, weight, actions_most}
use Rattle.fill_cursor.specs.declared.Cursor.{Cursor}
use Rattle.fill_cursor.specs.declared.Running.{Running}

-- a block chosen is on the chip
pub chosen_below : (marked invalid held : List ℕ) (blocks last b : ℕ) → last < blocks → chosen marked invalid held blocks last ≡ Some b → b < blocks
chosen_below marked invalid held blocks last b h e =
    let f = found (permitted marked invalid held) blocks blocks last b h e in
    subst (λ (x : ℕ). x < blocks) f.is (after_below blocks last (suc f.steps) (omega (arith, h)))

-- a fill is prepared: the request stops, or a number and a block were taken
module _ (g : Geometry) (c : Cursor) (st : State) (P : Running → Type 0) (stops : (a : ℕ) → P (stopped a))
    (takes : (b : ℕ) → choice_of g st ≡ Some b → next_number st < number_end → P (running (filling b (next_number st) c) (taken st))) where
  by_block : next_number st < number_end → (x : Option ℕ) → choice_of g st ≡ x → P (on_block c st x)
  unfolding on_block
  by_block h None e = stops 8
  by_block h (Some b) e = takes b e h

  pub by_prepared : P (prepared g c st)
  unfolding prepared
  by_prepared =
      cases (spent st) (λ t. rw t (stops 9)) (λ f. rw f (by_block (leb-false number_end (next_number st) f) (choice_of g st) refl))

-- what was due ended: a page is due, the table, another fill, or nothing
module _ (pages : ℕ) (c : Cursor) (st : State) (P : Running → Type 0) (ends : (a : ℕ) (s : State) → P (running (ended a) s)) where
  by_whole : (c.phase ≡ 0 → P (running (in_table c) (with_copy data_kind c.logical c.block st))) → P (running (filled_whole c) (state_after (filled_whole c) c st Passed))
  unfolding filled_whole settled is_passed
  by_whole table =
      cases (eqb c.phase 0)
      (λ t. cases (eqb c.failed 0) (λ u. rw (t, u) (ends 0 _)) (λ u. rw (t, u) (table (eqb-true c.phase 0 t))))
      (λ f. rw f (ends 0 _))

  pub by_after : (o : Outcome) → (is_passed o ≡ true → page_after c < pages → P (running (on_page (page_after c) c) st)) → (is_passed o ≡ true → c.phase ≡ 0 → P (running (in_table c) (with_copy data_kind c.logical c.block st)))
      → (is_failed o ≡ true → P (running (replaced c) (with_invalid c.block st))) → P (after_due pages (running c st) o)
  unfolding after_action unfilled settled withdrawn is_passed is_failed
  by_after Passed page table again =
      cases (ltb (page_after c) pages) (λ t. rw t (page refl (ltb-true (page_after c) pages t))) (λ f. rw f (by_whole (table refl)))
  by_after Failed page table again = again refl
  by_after Silent page table again = ends _ _
  by_after Cut page table again = ends _ _
  by_after Illegal page table again = ends _ _
  by_after Protected page table again = ends _ _

-- what is known of a request that goes on
pub record Goes (g : Geometry) (long : ℕ) (r : Running) : Type 0 where
  pub fits : Fits g long r.cursor
  pub last_below : r.state.last < g.blocks

module _ (g : Geometry) (long : ℕ) (c : Cursor) (st : State) (pages : 0 < g.pages) (f : Fits g long c) (last : st.last < g.blocks) where
  -- after a fill was prepared the erase is due
  pub prepared_goes : (prepared g c st).cursor.phase < 2 → Goes g long (prepared g c st) × ((prepared g c st).cursor.step ≡ 1)
  prepared_goes =
      by_prepared g c st (λ r. r.cursor.phase < 2 → Goes g long r × (r.cursor.step ≡ 1))
      (λ a h. absurd (omega (arith, h)))
      (λ b e n h. (
        record {
          fits = record { step_most = omega arith; logical_below = f.logical_below; bytes_long = f.bytes_long; page_below = pages; block_below = λ z. chosen_below _ _ _ g.blocks st.last b last e };
          last_below = last;
        },
        refl,
      ))

  module _ (due : 0 < c.step) (o : Outcome) where
    abbrev To : Running → Type 0
    To r =
        r.cursor.phase < 2
        → Goes g long r × (answered o ≡ true) × (r.cursor.step ≡ 2 → (is_passed o ≡ true) × (r.cursor.block ≡ c.block) × (r.cursor.page ≡ page_after c)) × (is_protected o ≡ false)

    -- after an erase or a page was answered
    pub after_goes : To (after_due g.pages (running c st) o)
    after_goes =
        by_after g.pages c st To (λ a s h. absurd (omega (arith, h))) o
        (λ t e h. (
          record {
            fits = record { step_most = omega arith; logical_below = f.logical_below; bytes_long = f.bytes_long; page_below = e; block_below = λ z. f.block_below due };
            last_below = last;
          },
          passed_answered o t,
          λ z. (t, refl, refl),
          passed_unprotected o t,
        ))
        (λ t e h. (
          record {
            fits = record { step_most = omega arith; logical_below = f.logical_below; bytes_long = f.bytes_long; page_below = pages; block_below = λ z. absurd (omega (arith, z)) };
            last_below = f.block_below due;
          },
          passed_answered o t,
          λ z. absurd (omega (arith, z)),
          passed_unprotected o t,
        ))
        (λ t h. (
          record {
            fits = record { step_most = omega arith; logical_below = f.logical_below; bytes_long = f.bytes_long; page_below = pages; block_below = λ z. absurd (omega (arith, z)) };
            last_below = last;
          },
          failed_answered o t,
          λ z. absurd (omega (arith, z)),
          failed_unprotected o t,
        ))

-- fewer actions are left
module _ (left : ℕ) (c : Cursor) (st : State) (open_phase : c.phase < 2) where
  -- a number was taken
  pub prepared_less : (g : Geometry) → c.step ≡ 0 → actions_most left (prepared g c st) < actions_most left (running c st)
  unfolding actions_most weight
  prepared_less g z =
      by_prepared g c st (λ r. actions_most left r < actions_most left (running c st))
      (λ a. rw (lt-ltb c.phase 2 open_phase, z) (omega arith))
      (λ b e n. rw (lt-ltb c.phase 2 open_phase, z) (omega (arith, n)))

  -- an erase was answered, or a page program was sent
  module _ (pages : ℕ) (some : left ≡ 0 → ⊥) (o : Outcome) where
    abbrev Less : Running → Type 0
    Less r = actions_most (left - programs c) r < actions_most left (running c st)

    erase_less : c.step ≡ 1 → Less (after_due pages (running c st) o)
    unfolding actions_most weight programs
    erase_less z =
        let p = lt-ltb c.phase 2 open_phase in
        by_after pages c st Less
        (λ a s. rw (p, z) (omega arith))
        o
        (λ t e. rw (p, z) (omega arith))
        (λ t e. rw (p, z) (omega arith))
        (λ t. rw (p, z) (omega arith))

    page_less : c.step ≡ 2 → Less (after_due pages (running c st) o)
    unfolding actions_most weight programs
    page_less z =
        let p = lt-ltb c.phase 2 open_phase in
        by_after pages c st Less
        (λ a s. rw (p, z) (omega arith))
        o
        (λ t e. rw (p, z) (omega (arith, some)))
        (λ t e. rw (p, z) (omega (arith, some)))
        (λ t. rw (p, z) (omega (arith, some)))

    pub after_less : 0 < c.step → c.step ≤ 2 → Less (after_due pages (running c st) o)
    after_less due most =
        cases (eqb c.step 1)
        (λ t. erase_less (eqb-true c.step 1 t))
        (λ f. page_less (omega (arith, due, most, eqb-false c.step 1 f)))
