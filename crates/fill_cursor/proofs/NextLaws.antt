-- What is due next, by the tests that the code makes. Assumes nothing.
use Prim.Native.Nat.{ℕ, ◌≤◌, ◌<◌}
use mathlib.Core.Bool.{true, false}
use mathlib.Core.Path.{◌≡◌, refl, sym, ap}
use native.Mathlib.Omega.{arith}
use borrow.Author.Tests.{eq-eqb, ne_eqb, lt-ltb, le-ltb}
use Rattle.std.specs.Prelude.{Option, Some, None}
use Rattle.geometry.specs.declared.Geometry.{Geometry}
use Rattle.bus_polling.specs.Outcomes.{is_passed, is_failed}
use Rattle.bus_polling.specs.declared.Outcome.{Outcome}
use Rattle.request.specs.Call.{stop_answer}
use Rattle.pages.specs.Layout.{data_kind}
use Rattle.state.specs.State.{blank, next_number, spent, taken, with_invalid, with_copy, with_table}
use Rattle.state.specs.declared.State.{State}
use Rattle.fill_cursor.specs.Cursor.{running, ended, filling, on_page, in_table, replaced, stopped, choice_of, on_block, prepared, page_after, filled_whole, unfilled, after_action, withdrawn, settled}
use Rattle.fill_cursor.specs.declared.Cursor.{Cursor}

-- a fill is prepared: no number is left, no block is, or both were taken
module _ (g : Geometry) (c : Cursor) (st : State) where
  pub prepared_spent : spent st ≡ true → stopped 9 ≡ prepared g c st
  unfolding prepared
  prepared_spent t = rw t

  pub prepared_worn : spent st ≡ false → choice_of g st ≡ None → stopped 8 ≡ prepared g c st
  unfolding prepared on_block
  prepared_worn f e = rw f (ap (on_block c st) (sym e))

  pub prepared_block : spent st ≡ false → (b : ℕ) → choice_of g st ≡ Some b → running (filling b (next_number st) c) (taken st) ≡ prepared g c st
  unfolding prepared on_block
  prepared_block f b e = rw f (ap (on_block c st) (sym e))

-- the last page of a fill passed
module _ (c : Cursor) where
  pub whole_table : (c.phase ≡ 0 → ⊥) → ended 0 ≡ filled_whole c
  unfolding filled_whole
  whole_table n = rw (ne_eqb c.phase 0 n)

  pub whole_copy : c.phase ≡ 0 → c.failed ≡ 0 → ended 0 ≡ filled_whole c
  unfolding filled_whole
  whole_copy e f = rw (eq-eqb c.phase 0 e, eq-eqb c.failed 0 f)

  pub whole_failed : c.phase ≡ 0 → (c.failed ≡ 0 → ⊥) → in_table c ≡ filled_whole c
  unfolding filled_whole
  whole_failed e f = rw (eq-eqb c.phase 0 e, ne_eqb c.failed 0 f)

-- by how what was due ended
module _ (c : Cursor) (o : Outcome) where
  pub replaced_failed : is_failed o ≡ true → replaced c ≡ unfilled c o
  unfolding unfilled
  replaced_failed t = rw t

  pub stopped_unfilled : is_failed o ≡ false → ended (stop_answer o) ≡ unfilled c o
  unfolding unfilled
  stopped_unfilled f = rw f

module _ (pages : ℕ) (c : Cursor) (o : Outcome) where
  pub after_unfilled : is_passed o ≡ false → unfilled c o ≡ after_action pages c o
  unfolding after_action
  after_unfilled f = rw f

  pub after_page : is_passed o ≡ true → page_after c < pages → on_page (page_after c) c ≡ after_action pages c o
  unfolding after_action
  after_page t h = rw (t, lt-ltb (page_after c) pages h)

  pub after_whole : is_passed o ≡ true → pages ≤ page_after c → filled_whole c ≡ after_action pages c o
  unfolding after_action
  after_whole t h = rw (t, le-ltb (page_after c) pages h)

module _ (b : ℕ) (st : State) (o : Outcome) where
  pub withdrawn_failed : is_failed o ≡ true → with_invalid b st ≡ withdrawn b st o
  unfolding withdrawn
  withdrawn_failed t = rw t

  pub withdrawn_stopped : is_failed o ≡ false → blank 2 ≡ withdrawn b st o
  unfolding withdrawn
  withdrawn_stopped f = rw f

module _ (c : Cursor) (st : State) (o : Outcome) where
  pub settled_unfilled : is_passed o ≡ false → withdrawn c.block st o ≡ settled c st o
  unfolding settled
  settled_unfilled f = rw f

  pub settled_table : is_passed o ≡ true → (c.phase ≡ 0 → ⊥) → with_table c.block st ≡ settled c st o
  unfolding settled
  settled_table t n = rw (t, ne_eqb c.phase 0 n)

  pub settled_copy : is_passed o ≡ true → c.phase ≡ 0 → with_copy data_kind c.logical c.block st ≡ settled c st o
  unfolding settled
  settled_copy t e = rw (t, eq-eqb c.phase 0 e)
