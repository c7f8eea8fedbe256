-- A request that has just ended with answer 0: what was due was answered, and the search for the next block starts on the chip. Assumes nothing.
use Prim.Native.Nat.{ℕ, ◌<◌}
use mathlib.Core.Bool.{true}
use mathlib.Core.Path.{◌≡◌, refl}
use native.Mathlib.Omega.{arith}
use borrow.Table.Steps.{cases}
use lib.Dec.{eqb, ltb}
use Rattle.std.specs.Prelude.{Option, Some, None}
use Rattle.geometry.specs.declared.Geometry.{Geometry}
use Rattle.bus_polling.specs.Outcomes.{is_passed, is_failed, is_silent, is_cut_off, answered}
use Rattle.bus_polling.specs.declared.Outcome.{Outcome}
use Rattle.bus_polling.specs.declared.Outcome.TheVariants.{Passed, Failed, Silent, Cut, Illegal, Protected}
use Rattle.state.specs.State.{spent}
use Rattle.state.specs.declared.State.{State}
use Rattle.request.specs.Call.{stop_answer}
use Rattle.fill_cursor.specs.Cursor.{running, choice_of, on_block, prepared, page_after, filled_whole, unfilled, after_action, withdrawn, settled, state_after, after_due}
use Rattle.fill_cursor.specs.declared.Cursor.{Cursor}
use Rattle.fill_cursor.specs.declared.Running.{Running}

-- it does not end so where a number and a block are taken
module _ (g : Geometry) (c : Cursor) (st : State) (due : c.phase < 2) where
  abbrev Unfinished : Running → Type 0
  Unfinished r = (r.cursor.phase < 2 → ⊥) → r.cursor.answer ≡ 0 → ⊥

  by_choice : (x : Option ℕ) → Unfinished (on_block c st x)
  unfolding on_block
  by_choice None n z = omega (arith, z)
  by_choice (Some b) n z = n due

  pub prepared_unfinished : Unfinished (prepared g c st)
  unfolding prepared
  prepared_unfinished = cases (spent st) (λ t. rw t (λ n z. omega (arith, z))) (λ f. rw f (by_choice (choice_of g st)))

-- it does after the last page of a fill
module _ (pages blocks : ℕ) (c : Cursor) (st : State) (due : c.phase < 2) (below : c.block < blocks) where
  abbrev Finished : Outcome → Running → Type 0
  Finished o r =
      (r.cursor.phase < 2 → ⊥) → r.cursor.answer ≡ 0 → (answered o ≡ true) × (r.state.last < blocks)

  whole_finished : Finished Passed (running (filled_whole c) (state_after (filled_whole c) c st Passed))
  unfolding filled_whole settled is_passed answered
  whole_finished =
      cases (eqb c.phase 0)
      (λ t. cases (eqb c.failed 0) (λ u. rw (t, u) (λ n z. (refl, below))) (λ u. rw (t, u) (λ n z. absurd (n (omega arith)))))
      (λ f. rw f (λ n z. (refl, below)))

  pub after_finished : (o : Outcome) → Finished o (after_due pages (running c st) o)
  unfolding after_action unfilled settled withdrawn stop_answer is_passed is_failed is_silent is_cut_off
  after_finished Passed =
      cases (ltb (page_after c) pages) (λ t. rw t (λ n z. absurd (n due))) (λ f. rw f whole_finished)
  after_finished Failed = λ n z. absurd (n due)
  after_finished Silent = λ n z. absurd (omega (arith, z))
  after_finished Cut = λ n z. absurd (omega (arith, z))
  after_finished Illegal = λ n z. absurd (omega (arith, z))
  after_finished Protected = λ n z. absurd (omega (arith, z))
