-- What every operation keeps, a run keeps; it leaves no more cycles than it found. Assumes nothing.
use Prim.Native.Nat.{ℕ, zero, suc, ◌-◌, ◌≤◌}
use mathlib.Core.List.{List, []}
use mathlib.Core.Path.{refl, ap}
use native.Mathlib.Omega.{arith}
use borrow.Table.Steps.{cases}
use lib.Dec.{eqb}
use Rattle.chip_array.specs.Device.{Setting}
use Rattle.bus.specs.Line.{Line}
use Rattle.bus_polling.specs.Outcomes.{is_failed}
use Rattle.bus_polling.specs.declared.Outcome.TheVariants.{Passed}
use Rattle.progress.specs.Progress.{Progress, progress}
use Rattle.progress.specs.Kept.{Kept}
use Rattle.progress.proofs.CountLaws.{allowance_kept}
use Rattle.fill.proofs.KeepLaws.{page_keeps}
use Rattle.fill_cursor.specs.Cursor.{programs, is_open_now, actions_most}
use Rattle.fill_cursor.specs.declared.Cursor.{Cursor}
use Rattle.fill_cursor.specs.declared.Running.{Running}
use Rattle.fill_driver.specs.Driver.{form_now, copy_of, source_of, performed, gone, gone_on, acted, ran, RanAs}

module _ (s : Setting) (P : Progress → Type 0) (k : Kept s P) where
  performed_keeps : (c : Cursor) (form : ℕ) (invalid bytes : List ℕ) (p : Progress) → P p → P (performed s c form invalid bytes p)
  unfolding performed
  performed_keeps c form invalid bytes p h =
      cases (eqb c.step 1)
      (λ t. rw t (k.erase c.block p h))
      (λ t. rw t (page_keeps s P k c.block (copy_of c) c.page (source_of s.geometry c form invalid bytes c.page) p h))

  gone_keeps : (q : Progress) → P q → P (gone_on q)
  unfolding gone
  gone_keeps q h = cases (is_failed q.outcome) (λ t. rw t (k.resume q t h)) (λ t. rw t h)

  acted_keeps : (bytes : List ℕ) (r : Running) (p : Progress) → P p → P (acted s bytes r p).progress
  unfolding acted
  acted_keeps bytes r p h =
      cases (eqb r.cursor.step 0)
      (λ t. rw t h)
      (λ t. rw t (gone_keeps _ (performed_keeps r.cursor (form_now r) r.state.invalid bytes p h)))

  pub ran_keeps : (bytes : List ℕ) (n left : ℕ) (r : Running) (p : Progress) → P p → P (ran s bytes n left r p).progress
  unfolding ran
  ran_keeps bytes zero left r p h = h
  ran_keeps bytes (suc n) left r p h =
      cases (is_open_now r.cursor left)
      (λ t. rw t (ran_keeps bytes n (left - programs r.cursor) (acted s bytes r p).running (acted s bytes r p).progress (acted_keeps bytes r p h)))
      (λ t. rw t h)

pub run-left : (s : Setting) (bytes : List ℕ) (left : ℕ) (start : Running) (l m : Line) (r : Running) → RanAs s bytes left start l m r → m.left ≤ l.left
run-left s bytes left start l m r d =
    omega (arith, ran_keeps s _ (allowance_kept s _) bytes (actions_most left start) left start (progress l Passed [] []) refl, ap (λ (x : Line). x.left) (d.line_is [] []))
