-- A law of runs by their actions, and where a run can stand when its page programs are sent. Assumes nothing.
use Prim.Native.Nat.{ℕ, zero, suc, ◌-◌, ◌≤◌, ◌<◌}
use mathlib.Core.Bool.{true, false}
use mathlib.Core.List.{List}
use mathlib.Core.Path.{◌≡◌, sym, subst}
use native.Mathlib.Omega.{arith}
use borrow.Table.Steps.{cases}
use borrow.Author.Tests.{eqb-true, eqb-false}
use lib.Dec.{eqb}
use Rattle.chip_array.specs.Device.{Setting}
use Rattle.bus_polling.specs.declared.Outcome.{Outcome}
use Rattle.progress.specs.Progress.{Progress}
use Rattle.fill_cursor.specs.Cursor.{after_due, programs, is_open_now, actions_most}
use Rattle.fill_cursor.specs.declared.Running.{Running}
use Rattle.fill_cursor.proofs.FitLaws.{by_after}
use Rattle.fill_driver.specs.Driver.{Ran, ran_to, acted, ran, run_for}
use Rattle.fill_driver.proofs.RunLaws.{open_left, open_phase, acted_performed, ran_acted, ran_over}
use Rattle.fill_laws.proofs.PortionLaws.{over_so, next_step, next_less}
use Rattle.fill_portions.proofs.RunLaws.{Shape, acted_shape}

-- what holds where nothing is due, and of a run if it holds of what follows its first action, holds of every run
module _ (s : Setting) (bytes : List ℕ) (P : ℕ → Running → Progress → Ran → Type 0)
    (over : (left : ℕ) (r : Running) (p : Progress) → is_open_now r.cursor left ≡ false → P left r p (ran_to p r))
    (step : (left : ℕ) (r : Running) (p : Progress) → r.cursor.step ≤ 2 → is_open_now r.cursor left ≡ true → (x : Ran) → P (left - programs r.cursor) (acted s bytes r p).running (acted s bytes r p).progress x → P left r p x) where
  by_actions : (n left : ℕ) (r : Running) (p : Progress) → r.cursor.step ≤ 2 → actions_most left r ≤ n → P left r p (ran s bytes n left r p)
  by_actions zero left r p most h =
      cases (is_open_now r.cursor left)
      (λ t. absurd (omega (arith, next_less s bytes left r p most t, h)))
      (λ f. subst (P left r p) (sym (ran_over s bytes r p zero left f)) (over left r p f))
  by_actions (suc n) left r p most h =
      cases (is_open_now r.cursor left)
      (λ t.
      subst (P left r p) (sym (ran_acted s bytes r p n left t))
      (step left r p most t _
      (by_actions n (left - programs r.cursor) (acted s bytes r p).running (acted s bytes r p).progress (next_step s bytes left r p most) (omega (arith, next_less s bytes left r p most t, h)))))
      (λ f. subst (P left r p) (sym (ran_over s bytes r p (suc n) left f)) (over left r p f))

  pub by_run : (left : ℕ) (r : Running) (p : Progress) → r.cursor.step ≤ 2 → P left r p (run_for s bytes left r p)
  by_run left r p most = by_actions (actions_most left r) left r p most (omega arith)

-- a run keeps the shape
pub run_shape : (s : Setting) (bytes : List ℕ) (left : ℕ) (r : Running) (p : Progress) → r.cursor.step ≤ 2 → Shape r → (run_for s bytes left r p).running.cursor.phase < 2 → Shape (run_for s bytes left r p).running
run_shape s bytes left r p most x =
    by_run s bytes (λ left r p y. (r.cursor.phase < 2 → Shape r) → y.running.cursor.phase < 2 → Shape y.running)
    (λ left r p f w. w)
    (λ left r p most t y on w. on (acted_shape s bytes r p (w (open_phase r.cursor left t))))
    left r p most (λ h. x)

-- after an erase or a page no erase is due: a number and a block come first
after_no_erase : (pages : ℕ) (r : Running) (o : Outcome) → (after_due pages r o).cursor.step ≡ 1 → ⊥
after_no_erase pages r o =
    by_after pages r.cursor r.state (λ y. y.cursor.step ≡ 1 → ⊥) (λ a st e. absurd (omega (arith, e))) o
    (λ t h e. absurd (omega (arith, e))) (λ t h e. absurd (omega (arith, e))) (λ t e. absurd (omega (arith, e)))

-- where all page programs were sent and the request goes on, no erase is due
pub run_paused : (s : Setting) (bytes : List ℕ) (left : ℕ) (r : Running) (p : Progress) → r.cursor.step ≤ 2 → (r.cursor.step ≡ 1 → ⊥) → (run_for s bytes left r p).running.cursor.phase < 2 → (run_for s bytes left r p).running.cursor.step ≡ 1 → ⊥
unfolding programs
run_paused s bytes left r p most none =
    by_run s bytes (λ left r p y. (left ≡ 0 → r.cursor.step ≡ 1 → ⊥) → y.running.cursor.phase < 2 → y.running.cursor.step ≡ 1 → ⊥)
    (λ left r p f w h e.
    cases (eqb left 0)
    (λ t. w (eqb-true left 0 t) e)
    (λ t. omega (arith, h, over_so r.cursor left (eqb-false left 0 t) f)))
    (λ left r p most t y on w.
    on
    (λ z e.
    cases (eqb r.cursor.step 2)
    (λ u.
    let two = eqb-true r.cursor.step 2 u in
    after_no_erase s.geometry.pages r _ (subst (λ (x : Ran). x.running.cursor.step ≡ 1) (acted_performed s bytes r p (λ k. omega (arith, k, two))) e))
    (λ u.
    let all : left - 0 ≡ 0 = rw u at z in
    open_left r.cursor left t (omega (arith, all)))))
    left r p most (λ z. none)
