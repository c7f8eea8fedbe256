-- A run in portions: so many page programs, then so many more, come where all of them at once do. Assumes nothing.
use Prim.Native.Nat.{ℕ, zero, suc, ◌+◌, ◌-◌, ◌<◌, ◌≤◌}
use mathlib.Core.Bool.{true, false}
use mathlib.Core.List.{List}
use mathlib.Core.Path.{◌≡◌, sym, ap, subst, ◌∙◌}
use native.Mathlib.Omega.{arith}
use borrow.Table.Steps.{cases}
use borrow.Author.Tests.{eqb-true, eqb-false, ne_eqb, ltb-false, lt-ltb, le-ltb}
use lib.Dec.{eqb, ltb}
use Rattle.chip_array.specs.Device.{Setting}
use Rattle.progress.specs.Progress.{Progress}
use Rattle.fill_cursor.specs.Cursor.{prepared, programs, is_open_now, actions_most}
use Rattle.fill_cursor.specs.declared.Cursor.{Cursor}
use Rattle.fill_cursor.specs.declared.Running.{Running}
use Rattle.fill_cursor.proofs.FitLaws.{by_prepared, by_after, prepared_less, after_less}
use Rattle.fill_driver.specs.Driver.{Ran, acted, ran, run_for}
use Rattle.fill_driver.proofs.RunLaws.{no_programs, open_left, open_phase, programs-most, acted_prepared, acted_performed, ran_acted, ran_over}

open_more : (c : Cursor) (a b : ℕ) → is_open_now c a ≡ true → is_open_now c (a + b) ≡ true
unfolding is_open_now
open_more c a b t =
    let some = open_left c a t in
    rw (ne_eqb (a + b) 0 (λ z. some (omega (arith, z))), lt-ltb c.phase 2 (open_phase c a t))

pub over-ended : (c : Cursor) (a : ℕ) → 2 ≤ c.phase → is_open_now c a ≡ false
unfolding is_open_now
over-ended c a h = cases (eqb a 0) (λ t. rw t) (λ t. rw (t, le-ltb c.phase 2 h))

pub over_so : (c : Cursor) (a : ℕ) → (a ≡ 0 → ⊥) → is_open_now c a ≡ false → 2 ≤ c.phase
unfolding is_open_now
over_so c a n f =
    let e : ltb c.phase 2 ≡ false = sym (rw (ne_eqb a 0 n)) ∙ f in
    ltb-false c.phase 2 e

module _ (s : Setting) (bytes : List ℕ) where
  -- one action keeps the step in range and leaves fewer actions
  module _ (left : ℕ) (r : Running) (p : Progress) (most : r.cursor.step ≤ 2) where
    pub next_step : (acted s bytes r p).running.cursor.step ≤ 2
    next_step =
        cases (eqb r.cursor.step 0)
        (λ t.
        let e = acted_prepared s bytes r p (eqb-true r.cursor.step 0 t) in
        subst (λ (x : Ran). x.running.cursor.step ≤ 2) (sym e)
        (by_prepared s.geometry r.cursor r.state (λ x. x.cursor.step ≤ 2) (λ a. omega arith) (λ b h n. omega arith)))
        (λ t.
        let e = acted_performed s bytes r p (eqb-false r.cursor.step 0 t) in
        subst (λ (x : Ran). x.running.cursor.step ≤ 2) (sym e)
        (by_after s.geometry.pages r.cursor r.state (λ x. x.cursor.step ≤ 2) (λ a x. omega arith) _ (λ h k. omega arith) (λ h k. omega arith) (λ h. omega arith)))

    pub next_less : is_open_now r.cursor left ≡ true → actions_most (left - programs r.cursor) (acted s bytes r p).running < actions_most left r
    next_less o =
        let phase = open_phase r.cursor left o in
        cases (eqb r.cursor.step 0)
        (λ t.
        let z = eqb-true r.cursor.step 0 t in
        let k : left - programs r.cursor ≡ left = omega (arith, no_programs r.cursor z) in
        subst (λ (x : Ran). actions_most (left - programs r.cursor) x.running < actions_most left r) (sym (acted_prepared s bytes r p z))
        (subst (λ (n : ℕ). actions_most n (prepared s.geometry r.cursor r.state) < actions_most left r) (sym k) (prepared_less left r.cursor r.state phase s.geometry z)))
        (λ t.
        let z = eqb-false r.cursor.step 0 t in
        subst (λ (x : Ran). actions_most (left - programs r.cursor) x.running < actions_most left r) (sym (acted_performed s bytes r p z))
        (after_less left r.cursor r.state phase s.geometry.pages (open_left r.cursor left o) _ (omega (arith, z)) most))

  -- more actions than there can be change nothing
  ran_enough : (n m left : ℕ) (r : Running) (p : Progress) → r.cursor.step ≤ 2 → actions_most left r ≤ n → actions_most left r ≤ m → ran s bytes n left r p ≡ ran s bytes m left r p
  ran_enough zero m left r p most h k =
      cases (is_open_now r.cursor left)
      (λ t. absurd (omega (arith, next_less left r p most t, h)))
      (λ f. ran_over s bytes r p zero left f ∙ sym (ran_over s bytes r p m left f))
  ran_enough (suc n) m left r p most h k =
      cases (is_open_now r.cursor left)
      (λ t.
      let less = next_less left r p most t in
      let e : m ≡ suc (m - 1) = omega (arith, less, k) in
      ran_acted s bytes r p n left t
      ∙ ran_enough n (m - 1) (left - programs r.cursor) (acted s bytes r p).running (acted s bytes r p).progress (next_step left r p most) (omega (arith, less, h)) (omega (arith, less, k))
      ∙ sym (ap (λ (x : ℕ). ran s bytes x left r p) e ∙ ran_acted s bytes r p (m - 1) left t))
      (λ f. ran_over s bytes r p (suc n) left f ∙ sym (ran_over s bytes r p m left f))

  abbrev Then : ℕ → ℕ → Running → Progress → Ran
  Then a b r p = run_for s bytes b (run_for s bytes a r p).running (run_for s bytes a r p).progress

  -- the first portion sends nothing
  portion_none : (n a b : ℕ) (r : Running) (p : Progress) → r.cursor.step ≤ 2 → actions_most (a + b) r ≤ n → is_open_now r.cursor a ≡ false → ran s bytes n (a + b) r p ≡ Then a b r p
  portion_none n a b r p most h f =
      let none = ran_over s bytes r p (actions_most a r) a f in
      let first : Then a b r p ≡ run_for s bytes b r p = ap (λ (x : Ran). run_for s bytes b x.running x.progress) none in
      cases (eqb a 0)
      (λ t.
      let e : a + b ≡ b = omega (arith, eqb-true a 0 t) in
      let few : actions_most b r ≤ n = subst (λ (x : ℕ). actions_most x r ≤ n) e h in
      ap (λ (x : ℕ). ran s bytes n x r p) e ∙ ran_enough n (actions_most b r) b r p most few (omega arith) ∙ sym first)
      (λ t.
      let ended = over_so r.cursor a (eqb-false a 0 t) f in
      ran_over s bytes r p n (a + b) (over-ended r.cursor (a + b) ended) ∙ sym (ran_over s bytes r p (actions_most b r) b (over-ended r.cursor b ended)) ∙ sym first)

  -- the first portion's run, one action on
  first_on : (a : ℕ) (r : Running) (p : Progress) → r.cursor.step ≤ 2 → is_open_now r.cursor a ≡ true → run_for s bytes a r p ≡ run_for s bytes (a - programs r.cursor) (acted s bytes r p).running (acted s bytes r p).progress
  first_on a r p most t =
      let less = next_less a r p most t in
      let e : actions_most a r ≡ suc (actions_most a r - 1) = omega (arith, less) in
      ap (λ (x : ℕ). ran s bytes x a r p) e
      ∙ ran_acted s bytes r p (actions_most a r - 1) a t
      ∙ ran_enough (actions_most a r - 1) (actions_most (a - programs r.cursor) (acted s bytes r p).running) (a - programs r.cursor) (acted s bytes r p).running (acted s bytes r p).progress (next_step a r p most) (omega (arith, less)) (omega arith)

  portions_so : (n a b : ℕ) (r : Running) (p : Progress) → r.cursor.step ≤ 2 → actions_most (a + b) r ≤ n → ran s bytes n (a + b) r p ≡ Then a b r p
  portions_so zero a b r p most h =
      cases (is_open_now r.cursor a)
      (λ t. absurd (omega (arith, next_less (a + b) r p most (open_more r.cursor a b t), h)))
      (portion_none zero a b r p most h)
  portions_so (suc n) a b r p most h =
      cases (is_open_now r.cursor a)
      (λ t.
      let c = r.cursor in
      let both = open_more c a b t in
      let less = next_less (a + b) r p most both in
      let e : a + b - programs c ≡ a - programs c + b = omega (arith, programs-most c a t) in
      let x = acted s bytes r p in
      let few : actions_most (a - programs c + b) x.running ≤ n = subst (λ (k : ℕ). actions_most k x.running ≤ n) e (omega (arith, less, h)) in
      ran_acted s bytes r p n (a + b) both
      ∙ ap (λ (k : ℕ). ran s bytes n k x.running x.progress) e
      ∙ portions_so n (a - programs c) b x.running x.progress (next_step a r p most) few
      ∙ ap (λ (y : Ran). run_for s bytes b y.running y.progress) (sym (first_on a r p most t)))
      (portion_none (suc n) a b r p most h)

  -- a page programs, then b more
  pub ran_portions : (a b : ℕ) (r : Running) (p : Progress) → r.cursor.step ≤ 2 → run_for s bytes (a + b) r p ≡ Then a b r p
  ran_portions a b r p most = portions_so (actions_most (a + b) r) a b r p most (omega arith)
