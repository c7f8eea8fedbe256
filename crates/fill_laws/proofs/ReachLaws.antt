-- A request that comes from one cursor to another, in so many actions and page programs. Assumes nothing.
use Prim.Native.Nat.{ℕ, suc, ◌+◌, ◌-◌, ◌<◌, ◌≤◌}
use mathlib.Core.Bool.{true, false}
use mathlib.Core.List.{List}
use mathlib.Core.Path.{◌≡◌, ap, ap₂, ◌∙◌}
use native.Mathlib.Numerals.{add-one}
use native.Mathlib.Omega.{arith}
use borrow.Author.Tests.{ne_eqb, lt-ltb, le-ltb}
use Rattle.chip_array.specs.Device.{Setting}
use Rattle.progress.specs.Progress.{Progress}
use Rattle.fill_cursor.specs.Cursor.{prepared, after_due, programs, is_open_now}
use Rattle.fill_cursor.specs.declared.Cursor.{Cursor}
use Rattle.fill_cursor.specs.declared.Running.{Running}
use Rattle.fill_driver.specs.Driver.{form_now, performed, Ran, ran_to, gone_on, acted, ran}
use Rattle.fill_driver.proofs.RunLaws.{no_programs, acted_prepared, acted_performed, ran_acted, ran_over}

-- something is due while page programs are left
is_open : (c : Cursor) (left : ℕ) → c.phase < 2 → 0 < left → is_open_now c left ≡ true
unfolding is_open_now
is_open c left h k = rw (ne_eqb left 0 (λ z. omega (arith, z, k)), lt-ltb c.phase 2 h)

is_over : (c : Cursor) (left : ℕ) → 2 ≤ c.phase → 0 < left → is_open_now c left ≡ false
unfolding is_open_now
is_over c left h k = rw (ne_eqb left 0 (λ z. omega (arith, z, k)), le-ltb c.phase 2 h)

-- with at least one page program left after them
pub record Reaches (s : Setting) (bytes : List ℕ) (most sent : ℕ) (r : Running) (p : Progress) (r' : Running) (p' : Progress) : Type 0 where
  pub actions : ℕ
  pub pages : ℕ
  pub within : actions ≤ most
  pub few : pages ≤ sent
  pub is : (n left : ℕ) → ran s bytes (n + actions) (suc left + pages) r p ≡ ran s bytes n (suc left) r' p'

module _ (s : Setting) (bytes : List ℕ) where
  pub reach_still : (r : Running) (p : Progress) → Reaches s bytes 0 0 r p r p
  reach_still r p =
      record {
        actions = 0;
        pages = 0;
        within = omega arith;
        few = omega arith;
        is = λ n left.
            let e : n + 0 ≡ n = omega arith in
            let f : suc left + 0 ≡ suc left = omega arith in
            ap₂ (λ (x y : ℕ). ran s bytes x y r p) e f;
      }

  pub reach_on : {m n j k : ℕ} {r r' r'' : Running} {p p' p'' : Progress} → Reaches s bytes m j r p r' p' → Reaches s bytes n k r' p' r'' p'' → Reaches s bytes (m + n) (j + k) r p r'' p''
  reach_on {r = r} {r' = r'} {p = p} {p' = p'} a b =
      record {
        actions = b.actions + a.actions;
        pages = b.pages + a.pages;
        within = omega (arith, a.within, b.within);
        few = omega (arith, a.few, b.few);
        is = λ n left.
            let e : n + (b.actions + a.actions) ≡ n + b.actions + a.actions = omega arith in
            let f : suc left + (b.pages + a.pages) ≡ suc (left + b.pages) + a.pages = omega arith in
            let h : suc (left + b.pages) ≡ suc left + b.pages = omega arith in
            ap₂ (λ (x y : ℕ). ran s bytes x y r p) e f ∙ a.is (n + b.actions) (left + b.pages)
            ∙ ap (λ (y : ℕ). ran s bytes (n + b.actions) y r' p') h ∙ b.is n left;
      }

  pub reach_less : {m n j k : ℕ} {r r' : Running} {p p' : Progress} → m ≤ n → j ≤ k → Reaches s bytes m j r p r' p' → Reaches s bytes n k r p r' p'
  reach_less h e a = record { actions = a.actions; pages = a.pages; within = omega (arith, h, a.within); few = omega (arith, e, a.few); is = a.is }

  -- one action that comes to a
  reach_acted : (r : Running) (p : Progress) → r.cursor.phase < 2 → (a : Ran) → acted s bytes r p ≡ a → Reaches s bytes 1 (programs r.cursor) r p a.running a.progress
  reach_acted r p h a e =
      record {
        actions = 1;
        pages = programs r.cursor;
        within = omega arith;
        few = omega arith;
        is = λ n left.
            let k = programs r.cursor in
            let f : suc left + k - k ≡ suc left = omega arith in
            ap (λ (x : ℕ). ran s bytes x (suc left + k) r p) (add-one n)
            ∙ ran_acted s bytes r p n (suc left + k) (is_open r.cursor (suc left + k) h (omega arith))
            ∙ ap₂ (λ (x : ℕ) (y : Ran). ran s bytes n x y.running y.progress) f e;
      }

  -- a number and a block are taken
  pub reach_prepared : (r : Running) (p : Progress) → r.cursor.phase < 2 → r.cursor.step ≡ 0 → Reaches s bytes 1 0 r p (prepared s.geometry r.cursor r.state) p
  reach_prepared r p h z = reach_less (omega arith) (omega (arith, no_programs r.cursor z)) (reach_acted r p h _ (acted_prepared s bytes r p z))

  -- the erase or the page that is due comes to q
  pub reach_performed : (r : Running) (p : Progress) → r.cursor.phase < 2 → (r.cursor.step ≡ 0 → ⊥) → (q : Progress) → performed s r.cursor (form_now r) r.state.invalid bytes p ≡ q
      → Reaches s bytes 1 (programs r.cursor) r p (after_due s.geometry.pages r q.outcome) (gone_on q)
  reach_performed r p h some q e =
      reach_acted r p h (ran_to (gone_on q) (after_due s.geometry.pages r q.outcome))
      (acted_performed s bytes r p some ∙ ap (λ (x : Progress). ran_to (gone_on x) (after_due s.geometry.pages r x.outcome)) e)

  -- one that has ended is where any number of actions and page programs leads, enough for it
  pub reach_end : {m k : ℕ} {r r' : Running} {p p' : Progress} → Reaches s bytes m k r p r' p' → 2 ≤ r'.cursor.phase → (n left : ℕ) → m ≤ n → k < left → ran s bytes n left r p ≡ ran_to p' r'
  reach_end {r = r} {r' = r'} {p = p} {p' = p'} a h n left e f =
      let x : n ≡ n - a.actions + a.actions = omega (arith, e, a.within) in
      let y : left ≡ suc (left - a.pages - 1) + a.pages = omega (arith, f, a.few) in
      ap₂ (λ (i j : ℕ). ran s bytes i j r p) x y ∙ a.is (n - a.actions) (left - a.pages - 1)
      ∙ ran_over s bytes r' p' (n - a.actions) (suc (left - a.pages - 1)) (is_over r'.cursor (suc (left - a.pages - 1)) h (omega arith))
