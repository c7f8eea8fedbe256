-- A test of every page of a block, in the order of the pages and in that of a quick mount. Assumes nothing.
use Prim.Native.Nat.{ℕ, zero, suc, ◌-◌, ◌≤◌, ◌<◌}
use mathlib.Core.Bool.{Bool, true, false, cond}
use mathlib.Core.Path.{◌≡◌, refl, sym, subst}
use native.Mathlib.Omega.{arith}
use borrow.Table.Steps.{cases}
use borrow.Author.Tests.{eqb-true, eqb-false}
use lib.Dec.{eqb}
use Rattle.bools.proofs.BoolLaws.{both}
use Rattle.copies.proofs.PickLaws.{up_to}

-- two tests that hold together are the same
alike : (a b : Bool) → (a ≡ true → b ≡ true) → (b ≡ true → a ≡ true) → a ≡ b
alike true true f g = refl
alike true false f g = sym (f refl)
alike false true f g = g refl
alike false false f g = refl

-- the first n pages pass
unfoldable pub all_to : (ℕ → Bool) → ℕ → Bool
all_to test zero = true
all_to test (suc n) = cond (test n) (all_to test n) false

-- the first page, the last page and pages 1 to n pass
unfoldable pub visited : (ℕ → Bool) → ℕ → ℕ → Bool
visited test last zero = cond (test last) (cond (test 0) true false) false
visited test last (suc n) = cond (test (suc n)) (visited test last n) false

module _ (test : ℕ → Bool) where
  pub all_each : (n : ℕ) → all_to test n ≡ true → (i : ℕ) → i < n → test i ≡ true
  unfolding all_to
  all_each zero t i h = absurd (omega (arith, h))
  all_each (suc n) t i h =
      let p = both (test n) (all_to test n) t in up_to (λ (k : ℕ). test k ≡ true) n i h (all_each n p.1 i) p.0

  each_all : (n : ℕ) → ((i : ℕ) → i < n → test i ≡ true) → all_to test n ≡ true
  unfolding all_to
  each_all zero f = refl
  each_all (suc n) f = rw (f n (omega arith)) (each_all n (λ i h. f i (omega (arith, h))))

  visited_each : (last n : ℕ) → visited test last n ≡ true → (i : ℕ) → i ≤ n → test i ≡ true
  unfolding visited
  visited_each last zero t i h =
      subst (λ (k : ℕ). test k ≡ true) {x = 0} (omega (arith, h)) (both (test 0) true (both (test last) _ t).1).0
  visited_each last (suc n) t i h =
      let p = both (test (suc n)) (visited test last n) t in
      cases (eqb i (suc n))
      (λ e. subst (λ (k : ℕ). test k ≡ true) (sym (eqb-true i (suc n) e)) p.0)
      (λ e. visited_each last n p.1 i (omega (arith, h, eqb-false i (suc n) e)))

  visited_last : (last n : ℕ) → visited test last n ≡ true → test last ≡ true
  unfolding visited
  visited_last last zero t = (both (test last) _ t).0
  visited_last last (suc n) t = visited_last last n (both (test (suc n)) _ t).1

  each_visited : (last n : ℕ) → test last ≡ true → ((i : ℕ) → i ≤ n → test i ≡ true) → visited test last n ≡ true
  unfolding visited
  each_visited last zero t f = rw (t, f 0 (omega arith))
  each_visited last (suc n) t f = rw (f (suc n) (omega arith)) (each_visited last n t (λ i h. f i (omega (arith, h))))

  -- either order visits every page
  pub any_order : (pages : ℕ) → 3 ≤ pages → visited test (pages - 1) (pages - 2) ≡ all_to test pages
  any_order pages three =
      alike (visited test (pages - 1) (pages - 2)) (all_to test pages)
      (λ t.
      each_all pages
      (λ i h.
      cases (eqb i (pages - 1))
      (λ e. subst (λ (k : ℕ). test k ≡ true) (sym (eqb-true i (pages - 1) e)) (visited_last (pages - 1) (pages - 2) t))
      (λ e. let x = eqb-false i (pages - 1) e in visited_each (pages - 1) (pages - 2) t i (omega (arith, h, x)))))
      (λ t.
      let each = all_each pages t in
      each_visited (pages - 1) (pages - 2) (each (pages - 1) (omega arith)) (λ i h. each i (omega (arith, h, three))))
