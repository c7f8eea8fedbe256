-- Sums over the pages of a block, and the cycles and fate words of a fill as such sums. Assumes nothing.
use Prim.Native.Nat.{ℕ, zero, suc, ◌+◌, ◌-◌, ◌*◌, ◌≤◌, ◌<◌}
use mathlib.Core.Bool.{cond}
use mathlib.Core.Path.{◌≡◌, refl, sym, ap, ◌∙◌}
use native.Mathlib.Nat.{suc-mul, mul-add}
use native.Mathlib.Omega.{arith}
use borrow.Table.Steps.{cases}
use borrow.Author.Tests.{eqb-true, eqb-false, ne_eqb}
use lib.Dec.{eqb}
use Rattle.geometry.specs.declared.Geometry.{Geometry}
use Rattle.geometry.specs.Limits.{Valid}
use Rattle.damage.specs.Run.{read_most, program_most, erase_most}
use Rattle.dearest.specs.Dearest.{copy_cycles, table_cycles}
use Rattle.write_dearest.specs.Exactly.{sum_to}

module _ (f h : ℕ → ℕ) where
  pub sum-most : (n : ℕ) → ((i : ℕ) → i < n → f i ≤ h i) → sum_to f n ≤ sum_to h n
  unfolding sum_to
  sum-most zero less = omega arith
  sum-most (suc n) less = omega (arith, sum-most n (λ i l. less i (omega (arith, l))), less n (omega arith))

  pub sum_same : (n : ℕ) → ((i : ℕ) → i < n → f i ≡ h i) → sum_to f n ≡ sum_to h n
  unfolding sum_to
  sum_same zero e = refl
  sum_same (suc n) e = omega (arith, sum_same n (λ i l. e i (omega (arith, l))), e n (omega arith))

-- as much for each
pub sum_each : (a n : ℕ) → sum_to (λ i. a) n ≡ n * a
unfolding sum_to
sum_each a zero = omega arith
sum_each a (suc n) = omega (arith, sum_each a n, suc-mul n a)

-- a for one of them, and b more for each other one
module _ (a b first : ℕ) where
  abbrev pub but : ℕ → ℕ
  but i = cond (eqb i first) a (b + a)

  sum_before : (n : ℕ) → n ≤ first → sum_to but n ≡ n * (b + a)
  unfolding sum_to
  sum_before zero h = omega arith
  sum_before (suc n) h =
      rw (ne_eqb n first (λ e. omega (arith, e, h))) (omega (arith, sum_before n (omega (arith, h)), suc-mul n (b + a)))

  pub sum_but : (n : ℕ) → first < n → sum_to but n + b ≡ n * (b + a)
  unfolding sum_to
  sum_but zero h = absurd (omega (arith, h))
  sum_but (suc n) h =
      cases (eqb n first)
      (λ t. rw t (omega (arith, sum_before n (omega (arith, eqb-true n first t)), suc-mul n (b + a))))
      (λ f. rw f (omega (arith, sum_but n (omega (arith, h, eqb-false n first f)), suc-mul n (b + a))))

module _ (g : Geometry) (v : Valid g) where
  -- every page but one is read before its program
  pub copy_sum : (first : ℕ) → first < g.pages → erase_most + sum_to (but (program_most g) (read_most g.main) first) g.pages ≡ copy_cycles g
  copy_sum first h =
      let r = read_most g.main in
      let less : suc (g.pages - 1) ≡ g.pages = omega (arith, v.pages_least) in
      let reads : g.pages * r ≡ (g.pages - 1) * r + r = ap (λ (k : ℕ). k * r) (sym less) ∙ suc-mul (g.pages - 1) r in
      omega (arith, sum_but (program_most g) r first g.pages h, mul-add g.pages r (program_most g), reads)

  pub table_sum : erase_most + sum_to (λ i. program_most g) g.pages ≡ table_cycles g
  table_sum = omega (arith, sum_each (program_most g) g.pages)

-- a sum grows
pub sum_grows : (f : ℕ → ℕ) (n m : ℕ) → n ≤ m → sum_to f n ≤ sum_to f m
unfolding sum_to
sum_grows f n zero h = let e : n ≡ 0 = omega (arith, h) in rw e (omega arith)
sum_grows f n (suc m) h =
    cases (eqb n (suc m))
    (λ t. rw (eqb-true n (suc m) t) (omega arith))
    (λ x. omega (arith, sum_grows f n m (omega (arith, h, eqb-false n (suc m) x))))
