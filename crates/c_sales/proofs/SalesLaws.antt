-- Laws of what a call that holds sales against each other hands back. Assumes nothing.
use Prim.Native.Nat.{ℕ}
use mathlib.Core.List.{List, [], ◌∷◌}
use mathlib.Core.Path.{◌≡◌, refl, ap}
use native.Mathlib.Omega.{arith}
use borrow.Author.Tests.{eq-eqb, ne_eqb}
use lib.IntN.{ℤ}
use lib.ListN.{length, set}
use Rattle.reconcile.specs.Totals.{Reconciled, reconciled}
use Rattle.c_sales.specs.Sales.{sales_handed, sales_out, reconciling_lent}

-- an element stored
one_stored : (ys : List ℤ) (d : ℤ) → length ys ≡ 1 → set ys 0 d ≡ d ∷ []
one_stored [] d e = absurd (omega arith)
one_stored (y ∷ []) d e = refl
one_stored (y ∷ (z ∷ rest)) d e = absurd (omega arith)

module _ (bn ba mn ma totals : List ℕ) (difference : List ℤ) where
  pub totals_refused : (length totals ≡ 3 → ⊥) → sales_handed 100 totals difference ≡ reconciling_lent bn ba mn ma totals difference
  unfolding reconciling_lent
  totals_refused f = rw (ne_eqb (length totals) 3 f)

  pub difference_refused : length totals ≡ 3 → (length difference ≡ 1 → ⊥) → sales_handed 100 totals difference ≡ reconciling_lent bn ba mn ma totals difference
  unfolding reconciling_lent
  difference_refused e f = rw (eq-eqb (length totals) 3 e, ne_eqb (length difference) 1 f)

  pub sales_stored : length totals ≡ 3 → length difference ≡ 1 → (r : Reconciled) → r ≡ reconciled bn ba mn ma
      → sales_handed r.answer (r.agreed ∷ r.only_box ∷ r.only_mechanism ∷ []) (set difference 0 r.difference) ≡ reconciling_lent bn ba mn ma totals difference
  unfolding reconciling_lent
  sales_stored e f r q =
      rw (eq-eqb (length totals) 3 e, eq-eqb (length difference) 1 f, one_stored difference r.difference f)
      (ap sales_out q)
