-- The box's sales against the coin mechanism's as a program in C asks for them: lists in, an answer, three totals and a difference out.
use Rattle.std.specs.Prelude.{ℕ, cond, List, [], ◌∷◌, eqb, ℤ, length}
use Rattle.reconcile.specs.Totals.{Reconciled, reconciled}

-- the answer, and the two lent buffers as they are left
pub record SalesHanded : Type 0 where
  pub answer : ℕ
  pub totals : List ℕ
  pub difference : List ℤ

abbrev pub sales_handed : ℕ → List ℕ → List ℤ → SalesHanded
sales_handed answer totals difference = record { answer = answer; totals = totals; difference = difference }

abbrev pub sales_out : Reconciled → SalesHanded
sales_out r = sales_handed r.answer (r.agreed ∷ r.only_box ∷ r.only_mechanism ∷ []) (r.difference ∷ [])

-- lent are room for three totals and for one difference; else 100, and nothing is changed
unfoldable pub reconciling_lent : List ℕ → List ℕ → List ℕ → List ℕ → List ℕ → List ℤ → SalesHanded
reconciling_lent box_numbers box_amounts mechanism_numbers mechanism_amounts totals difference =
    cond (eqb (length totals) 3)
    (cond (eqb (length difference) 1) (sales_out (reconciled box_numbers box_amounts mechanism_numbers mechanism_amounts)) (sales_handed 100 totals difference))
    (sales_handed 100 totals difference)
