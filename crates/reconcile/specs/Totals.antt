-- The four totals of two lists of sales, the box's and the coin mechanism's, each as a sum over a list's sales.
use Rattle.std.specs.Prelude.{ℕ, ◌+◌, cond, List, [], ◌∷◌, eqb, ℤ, pos, ◌+ℤ◌}
use Rattle.std.proofs.Math.Option.{Option, none, some}
use Rattle.std.proofs.Math.IntN.{sub_ℕ}
use Rattle.reconcile.specs.Sales.{Sale, sales, accepted, amount_of}

-- what a sale of amount a counts, where the other list has this for its number: if the amounts are equal
abbrev pub if_agreed : Option ℕ → ℕ → ℕ
if_agreed none a = 0
if_agreed (some other) a = cond (eqb a other) a 0

-- if the other list has not the sale
abbrev pub if_missing : Option ℕ → ℕ → ℕ
if_missing none a = a
if_missing (some other) a = 0

-- this amount minus the other (sub_ℕ: the integer a − b), if both lists have the sale: 0 where they are equal
abbrev pub if_both : Option ℕ → ℕ → ℤ
if_both none a = pos 0
if_both (some other) a = sub_ℕ a other

-- the sum over a list's sales
unfoldable pub sum_over : (Option ℕ → ℕ → ℕ) → List Sale → List Sale → ℕ
sum_over count [] other = 0
sum_over count (s ∷ rest) other = count (amount_of other s.number) s.amount + sum_over count rest other

-- the amounts of sales that both lists have with the same amount
abbrev pub agreed : List Sale → List Sale → ℕ
agreed sold other = sum_over if_agreed sold other

-- the amounts of sales that the other list has not
abbrev pub only_in : List Sale → List Sale → ℕ
only_in sold other = sum_over if_missing sold other

-- over the sales in both, this list's amounts minus the other's
unfoldable pub difference : List Sale → List Sale → ℤ
difference [] other = pos 0
difference (s ∷ rest) other = if_both (amount_of other s.number) s.amount +ℤ difference rest other

-- the answer, 0 or 2, and the four totals
pub record Reconciled : Type 0 where
  pub answer : ℕ
  pub agreed : ℕ
  pub only_box : ℕ
  pub only_mechanism : ℕ
  pub difference : ℤ

abbrev pub totals : List Sale → List Sale → Reconciled
totals box mechanism =
    record {
      answer = 0;
      agreed = agreed box mechanism;
      only_box = only_in box mechanism;
      only_mechanism = only_in mechanism box;
      difference = difference box mechanism;
    }

abbrev pub refused : Reconciled
refused = record { answer = 2; agreed = 0; only_box = 0; only_mechanism = 0; difference = pos 0 }

-- of any four lists
unfoldable pub reconciled : List ℕ → List ℕ → List ℕ → List ℕ → Reconciled
reconciled box_numbers box_amounts mechanism_numbers mechanism_amounts =
    cond (accepted box_numbers box_amounts)
    (cond (accepted mechanism_numbers mechanism_amounts) (totals (sales box_numbers box_amounts) (sales mechanism_numbers mechanism_amounts)) refused)
    refused
