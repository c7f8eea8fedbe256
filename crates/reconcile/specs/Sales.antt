-- A list of sales: numbers with amounts; which lists are accepted; the amount that a list has for a sale number.
use Rattle.std.specs.Prelude.{ℕ, Bool, true, false, cond, List, [], ◌∷◌, eqb, leb, ltb, length}
use Rattle.std.proofs.Math.Option.{Option, none, some}

pub record Sale : Type 0 where
  pub number : ℕ
  pub amount : ℕ

-- numbers and amounts, entry by entry
unfoldable pub sales : List ℕ → List ℕ → List Sale
sales [] amounts = []
sales (n ∷ numbers) [] = []
sales (n ∷ numbers) (a ∷ amounts) = record { number = n; amount = a } ∷ sales numbers amounts

-- each number is less than the next
unfoldable pub rises : List ℕ → Bool
rises [] = true
rises (n ∷ []) = true
rises (n ∷ (m ∷ rest)) = cond (ltb n m) (rises (m ∷ rest)) false

-- at most 65,535 numbers, as many amounts, and rising
abbrev pub accepted : List ℕ → List ℕ → Bool
accepted numbers amounts =
    cond (leb (length numbers) 65535) (cond (eqb (length amounts) (length numbers)) (rises numbers) false) false

-- what a list has for a sale number, if it has the sale
unfoldable pub amount_of : List Sale → ℕ → Option ℕ
amount_of [] n = none
amount_of (s ∷ rest) n = cond (eqb s.number n) (some s.amount) (amount_of rest n)
