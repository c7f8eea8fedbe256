-- What the four totals are held against: the sum of a list's amounts, and the two sides of the difference over naturals.
use Rattle.std.specs.Prelude.{ℕ, ◌+◌, ◌-◌, List, [], ◌∷◌}
use Rattle.std.proofs.Math.Option.{Option, none, some}
use Rattle.reconcile.specs.Sales.{Sale}
use Rattle.reconcile.specs.Totals.{sum_over}

unfoldable pub sum : List ℕ → ℕ
sum [] = 0
sum (a ∷ amounts) = a + sum amounts

-- by how much the amount is above the other list's, if both have the sale
abbrev pub if_more : Option ℕ → ℕ → ℕ
if_more none a = 0
if_more (some other) a = a - other

-- by how much the amounts of one list are above the other's, over the sales in both
abbrev pub excess : List Sale → List Sale → ℕ
excess sold other = sum_over if_more sold other
