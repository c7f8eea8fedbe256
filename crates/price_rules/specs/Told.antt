-- What the check of a table and the price of a selection return, in the paper's numbers.
use Rattle.std.specs.Prelude.{ℕ, Result, Ok, Err}
use Rattle.price_rules.specs.Faults.{Checked, found, Priced, sold}
use Rattle.price_rules.specs.declared.Refusal.{Refusal}
use Rattle.price_rules.specs.declared.Refusal.TheVariants.{OutOfRange, Uncovered, Disputed}

-- the paper's number of a refusal
abbrev pub number_of : Refusal → ℕ
number_of OutOfRange = 2
number_of (Uncovered s) = 17
number_of (Disputed s) = 18

-- the selection at fault, 0 where there is none
abbrev pub place_of : Refusal → ℕ
place_of OutOfRange = 0
place_of (Uncovered s) = s
place_of (Disputed s) = s

-- a refusal's number and selection
abbrev pub refused : Refusal → Checked
refused r = found (number_of r) (place_of r)

-- what the check of a table tells: two zeros, or its refusal
abbrev pub checked_by : Result (Unit {0}) Refusal → Checked
checked_by (Ok _) = found 0 0
checked_by (Err r) = refused r

-- what a request for a price tells: the price, or the refusal's number
abbrev pub priced_by : Result ℕ Refusal → Priced
priced_by (Ok price) = sold 0 price
priced_by (Err r) = sold (number_of r) 0
