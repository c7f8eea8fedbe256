-- Price rules as a program in C asks for them: a lent table in, an answer and the buffer of the result as it is left.
use Rattle.std.specs.Prelude.{ℕ, cond, List, [], ◌∷◌, eqb, length}
use Rattle.price_rules.specs.Faults.{checking, pricing}

pub record Written : Type 0 where
  pub answer : ℕ
  pub buffer : List ℕ

abbrev pub written : ℕ → List ℕ → Written
written answer buffer = record { answer = answer; buffer = buffer }

-- a result goes into a buffer of one element; with any other length the answer is 100, and the buffer stays
unfoldable pub result_in : List ℕ → ℕ → ℕ → Written
result_in buffer answer result_with = cond (eqb (length buffer) 1) (written answer (result_with ∷ [])) (written 100 buffer)

-- the check of a table: its answer, and the smallest selection at fault
abbrev pub checking_lent : List ℕ → List ℕ → List ℕ → List ℕ → Written
checking_lent first last price fault = result_in fault (checking first last price).answer (checking first last price).fault

-- the price of a selection: its answer, and the price
abbrev pub pricing_lent : List ℕ → List ℕ → List ℕ → ℕ → List ℕ → Written
pricing_lent first last price s found = result_in found (pricing first last price s).answer (pricing first last price s).price
