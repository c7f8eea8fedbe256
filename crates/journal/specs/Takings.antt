-- Takings: the sum of count times price over the records in force.
use Rattle.std.specs.Prelude.{ℕ, zero, suc, ◌+◌, Bool, true, false, cond, eqb, leb}
use Rattle.copies.specs.Pick.{some_below}
use Rattle.journal.specs.Records.{Pages, replaces_in, amount_in, records}

unfoldable pub sum_to : (ℕ → ℕ) → ℕ → ℕ
sum_to f zero = 0
sum_to f (suc n) = sum_to f n + f n

-- the number that record k replaces, counted from 0, and what it amounts to
abbrev pub targets : Pages → ℕ → ℕ
targets pages k = replaces_in (pages k)

abbrev pub amounts : Pages → ℕ → ℕ
amounts pages k = amount_in (pages k)

-- one of the first n records replaces record number t
abbrev pub replaced_by : (ℕ → ℕ) → ℕ → ℕ → Bool
replaced_by target n t = some_below (λ k. eqb (target k) t) n

-- among n records there is one with this number, and none replaces it
unfoldable pub in_force : Pages → ℕ → ℕ → Bool
in_force pages n t = cond (eqb t 0) false (cond (leb t n) (cond (replaced_by (targets pages) n t) false true) false)

-- what record k counts among n of them
abbrev pub counts : (ℕ → ℕ) → (ℕ → ℕ) → ℕ → ℕ → ℕ
counts amount target n k = cond (replaced_by target n (suc k)) 0 (amount k)

abbrev pub total_of : (ℕ → ℕ) → (ℕ → ℕ) → ℕ → ℕ
total_of amount target n = sum_to (counts amount target n) n

-- the takings of n records
unfoldable pub takings : Pages → ℕ → ℕ
takings pages n = total_of (amounts pages) (targets pages) n

-- of a journal with room for this many
abbrev pub takings_of : Pages → ℕ → ℕ
takings_of pages most = takings pages (records pages most)
