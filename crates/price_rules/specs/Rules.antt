-- Price rules: which selections fall in a rule, and which rules are wrong. Rule i of a table has the i-th first selection, the
-- i-th last selection and the i-th price.
use Rattle.std.specs.Prelude.{ℕ, zero, suc, ◌+◌, Bool, true, false, cond, List, eqb, leb, ltb, get_or}

-- selections run from 1 to 99
unfoldable pub selectable : ℕ → Bool
selectable s = cond (leb 1 s) (leb s 99) false

-- s falls in a rule: it lies from the first selection to the last
unfoldable pub within : ℕ → ℕ → ℕ → Bool
within first last s = cond (leb first s) (leb s last) false

-- a rule is wrong: an end outside 1 to 99, or the last selection below the first
unfoldable pub wrong : ℕ → ℕ → Bool
wrong first last = cond (selectable first) (cond (selectable last) (ltb last first) true) true

-- the selection at fault in a wrong rule: its first, 1 if that is outside 1 to 99
unfoldable pub fault_of : ℕ → ℕ
fault_of first = cond (selectable first) first 1

-- a rule is wrong, and s is its selection at fault
unfoldable pub wrong_with : ℕ → ℕ → ℕ → Bool
wrong_with first last s = cond (wrong first last) (eqb (fault_of first) s) false

-- the same of rule i of a table
abbrev pub falls : List ℕ → List ℕ → ℕ → ℕ → Bool
falls first last s i = within (get_or first i 0) (get_or last i 0) s

abbrev pub faulted : List ℕ → List ℕ → ℕ → ℕ → Bool
faulted first last s i = wrong_with (get_or first i 0) (get_or last i 0) s

-- how many of the first n rules cover s, wrong ones too: without them no answer would change (`wrong-idle` in proofs/WrongLaws.antt)
unfoldable pub covering : List ℕ → List ℕ → ℕ → ℕ → ℕ
covering first last s zero = 0
covering first last s (suc n) = covering first last s n + cond (falls first last s n) 1 0

-- one of the first n rules is wrong, with s its selection at fault
unfoldable pub any_faulted : List ℕ → List ℕ → ℕ → ℕ → Bool
any_faulted first last s zero = false
any_faulted first last s (suc n) = let fewer = any_faulted first last s n in cond (faulted first last s n) true fewer

-- the price of that one of the first n rules that s falls in
unfoldable pub price_among : List ℕ → List ℕ → List ℕ → ℕ → ℕ → ℕ
price_among first last price s zero = 0
price_among first last price s (suc n) =
    let fewer = price_among first last price s n in
    cond (falls first last s n) (get_or price n 0) fewer
