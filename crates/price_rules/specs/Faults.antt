-- What the check of a table of price rules answers, and the price of a selection.
use Rattle.std.specs.Prelude.{ℕ, zero, suc, ◌+◌, Bool, true, false, cond, List, eqb, leb, length}
use Rattle.price_rules.specs.Rules.{selectable, covering, any_faulted, price_among}

-- what the check of a table answers, and the smallest selection at fault, or 0
pub record Checked : Type 0 where
  pub answer : ℕ
  pub fault : ℕ

-- what a request for a price answers, and the price, or 0
pub record Priced : Type 0 where
  pub answer : ℕ
  pub price : ℕ

-- no rule covers s
abbrev pub uncovered : List ℕ → List ℕ → ℕ → Bool
uncovered first last s = eqb (covering first last s (length first)) 0

-- s is at fault by 18: a wrong rule has it as its selection at fault, or two rules cover it
abbrev pub disputed : List ℕ → List ℕ → ℕ → Bool
disputed first last s = cond (any_faulted first last s (length first)) true (leb 2 (covering first last s (length first)))

-- the refusal of s, 18 at a tie; 0 where s is not at fault
unfoldable pub refusal_at : List ℕ → List ℕ → ℕ → ℕ
refusal_at first last s = cond (disputed first last s) 18 (cond (uncovered first last s) 17 0)

abbrev pub found : ℕ → ℕ → Checked
found answer fault = record { answer = answer; fault = fault }

-- the smallest selection at fault of the n from s on, with its refusal; two zeros if there is none
unfoldable pub fault_from : List ℕ → List ℕ → ℕ → ℕ → Checked
fault_from first last s zero = found 0 0
fault_from first last s (suc n) =
    let more = fault_from first last (s + 1) n in
    cond (eqb (refusal_at first last s) 0) more (found (refusal_at first last s) s)

-- at most 200 rules, each with a last selection and a price
unfoldable pub shaped : ℕ → ℕ → ℕ → Bool
shaped firsts lasts prices = cond (leb firsts 200) (cond (eqb lasts firsts) (eqb prices firsts) false) false

-- the check: 2 and no fault, or the smallest selection from 1 to 99 that is at fault
unfoldable pub checking : List ℕ → List ℕ → List ℕ → Checked
checking first last price = cond (shaped (length first) (length last) (length price)) (fault_from first last 1 99) (found 2 0)

abbrev pub sold : ℕ → ℕ → Priced
sold answer price = record { answer = answer; price = price }

-- a price once the table is checked: the refusal and 0, or the price of the rule that s falls in
abbrev pub after_check : Checked → ℕ → Priced
after_check c price = cond (eqb c.answer 0) (sold 0 price) (sold c.answer 0)

-- the price of s: 2 for what is no selection, then as the check says
unfoldable pub pricing : List ℕ → List ℕ → List ℕ → ℕ → Priced
pricing first last price s =
    cond (selectable s)
    (after_check (checking first last price) (price_among first last price s (length first)))
    (sold 2 0)
