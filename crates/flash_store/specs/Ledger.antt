-- The requests on the journal as a program in C makes them: what is handed back.
use Rattle.std.specs.Prelude.{ℕ, false, cond, List, [], ◌∷◌, eqb, length}
use Rattle.chip_array.specs.Device.{Setting}
use Rattle.journal.specs.declared.Sale.{Sale}
use Rattle.open_journal.specs.Requests.{OpenTold, appending_open, takings_open}
use Rattle.c_buffers.specs.Buffers.{Lent, state_of, chip_of, rightly, Handed, handed, put_back}

abbrev pub sale_of : ℕ → ℕ → ℕ → ℕ → Sale
sale_of selection count price replaces = record { selection = selection; count = count; price = price; replaces = replaces }

-- on the state and the chip that are lent; n: the cycles allowed
abbrev pub append_result : Setting → Lent → ℕ → Sale → OpenTold
append_result s l n sale = appending_open s (chip_of l) n (state_of l) sale

abbrev pub takings_result : Setting → Lent → ℕ → OpenTold
takings_result s l n = takings_open s (chip_of l) n (state_of l)

-- the word that is told too: the number of the record, or the takings
pub record ToldHanded : Type 0 where
  pub handed : Handed
  pub word : List ℕ

abbrev pub told_handed : Handed → List ℕ → ToldHanded
told_handed h word = record { handed = h; word = word }

-- lent are the right lengths and one word; else 100, and nothing is changed
unfoldable pub told_lent : Lent → OpenTold → List ℕ → ToldHanded
told_lent l r word =
    cond (cond (rightly l) (eqb (length word) 1) false) (told_handed (put_back r.returned) (r.told ∷ []))
    (told_handed (handed 100 l) word)

abbrev pub appending_lent : Setting → Lent → ℕ → Sale → List ℕ → ToldHanded
appending_lent s l n sale number = told_lent l (append_result s l n sale) number

abbrev pub takings_lent : Setting → Lent → ℕ → List ℕ → ToldHanded
takings_lent s l n takings = told_lent l (takings_result s l n) takings
