-- A write that is opened and advanced, as a program in C does it: what is handed back.
use Rattle.std.specs.Prelude.{ℕ, false, cond, List, [], ◌∷◌, eqb, length}
use Rattle.chip_array.specs.Device.{Setting}
use Rattle.open_write.specs.Requests.{OpenResult, opening_write, Advanced, advancing_write}
use Rattle.c_buffers.specs.Buffers.{Lent, state_of, chip_of, rightly, Handed, handed, put_back, answered}

-- on the state and the chip that are lent; n: the cycles allowed
abbrev pub opening_result : Setting → Lent → ℕ → ℕ → ℕ → List ℕ → OpenResult
opening_result s l n logical page bytes = opening_write s (chip_of l) n (state_of l) logical page bytes

unfoldable pub opening_lent : Setting → Lent → ℕ → ℕ → ℕ → List ℕ → Handed
opening_lent s l n logical page bytes = answered l (opening_result s l n logical page bytes)

abbrev pub advance_result : Setting → Lent → ℕ → ℕ → Advanced
advance_result s l n most = advancing_write s (chip_of l) n (state_of l) most

-- the word that tells whether the write is finished, too
pub record AdvanceHanded : Type 0 where
  pub handed : Handed
  pub finished : List ℕ

abbrev pub advance_handed : Handed → List ℕ → AdvanceHanded
advance_handed h finished = record { handed = h; finished = finished }

-- lent are the right lengths and one word; else 100, and nothing is changed
unfoldable pub advancing_lent : Setting → Lent → ℕ → ℕ → List ℕ → AdvanceHanded
advancing_lent s l n most finished =
    cond (cond (rightly l) (eqb (length finished) 1) false)
    (advance_handed (put_back (advance_result s l n most).returned) ((advance_result s l n most).finished ∷ []))
    (advance_handed (handed 100 l) finished)
