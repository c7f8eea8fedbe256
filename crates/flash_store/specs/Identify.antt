-- The call that lets the chip tell its size, as a program in C makes it: what it hands back.
use Rattle.std.specs.Prelude.{ℕ, false, cond, List, eqb, length}
use Rattle.open_write.specs.Requests.{OpenIdentified, identifying_open}
use Rattle.c_buffers.specs.Buffers.{size_words, Lent, state_of, chip_of, rightly, Handed, handed, put_back}

-- the call on the state and the chip that are lent; n: the cycles allowed
abbrev pub identify_result : List ℕ → List ℕ → Lent → ℕ → List ℕ → ℕ → OpenIdentified
identify_result mask fates l n page logical = identifying_open mask fates (chip_of l) n (state_of l) page logical

-- the four words of the sizes too
pub record IdentifyHanded : Type 0 where
  pub handed : Handed
  pub sizes : List ℕ

abbrev pub identify_handed : Handed → List ℕ → IdentifyHanded
identify_handed h sizes = record { handed = h; sizes = sizes }

-- lent are the right lengths and four words for the sizes; else 100, and nothing is changed
unfoldable pub identifying_lent : List ℕ → List ℕ → Lent → ℕ → List ℕ → ℕ → List ℕ → IdentifyHanded
identifying_lent mask fates l n page logical sizes =
    cond (cond (rightly l) (eqb (length sizes) 4) false)
    (identify_handed (put_back (identify_result mask fates l n page logical).returned)
    (size_words (identify_result mask fates l n page logical).sizes))
    (identify_handed (handed 100 l) sizes)
