-- How an operation can end, with the paper's values: the status that was read last, and the answer of a request that ends there.
use Rattle.std.specs.Prelude.{ℕ, List, [], ◌∷◌, ◌⊎◌, ◌≡◌}
use Rattle.std.proofs.Math.Option.{Option, none, some}
use Rattle.bus_polling.specs.declared.Outcome.{Outcome}
use Rattle.bus_polling.specs.declared.Outcome.TheVariants.{Passed, Failed, Silent, Cut, Illegal, Protected}

pub record Meaning : Type 0 where
  pub status : List ℕ
  pub answer : Option ℕ

abbrev meant : List ℕ → Option ℕ → Meaning
meant s a = record { status = s; answer = a }

-- E0h passed; E1h failed, and another block is filled; 80h silent, 10; cut, 11; a cycle that the chip did not allow, 255; 60h or 61h on
-- a chip whose write-protect line is low, 13
unfoldable pub meaning : Outcome → Meaning
meaning Passed = meant (224 ∷ []) (some 0)
meaning Failed = meant (225 ∷ []) none
meaning Silent = meant (128 ∷ []) (some 10)
meaning Cut = meant [] (some 11)
meaning Illegal = meant [] (some 255)
meaning Protected = meant (96 ∷ 97 ∷ []) (some 13)

-- a byte is one of these
unfoldable pub Among : List ℕ → ℕ → Type 0
Among [] byte = ⊥
Among (b ∷ bs) byte = (byte ≡ b) ⊎ Among bs byte
