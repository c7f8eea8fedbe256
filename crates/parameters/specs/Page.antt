-- The parameter page: which of its three copies are good, and the sizes that the first good one tells.
use Rattle.std.specs.Prelude.{ℕ, Bool, false, cond, List, [], ◌∷◌, eqb, take, drop, Option, None, Some, Result, Ok, Err}
use Rattle.std.specs.List.{starts_with, find}
use Rattle.geometry.specs.declared.Geometry.{Geometry}
use Rattle.geometry.specs.Limits.{valid}
use Rattle.cells.specs.Part.{part}
use Rattle.pages.specs.Layout.{number_of}
use Rattle.parameters.specs.Crc.{integrity}
use Rattle.parameters.specs.declared.Sizes.{Sizes}
use Rattle.parameters.specs.declared.Refusal.{Refusal}
use Rattle.parameters.specs.declared.Refusal.TheVariants.{Geometry as BreaksLimit, NoCopy}

-- the bytes "ONFI"
abbrev pub signature : List ℕ
signature = 79 ∷ 78 ∷ 70 ∷ 73 ∷ []

abbrev pub signed : List ℕ → Bool
signed copy = starts_with eqb copy signature

-- a copy is good if it is signed and its bytes 254 and 255 hold the CRC of bytes 0 to 253
unfoldable pub good : List ℕ → Bool
good copy = cond (signed copy) (eqb (number_of (take 2 (drop 254 copy))) (integrity (take 254 copy))) false

-- data bytes and spare bytes a page, pages a block, blocks of one logical unit (002, Table 13)
abbrev pub sizes_in : List ℕ → Sizes
sizes_in copy =
    record {
      main = number_of (take 4 (drop 80 copy));
      spare = number_of (take 2 (drop 84 copy));
      pages = number_of (take 4 (drop 92 copy));
      blocks = number_of (take 4 (drop 96 copy));
    }

-- the answer of the call, and the sizes that it hands out
pub record Told : Type 0 where
  pub answer : ℕ
  pub sizes : Sizes

-- a refusal gives four zeros
abbrev pub refused_with : ℕ → Told
refused_with answer = record { answer = answer; sizes = record { main = 0; spare = 0; pages = 0; blocks = 0 } }

abbrev pub geometry_of : Sizes → ℕ → Geometry
geometry_of s logical =
    record { main = s.main; spare = s.spare; pages = s.pages; blocks = s.blocks; logical = logical }

-- the sizes of a good copy, or 1 where they break a limit with N logical blocks
unfoldable pub judged : Sizes → ℕ → Told
judged s logical = cond (valid (geometry_of s logical)) (record { answer = 0; sizes = s }) (refused_with 1)

-- the three copies, one after the other
abbrev pub copies_of : List ℕ → List (List ℕ)
copies_of page = part 0 256 page ∷ part 256 256 page ∷ part 512 256 page ∷ []

-- the first good of the three copies, if one is good
unfoldable pub first_good_of : List ℕ → Option (List ℕ)
first_good_of page = find good (copies_of page)

-- what it tells, or 12 if there is none
abbrev pub told_of : Option (List ℕ) → ℕ → Told
told_of None logical = refused_with 12
told_of (Some copy) logical = judged (sizes_in copy) logical

unfoldable pub told : List ℕ → ℕ → Told
told page logical = told_of (first_good_of page) logical

-- the same by what the code gives: the sizes, or why there are none
abbrev pub refusal_answer : Refusal → ℕ
refusal_answer BreaksLimit = 1
refusal_answer NoCopy = 12

abbrev pub told_by : Result Sizes Refusal → Told
told_by (Ok sizes) = record { answer = 0; sizes = sizes }
told_by (Err refusal) = refused_with (refusal_answer refusal)
