-- Parameter pages computed: a good first copy, one with a bit wrong and one with another start before a good one, no good copy, sizes
-- outside the limits. Assumes nothing.
use Prim.Native.Nat.{ℕ, ◌/◌, ◌%◌}
use mathlib.Core.List.{List, [], ◌∷◌, ◌++◌}
use mathlib.Core.Path.{◌≡◌, refl}
use lib.ListN.{replicate}
use Rattle.pages.specs.Layout.{number_of}
use Rattle.parameters.specs.Crc.{bit_into, bits_into, bytes_into}
use Rattle.parameters.specs.Page.{Told, signature, good, refused_with, judged, first_good_of, told}

-- a copy with 2,048 and 128 bytes a page, so many pages a block and 4,096 blocks; its byte 4, and its CRC
copy_with : ℕ → ℕ → ℕ → List ℕ
copy_with pages fourth crc =
    signature
    ++ (fourth ∷ replicate 75 0)
    ++ (0 ∷ 8 ∷ 0 ∷ 0 ∷ 128 ∷ 0 ∷ replicate 6 0)
    ++ (pages ∷ 0 ∷ 0 ∷ 0 ∷ 0 ∷ 16 ∷ 0 ∷ 0 ∷ replicate 154 0)
    ++ (crc % 256 ∷ crc / 256 ∷ [])

bad : List ℕ
bad = replicate 256 0

right : Told
right = record { answer = 0; sizes = record { main = 2048; spare = 128; pages = 64; blocks = 4096 } }

first_good : told (copy_with 64 0 34450 ++ bad ++ bad) 4094 ≡ right
unfolding told first_good_of good judged bytes_into bits_into bit_into number_of copy_with bad right
first_good = refl

-- the first copy has one bit wrong, and the second other sizes: the second is told
second-good : told (copy_with 32 1 34450 ++ copy_with 64 0 34450 ++ bad) 4094 ≡ right
unfolding told first_good_of good judged bytes_into bits_into bit_into number_of copy_with bad right
second-good = refl

-- zeros with the CRC of 254 of them: its CRC is right, and its start is not
unsigned : List ℕ
unsigned = replicate 254 0 ++ (238 ∷ 62 ∷ [])

starts_otherwise : told (unsigned ++ copy_with 64 0 34450 ++ bad) 4094 ≡ right
unfolding told first_good_of good judged bytes_into bits_into bit_into number_of copy_with unsigned bad right
starts_otherwise = refl

none-good : told (bad ++ copy_with 64 1 34450 ++ bad) 4094 ≡ refused_with 12
unfolding told first_good_of good judged bytes_into bits_into bit_into number_of copy_with bad right
none-good = refl

-- five pages a block
outside : told (copy_with 5 0 35512 ++ bad ++ bad) 4094 ≡ refused_with 1
unfolding told first_good_of good judged bytes_into bits_into bit_into number_of copy_with bad right
outside = refl

-- one logical block too many
too_many : told (copy_with 64 0 34450 ++ bad ++ bad) 4095 ≡ refused_with 1
unfolding told first_good_of good judged bytes_into bits_into bit_into number_of copy_with bad right
too_many = refl
