-- Check values of the CRC: no byte at all, 254 bytes 00h, 254 bytes FFh, and the published one of its polynomial. Assumes nothing.
use mathlib.Core.List.{[], ◌∷◌}
use mathlib.Core.Path.{◌≡◌, refl}
use lib.ListN.{replicate}
use Rattle.parameters.specs.Crc.{bit_into, bits_into, bytes_into, integrity}

none : integrity [] ≡ 20302
unfolding bytes_into
none = refl

-- 3EEEh
zeros : integrity (replicate 254 0) ≡ 16110
unfolding bytes_into bits_into bit_into
zeros = refl

-- C1E2h
ones : integrity (replicate 254 255) ≡ 49634
unfolding bytes_into bits_into bit_into
ones = refl

-- the digits 1 to 9 from 0 on: FEE8h, the check value of CRC-16/UMTS, which has this polynomial and order of bits; the values above
-- are of bytes that read the same either way
digits : bytes_into 0 (49 ∷ 50 ∷ 51 ∷ 52 ∷ 53 ∷ 54 ∷ 55 ∷ 56 ∷ 57 ∷ []) ≡ 65256
unfolding bytes_into bits_into bit_into
digits = refl
