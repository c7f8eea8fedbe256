-- The bit stream that whitens a page, bit by bit as the request defines it: a register of fifteen bits gives one bit a step.
use Rattle.std.specs.Prelude.{ℕ, zero, suc, ◌+◌, ◌*◌, ◌/◌, ◌%◌, ◌^◌, ◌<◌, List, [], ◌∷◌, ◌≡◌, get_or}
use Rattle.std.specs.Int.Bits.{bit_xor}

-- bit i of a register, bit 0 the least significant
abbrev pub bit : ℕ → ℕ → ℕ
bit i r = r / 2 ^ i % 2

-- a step shifts the register left, with bit 14 XOR bit 13 coming in at bit 0
unfoldable pub shifted : ℕ → ℕ
shifted r = r * 2 % 2 ^ 15 + bit_xor (bit 14 r) (bit 13 r)

-- the register after n steps
unfoldable pub stepped : ℕ → ℕ → ℕ
stepped zero r = r
stepped (suc n) r = shifted (stepped n r)

-- the n bits that the next n steps give, each bit 14 of the register before it, as a number: the first is the most significant
unfoldable pub bits_given : ℕ → ℕ → ℕ
bits_given zero r = 0
bits_given (suc n) r = bits_given n r * 2 + bit 14 (stepped n r)

-- the first n bytes of the stream from a register on
unfoldable pub bytes_given : ℕ → ℕ → List ℕ
bytes_given zero r = []
bytes_given (suc n) r = bits_given 8 r ∷ bytes_given n (stepped 8 r)

-- byte k of the stream
abbrev pub byte_given : ℕ → ℕ → ℕ
byte_given k r = bits_given 8 (stepped (8 * k) r)

-- xs begins with the first n bytes of the stream
abbrev pub Begins : ℕ → ℕ → List ℕ → Type 0
Begins n r xs = (k : ℕ) → k < n → get_or xs k 0 ≡ byte_given k r

-- each byte of the stream is the XOR of those 15 n and 14 n places before it
abbrev pub Repeats : ℕ → Type 0
Repeats n = (k r : ℕ) → byte_given (k + 15 * n) r ≡ bit_xor (byte_given k r) (byte_given (k + n) r)
