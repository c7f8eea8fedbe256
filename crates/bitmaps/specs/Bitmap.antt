-- Bitmaps: one bit a block, low bit first.
use Rattle.std.specs.Prelude.{ℕ, zero, suc, ◌+◌, ◌/◌, ◌%◌, ◌^◌, Bool, true, false, cond, List, [], ◌∷◌, ◌++◌, eqb, get_or, set}
use Rattle.std.specs.Int.Bits.{bit_or}

-- the byte and the bit of a block
abbrev pub byte_of : ℕ → ℕ
byte_of b = b / 8

abbrev pub place_of : ℕ → ℕ
place_of b = b % 8

-- bytes of a bitmap: one bit a block
abbrev pub bitmap_bytes : ℕ → ℕ
bitmap_bytes blocks = (blocks + 7) / 8

-- bit k of a byte
abbrev pub bit_in : ℕ → ℕ → ℕ
bit_in x k = x / 2 ^ k % 2

-- whether the bit of a block is set
unfoldable pub bit_at : List ℕ → ℕ → Bool
bit_at bits b = eqb (bit_in (get_or bits (byte_of b) 0) (place_of b)) 1

-- the bitmap with the bit of a block set
unfoldable pub with_bit : List ℕ → ℕ → List ℕ
with_bit bits b = set bits (byte_of b) (bit_or (get_or bits (byte_of b) 0) (2 ^ place_of b))

-- how many of the first n blocks have their bit set
unfoldable pub count_bits : List ℕ → ℕ → ℕ
count_bits bits zero = 0
count_bits bits (suc n) = count_bits bits n + cond (bit_at bits n) 1 0

-- no bit of the k blocks from n on is set
unfoldable pub clear_from : List ℕ → ℕ → ℕ → Bool
clear_from bits n zero = true
clear_from bits n (suc k) = let more = clear_from bits (n + 1) k in cond (bit_at bits n) false more

-- none of the first n blocks has its bit set in both
unfoldable pub never_both : List ℕ → List ℕ → ℕ → Bool
never_both xs ys zero = true
never_both xs ys (suc n) = let less = never_both xs ys n in cond (bit_at xs n) (cond (bit_at ys n) false less) less

-- a byte for each of the first n blocks: 1 where its bit is set in one of two bitmaps, 0 elsewhere
abbrev pub flag_of : List ℕ → List ℕ → ℕ → ℕ
flag_of xs ys b = cond (bit_at xs b) 1 (cond (bit_at ys b) 1 0)

unfoldable pub flags_of : List ℕ → List ℕ → ℕ → List ℕ
flags_of xs ys zero = []
flags_of xs ys (suc n) = flags_of xs ys n ++ (flag_of xs ys n ∷ [])

-- the first n bits of a byte written to n bytes from a place on
unfoldable pub spread_bits : ℕ → ℕ → ℕ → List ℕ → List ℕ
spread_bits x at zero bytes = bytes
spread_bits x at (suc n) bytes = set (spread_bits x at n bytes) (at + n) (bit_in x n)
