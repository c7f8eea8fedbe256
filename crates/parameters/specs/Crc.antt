-- The integrity CRC of the parameter page (ONFI 1.0, section 5.4.1, as 002 cites it): sixteen bits, polynomial 8005h, from 4F4Eh on,
-- most significant bit first, nothing reflected and nothing added at the end.
use Rattle.std.specs.Prelude.{ℕ, zero, suc, ◌*◌, ◌/◌, ◌%◌, ◌^◌, cond, List, [], ◌∷◌, eqb}
use Rattle.std.specs.Int.Bits.{bit_xor}

-- one bit into the register: it is shifted left, and the polynomial added where the bit shifted out differs from the one that comes in
unfoldable pub bit_into : ℕ → ℕ → ℕ
bit_into crc bit = cond (eqb (crc / 32768) bit) (crc * 2 % 65536) (bit_xor (crc * 2 % 65536) 32773)

-- the low n bits of a byte, the highest of them first
unfoldable pub bits_into : ℕ → ℕ → ℕ → ℕ
bits_into zero crc byte = crc
bits_into (suc n) crc byte = bits_into n (bit_into crc (byte / 2 ^ n % 2)) byte

abbrev pub byte_into : ℕ → ℕ → ℕ
byte_into crc byte = bits_into 8 crc byte

-- some bytes, one after the other
unfoldable pub bytes_into : ℕ → List ℕ → ℕ
bytes_into crc [] = crc
bytes_into crc (b ∷ bs) = bytes_into (byte_into crc b) bs

abbrev pub integrity : List ℕ → ℕ
integrity bytes = bytes_into 20302 bytes
