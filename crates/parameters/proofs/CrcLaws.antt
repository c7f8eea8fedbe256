-- The CRC's register stays below 65536, and a byte's bits and the bytes one by one lead to the definition. Assumes nothing.
use Prim.Native.Nat.{ℕ, zero, suc, ◌+◌, ◌-◌, ◌*◌, ◌/◌, ◌%◌, ◌^◌, ◌<◌, ◌≤◌}
use mathlib.Core.List.{List}
use mathlib.Core.Path.{◌≡◌, ap, ◌∙◌}
use native.Mathlib.Nat.{mod-lt}
use native.Mathlib.Omega.{arith}
use borrow.Table.Steps.{cases}
use lib.Bits.{bit_and, and_mask, xor_lt}
use lib.Dec.{eqb}
use native.Mathlib.Numerals.{add-one}
use lib.ListN.{length, get_or, drop, drop_of_length-le}
use lib.Seq.{drop-cons}
use Rattle.parameters.specs.Crc.{bit_into, bits_into, byte_into, bytes_into}

shifted-small : (crc : ℕ) → crc * 2 % 65536 < 65536
shifted-small crc = mod-lt (crc * 2) (omega arith)

pub bit-small : (crc bit : ℕ) → bit_into crc bit < 65536
unfolding bit_into
bit-small crc bit =
    cases (eqb (crc / 32768) bit) (λ t. rw t (shifted-small crc)) (λ f. rw f (xor_lt 16 (crc * 2 % 65536) 32773 (shifted-small crc) (omega arith)))

-- one bit of a byte, and those below it
pub bits_on : (n crc byte bit : ℕ) → 0 < n → bit ≡ byte / 2 ^ (n - 1) % 2 → bits_into (n - 1) (bit_into crc bit) byte ≡ bits_into n crc byte
unfolding bits_into
bits_on zero crc byte bit h e = absurd (omega (arith, h))
bits_on (suc n) crc byte bit h e =
    let back : suc n - 1 ≡ n = omega arith in
    ap (λ (k : ℕ). bits_into k (bit_into crc bit) byte) back ∙ ap (λ (b : ℕ). bits_into n (bit_into crc b) byte) (e ∙ ap (λ (k : ℕ). byte / 2 ^ k % 2) back)

pub bits_none : (n crc byte : ℕ) → n ≡ 0 → bits_into n crc byte ≡ crc
unfolding bits_into
bits_none n crc byte e = ap (λ (k : ℕ). bits_into k crc byte) e

-- a shifted byte's low bit
pub low_bit : (byte n : ℕ) → bit_and (byte / 2 ^ n) 1 ≡ byte / 2 ^ n % 2
low_bit byte n = and_mask (byte / 2 ^ n) 1

-- one byte of a list, and those after it
pub bytes_on : (crc next i : ℕ) (bytes : List ℕ) → i < length bytes → next ≡ byte_into crc (get_or bytes i 0) → bytes_into next (drop (i + 1) bytes) ≡ bytes_into crc (drop i bytes)
unfolding bytes_into
bytes_on crc next i bytes h e = rw (drop-cons bytes i 0 h, e, add-one)

pub bytes_none : (crc i : ℕ) (bytes : List ℕ) → length bytes ≤ i → bytes_into crc (drop i bytes) ≡ crc
unfolding bytes_into
bytes_none crc i bytes h = rw (drop_of_length-le bytes {i = i} h)
