-- The draws of the test load: each follows from the one before it, the first from the seed.
use Rattle.std.specs.Prelude.{ℕ, ◌*◌, ◌/◌, ◌%◌, ◌^◌}
use Rattle.std.specs.Int.Bits.{bit_xor}

-- a shift to the left in 32 bits
abbrev pub left : ℕ → ℕ → ℕ
left x k = x * 2 ^ k % 2 ^ 32

abbrev pub right : ℕ → ℕ → ℕ
right x k = x / 2 ^ k

-- left 13, right 17, left 5, with an exclusive or after each shift
unfoldable pub drawn : ℕ → ℕ
drawn x =
    let a = bit_xor x (left x 13) in
    let b = bit_xor a (right a 17) in
    bit_xor b (left b 5)
