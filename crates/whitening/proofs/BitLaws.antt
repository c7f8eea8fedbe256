-- XOR of numbers: what two are both XORed with falls out, so that XORed twice is as it was. Assumes nothing.
use Prim.Native.Nat.{ℕ, zero, suc, ◌+◌, ◌*◌, ◌/◌, ◌%◌, ◌<◌}
use mathlib.Core.Path.{◌≡◌, refl, sym, ap, ap₂, ◌∙◌}
use native.Mathlib.Omega.{arith}
use lib.Arith.{bin_ind}
use lib.Bits.{bit_xor, differ, xor_step, xor_zero_l, xor_zero_r}

-- three binary digits: the one between falls out
digit_between : (x y z : ℕ) → x < 2 → y < 2 → z < 2 → (differ (differ x y) (differ y z) ≡ differ x z) × (differ x y < 2)
digit_between zero zero z h k l = (refl, omega arith)
digit_between zero (suc zero) zero h k l = (refl, omega arith)
digit_between zero (suc zero) (suc zero) h k l = (refl, omega arith)
digit_between zero (suc zero) (suc (suc z)) h k l = absurd (omega (arith, l))
digit_between zero (suc (suc y)) z h k l = absurd (omega (arith, k))
digit_between (suc zero) zero z h k l = (refl, omega arith)
digit_between (suc zero) (suc zero) zero h k l = (refl, omega arith)
digit_between (suc zero) (suc zero) (suc zero) h k l = (refl, omega arith)
digit_between (suc zero) (suc zero) (suc (suc z)) h k l = absurd (omega (arith, l))
digit_between (suc zero) (suc (suc y)) z h k l = absurd (omega (arith, k))
digit_between (suc (suc x)) y z h k l = absurd (omega (arith, h))

digits : (a b c : ℕ) → (differ (differ (a % 2) (b % 2)) (differ (b % 2) (c % 2)) ≡ differ (a % 2) (c % 2)) × (differ (a % 2) (b % 2) < 2)
digits a b c = digit_between (a % 2) (b % 2) (c % 2) (omega arith) (omega arith) (omega arith)

half : (a b : ℕ) → bit_xor a b / 2 ≡ bit_xor (a / 2) (b / 2)
half a b = omega (arith, xor_step a b, (digits a b a).1)

low : (a b : ℕ) → bit_xor a b % 2 ≡ differ (a % 2) (b % 2)
low a b = omega (arith, xor_step a b, (digits a b a).1)

-- what two numbers are both XORed with falls out
pub xor_between : (a b c : ℕ) → bit_xor (bit_xor a b) (bit_xor b c) ≡ bit_xor a c
xor_between a b c =
    bin_ind (λ (n : ℕ). (a c : ℕ) → bit_xor (bit_xor a n) (bit_xor n c) ≡ bit_xor a c)
    (λ a c. ap₂ bit_xor (xor_zero_r a) (xor_zero_l c))
    (λ n ih a c.
    xor_step (bit_xor a n) (bit_xor n c)
    ∙ ap₂ (λ (u v : ℕ). bit_xor u v * 2 + differ (bit_xor a n % 2) (bit_xor n c % 2)) (half a n) (half n c)
    ∙ ap₂ (λ (u v : ℕ). bit_xor (bit_xor (a / 2) (n / 2)) (bit_xor (n / 2) (c / 2)) * 2 + differ u v) (low a n) (low n c)
    ∙ ap₂ (λ (u v : ℕ). u * 2 + v) (ih (a / 2) (c / 2)) (digits a n c).0
    ∙ sym (xor_step a c)) b a c

-- XORed twice is as it was
pub xor_twice : (a b : ℕ) → bit_xor (bit_xor a b) b ≡ a
xor_twice a b = ap (bit_xor (bit_xor a b)) (sym (xor_zero_r b)) ∙ xor_between a b 0 ∙ xor_zero_r a
