-- Draws from a seed that is not 0 are never 0, and fit 32 bits. Assumes nothing.
use Prim.Native.Nat.{ℕ, zero, suc, ◌+◌, ◌*◌, ◌/◌, ◌%◌, ◌^◌, ◌<◌}
use mathlib.Core.Path.{◌≡◌, refl, sym, ap, ap₂, ◌∙◌}
use native.Mathlib.Omega.{arith}
use native.Mathlib.Nat.{mod-lt, mod-one, mul_assoc, mul_comm, add-zero, pow-succ'}
use lib.Arith.{mod-mul}
use lib.Bits.{bit_xor, xor_add_and, xor_lt, and_le_r, and_le_l}
use lib.Pow.{pow_pos}
use Rattle.test_load.specs.Draws.{left, right, drawn}

-- two numbers whose exclusive or is 0 are equal
xor_none : (a b : ℕ) → bit_xor a b ≡ 0 → a ≡ b
xor_none a b e = omega (arith, xor_add_and a b, e, and_le_l a b, and_le_r a b)

-- twice a number, modulo twice another
half : (a m : ℕ) → 0 < m → a * 2 % (m * 2) ≡ a % m * 2
half a m h =
    let back : a * 2 / 2 ≡ a = omega arith in
    let none : a * 2 % 2 ≡ 0 = omega arith in
    mod-mul (a * 2) h (omega arith) ∙ ap₂ (λ (u v : ℕ). u % m * 2 + v) back none ∙ add-zero (a % m * 2)

-- an even multiple of a number is that number, modulo a power of two, only if it is 0
even_none : (d n x : ℕ) → x ≡ x * d * 2 % 2 ^ n → x ≡ 0
even_none d zero x e = e ∙ mod-one (x * d * 2)
even_none d (suc n) x e =
    let twice : x ≡ x * d % 2 ^ n * 2 = e ∙ ap (λ (m : ℕ). x * d * 2 % m) (pow-succ' 2 n ∙ mul_comm 2 (2 ^ n)) ∙ half (x * d) (2 ^ n) (pow_pos n) in
    let y : ℕ = x * d % 2 ^ n in
    let again : y ≡ y * d * 2 % 2 ^ n =
    ap (λ (k : ℕ). k * d % 2 ^ n) twice ∙ ap (λ (k : ℕ). k % 2 ^ n) (mul_assoc y 2 d ∙ ap (λ (k : ℕ). y * k) (mul_comm 2 d) ∙ sym (mul_assoc y d 2)) in
    twice ∙ ap (λ (k : ℕ). k * 2) (even_none d n y again)

-- each step of a draw
step_left : (d k x : ℕ) → 2 ^ k ≡ d * 2 → (x ≡ 0 → ⊥) → bit_xor x (left x k) ≡ 0 → ⊥
step_left d k x p n e =
    n (even_none d 32 x (xor_none x (left x k) e ∙ ap (λ (m : ℕ). m % 2 ^ 32) (ap (λ (j : ℕ). x * j) p ∙ sym (mul_assoc x d 2))))

step_right : (x : ℕ) → (x ≡ 0 → ⊥) → bit_xor x (right x 17) ≡ 0 → ⊥
step_right x n e = n (omega (arith, xor_none x (right x 17) e))

xor_small : (a b : ℕ) → a < 4294967296 → b < 4294967296 → bit_xor a b < 4294967296
xor_small a b h k = xor_lt 32 a b h k

left-small : (x k : ℕ) → left x k < 4294967296
left-small x k = mod-lt (x * 2 ^ k) (omega arith)

-- a draw from a number that is not 0 is not 0
pub draw_some : (x : ℕ) → (x ≡ 0 → ⊥) → drawn x ≡ 0 → ⊥
unfolding drawn
draw_some x n =
    let a = bit_xor x (left x 13) in
    let b = bit_xor a (right a 17) in
    step_left 16 5 b refl (step_right a (step_left 4096 13 x refl n))

-- a draw fits 32 bits
pub draw_small : (x : ℕ) → x < 4294967296 → drawn x < 4294967296
unfolding drawn
draw_small x h =
    let a = bit_xor x (left x 13) in
    let b = bit_xor a (right a 17) in
    let a_small : a < 4294967296 = xor_small x (left x 13) h (left-small x 13) in
    let b-small : b < 4294967296 = xor_small a (right a 17) a_small (omega (arith, a_small)) in
    xor_small b (left b 5) b-small (left-small b 5)
