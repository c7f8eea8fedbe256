-- Single bits of bytes and of bitmaps. Assumes nothing.
use Prim.Native.Nat.{◌≤◌, ℕ, zero, suc, ◌+◌, ◌-◌, ◌*◌, ◌/◌, ◌%◌, ◌^◌, ◌<◌}
use mathlib.Core.Bool.{Bool, true, false, not, cond}
use mathlib.Core.List.{List}
use mathlib.Core.Path.{◌≡◌, refl, ap, ◌∙◌}
use native.Mathlib.Nat.{one-mul, zero-mul, pow-le-pow_right, lt_of_le_of_lt, add_comm, add-zero, mul_comm, mul-div_cancel, div-eq_of_lt, div_self, pow-suc, mod-eq_of_lt}
use native.Mathlib.Numerals.{add-one}
use borrow.Table.Steps.{cases}
use lib.Pow.{pow_pos, pow-lt, pow-add}
use native.Mathlib.Omega.{arith}
use borrow.Author.Tests.{eq-eqb, ne_eqb, eqb-true, eqb-false, ltb-true, ltb-false}
use lib.Dec.{eqb, ltb}
use lib.ListN.{length, get_or}
use lib.Seq.{get_or-set_same, get_or-set_other, set_out}
use lib.Bits.{bit_and, bit_or, and_le_r, and_mask, and_high, or_shr, or_mod, or_zero_r}
use Rattle.bitmaps.specs.Bitmap.{byte_of, place_of, bit_in, bit_at, with_bit, count_bits, clear_from, never_both}

-- a power below 2 ^ 8
pub power_small : (p : ℕ) → p < 8 → 2 ^ p < 256
power_small p h = lt_of_le_of_lt (pow-le-pow_right {n = 2} (omega arith) {i = p} {j = 7} (omega arith)) (omega arith)

-- a number masked
pub masked_below : (b m k : ℕ) → m < k → bit_and b m < k
masked_below b m k h = lt_of_le_of_lt (and_le_r b m) h

pub place_is : (b : ℕ) → bit_and b 7 ≡ b % 8
place_is b = and_mask b 3

pub place-small : (b : ℕ) → b % 8 < 8
place-small b = omega arith

-- a bit shifted to the place of a block
pub shifted_to_place : (b p : ℕ) → p ≡ b % 8 → 1 * 2 ^ p % 256 ≡ 2 ^ (b % 8)
shifted_to_place b p e = rw (e, one-mul) (mod-eq_of_lt (power_small (b % 8) (place-small b)))

digit : (b q : ℕ) → b < 2 → 0 < q → not (eqb (b * q) 0) ≡ eqb b 1
digit zero q h k = rw (zero-mul q)
digit (suc zero) q h k = rw (one-mul q, ne_eqb q 0 (λ e. omega (arith, e)))
digit (suc (suc b)) q h k = absurd (omega arith)

-- one bit by a mask
pub masked-bit : (x p : ℕ) → bit_and x (2 ^ p) ≡ bit_in x p * 2 ^ p
masked-bit x p = ap (bit_and x) (rw (add_comm 1 p, add-one, pow-suc) (omega arith)) ∙ and_high x 1 p

pub bit_tested : (x p : ℕ) → not (eqb (bit_and x (2 ^ p)) 0) ≡ eqb (bit_in x p) 1
bit_tested x p = rw (masked-bit x p) (digit (bit_in x p) (2 ^ p) (omega arith) (pow_pos p))

-- one block more is counted
pub count_set : (bits : List ℕ) (n : ℕ) → bit_at bits n ≡ true → count_bits bits (n + 1) ≡ count_bits bits n + 1
unfolding count_bits
count_set bits n h = rw (add-one, h)

pub count_clear : (bits : List ℕ) (n : ℕ) → bit_at bits n ≡ false → count_bits bits (n + 1) ≡ count_bits bits n
unfolding count_bits
count_clear bits n h = rw (add-one, h) (add-zero (count_bits bits n))

-- bit q of 2 ^ p
power_above : (q d : ℕ) → bit_in (2 ^ (q + suc d)) q ≡ 0
power_above q d =
    rw (pow-add 2 q (suc d), mul_comm (2 ^ q) (2 ^ suc d), mul-div_cancel (2 ^ suc d) (pow_pos q), pow-suc) (omega arith)

pub power_bit : (p q : ℕ) → (p ≡ q → ⊥) → bit_in (2 ^ p) q ≡ 0
power_bit p q h =
    cases (ltb p q)
    (λ t. rw (div-eq_of_lt (pow-lt {i = p} {j = q} (ltb-true p q t))))
    (λ t.
    let g : q < p = omega (arith, ltb-false p q t, h) in
    let e : p ≡ q + suc (p - q - 1) = omega arith in
    rw e (power_above q (p - q - 1)))

-- a bit that was set is set, and the others are as they were
pub or_bit : (x y q : ℕ) → bit_in (bit_or x y) q ≡ bit_or (bit_in x q) (bit_in y q)
or_bit x y q = rw (or_shr x y q) (or_mod (x / 2 ^ q) (y / 2 ^ q) 1)

own_bit : (p : ℕ) → bit_in (2 ^ p) p ≡ 1
own_bit p = rw (div_self (pow_pos p))

or_one : (b : ℕ) → b < 2 → bit_or b 1 ≡ 1
or_one zero h = refl
or_one (suc zero) h = refl
or_one (suc (suc b)) h = absurd (omega arith)

pub bit-set : (bits : List ℕ) (b : ℕ) → byte_of b < length bits → bit_at (with_bit bits b) b ≡ true
unfolding bit_at with_bit
bit-set bits b h =
    rw (get_or-set_same bits (byte_of b) (bit_or (get_or bits (byte_of b) 0) (2 ^ place_of b)) 0 h)
    (eq-eqb (bit_in (bit_or (get_or bits (byte_of b) 0) (2 ^ place_of b)) (place_of b)) 1
    (or_bit (get_or bits (byte_of b) 0) (2 ^ place_of b) (place_of b)
    ∙ ap (bit_or (bit_in (get_or bits (byte_of b) 0) (place_of b))) (own_bit (place_of b))
    ∙ or_one (bit_in (get_or bits (byte_of b) 0) (place_of b)) (omega arith)))

pub bit_kept : (bits : List ℕ) (b c : ℕ) → (c ≡ b → ⊥) → bit_at (with_bit bits b) c ≡ bit_at bits c
unfolding bit_at with_bit
bit_kept bits b c h =
    cases (eqb (byte_of c) (byte_of b))
    (λ t.
    let e = eqb-true (byte_of c) (byte_of b) t in
    cases (ltb (byte_of b) (length bits))
    (λ u. rw (e, get_or-set_same bits (byte_of b) (bit_or (get_or bits (byte_of b) 0) (2 ^ place_of b)) 0 (ltb-true (byte_of b) (length bits) u))
    (ap (λ (k : ℕ). eqb k 1)
    (or_bit (get_or bits (byte_of b) 0) (2 ^ place_of b) (place_of c)
    ∙ ap (bit_or (bit_in (get_or bits (byte_of b) 0) (place_of c))) (power_bit (place_of b) (place_of c) (λ x. h (omega (arith, e, x))))
    ∙ or_zero_r (bit_in (get_or bits (byte_of b) 0) (place_of c)))))
    (λ u. rw (set_out bits (byte_of b) (bit_or (get_or bits (byte_of b) 0) (2 ^ place_of b)) (ltb-false (byte_of b) (length bits) u))))
    (λ t. rw (get_or-set_other bits (byte_of b) (byte_of c) (bit_or (get_or bits (byte_of b) 0) (2 ^ place_of b)) 0 (eqb-false (byte_of c) (byte_of b) t)))

-- the search for a set bit: found, not yet, over
pub clear_hit : (bits : List ℕ) (m n : ℕ) → n < m → bit_at bits n ≡ true → false ≡ clear_from bits n (m - n)
unfolding clear_from
clear_hit bits m n h t =
    let e : m - n ≡ suc (m - (n + 1)) = omega arith in
    rw (e, t)

pub clear_on : (bits : List ℕ) (m n : ℕ) → n < m → bit_at bits n ≡ false → clear_from bits (n + 1) (m - (n + 1)) ≡ clear_from bits n (m - n)
unfolding clear_from
clear_on bits m n h t =
    let e : m - n ≡ suc (m - (n + 1)) = omega arith in
    rw (e, t)

pub clear_over : (bits : List ℕ) (m n : ℕ) → m ≤ n → true ≡ clear_from bits n (m - n)
unfolding clear_from
clear_over bits m n h =
    let e : m - n ≡ 0 = omega arith in
    rw e

cond_same : (b : Bool) {x : Bool} → x ≡ cond b x x
cond_same true = refl
cond_same false = refl

-- one block more
both_next : (xs ys : List ℕ) (n : ℕ) → bit_at xs n ≡ true → bit_at ys n ≡ true → false ≡ never_both xs ys (suc n)
unfolding never_both
both_next xs ys n s t = rw (s, t)

first_next : (xs ys : List ℕ) (n : ℕ) → bit_at xs n ≡ false → never_both xs ys n ≡ never_both xs ys (suc n)
unfolding never_both
first_next xs ys n s = rw s

second_next : (xs ys : List ℕ) (n : ℕ) → bit_at ys n ≡ false → never_both xs ys n ≡ never_both xs ys (suc n)
unfolding never_both
second_next xs ys n t = rw t (cond_same (bit_at xs n))

one_back : (n : ℕ) → 0 < n → suc (n - 1) ≡ n
one_back n h = omega arith

-- the last of the first n blocks: both bits, not the first, not the second
pub never_hit : (xs ys : List ℕ) (n : ℕ) → 0 < n → bit_at xs (n - 1) ≡ true → bit_at ys (n - 1) ≡ true → false ≡ never_both xs ys n
never_hit xs ys n h s t = both_next xs ys (n - 1) s t ∙ ap (never_both xs ys) (one_back n h)

pub never_first : (xs ys : List ℕ) (n : ℕ) → 0 < n → bit_at xs (n - 1) ≡ false → never_both xs ys (n - 1) ≡ never_both xs ys n
never_first xs ys n h s = first_next xs ys (n - 1) s ∙ ap (never_both xs ys) (one_back n h)

pub never_second : (xs ys : List ℕ) (n : ℕ) → 0 < n → bit_at ys (n - 1) ≡ false → never_both xs ys (n - 1) ≡ never_both xs ys n
never_second xs ys n h t = second_next xs ys (n - 1) t ∙ ap (never_both xs ys) (one_back n h)
