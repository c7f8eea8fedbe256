-- Shifts and masks by the pages of a block are quotient and remainder. Assumes nothing.
use Prim.Native.Nat.{ℕ, ◌-◌, ◌/◌, ◌%◌, ◌^◌}
use mathlib.Core.Bool.{true}
use mathlib.Core.Path.{◌≡◌, refl, sym, ap, subst}
use borrow.Author.Tests.{eqb-true}
use borrow.Table.Steps.{cases}
use lib.Bits.{and_mask, bit_and}
use lib.Dec.{eqb}
use Rattle.geometry.specs.Limits.{page_count}
use Rattle.geometry.specs.Sizes.{page_shift}

-- the logarithm of each page count
pub shift_power : (n : ℕ) → page_count n ≡ true → 2 ^ page_shift n ≡ n
shift_power n =
    cases (eqb n 4) (λ h. subst (λ (k : ℕ). page_count k ≡ true → 2 ^ page_shift k ≡ k) (sym (eqb-true n 4 h)) (λ _. refl))
    (λ a. cases (eqb n 8) (λ h. subst (λ (k : ℕ). page_count k ≡ true → 2 ^ page_shift k ≡ k) (sym (eqb-true n 8 h)) (λ _. refl))
    (λ b. cases (eqb n 16) (λ h. subst (λ (k : ℕ). page_count k ≡ true → 2 ^ page_shift k ≡ k) (sym (eqb-true n 16 h)) (λ _. refl))
    (λ c. cases (eqb n 32) (λ h. subst (λ (k : ℕ). page_count k ≡ true → 2 ^ page_shift k ≡ k) (sym (eqb-true n 32 h)) (λ _. refl))
    (λ d. rw (a, b, c, d) (λ h. sym (eqb-true n 64 h))))))

module _ (n : ℕ) (count : page_count n ≡ true) (x : ℕ) where
  -- a shift by the logarithm is the quotient, and the mask one below the count gives the remainder
  pub shift_quotient : x / 2 ^ page_shift n ≡ x / n
  shift_quotient = ap (λ (k : ℕ). x / k) (shift_power n count)

  pub mask_remainder : bit_and x (n - 1) ≡ x % n
  mask_remainder = subst (λ (k : ℕ). bit_and x (k - 1) ≡ x % k) (shift_power n count) (and_mask x (page_shift n))
