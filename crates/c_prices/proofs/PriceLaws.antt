-- What is written to a buffer of one element, or kept of another. Assumes nothing.
use Prim.Native.Nat.{ℕ}
use mathlib.Core.List.{List, [], ◌∷◌}
use mathlib.Core.Path.{◌≡◌, refl, ap}
use native.Mathlib.Omega.{arith}
use borrow.Author.Tests.{eq-eqb, ne_eqb}
use lib.ListN.{length, set}
use Rattle.c_prices.specs.Prices.{written, result_in}

set_one : (buffer : List ℕ) (x : ℕ) → length buffer ≡ 1 → set buffer 0 x ≡ x ∷ []
set_one [] x h = absurd (omega arith)
set_one (y ∷ []) x h = refl
set_one (y ∷ (z ∷ ys)) x h = absurd (omega arith)

module _ (buffer : List ℕ) (answer result_with : ℕ) where
  pub result_written : length buffer ≡ 1 → written answer (set buffer 0 result_with) ≡ result_in buffer answer result_with
  unfolding result_in
  result_written h = rw (eq-eqb (length buffer) 1 h) (ap (written answer) (set_one buffer result_with h))

  pub result_kept : (length buffer ≡ 1 → ⊥) → written 100 buffer ≡ result_in buffer answer result_with
  unfolding result_in
  result_kept h = rw (ne_eqb (length buffer) 1 h)
