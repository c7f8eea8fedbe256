-- Laws of differences of naturals as integers: by cases of the sign, sums, sizes. Assumes nothing.
use Prim.Native.Nat.{ℕ, zero, suc, ◌+◌, ◌-◌, ◌^◌, ◌≤◌, ◌<◌}
use mathlib.Core.Path.{◌≡◌, refl, sym, ap, ap₂, ◌∙◌}
use native.Mathlib.Omega.{arith}
use borrow.Table.Steps.{cases}
use borrow.Author.Tests.{ltb-true, ltb-false, lt-ltb, le-ltb}
use lib.Dec.{ltb}
use lib.IntN.{ℤ, pos, negsuc, sub_ℕ, nat_abs, neg_ℤ, ◌+ℤ◌, ◌-ℤ◌, +ℤ_assoc, +ℤ_comm, neg_ℤ-+ℤ, pos-ne-negsuc}
use lib.Signed.{mag}
use mir.Syntax.{w64}
use mir.Val.{SFits, of_z, to_z}
use mir.Facts.{to_z-of_z}

pub sub_below : (a b : ℕ) → a < b → sub_ℕ a b ≡ negsuc (b - suc a)
sub_below a b h = rw (lt-ltb a b h)

pub sub_above : (a b : ℕ) → b ≤ a → sub_ℕ a b ≡ pos (a - b)
sub_above a b h = rw (le-ltb a b h)

pub minus_is : (a b : ℕ) → pos a -ℤ pos b ≡ sub_ℕ a b
minus_is a zero = ap pos (omega arith) ∙ sym (sub_above a zero (omega arith))
minus_is a (suc b) = refl

-- equal differences
pub sub_same : (a b c d : ℕ) → a + d ≡ c + b → sub_ℕ a b ≡ sub_ℕ c d
sub_same a b c d e =
    cases (ltb a b)
    (λ t.
    let h = ltb-true a b t in
    sub_below a b h ∙ ap negsuc (omega arith) ∙ sym (sub_below c d (omega arith)))
    (λ t.
    let h = ltb-false a b t in
    sub_above a b h ∙ ap pos (omega arith) ∙ sym (sub_above c d (omega arith)))

pub sub-zero : (a b : ℕ) → sub_ℕ a b ≡ pos 0 → a ≡ b
sub-zero a b e =
    cases (ltb a b)
    (λ t. absurd (pos-ne-negsuc 0 (b - suc a) (sym e ∙ sub_below a b (ltb-true a b t))))
    (λ t. omega (arith, ltb-false a b t, ap nat_abs (sym (sub_above a b (ltb-false a b t)) ∙ e)))

middle : (x y z w : ℤ) → (x +ℤ y) +ℤ (z +ℤ w) ≡ (x +ℤ z) +ℤ (y +ℤ w)
middle x y z w =
    +ℤ_assoc x y (z +ℤ w)
    ∙ ap (λ (u : ℤ). x +ℤ u) (sym (+ℤ_assoc y z w) ∙ ap (λ (u : ℤ). u +ℤ w) (+ℤ_comm y z) ∙ +ℤ_assoc z y w)
    ∙ sym (+ℤ_assoc x z (y +ℤ w))

-- differences are added part by part
pub sub_add : (a b c d : ℕ) → sub_ℕ a b +ℤ sub_ℕ c d ≡ sub_ℕ (a + c) (b + d)
sub_add a b c d =
    ap₂ (λ (u v : ℤ). u +ℤ v) (sym (minus_is a b)) (sym (minus_is c d))
    ∙ middle (pos a) (neg_ℤ (pos b)) (pos c) (neg_ℤ (pos d))
    ∙ ap (λ (u : ℤ). pos (a + c) +ℤ u) (sym (neg_ℤ-+ℤ (pos b) (pos d)))
    ∙ minus_is (a + c) (b + d)

pub sub_abs : (a b m : ℕ) → a ≤ m → b ≤ m → nat_abs (sub_ℕ a b) ≤ m
sub_abs a b m ha hb =
    cases (ltb a b)
    (λ t.
    let h = ltb-true a b t in
    rw t (omega arith))
    (λ t. rw t (omega arith))

pub add_abs : (x y : ℤ) → nat_abs (x +ℤ y) ≤ nat_abs x + nat_abs y
add_abs (pos a) (pos b) = omega arith
add_abs (pos a) (negsuc b) = sub_abs a (suc b) (a + suc b) (omega arith) (omega arith)
add_abs (negsuc a) (pos b) = sub_abs b (suc a) (suc a + b) (omega arith) (omega arith)
add_abs (negsuc a) (negsuc b) = omega arith

pub mag_abs : (x : ℤ) → mag x ≤ nat_abs x
mag_abs (pos a) = omega arith
mag_abs (negsuc a) = omega arith

pub sub_fits : (a b : ℕ) → a < 2 ^ 32 → b < 2 ^ 32 → SFits w64 (sub_ℕ a b)
sub_fits a b ha hb = record { sfits = omega (arith, mag_abs (sub_ℕ a b), sub_abs a b 4294967295 (omega arith) (omega arith)) }

pos_held : (x : ℤ) (a : ℕ) → x ≡ pos a → a < 2 ^ 32 → to_z w64 (of_z w64 x) ≡ pos a
pos_held x a e h = rw e (to_z-of_z {w = w64} (record { sfits = omega arith }))

-- two amounts of 32 bits, as the machine subtracts them
pub amounts_minus : (x y : ℤ) (a b : ℕ) → x ≡ pos a → y ≡ pos b → a < 2 ^ 32 → b < 2 ^ 32 → to_z w64 (of_z w64 (to_z w64 (of_z w64 x) -ℤ to_z w64 (of_z w64 y))) ≡ sub_ℕ a b
amounts_minus x y a b p q ha hb = rw (pos_held x a p ha, pos_held y b q hb, minus_is a b) (to_z-of_z (sub_fits a b ha hb))
