-- A list that is written byte by byte so that it begins as the stream does. Assumes nothing.
use Prim.Native.Nat.{ℕ, ◌+◌, ◌-◌, ◌*◌, ◌≤◌, ◌<◌}
use mathlib.Core.List.{List}
use mathlib.Core.Path.{◌≡◌, sym, ap, ap₂, ◌∙◌}
use native.Mathlib.Omega.{arith}
use borrow.Author.Tests.{eqb-true, eqb-false}
use borrow.Table.Steps.{cases}
use lib.Dec.{eqb}
use lib.Bits.{bit_xor}
use lib.ListN.{length, get_or, set}
use lib.Seq.{get_or-set_same, get_or-set_other}
use Rattle.whitening.specs.Stream.{byte_given, Begins, Repeats}

pub begins_none : (r : ℕ) (xs : List ℕ) → Begins 0 r xs
begins_none r xs k h = absurd (omega (arith, h))

pub begins_fewer : (n m r : ℕ) (xs : List ℕ) → m ≤ n → Begins n r xs → Begins m r xs
begins_fewer n m r xs h b k l = b k (omega (arith, h, l))

-- one byte more
pub begins_more : (n r v : ℕ) (xs : List ℕ) → n < length xs → Begins n r xs → v ≡ byte_given n r → Begins (n + 1) r (set xs n v)
begins_more n r v xs h b e k l =
    cases (eqb k n)
    (λ t.
    let s = eqb-true k n t in
    ap (λ (j : ℕ). get_or (set xs n v) j 0) s ∙ get_or-set_same xs n v 0 h ∙ e ∙ ap (λ (j : ℕ). byte_given j r) (sym s))
    (λ t.
    let d = eqb-false k n t in
    get_or-set_other xs n k v 0 d ∙ b k (omega (arith, l, d)))

-- one byte more, made of two before it
pub begins_again : (n apart r : ℕ) (xs : List ℕ) → Repeats apart → 15 * apart ≤ n → 0 < apart → n < length xs → Begins n r xs
    → Begins (n + 1) r (set xs n (bit_xor (get_or xs (n - 15 * apart) 0) (get_or xs (n - 14 * apart) 0)))
begins_again n apart r xs again far some h b =
    let k : ℕ = n - 15 * apart in
    let near : n - 14 * apart ≡ k + apart = omega (arith, far) in
    let whole : k + 15 * apart ≡ n = omega (arith, far) in
    begins_more n r _ xs h b
    (ap₂ bit_xor (b k (omega (arith, far, some))) (b (n - 14 * apart) (omega (arith, far, some)) ∙ ap (λ (j : ℕ). byte_given j r) near)
    ∙ sym (again k r) ∙ ap (λ (j : ℕ). byte_given j r) whole)
