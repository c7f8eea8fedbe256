-- The count of blocks that failed in a trace. Assumes nothing.
use Prim.Native.Nat.{ℕ, zero, suc, ◌+◌, ◌≤◌, ◌<◌}
use mathlib.Core.Bool.{Bool, true, false, cond}
use mathlib.Core.List.{List, []}
use mathlib.Core.Path.{◌≡◌, refl, sym, ap, ◌∙◌}
use native.Mathlib.Omega.{arith}
use borrow.Table.Steps.{cases}
use borrow.Author.Tests.{eqb-true, eqb-false, ne_eqb}
use lib.Dec.{eqb}
use Rattle.bools.proofs.BoolLaws.{or_none}
use Rattle.operations.specs.Trace.{ArrayOperation}
use Rattle.damage.specs.Run.{failed_in, failed_count}

-- none at first, as many where the same ones failed, no fewer where these failed too, and one more where one more did
pub failed_none : (n : ℕ) → failed_count [] n ≡ 0
unfolding failed_count failed_in
failed_none zero = refl
failed_none (suc n) = rw (failed_none n)

module _ (os ps : List ArrayOperation) where
  pub failed_same : ((c : ℕ) → failed_in c ps ≡ failed_in c os) → (n : ℕ) → failed_count ps n ≡ failed_count os n
  unfolding failed_count
  failed_same e zero = refl
  failed_same e (suc n) = rw (e n, failed_same e n)

  pub failed_least : ((c : ℕ) → failed_in c os ≡ true → failed_in c ps ≡ true) → (n : ℕ) → failed_count os n ≤ failed_count ps n
  unfolding failed_count
  failed_least e zero = omega arith
  failed_least e (suc n) =
      let less = failed_least e n in
      cases (failed_in n os) (λ t. rw (t, e n t) (omega (arith, less))) (λ f. rw f (omega (arith, less)))

  module _ (b : ℕ) (was : failed_in b os ≡ false) (e : (c : ℕ) → failed_in c ps ≡ cond (failed_in c os) true (cond (eqb b c) true false)) where
    failed_before : (n : ℕ) → n ≤ b → failed_count ps n ≡ failed_count os n
    unfolding failed_count
    failed_before zero h = refl
    failed_before (suc n) h =
        rw (e n, ne_eqb b n (λ x. omega (arith, x, h)), failed_before n (omega (arith, h))) (ap (λ (x : Bool). failed_count os n + cond x 1 0) (or_none (failed_in n os)))

    pub failed_more : (n : ℕ) → b < n → failed_count ps n ≡ failed_count os n + 1
    unfolding failed_count
    failed_more zero h = absurd (omega (arith, h))
    failed_more (suc n) h =
        cases (eqb b n)
        (λ y.
        let same = eqb-true b n y in
        let unfailed : failed_in n os ≡ false = ap (λ (k : ℕ). failed_in k os) (sym same) ∙ was in
        rw (e n, y, unfailed, failed_before n (omega (arith, same))) (omega arith))
        (λ f.
        let less = failed_more n (omega (arith, h, eqb-false b n f)) in
        rw (e n, f, or_none (failed_in n os)) (omega (arith, less)))
