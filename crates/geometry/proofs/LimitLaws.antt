-- The test of a geometry's limits and the facts it stands for.
use Prim.Native.Nat.{ℕ, ◌≤◌}
use mathlib.Core.Bool.{true}
use mathlib.Core.Path.{◌≡◌}
use native.Mathlib.Omega.{arith}
use borrow.Author.Tests.{eqb-true, leb-true, le-leb}
use lib.Dec.{eqb}
use Rattle.geometry.specs.declared.Geometry.{Geometry}
use Rattle.geometry.specs.Limits.{page_count, valid, Valid}
use Rattle.bools.proofs.BoolLaws.{both, either}

pub page-count_bounds : (n : ℕ) → page_count n ≡ true → (4 ≤ n) × (n ≤ 64)
page-count_bounds n =
    either (eqb n 4) _ ((4 ≤ n) × (n ≤ 64)) (λ h. omega (arith, eqb-true n 4 h))
    (either (eqb n 8) _ ((4 ≤ n) × (n ≤ 64)) (λ h. omega (arith, eqb-true n 8 h))
    (either (eqb n 16) _ ((4 ≤ n) × (n ≤ 64)) (λ h. omega (arith, eqb-true n 16 h))
    (either (eqb n 32) _ ((4 ≤ n) × (n ≤ 64)) (λ h. omega (arith, eqb-true n 32 h))
    (λ h. omega (arith, eqb-true n 64 h)))))

pub limits : (g : Geometry) → valid g ≡ true → Valid g
limits g h₀ =
    let b₀ = both _ _ h₀ in
    let b₁ = both _ _ b₀.1 in
    let b₂ = both _ _ b₁.1 in
    let s₀ = both _ _ b₂.0 in
    let s₁ = both _ _ s₀.1 in
    let b₃ = both _ _ b₂.1 in
    let b₄ = both _ _ b₃.1 in
    let b₅ = both _ _ b₄.1 in
    let b₆ = both _ _ b₅.1 in
    record {
      main_least = leb-true _ _ b₀.0;
      main_most = leb-true _ _ b₁.0;
      spare_least = leb-true _ _ s₀.0;
      spare_most = leb-true _ _ s₁.0;
      pages_one = s₁.1;
      pages_least = (page-count_bounds g.pages s₁.1).0;
      pages_most = (page-count_bounds g.pages s₁.1).1;
      blocks_least = leb-true _ _ b₃.0;
      blocks_most = leb-true _ _ b₄.0;
      blocks_room = leb-true _ _ b₅.0;
      logical_least = leb-true _ _ b₆.0;
      logical_most = leb-true _ _ b₆.1;
    }

-- and back
pub holds : (g : Geometry) → Valid g → valid g ≡ true
holds g v =
    simp (
      le-leb _ _ v.main_least,
      le-leb _ _ v.main_most,
      le-leb _ _ v.spare_least,
      le-leb _ _ v.spare_most,
      v.pages_one,
      le-leb _ _ v.blocks_least,
      le-leb _ _ v.blocks_most,
      le-leb _ _ v.blocks_room,
      le-leb _ _ v.logical_least,
      le-leb _ _ v.logical_most,
    )
