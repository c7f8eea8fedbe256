-- What the call gives, by its answer. Assumes nothing.
use Prim.Native.Nat.{ℕ, ◌-◌, ◌≤◌, ◌<◌}
use mathlib.Core.Bool.{true, false}
use mathlib.Core.List.{List}
use mathlib.Core.Path.{◌≡◌, refl}
use native.Mathlib.Omega.{arith}
use borrow.Table.Steps.{cases}
use borrow.Author.Tests.{eqb-true, eq-eqb, ne_eqb, leb-true, le-leb, lt-leb}
use lib.Dec.{eqb, leb}
use lib.ListN.{length}
use Rattle.geometry.specs.declared.Geometry.{Geometry}
use Rattle.geometry.specs.Limits.{valid, Valid}
use Rattle.geometry.proofs.LimitLaws.{limits}
use Rattle.dearest.specs.Dearest.{dearest_length, dearest_fates, dearest_cycles, Told, told, dearest_told}

module _ (g : Geometry) (failed : ℕ) (fates : List ℕ) where
  pub told_geometry : valid g ≡ false → told 1 0 fates ≡ dearest_told g failed fates
  unfolding dearest_told
  told_geometry f = rw f

  module _ (t : valid g ≡ true) where
    pub told_many : g.blocks - 3 < failed → told 2 0 fates ≡ dearest_told g failed fates
    unfolding dearest_told
    told_many h = rw (t, lt-leb failed (g.blocks - 3) h)

    pub told_length : failed ≤ g.blocks - 3 → (length fates ≡ dearest_length g failed → ⊥) → told 3 0 fates ≡ dearest_told g failed fates
    unfolding dearest_told
    told_length h x = rw (t, le-leb failed (g.blocks - 3) h, ne_eqb (length fates) (dearest_length g failed) x)

    pub told_done : failed ≤ g.blocks - 3 → length fates ≡ dearest_length g failed → told 0 (dearest_cycles g failed) (dearest_fates g failed) ≡ dearest_told g failed fates
    unfolding dearest_told
    told_done h e = rw (t, le-leb failed (g.blocks - 3) h, eq-eqb (length fates) (dearest_length g failed) e)

  -- by the tests, in their order
  by_told : (P : Told → Type 0) → (valid g ≡ true → failed ≤ g.blocks - 3 → length fates ≡ dearest_length g failed → P (told 0 (dearest_cycles g failed) (dearest_fates g failed)))
      → P (told 3 0 fates) → P (told 2 0 fates) → P (told 1 0 fates) → P (dearest_told g failed fates)
  unfolding dearest_told
  by_told P done short many wrong =
      cases (valid g)
      (λ t.
      cases (leb failed (g.blocks - 3))
      (λ h.
      cases (eqb (length fates) (dearest_length g failed))
      (λ e. rw (t, h, e) (done t (leb-true failed (g.blocks - 3) h) (eqb-true (length fates) (dearest_length g failed) e)))
      (λ e. rw (t, h, e) short))
      (λ h. rw (t, h) many))
      (λ f. rw f wrong)

  -- a refusal leaves the slice as it was and gives no cycles
  pub refused_kept : ((dearest_told g failed fates).answer ≡ 0 → ⊥) → ((dearest_told g failed fates).fates ≡ fates) × ((dearest_told g failed fates).cycles ≡ 0)
  refused_kept =
      by_told (λ t. (t.answer ≡ 0 → ⊥) → (t.fates ≡ fates) × (t.cycles ≡ 0)) (λ t h e x. absurd (x refl)) (λ x. (refl, refl)) (λ x. (refl, refl)) (λ x. (refl, refl))

  -- done: the geometry is valid, the permitted blocks can bear so many, and the slice holds the words
  pub record Done (t : Told) : Type 0 where
    pub is_valid : Valid g
    pub few : failed ≤ g.blocks - 3
    pub fates_are : t.fates ≡ dearest_fates g failed
    pub cycles_are : t.cycles ≡ dearest_cycles g failed

  pub done_so : (dearest_told g failed fates).answer ≡ 0 → Done (dearest_told g failed fates)
  done_so =
      by_told (λ t. t.answer ≡ 0 → Done t) (λ t h e z. record { is_valid = limits g t; few = h; fates_are = refl; cycles_are = refl })
      (λ z. absurd (omega (arith, z))) (λ z. absurd (omega (arith, z))) (λ z. absurd (omega (arith, z)))
