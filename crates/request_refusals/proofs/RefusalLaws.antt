-- The refusals of a request for one page: each is answered exactly under its condition, and no earlier one. Assumes nothing.
use Prim.Native.Nat.{ℕ, ◌≤◌, ◌<◌}
use mathlib.Core.Bool.{Bool, true, false}
use mathlib.Core.Logic.{◌⊎◌, inl, inr}
use mathlib.Core.Path.{◌≡◌, sym, subst}
use native.Mathlib.Omega.{arith}
use borrow.Table.Steps.{cases}
use borrow.Author.Tests.{eq-eqb, ne_eqb, eqb-true, eqb-false, lt-ltb, le-ltb, ltb-true, ltb-false}
use lib.Dec.{eqb, ltb}
use Rattle.geometry.specs.declared.Geometry.{Geometry}
use Rattle.state.specs.State.{mounted}
use Rattle.state.specs.declared.State.{State}
use Rattle.request_refusals.specs.Refusals.{refusal}

-- a request that is not refused
pub record Accepted (g : Geometry) (fits : Bool) (state : State) (logical page long : ℕ) : Type 0 where
  pub sizes_fit : fits ≡ true
  pub is_mounted : mounted state g.blocks g.logical ≡ true
  pub logical_below : logical < g.logical
  pub page_below : page < g.pages
  pub buffer_long : long ≡ g.main

module _ (g : Geometry) (fits : Bool) (state : State) (logical page long : ℕ) where
  pub refused_geometry : fits ≡ false → refusal g fits state logical page long ≡ 1
  unfolding refusal
  refused_geometry f = rw f

  pub refused_unmounted : fits ≡ true → mounted state g.blocks g.logical ≡ false → refusal g fits state logical page long ≡ 7
  unfolding refusal
  refused_unmounted t f = rw (t, f)

  pub refused_logical : fits ≡ true → mounted state g.blocks g.logical ≡ true → g.logical ≤ logical → refusal g fits state logical page long ≡ 2
  unfolding refusal
  refused_logical t m h = rw (t, m, le-ltb logical g.logical h)

  pub refused_page : fits ≡ true → mounted state g.blocks g.logical ≡ true → logical < g.logical → g.pages ≤ page → refusal g fits state logical page long ≡ 2
  unfolding refusal
  refused_page t m l h = rw (t, m, lt-ltb logical g.logical l, le-ltb page g.pages h)

  pub refused_length : fits ≡ true → mounted state g.blocks g.logical ≡ true → logical < g.logical → page < g.pages → (long ≡ g.main → ⊥) → refusal g fits state logical page long ≡ 3
  unfolding refusal
  refused_length t m l p x =
      rw (t, m, lt-ltb logical g.logical l, lt-ltb page g.pages p, ne_eqb long g.main x)

  pub accepted : Accepted g fits state logical page long → refusal g fits state logical page long ≡ 0
  unfolding refusal
  accepted a =
      rw (
        a.sizes_fit,
        a.is_mounted,
        lt-ltb logical g.logical a.logical_below,
        lt-ltb page g.pages a.page_below,
        eq-eqb long g.main a.buffer_long,
      )

  -- these are all the cases
  pub by_refusal : (P : ℕ → Type 0) → (fits ≡ false → P 1) → (fits ≡ true → mounted state g.blocks g.logical ≡ false → P 7)
      → (fits ≡ true → mounted state g.blocks g.logical ≡ true → g.logical ≤ logical → P 2)
      → (fits ≡ true → mounted state g.blocks g.logical ≡ true → logical < g.logical → g.pages ≤ page → P 2)
      → (fits ≡ true → mounted state g.blocks g.logical ≡ true → logical < g.logical → page < g.pages → (long ≡ g.main → ⊥) → P 3)
      → (Accepted g fits state logical page long → P 0) → P (refusal g fits state logical page long)
  by_refusal P one seven two second three none =
      cases fits
      (λ t. cases (mounted state g.blocks g.logical)
      (λ m. cases (ltb logical g.logical)
      (λ l.
      let l' = ltb-true logical g.logical l in
      cases (ltb page g.pages)
      (λ p.
      let p' = ltb-true page g.pages p in
      cases (eqb long g.main)
      (λ b.
      let all : Accepted g fits state logical page long =
      record { sizes_fit = t; is_mounted = m; logical_below = l'; page_below = p'; buffer_long = eqb-true long g.main b } in
      subst P (sym (accepted all)) (none all))
      (λ f.
      let x = eqb-false long g.main f in
      subst P (sym (refused_length t m l' p' x)) (three t m l' p' x)))
      (λ f.
      let h = ltb-false page g.pages f in
      subst P (sym (refused_page t m l' h)) (second t m l' h)))
      (λ f.
      let h = ltb-false logical g.logical f in
      subst P (sym (refused_logical t m h)) (two t m h)))
      (λ f. subst P (sym (refused_unmounted t f)) (seven t f)))
      (λ f. subst P (sym (refused_geometry f)) (one f))

  -- each number comes only under its condition
  pub accepts : refusal g fits state logical page long ≡ 0 → Accepted g fits state logical page long
  accepts =
      by_refusal (λ k. k ≡ 0 → Accepted g fits state logical page long)
      (λ f e. absurd (omega (arith, e)))
      (λ t f e. absurd (omega (arith, e)))
      (λ t m h e. absurd (omega (arith, e)))
      (λ t m l h e. absurd (omega (arith, e)))
      (λ t m l p x e. absurd (omega (arith, e)))
      (λ all e. all)

  pub only_geometry : refusal g fits state logical page long ≡ 1 → fits ≡ false
  only_geometry =
      by_refusal (λ k. k ≡ 1 → fits ≡ false)
      (λ f e. f)
      (λ t f e. absurd (omega (arith, e)))
      (λ t m h e. absurd (omega (arith, e)))
      (λ t m l h e. absurd (omega (arith, e)))
      (λ t m l p x e. absurd (omega (arith, e)))
      (λ all e. absurd (omega (arith, e)))

  pub only_unmounted : refusal g fits state logical page long ≡ 7 → (fits ≡ true) × (mounted state g.blocks g.logical ≡ false)
  only_unmounted =
      by_refusal (λ k. k ≡ 7 → (fits ≡ true) × (mounted state g.blocks g.logical ≡ false))
      (λ f e. absurd (omega (arith, e)))
      (λ t f e. (t, f))
      (λ t m h e. absurd (omega (arith, e)))
      (λ t m l h e. absurd (omega (arith, e)))
      (λ t m l p x e. absurd (omega (arith, e)))
      (λ all e. absurd (omega (arith, e)))

  pub only_address : refusal g fits state logical page long ≡ 2 → (fits ≡ true) × (mounted state g.blocks g.logical ≡ true) × ((g.logical ≤ logical) ⊎ (g.pages ≤ page))
  only_address =
      by_refusal (λ k. k ≡ 2 → (fits ≡ true) × (mounted state g.blocks g.logical ≡ true) × ((g.logical ≤ logical) ⊎ (g.pages ≤ page)))
      (λ f e. absurd (omega (arith, e)))
      (λ t f e. absurd (omega (arith, e)))
      (λ t m h e. (t, m, inl h))
      (λ t m l h e. (t, m, inr h))
      (λ t m l p x e. absurd (omega (arith, e)))
      (λ all e. absurd (omega (arith, e)))

  pub only_length : refusal g fits state logical page long ≡ 3
      → (fits ≡ true) × (mounted state g.blocks g.logical ≡ true) × (logical < g.logical) × (page < g.pages) × (long ≡ g.main → ⊥)
  only_length =
      by_refusal (λ k. k ≡ 3 → (fits ≡ true) × (mounted state g.blocks g.logical ≡ true) × (logical < g.logical) × (page < g.pages) × (long ≡ g.main → ⊥))
      (λ f e. absurd (omega (arith, e)))
      (λ t f e. absurd (omega (arith, e)))
      (λ t m h e. absurd (omega (arith, e)))
      (λ t m l h e. absurd (omega (arith, e)))
      (λ t m l p x e. (t, m, l, p, x))
      (λ all e. absurd (omega (arith, e)))
