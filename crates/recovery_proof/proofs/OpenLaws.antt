-- The refusals that look at what is open, the answers that give it up, and stores that a request leaves as they were. Assumes nothing.
use Prim.Native.Nat.{ℕ, ◌≤◌, ◌<◌}
use mathlib.Core.Bool.{Bool, true, false}
use mathlib.Core.Logic.{inl, inr, ⊎_elim}
use mathlib.Core.Path.{◌≡◌, refl}
use native.Mathlib.Omega.{arith}
use borrow.Table.Steps.{cases}
use borrow.Author.Tests.{lt-leb}
use Rattle.geometry.specs.declared.Geometry.{Geometry}
use Rattle.bools.proofs.BoolLaws.{both}
use Rattle.chip_array.specs.Device.{Device, lengths_fit}
use Rattle.state.specs.State.{mounted}
use Rattle.open_write.specs.Open.{OpenState, open_fits, mounted_open}
use Rattle.open_write.specs.Requests.{stops, open_refusal}
use Rattle.recovery.specs.Calls.{Store, store, state_of}
use Rattle.recovery_proof.specs.Invariant.{Inv}
use Rattle.recovery_proof.proofs.InvariantLaws.{agrees-moved, still_inv, open_moved}

module _ (g : Geometry) (fits : Bool) (x : OpenState) (barred : Bool) where
  -- these are all the cases
  pub by_open : (P : ℕ → Type 0) → (fits ≡ false → P 1) → (fits ≡ true → mounted_open g x ≡ false → P 7) → (fits ≡ true → mounted_open g x ≡ true → barred ≡ true → P 15)
      → (fits ≡ true → mounted_open g x ≡ true → barred ≡ false → P 0) → P (open_refusal g fits x barred)
  unfolding open_refusal
  by_open P one seven fifteen none =
      cases fits
      (λ t.
      cases (mounted_open g x)
      (λ m. cases barred (λ b. rw (t, m, b) (fifteen t m b)) (λ b. rw (t, m, b) (none t m b)))
      (λ m. rw (t, m) (seven t m)))
      (λ t. rw t (one t))

  -- a request that goes on
  pub record Admitted : Type 0 where
    pub sizes_fit : fits ≡ true
    pub is_mounted : mounted_open g x ≡ true
    pub unbarred : barred ≡ false

  pub admits : open_refusal g fits x barred ≡ 0 → Admitted
  admits =
      by_open (λ k. k ≡ 0 → Admitted) (λ f e. absurd (omega (arith, e))) (λ t f e. absurd (omega (arith, e))) (λ t m b e. absurd (omega (arith, e)))
      (λ t m b e. record { sizes_fit = t; is_mounted = m; unbarred = b })

  pub admitted_so : fits ≡ true → mounted_open g x ≡ true → barred ≡ false → open_refusal g fits x barred ≡ 0
  unfolding open_refusal
  admitted_so t m b = rw (t, m, b)

-- mounted, and what is open in the geometry
pub base_mounted : (g : Geometry) (x : OpenState) → mounted_open g x ≡ true → mounted x.state g.blocks g.logical ≡ true
base_mounted g x t = (both (mounted x.state g.blocks g.logical) (open_fits g x) t).0

-- refusals below 8 stop nothing
pub stops-small : (k : ℕ) → k < 8 → stops k ≡ false
unfolding stops
stops-small k h = rw (lt-leb 8 k h)

-- a chip of another call, with the same array and history and ready for a command
pub kept_inv : (g : Geometry) (y : Store) → Inv g y → (d : Device) → lengths_fit g d ≡ true → d.array ≡ y.chip.array → d.history ≡ y.chip.history → d.interface.phase ≤ 2 → Inv g (store (state_of y) d y.account y.marked y.failed)
kept_inv g y i d f a h r =
    still_inv g y i (store (state_of y) d y.account y.marked y.failed) f i.kept a refl refl
    (⊎_elim
    (λ u. inl (record { agrees = agrees-moved a refl refl u.agrees; ready = r; quiet = u.quiet; shut = u.shut }))
    (⊎_elim (λ o. inr (inl (open_moved g y o d a h r))) (λ e. inr (inr e)))
    i.is)
