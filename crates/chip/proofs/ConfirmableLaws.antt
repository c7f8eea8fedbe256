-- What the test before a confirm cycle tells. Assumes nothing.
use Prim.Native.Nat.{◌<◌}
use mathlib.Core.Bool.{true}
use mathlib.Core.Path.{◌≡◌}
use borrow.Author.Tests.{eqb-true, ltb-true}
use lib.ListN.{length}
use Rattle.geometry.specs.Sizes.{block_size, row_count}
use Rattle.bools.proofs.BoolLaws.{both}
use Rattle.chip_array.specs.Device.{Device, Setting, Fitting, row_at}
use Rattle.chip.specs.Chip.{confirmable}
use Rattle.chip_array.proofs.DeviceLaws.{fits}

-- the test of a confirm cycle and the facts it stands for
pub confirms : (s : Setting) (d : Device) → confirmable s d ≡ true
    → Fitting s.geometry (length d.array) (length d.register) (length d.history)
    × ((length s.mask ≡ block_size s.geometry) × (row_at d.interface < row_count s.geometry))
unfolding confirmable
confirms s d t₀ =
    let t₁ = both _ _ t₀ in
    let t₂ = both _ _ t₁.1 in
    (fits _ _ _ _ t₁.0, (eqb-true _ _ t₂.0, ltb-true _ _ t₂.1))
