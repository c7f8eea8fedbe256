-- The fate words and cycles that the call tells are those of the dearest write. Assumes nothing.
use Prim.Native.Nat.{ℕ}
use mathlib.Core.List.{List}
use mathlib.Core.Path.{◌≡◌, sym, ap, subst}
use native.Mathlib.Omega.{arith}
use Rattle.geometry.specs.declared.Geometry.{Geometry}
use Rattle.geometry.specs.Limits.{Valid}
use Rattle.chip_array.specs.Device.{setting}
use Rattle.dearest.specs.Dearest.{dearest_fates, dearest_cycles, dearest_told}
use Rattle.dearest.proofs.ToldLaws.{done_so}
use Rattle.write_dearest.specs.Dearest.{Dearest, Bearable, DearestIs}
use Rattle.write_dearest.proofs.MostLaws.{write_most}
use Rattle.write_dearest.proofs.AttainedLaws.{write_attains}
use Rattle.write_dearest.proofs.ExistsLaws.{some_bears}

pub dearest_is : (g : Geometry) (failed : ℕ) → Valid g → Bearable g failed → DearestIs g failed
dearest_is g failed v few =
    record {
      most = λ mask words d n st logical page bytes ranged are_bytes z count.
          omega (arith, write_most (setting g mask words) d n st logical page bytes ranged are_bytes z, ap (dearest_cycles g) count);
      attained = λ mask. write_attains g mask failed;
      exists = some_bears g v (dearest_fates g failed) failed (dearest_cycles g failed) few;
    }

-- where the call is answered 0, its slice and its cycles are
pub told_dearest : (g : Geometry) (failed : ℕ) (fates : List ℕ) → (dearest_told g failed fates).answer ≡ 0
    → Dearest g failed (dearest_told g failed fates).fates (dearest_told g failed fates).cycles
told_dearest g failed fates z =
    let d = done_so g failed fates z in
    subst (λ (words : List ℕ). Dearest g failed words (dearest_told g failed fates).cycles) (sym d.fates_are)
    (subst (Dearest g failed (dearest_fates g failed)) (sym d.cycles_are) (dearest_is g failed d.is_valid d.few))
