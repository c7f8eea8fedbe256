-- Bounds of the dearest write's cycles and words. Assumes nothing.
use Prim.Native.Nat.{ℕ, ◌+◌, ◌-◌, ◌*◌, ◌≤◌}
use native.Mathlib.Nat.{mul-le-mul}
use native.Mathlib.Omega.{arith}
use borrow.Table.Steps.{cases}
use lib.Dec.{eqb}
use Rattle.geometry.specs.declared.Geometry.{Geometry}
use Rattle.geometry.specs.Limits.{Valid}
use Rattle.geometry.specs.Sizes.{page_size}
use Rattle.dearest.specs.Dearest.{copy_operations, copy_cycles, dearest_cycles}

module _ (g : Geometry) (v : Valid g) where
  pub reads_most : (g.pages - 1) * (265 + g.main) ≤ 274743
  reads_most =
      let pages : g.pages - 1 ≤ 63 = omega (arith, v.pages_most) in
      let bytes : 265 + g.main ≤ 4361 = omega (arith, v.main_most) in
      mul-le-mul pages bytes

  pub programs-most : g.pages * (264 + page_size g) ≤ 295424
  programs-most =
      let bytes : 264 + page_size g ≤ 4616 = omega (arith, v.main_most, v.spare_most) in
      mul-le-mul v.pages_most bytes

  module _ (failed : ℕ) (few : failed ≤ g.blocks - 3) where
    pub words_most : (failed + 1) * copy_operations g ≤ 524032
    words_most =
        let fills : failed + 1 ≤ 4094 = omega (arith, few, v.blocks_most) in
        let words : copy_operations g ≤ 128 = omega (arith, v.pages_most) in
        mul-le-mul fills words

    pub copies_most : (failed + 1) * copy_cycles g ≤ 2335336326
    copies_most =
        let fills : failed + 1 ≤ 4094 = omega (arith, few, v.blocks_most) in
        let cycles : copy_cycles g ≤ 570429 = omega (arith, reads_most, programs-most) in
        mul-le-mul fills cycles

    -- no dearest write sends more; the largest geometry's sends as many (DearestTests)
    pub dearest_fits : dearest_cycles g failed ≤ 2335632014
    unfolding dearest_cycles
    dearest_fits =
        cases (eqb failed 0) (λ t. rw t (omega (arith, copies_most))) (λ f. rw f (omega (arith, copies_most, programs-most)))
