-- The dearest writes of the small chip, of chips of five and six blocks, of the 002 part and at the largest geometry, computed. Assumes
-- nothing.
use Prim.Native.Nat.{ℕ}
use mathlib.Core.List.{[], ◌∷◌}
use mathlib.Core.Path.{◌≡◌, refl}
use Rattle.geometry.specs.declared.Geometry.{Geometry}
use Rattle.dearest.specs.Dearest.{dearest_length, failing_to, dearest_fates, dearest_cycles, told, dearest_told}

abbrev small : ℕ → Geometry
small blocks = record { main = 32; spare = 16; pages = 4; blocks = blocks; logical = 2 }

abbrev part : Geometry
part = record { main = 2048; spare = 128; pages = 64; blocks = 4096; logical = 1 }

abbrev largest : Geometry
largest = record { main = 4096; spare = 256; pages = 64; blocks = 4096; logical = 1 }

small-none : dearest_fates (small 4) 0 ≡ 255 ∷ 255 ∷ 255 ∷ 255 ∷ 255 ∷ 255 ∷ 255 ∷ 255 ∷ []
unfolding dearest_fates dearest_length failing_to
small-none = refl

small_one : dearest_fates (small 4) 1
    ≡ 255 ∷ 255 ∷ 255 ∷ 255 ∷ 255 ∷ 255 ∷ 255 ∷ 65791 ∷ 255 ∷ 255 ∷ 255 ∷ 255 ∷ 255 ∷ 255 ∷ 255 ∷ 255 ∷ 255 ∷ 255 ∷ 255 ∷ 255 ∷ 255 ∷ []
unfolding dearest_fates dearest_length failing_to
small_one = refl

cycles_are : dearest_cycles (small 4) 0 ∷ dearest_cycles (small 4) 1 ∷ dearest_cycles (small 5) 2 ∷ dearest_cycles (small 6) 3 ∷ dearest_cycles part 0 ∷ dearest_cycles part 4093 ∷ dearest_cycles largest 4093 ∷ []
    ≡ 2403 ∷ 6314 ∷ 8715 ∷ 11116 ∷ 302143 ∷ 1237121678 ∷ 2335632014 ∷ []
unfolding dearest_cycles
cycles_are = refl

length_is : dearest_length largest 4093 ≡ 524097
unfolding dearest_length
length_is = refl

-- 1, then 2, then 3
refusals : dearest_told (small 3) 2 [] ∷ dearest_told (small 4) 2 [] ∷ dearest_told (small 4) 1 (7 ∷ []) ∷ []
    ≡ told 1 0 [] ∷ told 2 0 [] ∷ told 3 0 (7 ∷ []) ∷ []
unfolding dearest_told dearest_length
refusals = refl
