-- The words of the sizes, each stored in its place. Assumes nothing.
use Prim.Native.Nat.{ℕ}
use mathlib.Core.List.{List, [], ◌∷◌}
use mathlib.Core.Path.{◌≡◌, refl}
use native.Mathlib.Omega.{arith}
use lib.ListN.{length, set}
use Rattle.parameters.specs.declared.Sizes.{Sizes}
use Rattle.c_buffers.specs.Buffers.{size_words}

pub sizes_stored : (xs : List ℕ) (z : Sizes) → length xs ≡ 4 → set (set (set (set xs 0 z.main) 1 z.spare) 2 z.pages) 3 z.blocks ≡ size_words z
sizes_stored [] z e = absurd (omega arith)
sizes_stored (a ∷ []) z e = absurd (omega arith)
sizes_stored (a ∷ b ∷ []) z e = absurd (omega arith)
sizes_stored (a ∷ b ∷ c ∷ []) z e = absurd (omega arith)
sizes_stored (a ∷ b ∷ c ∷ d ∷ []) z e = refl
sizes_stored (a ∷ b ∷ c ∷ d ∷ x ∷ xs) z e = absurd (omega arith)
