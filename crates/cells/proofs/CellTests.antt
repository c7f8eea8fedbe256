-- Programs and erases of a few bytes, computed.
use mathlib.Core.Path.{◌≡◌, refl}
use mathlib.Core.List.{[], ◌∷◌}
use Rattle.cells.specs.Cells.{programmed, weakened, raised}

-- a program clears the bits that its data has clear, and what is past the data stays
program_clears : programmed (255 ∷ 170 ∷ 15 ∷ []) (240 ∷ 204 ∷ []) ≡ 240 ∷ 136 ∷ 15 ∷ []
unfolding programmed
program_clears = refl

-- weakened data has clear only what the mask has set, and nothing past the mask
mask_weakens : weakened (0 ∷ 240 ∷ 0 ∷ []) (129 ∷ 60 ∷ []) ≡ 126 ∷ 243 ∷ 255 ∷ []
unfolding weakened
mask_weakens = refl

-- an erase sets the bits that the mask has set, and what is past the mask stays
erase_raises : raised (0 ∷ 129 ∷ 7 ∷ []) (255 ∷ 24 ∷ []) ≡ 255 ∷ 153 ∷ 7 ∷ []
unfolding raised
erase_raises = refl
