-- Sizes in bytes, rows, and addresses as bytes, low byte first.
use Rattle.std.specs.Prelude.{ℕ, ◌+◌, ◌*◌, ◌/◌, ◌%◌, cond, List, [], ◌∷◌, eqb}
use Rattle.geometry.specs.declared.Geometry.{Geometry}

abbrev pub page_size : Geometry → ℕ
page_size g = g.main + g.spare

abbrev pub block_size : Geometry → ℕ
block_size g = g.pages * page_size g

abbrev pub chip_size : Geometry → ℕ
chip_size g = g.blocks * block_size g

-- pages of the chip
abbrev pub row_count : Geometry → ℕ
row_count g = g.blocks * g.pages

-- row = block × P + page
abbrev pub row_of : Geometry → ℕ → ℕ → ℕ
row_of g block page = block * g.pages + page

-- the binary logarithm of each page count
abbrev pub page_shift : ℕ → ℕ
page_shift pages = cond (eqb pages 4) 2 (cond (eqb pages 8) 3 (cond (eqb pages 16) 4 (cond (eqb pages 32) 5 6)))

-- two column bytes, low byte first
abbrev pub column_bytes : ℕ → List ℕ
column_bytes c = c % 256 ∷ c / 256 % 256 ∷ []

-- three row bytes, low byte first
abbrev pub row_bytes : ℕ → List ℕ
row_bytes r = r % 256 ∷ r / 256 % 256 ∷ r / 256 / 256 % 256 ∷ []
