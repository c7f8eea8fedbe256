-- Bounds of the sizes, and where rows and blocks lie in the array.
use Prim.Native.Nat.{ℕ, ◌+◌, ◌*◌, ◌/◌, ◌%◌, ◌≤◌, ◌<◌}
use mathlib.Core.Path.{◌≡◌, ap, ◌∙◌}
use native.Mathlib.Nat.{mul-le-mul, mul-le-mul_right, suc-mul, mul_assoc, add-mul, mul-add-div_right, mul-add-mod_self_right, div-eq_of_lt, mod-eq_of_lt, add-zero, mod-lt, div-lt_iff_lt-mul}
use native.Mathlib.Omega.{arith}
use Rattle.geometry.specs.declared.Geometry.{Geometry}
use Rattle.geometry.specs.Limits.{Valid}
use Rattle.geometry.specs.Sizes.{page_size, block_size, chip_size, row_count, row_of}

module _ (g : Geometry) (v : Valid g) where
  pub page_size_most : page_size g ≤ 4352
  page_size_most = omega arith

  pub page_size_least : 48 ≤ page_size g
  page_size_least = omega arith

  pub block_size_most : block_size g ≤ 278528
  block_size_most = mul-le-mul v.pages_most page_size_most

  pub chip_size_most : chip_size g ≤ 1140850688
  chip_size_most = mul-le-mul v.blocks_most block_size_most

  pub row_count_most : row_count g ≤ 262144
  row_count_most = mul-le-mul v.blocks_most v.pages_most

  -- a row lies in the chip
  pub row_below : (b p : ℕ) → b < g.blocks → p < g.pages → row_of g b p < row_count g
  row_below b p hb hp = omega (arith, mul-le-mul_right g.pages hb, suc-mul b g.pages)

  pub block_of_row : (b p : ℕ) → p < g.pages → row_of g b p / g.pages ≡ b
  block_of_row b p hp =
      mul-add-div_right (omega arith) b p ∙ ap (λ (k : ℕ). b + k) (div-eq_of_lt hp) ∙ add-zero b

  pub page_of_row : (b p : ℕ) → p < g.pages → row_of g b p % g.pages ≡ p
  page_of_row b p hp = mul-add-mod_self_right b g.pages p ∙ mod-eq_of_lt hp

  pub row_block_below : (r : ℕ) → r < row_count g → r / g.pages < g.blocks
  row_block_below r h = (div-lt_iff_lt-mul {k = g.pages} {x = r} {y = g.blocks} (omega arith)).1 h

  pub row_page_below : (r : ℕ) → r % g.pages < g.pages
  row_page_below r = mod-lt r (omega arith)

  -- the bytes of a row lie in the array
  pub row_within : (r : ℕ) → r < row_count g → r * page_size g + page_size g ≤ chip_size g
  row_within r h =
      omega
      (arith, suc-mul r (page_size g), mul-le-mul_right (page_size g) h, mul_assoc g.blocks g.pages (page_size g))

  -- the bytes of a block lie in the array
  pub block_within : (b : ℕ) → b < g.blocks → b * block_size g + block_size g ≤ chip_size g
  block_within b h = omega (arith, suc-mul b (block_size g), mul-le-mul_right (block_size g) h)

  -- the bytes of a page lie in its block
  pub row_place : (b p : ℕ) → row_of g b p * page_size g ≡ b * block_size g + p * page_size g
  row_place b p =
      add-mul (b * g.pages) p (page_size g) ∙ ap (λ (k : ℕ). k + p * page_size g) (mul_assoc b g.pages (page_size g))
