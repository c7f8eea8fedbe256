-- Laws of a part of the array that is lent and comes back changed. Assumes nothing.
use Prim.Native.Nat.{ℕ, ◌+◌, ◌-◌, ◌*◌, ◌≤◌, ◌<◌}
use mathlib.Core.Path.{◌≡◌, ◌∙◌}
use mathlib.Core.List.{List, ◌++◌}
use native.Mathlib.Nat.{mul-le-mul_right}
use native.Mathlib.Omega.{arith}
use lib.ListN.{length, take, drop}
use Rattle.geometry.specs.declared.Geometry.{Geometry}
use Rattle.geometry.specs.Limits.{Valid}
use Rattle.geometry.specs.Sizes.{page_size, block_size, chip_size, row_count}
use Rattle.geometry.proofs.SizeLaws.{row_within, block_within}
use Rattle.cells.specs.Part.{part, put}
use Rattle.cells.proofs.PartLaws.{put-lent, length_part}

-- the part from the place at up to the place at + n is lent, and comes back as f makes it
pub lent : (at n : ℕ) (f : List ℕ → List ℕ) (ys xs : List ℕ) → at + n ≤ length xs → ((zs : List ℕ) → length (f zs) ≡ length zs)
    → ys ≡ f (part at (at + n - at) xs) → take at xs ++ (ys ++ drop (at + n - at) (drop at xs)) ≡ put at (f (part at n xs)) xs
lent at n f ys xs h same e =
    let k : at + n - at ≡ n = omega arith in
    rw (e, k) (put-lent at n (f (part at n xs)) xs (same (part at n xs) ∙ length_part at n xs h))

-- a mask for a block reaches beyond a page
pub two_pages_in_block : (g : Geometry) → Valid g → page_size g + page_size g ≤ block_size g
two_pages_in_block g v = omega (arith, mul-le-mul_right (page_size g) v.pages_least)

-- the bytes of a row, and those of a block, lie in the array
module _ (g : Geometry) (v : Valid g) (at size all : ℕ) (whole : all ≡ chip_size g) where
  pub row_lies : (r : ℕ) → r < row_count g → at ≡ r * page_size g → size ≡ page_size g → at + size ≤ all
  row_lies r h a s = rw (a, s, whole) (row_within g v r h)

  pub block_lies : (b : ℕ) → b < g.blocks → at ≡ b * block_size g → size ≡ block_size g → at + size ≤ all
  block_lies b h a s = rw (a, s, whole) (block_within g v b h)
