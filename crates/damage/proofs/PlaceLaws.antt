-- Where blocks and pages lie in the array: one that is replaced, and the others. Assumes nothing.
use Prim.Native.Nat.{ℕ, ◌+◌, ◌*◌, ◌≤◌, ◌<◌}
use mathlib.Core.List.{List}
use mathlib.Core.Logic.{◌⊎◌, inl, inr, ⊎_elim}
use mathlib.Core.Path.{◌≡◌, sym, ap, subst, ◌∙◌}
use native.Mathlib.Nat.{mul-le-mul_right, suc-mul, add-zero}
use native.Mathlib.Omega.{arith}
use borrow.Table.Steps.{cases}
use borrow.Author.Tests.{ltb-true, ltb-false}
use lib.Dec.{ltb}
use lib.ListN.{length, drop, replicate, length-replicate, get_or-replicate}
use lib.Seq.{get_or-take, get_or-drop, ext_get_or}
use Rattle.geometry.specs.declared.Geometry.{Geometry}
use Rattle.geometry.specs.Limits.{Valid}
use Rattle.geometry.specs.Sizes.{page_size, block_size, chip_size, row_of}
use Rattle.geometry.proofs.SizeLaws.{block_within, row_within, row_below, row_place}
use Rattle.cells.specs.Part.{part, put}
use Rattle.cells.proofs.PartLaws.{length_part, part-put, part-put-before, part-put-after}
use Rattle.copies.specs.Blocks.{block_in, page_in}
use Rattle.copies.proofs.PlaceLaws.{row_is_page}

-- two pieces of one size in different places
pub apart : (n b c : ℕ) → (b ≡ c → ⊥) → (b * n + n ≤ c * n) ⊎ (c * n + n ≤ b * n)
apart n b c x =
    cases (ltb b c)
    (λ t. inl (omega (arith, suc-mul b n, mul-le-mul_right n (ltb-true b c t))))
    (λ t.
    let above : c < b = omega (arith, ltb-false b c t, x) in
    inr (omega (arith, suc-mul c n, mul-le-mul_right n above)))

-- one of them is replaced
pub part_elsewhere : (at n b k : ℕ) (ys xs : List ℕ) → length ys ≡ k → at + k ≤ length xs → (b + n ≤ at) ⊎ (at + k ≤ b) → part b n (put at ys xs) ≡ part b n xs
part_elsewhere at n b k ys xs e h side =
    let fits : at + length ys ≤ length xs = omega (arith, e, h) in
    ⊎_elim (λ before. part-put-before b n at ys xs fits before) (λ after. part-put-after b n at ys xs fits (omega (arith, e, after))) side

pub part_there : (at k : ℕ) (ys xs : List ℕ) → length ys ≡ k → at + k ≤ length xs → part at k (put at ys xs) ≡ ys
part_there at k ys xs e h =
    subst (λ (n : ℕ). part at n (put at ys xs) ≡ ys) e (part-put at ys xs (omega (arith, e, h)))

-- a part of bytes FFh
pub part-erased : (at n k : ℕ) → at + n ≤ k → part at n (replicate k 255) ≡ replicate n 255
part-erased at n k h =
    let long : length (part at n (replicate k 255)) ≡ n = length_part at n (replicate k 255) (omega (arith, h, length-replicate {A = ℕ} k 255)) in
    ext_get_or 0 (part at n (replicate k 255)) (replicate n 255) (long ∙ sym (length-replicate {A = ℕ} n 255))
    (λ i l.
    get_or-take n (drop at (replicate k 255)) i 0 (omega (arith, l, long))
    ∙ get_or-drop at (replicate k 255) i 0
    ∙ get_or-replicate k (at + i) 255 0 (omega (arith, l, long, h))
    ∙ sym (get_or-replicate n i 255 0 (omega (arith, l, long))))

-- a page of a block is its row of the array
pub page-place : (g : Geometry) → Valid g → (array : List ℕ) (b i : ℕ) → i < g.pages → page_in g (block_in g array b) i ≡ part (row_of g b i * page_size g) (page_size g) array
page-place g v array b i h =
    sym (row_is_page g v array b i h) ∙ ap (λ (k : ℕ). part k (page_size g) array) (add-zero (row_of g b i * page_size g))

pub page-within : (g : Geometry) → (i : ℕ) → i < g.pages → i * page_size g + page_size g ≤ block_size g
page-within g i h = omega (arith, suc-mul i (page_size g), mul-le-mul_right (page_size g) h)

-- a page of an erased block
pub page-erased : (g : Geometry) (i : ℕ) → i < g.pages → page_in g (replicate (block_size g) 255) i ≡ replicate (page_size g) 255
page-erased g i h = part-erased (i * page_size g) (page_size g) (block_size g) (page-within g i h)

module _ (g : Geometry) (v : Valid g) (array : List ℕ) (long : length array ≡ chip_size g) (b : ℕ) (below : b < g.blocks) where
  within : b * block_size g + block_size g ≤ length array
  within = omega (arith, long, block_within g v b below)

  pub block_long : length (block_in g array b) ≡ block_size g
  block_long = length_part (b * block_size g) (block_size g) array within

  pub page-long : (i : ℕ) → i < g.pages → length (page_in g (block_in g array b) i) ≡ page_size g
  page-long i h = length_part (i * page_size g) (page_size g) (block_in g array b) (omega (arith, block_long, page-within g i h))

  -- the block is replaced
  pub block_there : (ys : List ℕ) → length ys ≡ block_size g → block_in g (put (b * block_size g) ys array) b ≡ ys
  block_there ys e = part_there (b * block_size g) (block_size g) ys array e within

  pub block_elsewhere : (c : ℕ) (ys : List ℕ) → (c ≡ b → ⊥) → length ys ≡ block_size g → block_in g (put (b * block_size g) ys array) c ≡ block_in g array c
  block_elsewhere c ys x e =
      part_elsewhere (b * block_size g) (block_size g) (c * block_size g) (block_size g) ys array e within (apart (block_size g) c b x)

  -- a page of it is replaced
  module _ (p : ℕ) (page_below : p < g.pages) (ys : List ℕ) (size : length ys ≡ page_size g) where
    abbrev after : List ℕ
    after = put (row_of g b p * page_size g) ys array

    in_chip : row_of g b p * page_size g + page_size g ≤ length array
    in_chip = omega (arith, long, row_within g v (row_of g b p) (row_below g v b p below page_below))

    pub page_there : page_in g (block_in g after b) p ≡ ys
    page_there = page-place g v after b p page_below ∙ part_there (row_of g b p * page_size g) (page_size g) ys array size in_chip

    pub page_elsewhere : (i : ℕ) → i < g.pages → (i ≡ p → ⊥) → page_in g (block_in g after b) i ≡ page_in g (block_in g array b) i
    page_elsewhere i h x =
        let other : row_of g b i ≡ row_of g b p → ⊥ = λ e. x (omega (arith, e)) in
        page-place g v after b i h
        ∙ part_elsewhere (row_of g b p * page_size g) (page_size g) (row_of g b i * page_size g) (page_size g) ys array size in_chip (apart (page_size g) (row_of g b i) (row_of g b p) other)
        ∙ sym (page-place g v array b i h)

    -- the row lies in its block
    beside : (c : ℕ) → (c * block_size g + block_size g ≤ b * block_size g) ⊎ (b * block_size g + block_size g ≤ c * block_size g)
        → (c * block_size g + block_size g ≤ row_of g b p * page_size g) ⊎ (row_of g b p * page_size g + page_size g ≤ c * block_size g)
    beside c side =
        ⊎_elim
        (λ before. inl (omega (arith, before, row_place g v b p)))
        (λ after. inr (omega (arith, after, row_place g v b p, page-within g p page_below))) side

    pub page_other_block : (c : ℕ) → (c ≡ b → ⊥) → block_in g after c ≡ block_in g array c
    page_other_block c x =
        part_elsewhere (row_of g b p * page_size g) (block_size g) (c * block_size g) (page_size g) ys array size in_chip (beside c (apart (block_size g) c b x))
