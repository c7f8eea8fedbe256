-- Laws of the table's page 0. Assumes nothing.
use Prim.Native.Nat.{ℕ, zero, suc, ◌+◌, ◌-◌, ◌*◌, ◌/◌, ◌≤◌, ◌<◌}
use mathlib.Core.Bool.{Bool, true, false, cond}
use mathlib.Core.List.{List, ◌++◌, append-nil, append_assoc}
use mathlib.Core.Path.{◌≡◌, refl, sym, ap, ap₂, ◌∙◌}
use native.Mathlib.Nat.{zero-add}
use native.Mathlib.Omega.{arith}
use borrow.Author.Tests.{eq-eqb, ne_eqb}
use lib.ListN.{length, get_or, take, drop, replicate, length-append, length-take, drop_of_length-le}
use lib.Seq.{length-take-le, get_or-take, take_at, drop_at, drop-drop}
use Rattle.geometry.specs.declared.Geometry.{Geometry}
use Rattle.geometry.specs.Limits.{Valid}
use Rattle.geometry.specs.Sizes.{page_size}
use Rattle.bitmaps.specs.Bitmap.{bit_at, count_bits, clear_from, bitmap_bytes}
use Rattle.pages.specs.Layout.{label_of, all_ones, bytes_of}
use Rattle.pages.proofs.ByteLaws.{take_rest, put_next, take_put}
use Rattle.pages.proofs.LayoutLaws.{length-bytes_of, number_of-bytes_of, all_ones-replicate}
use Rattle.cells.specs.Cells.{over}
use Rattle.cells.specs.Part.{put}
use Rattle.cells.proofs.PartLaws.{put-lent, length_part, part-take}
use Rattle.copies.specs.Table.{Roomy, field_of, bitmap_of, right_first, right_page, bits_with, table_page}

module _ (blocks logical : ℕ) (main : List ℕ) where
  pub right_rest : field_of main 0 ≡ blocks → field_of main 2 ≡ logical → field_of main 4 ≡ count_bits (bitmap_of blocks main) blocks → field_of main 6 ≡ 8 → clear_from (bitmap_of blocks main) blocks (8 * bitmap_bytes blocks - blocks) ≡ true → all_ones (drop (8 + bitmap_bytes blocks) main) ≡ right_first blocks logical main
  unfolding right_first
  right_rest b l n o c = rw (eq-eqb _ _ b, eq-eqb _ _ l, eq-eqb _ _ n, eq-eqb _ _ o, c)

-- a page of a table: another than page 0, page 0
module _ (g : Geometry) (p : ℕ) (page : List ℕ) where
  pub later-page : (p ≡ 0 → ⊥) → all_ones (take g.main page) ≡ right_page g p page
  unfolding right_page
  later-page z = rw (ne_eqb p 0 z)

  pub first_page_fact : p ≡ 0 → (label_of g.main page).logical ≡ 0 → right_first g.blocks g.logical (take g.main page) ≡ right_page g p page
  unfolding right_page
  first_page_fact z l = rw (eq-eqb p 0 z, eq-eqb _ 0 l)

-- a valid geometry has room for header and bitmap
pub valid_roomy : (g : Geometry) → Valid g → Roomy g.blocks g.main
valid_roomy g v =
    record {
      blocks_least = omega (arith, v.blocks_least);
      blocks_most = v.blocks_most;
      room = omega (arith, v.blocks_room, v.main_least);
      main_most = v.main_most;
    }

-- the bitmap's part of the page, and what follows it
pub bits_are : (blocks size : ℕ) (main : List ℕ) → size ≡ bitmap_bytes blocks → take (8 + size - 8) (drop 8 main) ≡ bitmap_of blocks main
bits_are blocks size main e =
    let k : 8 + size - 8 ≡ bitmap_bytes blocks = omega (arith, e) in
    ap (λ (n : ℕ). take n (drop 8 main)) k

pub rest_is : (blocks size : ℕ) (main : List ℕ) → size ≡ bitmap_bytes blocks → take (length main - (8 + size)) (drop (8 + size) main) ≡ drop (8 + bitmap_bytes blocks) main
rest_is blocks size main e = take_rest (8 + size) main ∙ ap (λ (k : ℕ). drop (8 + k) main) e

-- one field more
pairs : (xs ys : List ℕ) (n : ℕ) → length xs ≡ n → length ys ≡ 2 → length (xs ++ ys) ≡ n + 2
pairs xs ys n e f = length-append xs ys ∙ ap₂ ◌+◌ e f

-- the bitmap lies in the main bytes
pub bits_in_main : (g : Geometry) → Valid g → (size : ℕ) (page : List ℕ) → size ≡ bitmap_bytes g.blocks → take (8 + size - 8) (drop 8 page) ≡ bitmap_of g.blocks (take g.main page)
bits_in_main g v size page e =
    let k : 8 + size - 8 ≡ bitmap_bytes g.blocks = omega (arith, e) in
    ap (λ (n : ℕ). take n (drop 8 page)) k ∙ sym (part-take 8 (bitmap_bytes g.blocks) g.main page (valid_roomy g v).room)

-- page 0 as it is built: four fields, the bitmap, FFh
module _ (m p₁ p₂ p₃ p₄ p₅ p₆ bits : List ℕ) (blocks logical count size : ℕ) where
  pub built : size ≤ length bits → size ≡ bitmap_bytes blocks → count ≡ count_bits bits blocks
      → p₁ ≡ put 0 (bytes_of 2 blocks) m
      → p₂ ≡ put 2 (bytes_of 2 logical) p₁
      → p₃ ≡ put 4 (bytes_of 2 count) p₂
      → p₄ ≡ put 6 (bytes_of 2 8) p₃
      → p₅ ≡ put 8 (take size bits) p₄
      → length p₅ ≡ length m
      → p₆ ≡ take (8 + size) p₅ ++ replicate (length p₅ - (8 + size)) 255
      → p₆ ≡ table_page (length m) blocks logical bits
  unfolding table_page
  built b z n e₁ e₂ e₃ e₄ e₅ l e₆ =
      let f₁ = bytes_of 2 blocks in
      let f₂ = bytes_of 2 logical in
      let f₃ = bytes_of 2 count in
      let f₄ = bytes_of 2 8 in
      let q₂ : p₂ ≡ put 0 (f₁ ++ f₂) m =
      e₂ ∙ ap (put 2 f₂) e₁ ∙ put_next 0 2 f₂ f₁ m (length-bytes_of 2 blocks) (omega arith) in
      let q₃ : p₃ ≡ put 0 ((f₁ ++ f₂) ++ f₃) m =
      e₃ ∙ ap (put 4 f₃) q₂ ∙ put_next 0 4 f₃ (f₁ ++ f₂) m (pairs f₁ f₂ 2 (length-bytes_of 2 blocks) (length-bytes_of 2 logical)) (omega arith) in
      let q₄ : p₄ ≡ put 0 (((f₁ ++ f₂) ++ f₃) ++ f₄) m =
      e₄ ∙ ap (put 6 f₄) q₃ ∙ put_next 0 6 f₄ ((f₁ ++ f₂) ++ f₃) m (pairs (f₁ ++ f₂) f₃ 4 (pairs f₁ f₂ 2 (length-bytes_of 2 blocks) (length-bytes_of 2 logical)) (length-bytes_of 2 count)) (omega arith) in
      let k₈ : length (((f₁ ++ f₂) ++ f₃) ++ f₄) ≡ 8 =
      pairs ((f₁ ++ f₂) ++ f₃) f₄ 6 (pairs (f₁ ++ f₂) f₃ 4 (pairs f₁ f₂ 2 (length-bytes_of 2 blocks) (length-bytes_of 2 logical)) (length-bytes_of 2 count)) (length-bytes_of 2 8) in
      let q₅ : p₅ ≡ put 0 ((((f₁ ++ f₂) ++ f₃) ++ f₄) ++ take size bits) m =
      e₅ ∙ ap (put 8 (take size bits)) q₄ ∙ put_next 0 8 (take size bits) (((f₁ ++ f₂) ++ f₃) ++ f₄) m k₈ (omega arith) in
      let k : length ((((f₁ ++ f₂) ++ f₃) ++ f₄) ++ take size bits) ≡ 8 + size =
      length-append (((f₁ ++ f₂) ++ f₃) ++ f₄) (take size bits) ∙ ap₂ ◌+◌ k₈ (length-take-le size bits b) in
      e₆
      ∙ ap (λ (j : ℕ). take (8 + size) p₅ ++ replicate (j - (8 + size)) 255) l
      ∙ ap (λ (x : List ℕ). take (8 + size) x ++ replicate (length m - (8 + size)) 255) q₅
      ∙ ap (λ (x : List ℕ). x ++ replicate (length m - (8 + size)) 255)
      (ap (λ (j : ℕ). take j (put 0 ((((f₁ ++ f₂) ++ f₃) ++ f₄) ++ take size bits) m)) (sym (zero-add (8 + size)))
      ∙ take_put 0 (8 + size) ((((f₁ ++ f₂) ++ f₃) ++ f₄) ++ take size bits) m k (omega arith))
      ∙ rw (z, n) (simp append_assoc)

-- blocks counted: no more than there are, and the same by the bytes that hold them
count-step : (b : Bool) (c n : ℕ) → c ≤ n → c + cond b 1 0 ≤ suc n
count-step true c n h = omega arith
count-step false c n h = omega arith

count_le : (bits : List ℕ) (n : ℕ) → count_bits bits n ≤ n
unfolding count_bits
count_le bits zero = omega arith
count_le bits (suc n) = count-step (bit_at bits n) (count_bits bits n) n (count_le bits n)

count-take : (bits : List ℕ) (k n : ℕ) → n ≤ 8 * k → count_bits (take k bits) n ≡ count_bits bits n
unfolding count_bits bit_at
count-take bits k zero h = refl
count-take bits k (suc n) h =
    let byte : get_or (take k bits) (n / 8) 0 ≡ get_or bits (n / 8) 0 = get_or-take k bits (n / 8) 0 (omega (arith, h)) in
    rw (count-take bits k n (omega (arith, h)), byte)

-- page 0 as it is built is right
module _ (main blocks logical : ℕ) (bits : List ℕ) where
  pub table_right : Roomy blocks main → logical < 65536 → bitmap_bytes blocks ≤ length bits
      → clear_from (take (bitmap_bytes blocks) bits) blocks (8 * bitmap_bytes blocks - blocks) ≡ true
      → right_first blocks logical (table_page main blocks logical bits) ≡ true
  unfolding table_page bytes_of
  table_right r l h clear =
      let k = bitmap_bytes blocks in
      let page = table_page main blocks logical bits in
      let ones : List ℕ = replicate (main - (8 + k)) 255 in
      let map : bitmap_of blocks page ≡ take k bits = take_at (take k bits) ones k (length-take-le k bits h) in
      let count : count_bits (bitmap_of blocks page) blocks ≡ count_bits bits blocks =
      ap (λ (x : List ℕ). count_bits x blocks) map ∙ count-take bits k blocks (omega arith) in
      let rest : drop (8 + k) page ≡ ones = sym (drop-drop k 8 page) ∙ drop_at (take k bits) ones k (length-take-le k bits h) in
      sym (right_rest blocks logical page
      (number_of-bytes_of 2 blocks (omega (arith, r.blocks_most)))
      (number_of-bytes_of 2 logical l)
      (number_of-bytes_of 2 (count_bits bits blocks) (omega (arith, r.blocks_most, count_le bits blocks)) ∙ sym count)
      (number_of-bytes_of 2 8 (omega arith))
      (ap (λ (x : List ℕ). clear_from x blocks (8 * k - blocks)) map ∙ clear))
      ∙ ap all_ones rest
      ∙ all_ones-replicate (main - (8 + k))

-- bytes over no more than as many take their place
pub over_all : (ys xs : List ℕ) → length xs ≤ length ys → over ys xs ≡ ys
over_all ys xs h = rw (drop_of_length-le xs {i = length ys} h, append-nil)

-- the bitmap of page 0 as it is copied to the start of a buffer
pub bitmap_copied : (g : Geometry) (p : ℕ) (page bits : List ℕ) → Valid g → length page ≡ page_size g → (size : ℕ) (y : List ℕ) → p ≡ 0 → size ≡ bitmap_bytes g.blocks
    → y ≡ over (take (8 + size - 8) (drop 8 page)) (take size bits) → y ++ drop size bits ≡ bits_with g p page bits
unfolding bits_with
bitmap_copied g p page bits v l size y z d f =
    let same = bits_in_main g v size page d in
    let long : length (bitmap_of g.blocks (take g.main page)) ≡ size =
    sym (ap length same) ∙ length_part 8 (8 + size - 8) page (omega (arith, d, l, (valid_roomy g v).room)) ∙ omega arith in
    let whole : y ≡ bitmap_of g.blocks (take g.main page) =
    f ∙ ap (λ (x : List ℕ). over x (take size bits)) same
    ∙ over_all (bitmap_of g.blocks (take g.main page)) (take size bits) (rw long (simp (length-take) (omega arith))) in
    rw (eq-eqb p 0 z, whole) (put-lent 0 size (bitmap_of g.blocks (take g.main page)) bits long)
