-- Blocks and pages that were erased in part: a block whose pages are all whole gets no greater number. Assumes nothing.
use Prim.Native.Nat.{ℕ, zero, suc, ◌*◌, ◌<◌}
use mathlib.Core.Bool.{true}
use mathlib.Core.List.{List, [], ◌∷◌}
use mathlib.Core.Path.{◌≡◌, refl, sym, ap, subst, ◌∙◌}
use native.Mathlib.Omega.{arith}
use lib.Bits.{bit_or}
use lib.ListN.{length, get_or, take, drop}
use Rattle.geometry.specs.declared.Geometry.{Geometry}
use Rattle.geometry.specs.Limits.{Valid}
use Rattle.geometry.specs.Sizes.{page_size, block_size}
use Rattle.cells.specs.Bytes.{Bytes}
use Rattle.cells.specs.Cells.{raised}
use Rattle.cells.proofs.CellLaws.{bytes_drop}
use Rattle.cells.proofs.PartLaws.{length_part, bytes_part}
use Rattle.pages.specs.Layout.{Sized, label_of}
use Rattle.pages.specs.Over.{Over}
use Rattle.pages.proofs.OverLaws.{over_refl, raised-over}
use Rattle.pages.proofs.LayoutLaws.{whole_over_any}
use Rattle.copies.specs.Blocks.{page_in, whole_in, greatest_to}
use Rattle.copies.proofs.NumberLaws.{greatest-most, greatest_least}
use Rattle.damage.proofs.PlaceLaws.{page-within}

-- a page of a block that was erased in part is its page, erased in part
pub take-raised : (n : ℕ) (xs ms : List ℕ) → take n (raised xs ms) ≡ raised (take n xs) ms
unfolding raised
take-raised zero xs ms = refl
take-raised (suc n) [] ms = refl
take-raised (suc n) (x ∷ xs) ms = ap (λ (l : List ℕ). bit_or x (get_or ms 0 0) ∷ l) (take-raised n xs (drop 1 ms))

drop-nil : (n : ℕ) → drop n (drop {A = ℕ} 1 []) ≡ []
drop-nil zero = refl
drop-nil (suc n) = refl

drop_one : (n : ℕ) (ms : List ℕ) → drop n (drop 1 ms) ≡ drop (suc n) ms
drop_one n [] = drop-nil n
drop_one n (m ∷ ms) = refl

pub drop-raised : (n : ℕ) (xs ms : List ℕ) → drop n (raised xs ms) ≡ raised (drop n xs) (drop n ms)
unfolding raised
drop-raised zero xs ms = refl
drop-raised (suc n) [] ms = refl
drop-raised (suc n) (x ∷ xs) ms = drop-raised n xs (drop 1 ms) ∙ ap (raised (drop n xs)) (drop_one n ms)

pub page-raised : (g : Geometry) (row ms : List ℕ) (i : ℕ) → page_in g (raised row ms) i ≡ raised (page_in g row i) (drop (i * page_size g) ms)
page-raised g row ms i =
    ap (take (page_size g)) (drop-raised (i * page_size g) row ms) ∙ take-raised (page_size g) (drop (i * page_size g) row) (drop (i * page_size g) ms)

module _ (g : Geometry) (v : Valid g) (row ms : List ℕ) (long : length row ≡ block_size g) (row-bytes : Bytes row) (mask_bytes : Bytes ms) (all_whole : (i : ℕ) → i < g.pages → whole_in g row i ≡ true) where
  -- a page that is whole is as it was
  whole_same : (i : ℕ) → i < g.pages → whole_in g (raised row ms) i ≡ true → page_in g (raised row ms) i ≡ page_in g row i
  whole_same i h t =
      let page = page_in g row i in
      let sized = length_part (i * page_size g) (page_size g) row (omega (arith, long, page-within g i h)) in
      let size : Sized g.main page = record { spare_least = omega (arith, sized, v.spare_least); most = omega (arith, sized, v.main_most, v.spare_most) } in
      let bytes : Bytes page = bytes_part (i * page_size g) (page_size g) row row-bytes in
      let more : Bytes (drop (i * page_size g) ms) = bytes_drop (i * page_size g) ms mask_bytes in
      let up : Over page (raised page (drop (i * page_size g) ms)) = raised-over (drop (i * page_size g) ms) (over_refl page bytes) more in
      let over : Over page (page_in g (raised row ms) i) = subst (Over page) (sym (page-raised g row ms i)) up in
      whole_over_any g.main size over (all_whole i h) t

  -- so no number grows
  pub raised_lower : (k : ℕ) → greatest_to g row g.pages < k → greatest_to g (raised row ms) g.pages < k
  raised_lower k less =
      greatest-most g (raised row ms) k g.pages (omega (arith, less))
      (λ i h t.
      let same = ap (λ (x : List ℕ). (label_of g.main x).number) (whole_same i h t) in
      omega (arith, same, greatest_least g row g.pages i h (all_whole i h), less))
