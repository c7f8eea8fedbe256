-- Blocks by their pages: one that holds a copy, one that holds a copy with bits raised, an erased one. Assumes nothing.
use Prim.Native.Nat.{ℕ, zero, suc, ◌+◌, ◌-◌, ◌*◌, ◌≤◌, ◌<◌}
use mathlib.Core.Bool.{true, false, false≢true}
use mathlib.Core.List.{List}
use mathlib.Core.Path.{◌≡◌, refl, sym, ap, ap₂, subst, ◌∙◌}
use native.Mathlib.Nat.{add-zero}
use native.Mathlib.Omega.{arith}
use borrow.Author.Tests.{eq-eqb}
use lib.Bits.{bit_and, and_le_r}
use lib.ListN.{length, get_or, take, replicate, get_or-replicate}
use lib.Seq.{get_or-drop}
use Rattle.geometry.specs.declared.Geometry.{Geometry}
use Rattle.geometry.specs.Limits.{Valid}
use Rattle.geometry.specs.Sizes.{page_size}
use Rattle.cells.specs.Bytes.{Bytes}
use Rattle.pages.specs.Layout.{Label, label, label_of, whole, number_width, Fits}
use Rattle.pages.specs.Over.{Over}
use Rattle.pages.proofs.LayoutLaws.{width_most, encoded-whole, encoded-label, encoded-first, encoded_main, bytes_encoded, raised-whole_any, erased_not_whole}
use Rattle.pages.proofs.OverLaws.{over-get_or, over_bytes_to}
use Rattle.copies.specs.Blocks.{page_in, whole_in, label_in, main_in, formed, plain_in, mark_byte, is_marked, agrees, complete_to, is_complete, any_to, greatest_to}
use Rattle.copies.proofs.FormLaws.{formed-twice, length-formed, bytes_formed}
use Rattle.copies.proofs.NumberLaws.{greatest-most, greatest_least, any_is}
use Rattle.fill.specs.Fill.{Copy, copy_page}
use Rattle.fill.proofs.PageLaws.{page-long}
use Rattle.damage.specs.Run.{Labelled}

-- a block whose first two pages have FFh in the mark's place
pub no_mark : (g : Geometry) (row : List ℕ) → mark_byte g row 0 ≡ 255 → mark_byte g row 1 ≡ 255 → is_marked g row ≡ false
unfolding is_marked
no_mark g row a b = rw (eq-eqb _ _ a, eq-eqb _ _ b)

-- an erased block
module _ (g : Geometry) (v : Valid g) (row : List ℕ) (erased : (i : ℕ) → i < g.pages → page_in g row i ≡ replicate (page_size g) 255) where
  pub erased_unwhole : (i : ℕ) → i < g.pages → whole_in g row i ≡ false
  erased_unwhole i h = ap (whole g.main) (erased i h) ∙ erased_not_whole g.main (page_size g)

  pub erased_greatest : greatest_to g row g.pages < 1
  erased_greatest = greatest-most g row 1 g.pages (omega arith) (λ i h t. absurd (false≢true (sym (erased_unwhole i h) ∙ t)))

  erased_byte : (i : ℕ) → i < g.pages → mark_byte g row i ≡ 255
  erased_byte i h = ap (λ (x : List ℕ). get_or x g.main 0) (erased i h) ∙ get_or-replicate (page_size g) g.main 255 0 (omega (arith, v.spare_least))

  pub erased_unmarked : is_marked g row ≡ false
  erased_unmarked = no_mark g row (erased_byte 0 (omega (arith, v.pages_least))) (erased_byte 1 (omega (arith, v.pages_least)))

-- the pages of a copy
module _ (g : Geometry) (v : Valid g) (c : Copy) (fits : Labelled c) (main : ℕ → List ℕ) (long : (i : ℕ) → i < g.pages → length (main i) ≡ g.main) (bytes : (i : ℕ) → i < g.pages → Bytes (main i)) where
  abbrev pub pages : ℕ → List ℕ
  pages i = copy_page g c i (main i)

  -- their main bytes as they are stored
  abbrev stored : ℕ → List ℕ
  stored i = formed c.kind i (main i)

  stored-long : (i : ℕ) → i < g.pages → length (stored i) ≡ g.main
  stored-long i h = length-formed c.kind i (main i) ∙ long i h

  abbrev label_at : ℕ → Label
  label_at i = label c.kind c.logical i c.number

  label_fits : (i : ℕ) → i < g.pages → Fits (label_at i)
  label_fits i h =
      record {
        width_some = fits.width_some;
        kind_byte = fits.kind_byte;
        logical_fits = fits.logical_fits;
        page_byte = omega (arith, h, v.pages_most);
        number_fits = fits.number_fits;
      }

  pub copy-long : (i : ℕ) → i < g.pages → length (pages i) ≡ page_size g
  copy-long i h = page-long g v c.kind c.logical c.number i (main i) (long i h)

  pub copy_bytes : (i : ℕ) → i < g.pages → Bytes (pages i)
  copy_bytes i h = bytes_encoded g.spare (label_at i) (stored i) (label_fits i h) (bytes_formed c.kind i (main i) (bytes i h))

  check_fits : (i : ℕ) → i < g.pages → 8 * (length (stored i) + 5 + number_width c.kind) < 65536
  check_fits i h = omega (arith, width_most c.kind, stored-long i h, v.main_most)

  -- a law of an encoded page, said of the geometry's main bytes
  by_main : (P : ℕ → Type 0) (i : ℕ) → i < g.pages → P (length (stored i)) → P g.main
  by_main P i h = subst P (stored-long i h)

  pub page_whole : (i : ℕ) → i < g.pages → whole g.main (pages i) ≡ true
  page_whole i h =
      by_main (λ (k : ℕ). whole k (pages i) ≡ true) i h (encoded-whole g.spare (label_at i) (stored i) (label_fits i h) (check_fits i h))

  -- spare byte 0
  first_byte : (i : ℕ) → i < g.pages → get_or (pages i) g.main 0 ≡ 255
  first_byte i h =
      by_main (λ (k : ℕ). get_or (pages i) k 0 ≡ 255) i h (sym (get_or-drop (length (stored i)) (pages i) 0 0 ∙ ap (λ (k : ℕ). get_or (pages i) k 0) (add-zero (length (stored i)))) ∙ encoded-first g.spare (label_at i) (stored i))

  -- a block that holds the copy
  module _ (row : List ℕ) (same : (i : ℕ) → i < g.pages → page_in g row i ≡ pages i) where
    pub copy_whole : (i : ℕ) → i < g.pages → whole_in g row i ≡ true
    copy_whole i h = ap (whole g.main) (same i h) ∙ page_whole i h

    pub copy-label : (i : ℕ) → i < g.pages → label_in g row i ≡ label_at i
    copy-label i h =
        ap (label_of g.main) (same i h) ∙ by_main (λ (k : ℕ). label_of k (pages i) ≡ label_at i) i h (encoded-label g.spare (label_at i) (stored i) (label_fits i h))

    pub copy_stored : (i : ℕ) → i < g.pages → main_in g row i ≡ stored i
    copy_stored i h = ap (take g.main) (same i h) ∙ by_main (λ (k : ℕ). take k (pages i) ≡ stored i) i h (encoded_main g.spare (label_at i) (stored i))

    -- what was given comes back
    pub copy_main : (i : ℕ) → i < g.pages → plain_in g row i ≡ main i
    copy_main i h =
        ap₂ (λ (k : ℕ) (xs : List ℕ). formed k i xs) (ap (λ (l : Label). l.kind) (copy-label 0 (omega (arith, v.pages_least)))) (copy_stored i h)
        ∙ formed-twice c.kind i (main i)

    copy_byte : (i : ℕ) → i < g.pages → mark_byte g row i ≡ 255
    copy_byte i h =
        ap (λ (x : List ℕ). get_or x g.main 0) (same i h) ∙ first_byte i h

    pub copy_unmarked : is_marked g row ≡ false
    copy_unmarked = no_mark g row (copy_byte 0 (omega (arith, v.pages_least))) (copy_byte 1 (omega (arith, v.pages_least)))

    agrees_own : (i : ℕ) → i < g.pages → agrees (label_in g row 0) i (label_in g row i) ≡ true
    unfolding agrees
    agrees_own i h =
        ap₂ (λ (x y : Label). agrees x i y) (copy-label 0 (omega (arith, v.pages_least))) (copy-label i h)
        ∙ rw (eq-eqb c.kind c.kind refl, eq-eqb c.logical c.logical refl, eq-eqb c.number c.number refl, eq-eqb i i refl)

    all_agree : (n : ℕ) → n ≤ g.pages → complete_to g row n ≡ true
    unfolding complete_to
    all_agree zero h = refl
    all_agree (suc n) h = rw (copy_whole n (omega (arith, h)), agrees_own n (omega (arith, h))) (all_agree n (omega (arith, h)))

    pub copy_complete : is_complete g row ≡ true
    unfolding is_complete
    copy_complete = rw copy_unmarked (all_agree g.pages (omega arith))

    pub copy_any : any_to g row g.pages ≡ true
    copy_any =
        let first : 0 < g.pages = omega (arith, v.pages_least) in
        any_is g row g.pages 0 first (copy_whole 0 first)

    pub copy_greatest : greatest_to g row g.pages ≡ c.number
    copy_greatest =
        let first = greatest_least g row g.pages 0 (omega (arith, v.pages_least)) (copy_whole 0 (omega (arith, v.pages_least))) in
        let most = greatest-most g row (c.number + 1) g.pages (omega arith) (λ i h t. omega (arith, ap (λ (x : Label). x.number) (copy-label i h))) in
        omega (arith, first, most, ap (λ (x : Label). x.number) (copy-label 0 (omega (arith, v.pages_least))))

  -- a block that holds its pages with bits raised
  module _ (row : List ℕ) (over : (i : ℕ) → i < g.pages → Over (pages i) (page_in g row i)) where
    -- a page that is whole is the page that was meant
    pub raised_same : (i : ℕ) → i < g.pages → whole_in g row i ≡ true → page_in g row i ≡ pages i
    raised_same i h t =
        raised-whole_any g.spare (label_at i) (stored i) (page_in g row i) (label_fits i h) v.spare_least (omega (arith, stored-long i h, v.main_most, v.spare_most)) (over i h)
        (ap (λ (k : ℕ). whole k (page_in g row i)) (stored-long i h) ∙ t)

    raised_number : (i : ℕ) → i < g.pages → whole_in g row i ≡ true → (label_in g row i).number ≡ c.number
    raised_number i h t =
        ap (λ (x : List ℕ). (label_of g.main x).number) (raised_same i h t)
        ∙ by_main (λ (k : ℕ). (label_of k (pages i)).number ≡ c.number) i h (ap (λ (x : Label). x.number) (encoded-label g.spare (label_at i) (stored i) (label_fits i h)))

    pub raised_greatest : greatest_to g row g.pages < c.number + 1
    raised_greatest = greatest-most g row (c.number + 1) g.pages (omega arith) (λ i h t. omega (arith, raised_number i h t))

    -- byte 0 of the spare bytes is FFh still
    raised_byte : (i : ℕ) → i < g.pages → mark_byte g row i ≡ 255
    raised_byte i h =
        let first = first_byte i h in
        let kept = over-get_or g.main (over i h) in
        let both : bit_and 255 (mark_byte g row i) ≡ 255 = sym (ap (λ (x : ℕ). bit_and x (mark_byte g row i)) first) ∙ kept ∙ first in
        omega (arith, both, and_le_r 255 (mark_byte g row i), over_bytes_to (over i h) g.main)

    pub raised_unmarked : is_marked g row ≡ false
    raised_unmarked = no_mark g row (raised_byte 0 (omega (arith, v.pages_least))) (raised_byte 1 (omega (arith, v.pages_least)))
