-- Bits, kinds of pages and complete copies, as the phases of a request need them. Assumes nothing.
use Prim.Native.Nat.{ℕ, zero, suc, ◌+◌, ◌*◌, ◌/◌, ◌≤◌, ◌<◌}
use mathlib.Core.Bool.{Bool, true, false, cond}
use mathlib.Core.List.{List, ◌++◌}
use mathlib.Core.Logic.{◌⊎◌, inl, inr, ⊎_elim}
use mathlib.Core.Path.{◌≡◌, refl, sym, ap, ap₂, subst, ◌∙◌}
use native.Mathlib.Omega.{arith}
use borrow.Table.Steps.{cases}
use borrow.Author.Tests.{eqb-true, eqb-false}
use lib.Dec.{eqb}
use lib.ListN.{length}
use Rattle.geometry.specs.declared.Geometry.{Geometry}
use Rattle.geometry.specs.Limits.{Valid}
use Rattle.bools.proofs.BoolLaws.{unless, clash, or_none, and_none, one_true}
use Rattle.bitmaps.specs.Bitmap.{bit_at, with_bit}
use Rattle.bitmaps.proofs.BitLaws.{bit-set, bit_kept}
use Rattle.bitmaps.proofs.BitmapLaws.{Bitmap}
use Rattle.state_choose.specs.Choose.{permitted}
use Rattle.operations.specs.Trace.{ArrayOperation}
use Rattle.pages.specs.Layout.{Label, label, label_of, kind_of, number_width, is_data_kind, Fits}
use Rattle.pages.proofs.LayoutLaws.{encoded-label}
use Rattle.copies.specs.Blocks.{block_in, is_complete, formed}
use Rattle.copies.proofs.FormLaws.{length-formed}
use Rattle.fill.specs.Fill.{Copy, copy_page}
use Rattle.damage.specs.Run.{Labelled}
use Rattle.damage.specs.Touched.{Each, Some, Programs}
use Rattle.damage.proofs.EachLaws.{each_map}
use Rattle.recovery.specs.Copy.{sent_page, sent_pages, has_copy}
use Rattle.recovery.proofs.CopyLaws.{sent_append, sent_some, sent_none, pages_all, pages_each, has_same, has_some}

-- a permitted block is unmarked, valid and not held
pub record Permitted (marked invalid held : List ℕ) (b : ℕ) : Type 0 where
  pub unmarked : bit_at marked b ≡ false
  pub valid : bit_at invalid b ≡ false
  pub unheld : bit_at held b ≡ false

pub permitted_so : (marked invalid held : List ℕ) (b : ℕ) → permitted marked invalid held b ≡ true → Permitted marked invalid held b
unfolding permitted
permitted_so marked invalid held b t =
    let one = unless (bit_at marked b) _ t in
    let two = unless (bit_at invalid b) _ one.1 in
    record { unmarked = one.0; valid = two.0; unheld = (unless (bit_at held b) true two.1).0 }

-- one invalid block more
module _ (blocks : ℕ) (bits : List ℕ) (b : ℕ) (few : blocks ≤ 4096) (below : b < blocks) (bitmap : Bitmap blocks bits) where
  room : b / 8 < length bits
  room = omega (arith, below, few, bitmap.long)

  pub now_set : bit_at (with_bit bits b) b ≡ true
  now_set = bit-set bits b room

  pub still_set : (c : ℕ) → bit_at bits c ≡ true → bit_at (with_bit bits b) c ≡ true
  still_set c t =
      cases (eqb c b) (λ e. ap (bit_at (with_bit bits b)) (eqb-true c b e) ∙ now_set) (λ e. bit_kept bits b c (eqb-false c b e) ∙ t)

  -- a block without a bit had none, and is another
  pub was_clear : (c : ℕ) → bit_at (with_bit bits b) c ≡ false → (bit_at bits c ≡ false) × (c ≡ b → ⊥)
  was_clear c f =
      let other : c ≡ b → ⊥ = λ e. clash (ap (bit_at (with_bit bits b)) e ∙ now_set) f in
      (sym (bit_kept bits b c other) ∙ f, other)

  pub still_clear : (c : ℕ) → (c ≡ b → ⊥) → bit_at bits c ≡ false → bit_at (with_bit bits b) c ≡ false
  still_clear c x f = bit_kept bits b c x ∙ f

-- the kind of a copy's page
pub page_kind : (g : Geometry) → Valid g → (c : Copy) → Labelled c → (main : ℕ → List ℕ) → ((i : ℕ) → i < g.pages → length (main i) ≡ g.main) → (i : ℕ) → i < g.pages
    → kind_of g.main (copy_page g c i (main i)) ≡ c.kind
unfolding label_of
page_kind g v c fits main long i h =
    ap (λ (l : Label). l.kind)
    (subst (λ (k : ℕ). label_of k (copy_page g c i (main i)) ≡ label c.kind c.logical i c.number) (length-formed c.kind i (main i) ∙ long i h)
    (encoded-label g.spare (label c.kind c.logical i c.number) (formed c.kind i (main i))
    (record { width_some = fits.width_some; kind_byte = fits.kind_byte; logical_fits = fits.logical_fits; page_byte = omega (arith, h, v.pages_most); number_fits = fits.number_fits })))

-- a block without a program of its page 0 was not sent whole
pub unsent-whole : (g : Geometry) → Valid g → (b : ℕ) (os : List ArrayOperation) → sent_page g b 0 os ≡ false → sent_pages g b os g.pages ≡ false
unsent-whole g v b os f =
    cases (sent_pages g b os g.pages) (λ t. clash (pages_each g b os g.pages t 0 (omega (arith, v.pages_least))) f) (λ u. u)

pub pages_same : (g : Geometry) (b : ℕ) (xs ys : List ArrayOperation) (n : ℕ) → ((i : ℕ) → sent_page g b i xs ≡ sent_page g b i ys) → sent_pages g b xs n ≡ sent_pages g b ys n
unfolding sent_pages
pages_same g b xs ys zero e = refl
pages_same g b xs ys (suc n) e = rw (e n, pages_same g b xs ys n e)

-- the operations of one fill of block b added to a trace
module _ (g : Geometry) (v : Valid g) (before after : List ℕ) (b : ℕ) (others : (c : ℕ) → c < g.blocks → (c ≡ b → ⊥) → block_in g after c ≡ block_in g before c)
    (os adds : List ArrayOperation) (elsewhere : (c : ℕ) → (c ≡ b → ⊥) → Each (λ o. o.kind ≡ 2 → o.block ≡ c → ⊥) adds) where
  pub sent_elsewhere : (c : ℕ) → (c ≡ b → ⊥) → sent_pages g c (os ++ adds) g.pages ≡ sent_pages g c os g.pages
  sent_elsewhere c x =
      pages_same g c (os ++ adds) os g.pages
      (λ i. sent_append g c i os adds ∙ ap (cond (sent_page g c i os) true) (sent_none g c i adds (elsewhere c x)) ∙ or_none (sent_page g c i os))

  -- nothing new is complete and sent
  pub has_still : Each (λ o. o.kind ≡ 2 → o.block ≡ b → ⊥) os → Each (λ o. o.kind ≡ 2 → ⊥) adds ⊎ (is_complete g (block_in g after b) ≡ false) → has_copy g after (os ++ adds) ≡ has_copy g before os
  has_still untried unsent =
      has_same g before after os (os ++ adds)
      (λ c h.
      cases (eqb c b)
      (λ e. subst (λ (k : ℕ). cond (sent_pages g k (os ++ adds) g.pages) (is_complete g (block_in g after k)) false ≡ cond (sent_pages g k os g.pages) (is_complete g (block_in g before k)) false) (sym (eqb-true c b e)) here)
      (λ e. let x = eqb-false c b e in ap₂ (λ (y : Bool) (row : List ℕ). cond y (is_complete g row) false) (sent_elsewhere c x) (others c h x)))
    where
      first_none : sent_page g b 0 os ≡ false
      first_none = sent_none g b 0 os untried

      here : cond (sent_pages g b (os ++ adds) g.pages) (is_complete g (block_in g after b)) false ≡ cond (sent_pages g b os g.pages) (is_complete g (block_in g before b)) false
      here =
          ⊎_elim
          (λ none. ap (λ (y : Bool). cond y (is_complete g (block_in g after b)) false)
          (unsent-whole g v b (os ++ adds) (sent_append g b 0 os adds ∙ rw (first_none, sent_none g b 0 adds (each_map (λ o. o.kind ≡ 2 → ⊥) (λ o. o.kind ≡ 2 → o.block ≡ b → ⊥) (λ o f two e. f two) adds none)))))
          (λ not. ap (λ (y : Bool). cond (sent_pages g b (os ++ adds) g.pages) y false) not ∙ and_none (sent_pages g b (os ++ adds) g.pages))
          unsent
          ∙ sym (ap (λ (y : Bool). cond y (is_complete g (block_in g before b)) false) (unsent-whole g v b os first_none))

  -- the block is complete, and each of its pages was sent as a data page
  pub sent_here : (pages : ℕ → List ℕ) → ((i : ℕ) → i < g.pages → is_data_kind (kind_of g.main (pages i)) ≡ true) → ((i : ℕ) → i < g.pages → Some (Programs b i (pages i)) adds)
      → sent_pages g b (os ++ adds) g.pages ≡ true
  sent_here pages kinds sent =
      pages_all g b (os ++ adds) g.pages
      (λ i h. sent_append g b i os adds ∙ ap (cond (sent_page g b i os) true) (sent_some g b i (pages i) adds (sent i h) (kinds i h)) ∙ one_true (sent_page g b i os))
