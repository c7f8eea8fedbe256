-- What one fill can leave of a block: the old pages, erased in part, or the new ones with bits raised. Assumes nothing.
use Prim.Native.Nat.{ℕ, ◌*◌, ◌<◌}
use mathlib.Core.Bool.{false}
use mathlib.Core.List.{List}
use mathlib.Core.Logic.{◌⊎◌, ⊎_elim}
use mathlib.Core.Path.{◌≡◌, sym, ap, subst, ◌∙◌}
use native.Mathlib.Omega.{arith}
use lib.Bits.{bit_or}
use lib.ListN.{length, get_or, drop}
use Rattle.geometry.specs.declared.Geometry.{Geometry}
use Rattle.geometry.specs.Limits.{Valid}
use Rattle.geometry.specs.Sizes.{page_size, chip_size}
use Rattle.cells.specs.Bytes.{Bytes}
use Rattle.cells.specs.Cells.{raised}
use Rattle.cells.proofs.CellLaws.{get_or-raised, bytes_drop, or_full}
use Rattle.pages.specs.Layout.{whole}
use Rattle.pages.specs.Over.{Over}
use Rattle.copies.specs.Blocks.{block_in, page_in, mark_byte, is_marked}
use Rattle.copies.proofs.CompleteLaws.{mark_bytes}
use Rattle.fill.specs.Fill.{Copy, copy_page}
use Rattle.damage.specs.Run.{Labelled}
use Rattle.damage.proofs.PlaceLaws.{page-long}
use Rattle.damage.proofs.CopyLaws.{no_mark, copy-long, page_whole, raised_same, raised_unmarked}
use Rattle.recovery_stored.specs.Stored.{Left}
use Rattle.recovery_stored.specs.After.{After, Based}
use Rattle.format_laws.proofs.RaisedLaws.{page-raised}
use Rattle.recovery_stored.proofs.PageLaws.{left_raised, whole_kept}

-- a partial erase leaves FFh as it was
module _ (g : Geometry) (v : Valid g) (row mask : List ℕ) (bytes : Bytes mask) (long : (i : ℕ) → i < g.pages → length (page_in g row i) ≡ page_size g) where
  mark_raised : (i : ℕ) → i < g.pages → mark_byte g row i ≡ 255 → mark_byte g (raised row mask) i ≡ 255
  mark_raised i h e =
      let more : List ℕ = drop (i * page_size g) mask in
      ap (λ (p : List ℕ). get_or p g.main 0) (page-raised g row mask i)
      ∙ get_or-raised (page_in g row i) more g.main (omega (arith, long i h, v.spare_least))
      ∙ ap (λ (k : ℕ). bit_or k (get_or more g.main 0)) e
      ∙ or_full (get_or more g.main 0) (bytes_drop (i * page_size g) mask bytes g.main)

  pub unmarked_raised : is_marked g row ≡ false → is_marked g (raised row mask) ≡ false
  unmarked_raised f =
      let e = mark_bytes g row f in
      no_mark g (raised row mask) (mark_raised 0 (omega (arith, v.pages_least)) e.0) (mark_raised 1 (omega (arith, v.pages_least)) e.1)

-- the old block, as it was or erased in part
module _ (g : Geometry) (before after : List ℕ) (t b : ℕ) (mask : List ℕ) (s : Based g before t b) (bytes : Bytes mask) (long : length after ≡ chip_size g)
    (others : (c : ℕ) → c < g.blocks → (c ≡ b → ⊥) → block_in g after c ≡ block_in g before c) where
  abbrev row : List ℕ
  row = block_in g before b

  after_same : block_in g after b ≡ row → After g before after b (λ i. page_in g row i)
  after_same q =
      record {
        long = long;
        others = others;
        only = λ i h w. ap (λ (x : List ℕ). page_in g x i) q;
        left = λ i h. subst (λ (x : List ℕ). Left g (page_in g x i)) (sym q) (s.left i h);
        unmarked = ap (is_marked g) q ∙ s.unmarked;
      }

  after_raised : block_in g after b ≡ raised row mask → After g before after b (λ i. page_in g row i)
  after_raised q =
      let page : (i : ℕ) → page_in g (block_in g after b) i ≡ raised (page_in g row i) (drop (i * page_size g) mask) =
      λ i. ap (λ (x : List ℕ). page_in g x i) q ∙ page-raised g row mask i in
      let more : (i : ℕ) → Bytes (drop (i * page_size g) mask) = λ i. bytes_drop (i * page_size g) mask bytes in
      record {
        long = long;
        others = others;
        only = λ i h w. page i ∙ whole_kept g s.is_valid (page_in g row i) (drop (i * page_size g) mask) (s.left i h) (more i) (sym (ap (whole g.main) (page i)) ∙ w);
        left = λ i h. subst (Left g) (sym (page i)) (left_raised g s.is_valid (page_in g row i) (drop (i * page_size g) mask) (s.left i h) (more i));
        unmarked = ap (is_marked g) q ∙ unmarked_raised g s.is_valid row mask bytes (page-long g s.is_valid before s.array_long b s.below) s.unmarked;
      }

  pub after_old : (block_in g after b ≡ row) ⊎ (block_in g after b ≡ raised row mask) → After g before after b (λ i. page_in g row i)
  after_old = ⊎_elim after_same after_raised

-- the pages of a copy, with bits raised
pub after_new : (g : Geometry) → Valid g → (c : Copy) → Labelled c → (main : ℕ → List ℕ) → ((i : ℕ) → i < g.pages → length (main i) ≡ g.main) → ((i : ℕ) → i < g.pages → Bytes (main i))
    → (before after : List ℕ) (b : ℕ) → length after ≡ chip_size g → ((c : ℕ) → c < g.blocks → (c ≡ b → ⊥) → block_in g after c ≡ block_in g before c)
    → ((i : ℕ) → i < g.pages → Over (copy_page g c i (main i)) (page_in g (block_in g after b) i)) → After g before after b (λ i. copy_page g c i (main i))
after_new g v c fits main size bytes before after b long others over =
    record {
      long = long;
      others = others;
      only = raised_same g v c fits main size bytes (block_in g after b) over;
      left = λ i h. record { page = copy_page g c i (main i); long = copy-long g v c fits main size bytes i h; is_whole = page_whole g v c fits main size bytes i h; is_over = over i h };
      unmarked = raised_unmarked g v c fits main size bytes (block_in g after b) over;
    }
