-- While a fill is paused nothing new is complete: table, copies, readings and numbers are those of the array where it began.
-- Assumes nothing.
use Prim.Native.Nat.{ℕ, ◌<◌}
use mathlib.Core.Bool.{false}
use mathlib.Core.List.{List}
use mathlib.Core.Logic.{inr, ⊎_elim}
use mathlib.Core.Path.{◌≡◌, sym, ap, subst, ◌∙◌}
use native.Mathlib.Omega.{arith}
use borrow.Table.Steps.{cases}
use borrow.Author.Tests.{ltb-true, ltb-false}
use lib.Dec.{ltb}
use lib.ListN.{length, replicate}
use Rattle.geometry.specs.declared.Geometry.{Geometry}
use Rattle.geometry.specs.Limits.{Valid}
use Rattle.geometry.specs.Sizes.{page_size, chip_size}
use Rattle.bools.proofs.BoolLaws.{clash}
use Rattle.cells.specs.Bytes.{Bytes}
use Rattle.chip_array.specs.Device.{Device}
use Rattle.operations.specs.Trace.{ArrayOperation}
use Rattle.pages.specs.Layout.{whole}
use Rattle.pages.specs.Over.{Over}
use Rattle.pages.proofs.LayoutLaws.{erased_not_whole}
use Rattle.pages.proofs.OverLaws.{over_refl}
use Rattle.copies.specs.Blocks.{block_in, page_in, is_complete}
use Rattle.copies.specs.Pick.{at}
use Rattle.copies.specs.Current.{current_table}
use Rattle.fill.specs.Fill.{Copy, copy_page}
use Rattle.damage.specs.Run.{Labelled}
use Rattle.damage.specs.Touched.{Each, TouchedBy}
use Rattle.copies.proofs.CompleteLaws.{complete_pages}
use Rattle.damage.proofs.CopyLaws.{copy-long, copy_bytes}
use Rattle.damage.proofs.FillLaws.{over-erased}
use Rattle.damage.proofs.EachLaws.{each_map}
use Rattle.recovery_stored.specs.Stored.{Stored}
use Rattle.recovery_stored.specs.After.{After, Free}
use Rattle.recovery_stored.proofs.AfterLaws.{after_new}
use Rattle.recovery_stored.proofs.CalmLaws.{new_calm, new_below}
use Rattle.recovery.specs.Copy.{has_copy}
use Rattle.fill_paused.specs.Paused.{Paused}
use Rattle.recovery_write.proofs.CopyLaws.{has_still}
use Rattle.recovery_write.proofs.TryLaws.{Quiet}

module _ (g : Geometry) (v : Valid g) (c : Copy) (labelled : Labelled c) (main : ℕ → List ℕ) (main_long : (i : ℕ) → i < g.pages → length (main i) ≡ g.main) (main_bytes : (i : ℕ) → i < g.pages → Bytes (main i))
    (A : List ℕ) (t b : ℕ) (stored : Stored g A) (table_is : current_table g A ≡ at t) (free : Free g A t b)
    (before : List ArrayOperation) (n : ℕ) (page_below : n < g.pages) (d : Device) (long : length d.array ≡ chip_size g) (started : List ArrayOperation)
    (w : Paused g A before b (λ i. copy_page g c i (main i)) n d started) where
  abbrev pages : ℕ → List ℕ
  pages i = copy_page g c i (main i)

  page_bytes : (i : ℕ) → i < g.pages → Bytes (pages i)
  page_bytes = copy_bytes g v c labelled main main_long main_bytes

  blank_over : (i : ℕ) → i < g.pages → Over (pages i) (replicate (page_size g) 255)
  blank_over i h = subst (λ (k : ℕ). Over (pages i) (replicate k 255)) (copy-long g v c labelled main main_long main_bytes i h) (over-erased (pages i) (page_bytes i h))

  over : (i : ℕ) → i < g.pages → Over (pages i) (page_in g (block_in g d.array b) i)
  over i h =
      cases (ltb i n)
      (λ y. subst (Over (pages i)) (sym (w.done i (ltb-true i n y))) (over_refl (pages i) (page_bytes i h)))
      (λ y. subst (Over (pages i)) (sym (w.ahead i (ltb-false i n y) h)) (blank_over i h))

  left_after : After g A d.array b pages
  left_after = after_new g v c labelled main main_long main_bytes A d.array b long w.others over

  -- page n is FFh
  unfinished : is_complete g (block_in g d.array b) ≡ false
  unfinished =
      cases (is_complete g (block_in g d.array b))
      (λ y. clash ((complete_pages g (block_in g d.array b) y).is_whole n page_below) (ap (whole g.main) (w.ahead n (omega arith) page_below) ∙ erased_not_whole g.main (page_size g)))
      (λ f. f)

  pub paused_calm : Quiet g A d.array t b w.adds
  paused_calm =
      record {
        calm = new_calm g A d.array t b pages stored table_is free left_after unfinished;
        below = λ k. new_below g A d.array t b k pages stored table_is free left_after unfinished;
        unsent = inr unfinished;
      }

  -- no other block is programmed
  elsewhere : (k : ℕ) → (k ≡ b → ⊥) → Each (λ o. o.kind ≡ 2 → o.block ≡ k → ⊥) w.adds
  elsewhere k x =
      each_map (TouchedBy g A b pages) (λ o. o.kind ≡ 2 → o.block ≡ k → ⊥) (λ o y two e. ⊎_elim (λ one. omega (arith, one, two)) (λ z. x (sym e ∙ z.block_is)) y) w.adds w.each

  -- the request has a complete copy where it had one before
  pub paused_has : Each (λ o. o.kind ≡ 2 → o.block ≡ b → ⊥) before → has_copy g d.array started ≡ has_copy g A before
  paused_has untried =
      ap (has_copy g d.array) w.started_is ∙ has_still g v A d.array b w.others before w.adds elsewhere untried (inr unfinished)
