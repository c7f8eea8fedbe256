-- The byte in the place of a factory mark, as one read gives it. Assumes nothing.
use Prim.Native.Nat.{ℕ, ◌+◌, ◌*◌, ◌<◌}
use mathlib.Core.List.{List}
use mathlib.Core.Path.{◌≡◌, refl, sym, ap, ap₂, ◌∙◌}
use native.Mathlib.Omega.{arith}
use lib.ListN.{length, get_or, drop}
use lib.Seq.{get_or-take, get_or-drop}
use Rattle.geometry.specs.declared.Geometry.{Geometry}
use Rattle.geometry.specs.Limits.{Valid}
use Rattle.geometry.specs.Sizes.{page_size, row_of}
use Rattle.geometry.proofs.SizeLaws.{row_below}
use Rattle.cells.specs.Cells.{over}
use Rattle.cells.specs.Part.{part}
use Rattle.chip_array.specs.Device.{Setting}
use Rattle.bus.specs.Line.{Line, send_all}
use Rattle.bus_polling.specs.Outcomes.{is_passed}
use Rattle.bus_polling.specs.declared.Outcome.{Outcome}
use Rattle.bus_polling.specs.declared.Outcome.TheVariants.{Passed}
use Rattle.bus_sequences.specs.Cycles.{read_cycles, read_outcome, read_outputs}
use Rattle.operations.specs.Ends.{Called, CanRead}
use Rattle.copies.specs.Blocks.{block_in, mark_byte}
use Rattle.copies.proofs.PlaceLaws.{row_is_page}
use Rattle.progress.specs.Progress.{progress}
use Rattle.progress.proofs.ReadOnLaws.{read_leaves, read_line, read_outcome_fact}
use Rattle.scan_block.specs.Mark.{MarkRead}

-- a byte of a part
part_byte : (at n k : ℕ) (xs : List ℕ) → k < n → get_or (part at n xs) k 0 ≡ get_or xs (at + k) 0
part_byte at n k xs h = get_or-take n (drop at xs) k 0 h ∙ get_or-drop at xs k 0

mark_is : (g : Geometry) → Valid g → (array : List ℕ) (b p : ℕ) → p < g.pages → get_or (part (row_of g b p * page_size g + g.main) 1 array) 0 0 ≡ mark_byte g (block_in g array b) p
mark_is g v array b p h =
    let at : row_of g b p * page_size g + g.main + 0 ≡ row_of g b p * page_size g + 0 + g.main = omega arith in
    part_byte (row_of g b p * page_size g + g.main) 1 0 array (omega arith)
    ∙ ap (λ (x : ℕ). get_or array x 0) at
    ∙ sym (part_byte (row_of g b p * page_size g + 0) (page_size g) g.main array (omega (arith, v.spare_least)))
    ∙ ap (λ (x : List ℕ). get_or x g.main 0) (row_is_page g v array b p h)

module _ (s : Setting) (l : Line) (block place : ℕ) (called : Called s l) (block_below : block < s.geometry.blocks) (page_below : place < s.geometry.pages) where
  can_read : CanRead s l (row_of s.geometry block place) s.geometry.main 1
  can_read =
      record {
        called = called;
        row_below = row_below s.geometry called.is_valid block place block_below page_below;
        column_below = omega (arith, called.is_valid.spare_least);
        within = omega (arith, called.is_valid.spare_least);
      }

  pub mark_read_fact : (row : ℕ) → row ≡ row_of s.geometry block place → (m : Line) (o : Outcome) (buffer bytes : List ℕ) → length buffer ≡ 1 → m ≡ send_all s l (read_cycles s l row s.geometry.main (length buffer))
      → o ≡ read_outcome s l row s.geometry.main (length buffer) → bytes ≡ over (read_outputs s l row s.geometry.main (length buffer)) buffer → {byte : ℕ} → byte ≡ get_or bytes 0 0 → MarkRead s l m o block place byte
  unfolding is_passed
  mark_read_fact row er m o buffer bytes en f₁ f₂ f₃ fb =
      let e = f₁ ∙ ap₂ (λ (x y : ℕ). send_all s l (read_cycles s l x s.geometry.main y)) er en in
      let q = f₂ ∙ ap₂ (λ (x y : ℕ). read_outcome s l x s.geometry.main y) er en in
      let d = read_leaves s l (row_of s.geometry block place) s.geometry.main 1 can_read m o buffer bytes en e q (f₃ ∙ ap₂ (λ (x y : ℕ). over (read_outputs s l x s.geometry.main y) buffer) er en) in
      record {
        line_is = λ cs os. e ∙ sym (read_line s (row_of s.geometry block place) s.geometry.main 1 (progress l Passed cs os) l refl refl);
        outcome_is = λ cs os. q ∙ sym (read_outcome_fact s (row_of s.geometry block place) s.geometry.main 1 (progress l Passed cs os) l refl refl);
        same_array = d.same_array;
        same_history = d.same_history;
        next = d.next;
        byte_is = λ t. fb ∙ ap (λ (x : List ℕ). get_or x 0 0) (d.bytes_are t) ∙ mark_is s.geometry called.is_valid l.chip.array block place page_below;
      }
