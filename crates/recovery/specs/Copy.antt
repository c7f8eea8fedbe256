-- Whether a request has a complete copy on the chip.
use Rattle.std.specs.Prelude.{ℕ, zero, suc, ◌+◌, Bool, true, false, cond, List, [], ◌∷◌, eqb}
use Rattle.geometry.specs.declared.Geometry.{Geometry}
use Rattle.bus_polling.specs.Outcomes.{is_passed}
use Rattle.operations.specs.Trace.{ArrayOperation}
use Rattle.pages.specs.Layout.{kind_of, is_data_kind}
use Rattle.copies.specs.Pick.{some_below}
use Rattle.copies.specs.Blocks.{block_in, is_complete}

-- a program of page i of block b with a data page
unfoldable pub is_data_program : Geometry → ℕ → ℕ → ArrayOperation → Bool
is_data_program g b i o =
    cond (eqb o.kind 2) (cond (eqb o.block b) (cond (eqb o.page i) (is_data_kind (kind_of g.main o.bytes)) false) false) false

-- 10h was sent with a data page for page i of block b
unfoldable pub sent_page : Geometry → ℕ → ℕ → List ArrayOperation → Bool
sent_page g b i [] = false
sent_page g b i (o ∷ os) = let more = sent_page g b i os in cond (is_data_program g b i o) true more

-- for each of the first n pages
unfoldable pub sent_pages : Geometry → ℕ → List ArrayOperation → ℕ → Bool
sent_pages g b os zero = true
sent_pages g b os (suc n) = let less = sent_pages g b os n in cond (sent_page g b n os) less false

-- it sent 10h with a data page for each of the P pages of one block, and that block is complete on the chip
unfoldable pub has_copy : Geometry → List ℕ → List ArrayOperation → Bool
has_copy g array os =
    some_below (λ b. cond (sent_pages g b os g.pages) (is_complete g (block_in g array b)) false) g.blocks

-- a program of the last page of a block with a data page, answered passed
unfoldable pub is_last_passed : Geometry → ArrayOperation → Bool
is_last_passed g o =
    cond (eqb o.kind 2) (cond (eqb (o.page + 1) g.pages) (cond (is_data_kind (kind_of g.main o.bytes)) (is_passed o.answer) false) false) false

-- the new copy is filled: its last page passed
unfoldable pub last_passed : Geometry → List ArrayOperation → Bool
last_passed g [] = false
last_passed g (o ∷ os) = let more = last_passed g os in cond (is_last_passed g o) true more
