-- The array operations of a fill: reads, and erases and programs of its block, each with the array that it found.
use Rattle.std.specs.Prelude.{ℕ, ◌<◌, false, cond, List, [], ◌∷◌, ◌++◌, ◌⊎◌, ◌≡◌, eqb, length, replicate}
use Rattle.geometry.specs.declared.Geometry.{Geometry}
use Rattle.geometry.specs.Sizes.{page_size}
use Rattle.cells.specs.Cells.{raised}
use Rattle.chip_array.specs.Device.{Setting}
use Rattle.bus_polling.specs.Outcomes.{is_passed, is_failed}
use Rattle.operations.specs.Trace.{ArrayOperation}
use Rattle.pages.specs.Over.{Over}
use Rattle.copies.specs.Blocks.{block_in, page_in}
use Rattle.progress.specs.Progress.{Progress}
use Rattle.damage.specs.Run.{failed_in, block_on, page_on}

-- each operation of a list is so; some operation is
unfoldable pub Each : (ArrayOperation → Type 0) → List ArrayOperation → Type 0
Each P [] = Unit {0}
Each P (o ∷ os) = P o × Each P os

pub data Some (P : ArrayOperation → Type 0) : List ArrayOperation → Type 0 where
  first : {o : ArrayOperation} {os : List ArrayOperation} → P o → Some P (o ∷ os)
  later : {o : ArrayOperation} {os : List ArrayOperation} → Some P os → Some P (o ∷ os)

-- none but the last operation failed
unfoldable pub Steady : List ArrayOperation → Type 0
Steady [] = Unit {0}
Steady (o ∷ os) = ((is_failed o.answer ≡ false) ⊎ (os ≡ [])) × Steady os

-- a program of page i of a block with these bytes
pub record Programs (block i : ℕ) (bytes : List ℕ) (o : ArrayOperation) : Type 0 where
  pub kind_is : o.kind ≡ 2
  pub block_is : o.block ≡ block
  pub page_is : o.page ≡ i
  pub bytes_are : o.bytes ≡ bytes

-- a block on its way from FFh to these pages: each of them with bits raised, and one still FFh
pub record Unfinished (g : Geometry) (array : List ℕ) (block : ℕ) (pages : ℕ → List ℕ) : Type 0 where
  pub over : (i : ℕ) → i < g.pages → Over (pages i) (page_in g (block_in g array block) i)
  pub page : ℕ
  pub page_below : page < g.pages
  pub blank : page_in g (block_in g array block) page ≡ replicate (page_size g) 255

-- an erase or a program of a fill that began on an array: it is of the fill's block; every other block was as at the
-- beginning, and the fill's block too, or on its way to these pages
pub record Touch (g : Geometry) (array : List ℕ) (block : ℕ) (pages : ℕ → List ℕ) (o : ArrayOperation) : Type 0 where
  pub block_is : o.block ≡ block
  pub long : length o.before ≡ length array
  pub others : (c : ℕ) → c < g.blocks → (c ≡ block → ⊥) → block_in g o.before c ≡ block_in g array c
  pub here : (block_in g o.before block ≡ block_in g array block) ⊎ Unfinished g o.before block pages
  pub program : o.kind ≡ 2 → (o.page < g.pages) × (o.bytes ≡ pages o.page)

-- a read, or an erase or a program of the fill's block
abbrev pub TouchedBy : Geometry → List ℕ → ℕ → (ℕ → List ℕ) → ArrayOperation → Type 0
TouchedBy g array block pages o = (o.kind ≡ 1) ⊎ Touch g array block pages o

-- the erase did not pass: the block is as it was, or with bits raised, and no program was started
pub record Before (s : Setting) (p q : Progress) (block : ℕ) (adds : List ArrayOperation) : Type 0 where
  pub unpassed : is_passed q.outcome ≡ false
  pub block_was : (block_on s q block ≡ block_on s p block) ⊎ (block_on s q block ≡ raised (block_on s p block) s.mask)
  pub no_program : Each (λ o. o.kind ≡ 2 → ⊥) adds

-- the erase passed: the block has these pages with bits raised, and each page whose program was not started is FFh
pub record Since (s : Setting) (q : Progress) (block : ℕ) (pages : ℕ → List ℕ) (adds : List ArrayOperation) : Type 0 where
  pub over : (i : ℕ) → i < s.geometry.pages → Over (pages i) (page_on s q block i)
  pub sent : (i : ℕ) → i < s.geometry.pages → Some (Programs block i (pages i)) adds ⊎ (page_on s q block i ≡ replicate (page_size s.geometry) 255)

-- the operations that a fill from p to q started
pub record Touched (s : Setting) (p q : Progress) (block : ℕ) (pages : ℕ → List ℕ) : Type 0 where
  pub adds : List ArrayOperation
  pub started_is : q.started ≡ p.started ++ adds
  pub each : Each (TouchedBy s.geometry p.line.chip.array block pages) adds
  pub here : Before s p q block adds ⊎ Since s q block pages adds
  pub steady : Steady adds
  pub failures : (b : ℕ) → failed_in b adds ≡ cond (eqb block b) (is_failed q.outcome) false
