-- A request on its way, told without its cycles: what each of its operations leaves of the chip.
use Rattle.std.specs.Prelude.{ℕ, zero, suc, ◌+◌, ◌*◌, ◌≤◌, ◌<◌, ◌^◌, Bool, true, false, cond, List, [], ◌∷◌, ◌⊎◌, ◌≡◌, eqb, length, get_or, replicate}
use Rattle.geometry.specs.declared.Geometry.{Geometry}
use Rattle.geometry.specs.Sizes.{page_size, block_size}
use Rattle.cells.specs.Bytes.{Bytes}
use Rattle.cells.specs.Cells.{programmed, weakened, raised}
use Rattle.chip_interface.specs.Interface.{busy_of, failed_of}
use Rattle.chip_array.specs.Device.{Setting}
use Rattle.bus_polling.specs.Outcomes.{is_passed, answered, is_failed, is_illegal, is_cut_off, is_silent, is_protected, is_read_end}
use Rattle.operations.specs.Ends.{Called}
use Rattle.operations.specs.Trace.{ArrayOperation}
use Rattle.pages.specs.Layout.{number_width}
use Rattle.pages.specs.Over.{Over}
use Rattle.copies.specs.Blocks.{block_in, page_in, main_in, formed}
use Rattle.scan_summary.specs.declared.Depth.{Depth}
use Rattle.scan_summary.specs.declared.Depth.TheVariants.{Full, Quick}
use Rattle.progress.specs.Progress.{Progress, line_of}
use Rattle.fill.specs.Fill.{Copy, Source, given, kept, copy_page}

-- some fate word has 256 or more busy reads
pub record Slow (fates : List ℕ) : Type 0 where
  pub place : ℕ
  pub within : place < length fates
  pub busy : 256 ≤ busy_of (get_or fates place 0)

-- some fate word says fail
pub record Failing (fates : List ℕ) : Type 0 where
  pub place : ℕ
  pub within : place < length fates
  pub fails : failed_of (get_or fates place 0) ≡ 1

-- an erase or a program of block b failed
unfoldable pub failed_in : ℕ → List ArrayOperation → Bool
failed_in b [] = false
failed_in b (o ∷ os) = let more = failed_in b os in cond (cond (eqb o.block b) (is_failed o.answer) false) true more

-- how many of the first n blocks have one
unfoldable pub failed_count : List ArrayOperation → ℕ → ℕ
failed_count os zero = 0
failed_count os (suc n) = failed_count os n + cond (failed_in n os) 1 0

-- the same operations failed in q as in p, and the last of q, of this block, if it failed
abbrev pub FailedMore : Progress → Progress → ℕ → Type 0
FailedMore p q block =
    (b : ℕ) → failed_in b q.started ≡ cond (failed_in b p.started) true (cond (eqb block b) (is_failed q.outcome) false)

-- no cycle was answered illegal, none was answered protected, one that was cut used up the allowance, a fate word made it silent or fail, and after an
-- operation that was answered the chip takes the next one
pub record Sound (s : Setting) (p : Progress) : Type 0 where
  pub legal : p.line.chip.interface.illegal ≡ 0
  pub known : is_illegal p.outcome ≡ false
  pub unprotected : is_protected p.outcome ≡ false
  pub used_up : is_cut_off p.outcome ≡ true → p.line.left ≡ 0
  pub silent_by : is_silent p.outcome ≡ true → Slow s.fates
  pub failed_by_fact : is_failed p.outcome ≡ true → Failing s.fates
  pub called : answered p.outcome ≡ true → Called s p.line

-- so far nothing but resets and reads: array and history are as they were
pub record Unchanged (s : Setting) (array history : List ℕ) (p : Progress) : Type 0 where
  pub sound : Sound s p
  pub ends : is_read_end p.outcome ≡ true
  pub same_array : p.line.chip.array ≡ array
  pub same_history : p.line.chip.history ≡ history

-- no operation failed since p
abbrev pub NoneFailed : Progress → Progress → Type 0
NoneFailed p q = (b : ℕ) → failed_in b q.started ≡ failed_in b p.started

-- the array of a request on its way, by its blocks and pages
abbrev pub block_on : Setting → Progress → ℕ → List ℕ
block_on s p b = block_in s.geometry p.line.chip.array b

abbrev pub page_on : Setting → Progress → ℕ → ℕ → List ℕ
page_on s p b i = page_in s.geometry (block_on s p b) i

-- every other block is as it was
abbrev pub OthersSame : Setting → Progress → Progress → ℕ → Type 0
OthersSame s p q block = (b : ℕ) → b < s.geometry.blocks → (b ≡ block → ⊥) → block_on s q b ≡ block_on s p b

-- no more than k cycles were sent
abbrev pub Spent : Progress → Progress → ℕ → Type 0
Spent p q k = p.line.left ≤ q.line.left + k

-- the cycles of a read of n bytes, of a program and of an erase whose status is read 256 times
abbrev pub read_most : ℕ → ℕ
read_most n = 265 + n

abbrev pub program_most : Geometry → ℕ
program_most g = 264 + page_size g

abbrev pub erase_most : ℕ
erase_most = 262

-- those of the scan of a block at either depth: every page once, and the mark byte of page 1
unfoldable pub scan_most : Depth → Geometry → ℕ
scan_most Full g = g.pages * read_most (page_size g)
scan_most Quick g = g.pages * read_most (page_size g) + read_most 1

-- those of a page that is filled after a kept read, and of a whole fill
abbrev pub page_most : Geometry → ℕ
page_most g = read_most g.main + program_most g

abbrev pub fill_most : Geometry → ℕ
fill_most g = erase_most + g.pages * page_most g

-- those of a table fill, which keeps no page
abbrev pub table_fill_most : Geometry → ℕ
table_fill_most g = erase_most + g.pages * program_most g

-- those of a page by where its bytes come from
unfoldable pub source_most : Geometry → Source → ℕ
source_most g (given main) = program_most g
source_most g (kept old form) = page_most g

-- an erase that led from p to q
pub record Erased (s : Setting) (p q : Progress) (block : ℕ) : Type 0 where
  pub sound : Sound s q
  pub others : OthersSame s p q block
  pub whole : is_passed q.outcome ≡ true → block_on s q block ≡ replicate (block_size s.geometry) 255
  pub partly : is_passed q.outcome ≡ false → (block_on s q block ≡ block_on s p block) ⊎ (block_on s q block ≡ raised (block_on s p block) s.mask)
  pub in_order : is_passed q.outcome ≡ true → get_or q.line.chip.history block 0 ≤ 0
  pub spent : Spent p q erase_most
  pub failures : FailedMore p q block

-- a program that led from p to q
pub record Programmed (s : Setting) (p q : Progress) (block page : ℕ) (bytes : List ℕ) : Type 0 where
  pub sound : Sound s q
  pub others : OthersSame s p q block
  pub other_pages : (i : ℕ) → i < s.geometry.pages → (i ≡ page → ⊥) → page_on s q block i ≡ page_on s p block i
  pub whole : is_passed q.outcome ≡ true → page_on s q block page ≡ programmed (page_on s p block page) bytes
  pub partly : is_passed q.outcome ≡ false
      → (page_on s q block page ≡ page_on s p block page) ⊎ (page_on s q block page ≡ programmed (page_on s p block page) (weakened bytes s.mask))
  pub in_order : is_passed q.outcome ≡ true → get_or q.line.chip.history block 0 ≤ page + 1
  pub spent : Spent p q (program_most s.geometry)
  pub failures : FailedMore p q block

-- where the bytes of page n of a copy come from: the caller, or the same page of another block
pub data Provides (g : Geometry) (array : List ℕ) (block : ℕ) (c : Copy) (n : ℕ) : Source → List ℕ → Type 0 where
  from_caller : (main : List ℕ) → Provides g array block c n (given main) (copy_page g c n main)
  from_copy : (old form : ℕ) → old < g.blocks → (old ≡ block → ⊥) → Provides g array block c n (kept old form) (copy_page g c n (formed form n (main_in g (block_in g array old) n)))

-- a copy whose label has a layout and fits its bytes
pub record Labelled (c : Copy) : Type 0 where
  pub width_some : 0 < number_width c.kind
  pub kind_byte : c.kind < 256
  pub logical_fits : c.logical < 65536
  pub number_fits : c.number < 256 ^ number_width c.kind

-- the pages that a fill is to leave: bytes, as long as a page, with a source each
pub record Meant (s : Setting) (array : List ℕ) (block : ℕ) (c : Copy) (source : ℕ → Source) (pages : ℕ → List ℕ) : Type 0 where
  pub long : (i : ℕ) → i < s.geometry.pages → length (pages i) ≡ page_size s.geometry
  pub bytes : (i : ℕ) → i < s.geometry.pages → Bytes (pages i)
  pub provides : (i : ℕ) → i < s.geometry.pages → Provides s.geometry array block c i (source i) (pages i)

-- what a fill that did not pass leaves of its block: all as it was, the old block with bits raised, or the new pages
-- with bits raised
abbrev pub Damaged : Setting → Progress → Progress → ℕ → (ℕ → List ℕ) → Type 0
Damaged s p q block pages =
    (block_on s q block ≡ block_on s p block)
    ⊎ ((block_on s q block ≡ raised (block_on s p block) s.mask) ⊎ ((i : ℕ) → i < s.geometry.pages → Over (pages i) (page_on s q block i)))

-- a fill on its way from p: the erase and the first n pages led to q, by no more than k cycles, the write-protect line as it was
pub record Filled (s : Setting) (p q : Progress) (block : ℕ) (pages : ℕ → List ℕ) (n k : ℕ) : Type 0 where
  pub sound : Sound s q
  pub others : OthersSame s p q block
  pub done : is_passed q.outcome ≡ true → (i : ℕ) → i < n → page_on s q block i ≡ pages i
  pub ahead : is_passed q.outcome ≡ true → (i : ℕ) → n ≤ i → i < s.geometry.pages → page_on s q block i ≡ replicate (page_size s.geometry) 255
  pub in_order : is_passed q.outcome ≡ true → get_or q.line.chip.history block 0 ≤ n
  pub damaged : is_passed q.outcome ≡ false → Damaged s p q block pages
  pub spent : Spent p q k
  pub same_line : line_of q ≡ line_of p
  pub failures : FailedMore p q block
