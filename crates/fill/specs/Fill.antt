-- A fill: a block is erased and its pages are programmed in order, each with its label and check.
use Rattle.std.specs.Prelude.{ℕ, zero, suc, ◌+◌, ◌-◌, ◌*◌, ◌<◌, Bool, true, false, cond, List, ◌≡◌, eqb, leb, ltb, replicate}
use Rattle.geometry.specs.declared.Geometry.{Geometry}
use Rattle.geometry.specs.Limits.{Valid}
use Rattle.geometry.specs.Sizes.{page_size, row_of}
use Rattle.cells.specs.Part.{part}
use Rattle.chip_array.specs.Device.{Setting}
use Rattle.chip.specs.Chip.{Cycle}
use Rattle.bus.specs.Line.{Line}
use Rattle.bus_polling.specs.Outcomes.{is_passed, answered}
use Rattle.bus_polling.specs.declared.Outcome.{Outcome}
use Rattle.bus_polling.specs.declared.Outcome.TheVariants.{Passed}
use Rattle.operations.specs.Ends.{Lent}
use Rattle.operations.specs.Trace.{ArrayOperation}
use Rattle.pages.specs.Layout.{label, encoded, number_width, is_white_kind, table_kind}
use Rattle.copies.specs.Blocks.{block_in, main_in, formed}
use Rattle.copies.specs.Table.{table_page}
use Rattle.progress.specs.Progress.{Progress, progress, read_on}
use Rattle.progress.specs.Steps.{erase_on, program_on}

-- what the labels of a copy's pages share
pub record Copy : Type 0 where
  pub kind : ℕ
  pub logical : ℕ
  pub number : ℕ

abbrev pub copy : ℕ → ℕ → ℕ → Copy
copy k l n = record { kind = k; logical = l; number = n }

-- a page that can be labelled so, in a buffer as long as a page
pub record Fillable (g : Geometry) (block place kind logical size : ℕ) : Type 0 where
  pub is_valid : Valid g
  pub block_below : block < g.blocks
  pub place_below : place < g.pages
  pub width_is : number_width kind ≡ 8
  pub logical_fits : logical < 65536
  pub page-long : size ≡ page_size g

-- where the main bytes of a page come from: given, or kept from the same page of another block, whose copy has this kind
pub data Source : Type 0 where
  given : List ℕ → Source
  kept : ℕ → ℕ → Source

-- page n of a copy that stores these main bytes
abbrev pub stored_page : Geometry → Copy → ℕ → List ℕ → List ℕ
stored_page g c n stored = encoded g.spare (label c.kind c.logical n c.number) stored

-- page n of a copy with these main bytes: they are stored as its kind does
abbrev pub copy_page : Geometry → Copy → ℕ → List ℕ → List ℕ
copy_page g c n main = stored_page g c n (formed c.kind n main)

-- the main bytes of page n; those of a kept page are read, main bytes only, and are what its writer gave
unfoldable pub main_of : Geometry → List ℕ → ℕ → Source → List ℕ
main_of g array n (given main) = main
main_of g array n (kept old form) = formed form n (main_in g (block_in g array old) n)

unfoldable pub main_read : Setting → ℕ → Source → Progress → Progress
main_read s n (given main) p = p
main_read s n (kept old form) p = read_on s (row_of s.geometry old n) 0 s.geometry.main p

-- a part of a request that comes from line l to line m with outcome o on a chip that may not be ready: once it passed the chip is
-- lent on, and what did not pass was not answered
pub record Reaches (s : Setting) (steps : Progress → Progress) (l m : Line) (o : Outcome) : Type 0 where
  pub line_is : (cs : List Cycle) (os : List ArrayOperation) → m ≡ (steps (progress l Passed cs os)).line
  pub outcome_is : (cs : List Cycle) (os : List ArrayOperation) → o ≡ (steps (progress l Passed cs os)).outcome
  pub next_lent : is_passed o ≡ true → Lent s m
  pub unanswered : is_passed o ≡ false → answered o ≡ false

-- page n is filled; one that is kept is read just before its program
unfoldable pub page_filled : Setting → ℕ → Copy → ℕ → Source → Progress → Progress
page_filled s block c n source p =
    program_on s block n (copy_page s.geometry c n (main_of s.geometry p.line.chip.array n source))
    (main_read s n source p)

-- the first n pages
unfoldable pub pages_filled : Setting → ℕ → Copy → (ℕ → Source) → ℕ → Progress → Progress
pages_filled s block c source zero p = p
pages_filled s block c source (suc n) p = page_filled s block c n (source n) (pages_filled s block c source n p)

-- the whole fill of a block
abbrev pub filled : Setting → ℕ → Copy → (ℕ → Source) → Progress → Progress
filled s block c source p = pages_filled s block c source s.geometry.pages (erase_on s block p)

-- two kinds that both store main bytes whitened
abbrev pub both_white : ℕ → ℕ → Bool
both_white form kind = cond (is_white_kind form) (is_white_kind kind) false

-- page n is one of the count pages from first on
unfoldable pub is_given : ℕ → ℕ → ℕ → Bool
is_given first count n = cond (leb first n) (ltb n (first + count)) false

-- its main bytes, where those of all these pages stand one after the other
abbrev pub given_main : Geometry → ℕ → List ℕ → ℕ → List ℕ
given_main g first bytes n = part ((n - first) * g.main) g.main bytes

-- a data copy's pages: count pages from first on are given, the others are kept from the old copy, which has the kind form,
-- FFh where there is none; there is no old copy where its block is not on the chip
unfoldable pub data_source : Geometry → ℕ → ℕ → ℕ → ℕ → List ℕ → ℕ → Source
data_source g old form first count bytes n =
    cond (is_given first count n) (given (given_main g first bytes n))
    (cond (ltb old g.blocks) (kept old form) (given (replicate g.main 255)))

-- a table's pages: page 0 lists the invalid blocks, the others are FFh
unfoldable pub table_main : Geometry → List ℕ → ℕ → List ℕ
table_main g invalid n =
    cond (eqb n 0) (table_page g.main g.blocks g.logical invalid) (replicate g.main 255)

abbrev pub table_source : Geometry → List ℕ → ℕ → Source
table_source g invalid n = given (table_main g invalid n)

abbrev pub table_copy : ℕ → Copy
table_copy number = copy table_kind 0 number

abbrev pub table_filled : Setting → ℕ → ℕ → List ℕ → Progress → Progress
table_filled s block number invalid p = filled s block (table_copy number) (table_source s.geometry invalid) p
