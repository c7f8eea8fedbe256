-- What pages that are read one after the other tell of their block, and what a run of reads leaves.
use Rattle.std.specs.Prelude.{ℕ, zero, suc, ◌+◌, true, List, ◌≡◌}
use Rattle.geometry.specs.declared.Geometry.{Geometry}
use Rattle.chip_array.specs.Device.{Setting}
use Rattle.chip.specs.Chip.{Cycle}
use Rattle.bus.specs.Line.{Line}
use Rattle.bus_polling.specs.Outcomes.{is_passed}
use Rattle.bus_polling.specs.declared.Outcome.{Outcome}
use Rattle.operations.specs.Ends.{Called}
use Rattle.operations.specs.Trace.{ArrayOperation}
use Rattle.copies.specs.Blocks.{block_in, page_in}
use Rattle.copies.specs.Table.{bits_with, right_with}
use Rattle.scan_summary.specs.Summary.{stepped}
use Rattle.scan_summary.specs.declared.Summary.{Summary}
use Rattle.progress.specs.Progress.{Progress, progress}
use Rattle.scan_block.specs.Pages.{pages_from}

-- the summary, 1 where every page is as a table's, a buffer that takes the bitmap of page 0, and the page buffer
pub record Gathered : Type 0 where
  pub summary : Summary
  pub right : ℕ
  pub bits : List ℕ
  pub page : List ℕ

abbrev pub gathered : Summary → ℕ → List ℕ → List ℕ → Gathered
gathered s r b p = record { summary = s; right = r; bits = b; page = p }

-- after one more page
abbrev pub gathered_with : Geometry → ℕ → List ℕ → Gathered → Gathered
gathered_with g i page x =
    gathered (stepped g.main i page x.summary) (right_with g i page x.right) (bits_with g i page x.bits) page

-- after n pages of a block, from page first on
unfoldable pub gathered_from : Geometry → List ℕ → ℕ → ℕ → Gathered → Gathered
gathered_from g block first zero x = x
gathered_from g block first (suc n) x = gathered_with g (first + n) (page_in g block (first + n)) (gathered_from g block first n x)

-- reads on the way, as run tells, led from line l and outcome o to line m and outcome e; nothing is changed
pub record Ran (s : Setting) (run : Progress → Progress) (l m : Line) (o e : Outcome) : Type 0 where
  pub line_is : (cs : List Cycle) (os : List ArrayOperation) → m ≡ (run (progress l o cs os)).line
  pub outcome_is : (cs : List Cycle) (os : List ArrayOperation) → e ≡ (run (progress l o cs os)).outcome
  pub same_array : m.chip.array ≡ l.chip.array
  pub same_history : m.chip.history ≡ l.chip.history
  pub next : is_passed e ≡ true → Called s m

-- n pages of a block were read from page first on
pub record PagesScanned (s : Setting) (l m : Line) (o e : Outcome) (block first n : ℕ) (x y : Gathered) : Type 0 where
  pub ran : Ran s (pages_from s block first n) l m o e
  pub gives : is_passed e ≡ true → y ≡ gathered_from s.geometry (block_in s.geometry l.chip.array block) first n x
