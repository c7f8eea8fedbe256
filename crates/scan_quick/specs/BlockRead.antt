-- What a scan of either depth reads of a block, and what is known after it.
use Rattle.std.specs.Prelude.{ℕ, ◌-◌, true, cond, List, ◌≡◌}
use Rattle.geometry.specs.Sizes.{page_size, row_of}
use Rattle.cells.specs.Part.{put}
use Rattle.chip_array.specs.Device.{Setting}
use Rattle.bus.specs.Line.{Line}
use Rattle.bus_polling.specs.Outcomes.{is_passed}
use Rattle.bus_polling.specs.declared.Outcome.{Outcome}
use Rattle.bus_polling.specs.declared.Outcome.TheVariants.{Passed}
use Rattle.copies.specs.Blocks.{block_in, main_in, mark_byte, is_complete}
use Rattle.copies.specs.Quick.{last_page, ends_whole}
use Rattle.copies.specs.Table.{bitmap_of, layout_to}
use Rattle.scan_summary.specs.Depth.{summary_by}
use Rattle.scan_summary.specs.Quick.{marking}
use Rattle.scan_summary.specs.declared.Depth.{Depth}
use Rattle.scan_summary.specs.declared.Depth.TheVariants.{Full, Quick}
use Rattle.scan_summary.specs.declared.Summary.{Summary}
use Rattle.progress.specs.Progress.{Progress, read_on}
use Rattle.scan_block.specs.Gathered.{Ran}
use Rattle.scan_block.specs.Pages.{pages_from, pages_read}

-- a page whole, and the mark byte of page 1
abbrev pub page_read : Setting → ℕ → ℕ → Progress → Progress
page_read s block i p = read_on s (row_of s.geometry block i) 0 (page_size s.geometry) p

abbrev pub mark_read : Setting → ℕ → Progress → Progress
mark_read s block p = read_on s (row_of s.geometry block 1) s.geometry.main 1 p

-- the first page, the last page, the mark byte of page 1
unfoldable pub ends_read : Setting → ℕ → Progress → Progress
ends_read s block p = mark_read s block (page_read s block (last_page s.geometry) (page_read s block 0 p))

-- and then the other pages, in order, where the first and the last are both whole
unfoldable pub quick_read : Setting → ℕ → Progress → Progress
quick_read s block p =
    let q = ends_read s block p in
    cond (ends_whole s.geometry (block_in s.geometry p.line.chip.array block)) (pages_from s block 1 (s.geometry.pages - 2) q) q

-- a block at either depth
unfoldable pub block_read : Depth → Setting → ℕ → Progress → Progress
block_read Full s block p = pages_read s block s.geometry.pages p
block_read Quick s block p = quick_read s block p

-- after the mark byte of page 1 was read
pub record MarkScanned (s : Setting) (l m : Line) (o e : Outcome) (block : ℕ) (x y : Summary) (right next : ℕ) : Type 0 where
  pub ran : Ran s (mark_read s block) l m o e
  pub summary_is : is_passed e ≡ true → y ≡ marking (mark_byte s.geometry (block_in s.geometry l.chip.array block) 1) x
  pub same_right : next ≡ right

-- after a block was read at this depth: the summary, the layout as a table where the block is complete, and the bitmap of page 0
pub record BlockScanned (depth : Depth) (s : Setting) (l m : Line) (e : Outcome) (block : ℕ) (summary : Summary) (right : ℕ) (before bits : List ℕ) : Type 0 where
  pub ran : Ran s (block_read depth s block) l m Passed e
  pub summary_is : is_passed e ≡ true → summary ≡ summary_by depth s.geometry (block_in s.geometry l.chip.array block)
  pub right_is : is_passed e ≡ true → is_complete s.geometry (block_in s.geometry l.chip.array block) ≡ true
      → right ≡ layout_to s.geometry (block_in s.geometry l.chip.array block) s.geometry.pages
  pub bits_are : is_passed e ≡ true → bits ≡ put 0 (bitmap_of s.geometry.blocks (main_in s.geometry (block_in s.geometry l.chip.array block) 0)) before
