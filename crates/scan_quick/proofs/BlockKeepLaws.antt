-- What every read keeps, the reading of a block at either depth keeps; once a read has not passed nothing more is read. Assumes nothing.
use Prim.Native.Nat.{ℕ, ◌-◌}
use mathlib.Core.Bool.{false}
use mathlib.Core.Path.{◌≡◌, sym, ap, ◌∙◌}
use borrow.Table.Steps.{cases}
use Rattle.geometry.specs.Sizes.{page_size, row_of}
use Rattle.chip_array.specs.Device.{Setting}
use Rattle.bus_polling.specs.Outcomes.{is_passed}
use Rattle.copies.specs.Blocks.{block_in}
use Rattle.copies.specs.Quick.{last_page, ends_whole}
use Rattle.scan_summary.specs.declared.Depth.{Depth}
use Rattle.scan_summary.specs.declared.Depth.TheVariants.{Full, Quick}
use Rattle.progress.specs.Progress.{Progress, read_on}
use Rattle.progress.proofs.ReadOnLaws.{read_stopped}
use Rattle.scan_block.proofs.KeepLaws.{from_reads, pages_reads}
use Rattle.scan_block.proofs.ScanLaws.{none_read, from_first}
use Rattle.scan_quick.specs.BlockRead.{page_read, ends_read, quick_read, block_read}

module _ (s : Setting) (P : Progress → Type 0) (read : (row column n : ℕ) (p : Progress) → P p → P (read_on s row column n p)) where
  ends_keep : (block : ℕ) (p : Progress) → P p → P (ends_read s block p)
  unfolding ends_read
  ends_keep block p h =
      read (row_of s.geometry block 1) s.geometry.main 1 (page_read s block (last_page s.geometry) (page_read s block 0 p))
      (read (row_of s.geometry block (last_page s.geometry)) 0 (page_size s.geometry) (page_read s block 0 p)
      (read (row_of s.geometry block 0) 0 (page_size s.geometry) p h))

  quick_keep : (block : ℕ) (p : Progress) → P p → P (quick_read s block p)
  unfolding quick_read
  quick_keep block p h =
      cases (ends_whole s.geometry (block_in s.geometry p.line.chip.array block))
      (λ t. rw t (from_reads s P read block 1 (s.geometry.pages - 2) (ends_read s block p) (ends_keep block p h)))
      (λ t. rw t (ends_keep block p h))

  pub block_reads : (depth : Depth) (block : ℕ) (p : Progress) → P p → P (block_read depth s block p)
  unfolding block_read
  block_reads Full block p h = pages_reads s P read block s.geometry.pages p h
  block_reads Quick block p h = quick_keep block p h

ends-stopped : (s : Setting) (block : ℕ) (p : Progress) → is_passed p.outcome ≡ false → ends_read s block p ≡ p
unfolding ends_read
ends-stopped s block p f =
    let one = read_stopped s (row_of s.geometry block 0) 0 (page_size s.geometry) p f in
    let two = read_stopped s (row_of s.geometry block (last_page s.geometry)) 0 (page_size s.geometry) (page_read s block 0 p) (ap (λ (x : Progress). is_passed x.outcome) one ∙ f) ∙ one in
    read_stopped s (row_of s.geometry block 1) s.geometry.main 1 (page_read s block (last_page s.geometry) (page_read s block 0 p)) (ap (λ (x : Progress). is_passed x.outcome) two ∙ f) ∙ two

quick_stopped : (s : Setting) (block : ℕ) (p : Progress) → is_passed p.outcome ≡ false → quick_read s block p ≡ p
unfolding quick_read
quick_stopped s block p f =
    let ends = ends-stopped s block p f in
    cases (ends_whole s.geometry (block_in s.geometry p.line.chip.array block))
    (λ t. rw t (none_read s block 1 (s.geometry.pages - 2) (ends_read s block p) (ap (λ (x : Progress). is_passed x.outcome) ends ∙ f) ∙ ends))
    (λ t. rw t ends)

pub block_stopped : (depth : Depth) (s : Setting) (block : ℕ) (p : Progress) → is_passed p.outcome ≡ false → block_read depth s block p ≡ p
unfolding block_read
block_stopped Full s block p f = sym (from_first s block s.geometry.pages p) ∙ none_read s block 0 s.geometry.pages p f
block_stopped Quick s block p f = quick_stopped s block p f
