-- What every read keeps, the reading of a block keeps. Assumes nothing.
use Prim.Native.Nat.{ℕ, zero, suc, ◌+◌}
use mathlib.Core.Path.{subst}
use Rattle.geometry.specs.Sizes.{page_size, row_of}
use Rattle.chip_array.specs.Device.{Setting}
use Rattle.progress.specs.Progress.{Progress, read_on}
use Rattle.progress.specs.Kept.{Kept}
use Rattle.scan_block.specs.Pages.{pages_from, pages_read}
use Rattle.scan_block.proofs.ScanLaws.{from_first}

module _ (s : Setting) (P : Progress → Type 0) (read : (row column n : ℕ) (p : Progress) → P p → P (read_on s row column n p)) where
  pub from_reads : (block first n : ℕ) (p : Progress) → P p → P (pages_from s block first n p)
  unfolding pages_from
  from_reads block first zero p h = h
  from_reads block first (suc n) p h =
      read (row_of s.geometry block (first + n)) 0 (page_size s.geometry) (pages_from s block first n p) (from_reads block first n p h)

  pub pages_reads : (block n : ℕ) (p : Progress) → P p → P (pages_read s block n p)
  pages_reads block n p h = subst P (from_first s block n p) (from_reads block 0 n p h)

module _ (s : Setting) (P : Progress → Type 0) (k : Kept s P) where
  pub pages_keep : (block n : ℕ) (p : Progress) → P p → P (pages_read s block n p)
  pages_keep = pages_reads s P k.read
