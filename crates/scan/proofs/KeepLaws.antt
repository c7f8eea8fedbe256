-- What every read keeps, a scan keeps. Assumes nothing.
use Prim.Native.Nat.{ℕ, zero, suc}
use Rattle.chip_array.specs.Device.{Setting}
use Rattle.scan_summary.specs.declared.Depth.{Depth}
use Rattle.progress.specs.Progress.{Progress, read_on}
use Rattle.progress.specs.Kept.{Kept}
use Rattle.scan_quick.proofs.BlockKeepLaws.{block_reads}
use Rattle.scan.specs.Scan.{blocks_read}

module _ (depth : Depth) (s : Setting) (P : Progress → Type 0) (read : (row column n : ℕ) (p : Progress) → P p → P (read_on s row column n p)) where
  pub blocks_reads : (n : ℕ) (p : Progress) → P p → P (blocks_read depth s n p)
  unfolding blocks_read
  blocks_reads zero p h = h
  blocks_reads (suc n) p h = block_reads s P read depth n (blocks_read depth s n p) (blocks_reads n p h)

module _ (depth : Depth) (s : Setting) (P : Progress → Type 0) (k : Kept s P) where
  pub blocks_keep : (n : ℕ) (p : Progress) → P p → P (blocks_read depth s n p)
  blocks_keep = blocks_reads depth s P k.read
