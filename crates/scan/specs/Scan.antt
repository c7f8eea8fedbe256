-- The scan of the chip: its blocks read at one depth, one after the other.
use Rattle.std.specs.Prelude.{ℕ, zero, suc}
use Rattle.chip_array.specs.Device.{Setting}
use Rattle.scan_summary.specs.declared.Depth.{Depth}
use Rattle.progress.specs.Progress.{Progress}
use Rattle.scan_quick.specs.BlockRead.{block_read}

-- the first n blocks
unfoldable pub blocks_read : Depth → Setting → ℕ → Progress → Progress
blocks_read depth s zero p = p
blocks_read depth s (suc n) p = block_read depth s n (blocks_read depth s n p)
