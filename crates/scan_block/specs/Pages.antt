-- The pages of a block, read whole, one after the other.
use Rattle.std.specs.Prelude.{ℕ, zero, suc, ◌+◌}
use Rattle.geometry.specs.Sizes.{page_size, row_of}
use Rattle.chip_array.specs.Device.{Setting}
use Rattle.progress.specs.Progress.{Progress, read_on}

-- n pages of a block, from page first on
unfoldable pub pages_from : Setting → ℕ → ℕ → ℕ → Progress → Progress
pages_from s block first zero p = p
pages_from s block first (suc n) p =
    read_on s (row_of s.geometry block (first + n)) 0 (page_size s.geometry) (pages_from s block first n p)

-- the first n pages of a block
unfoldable pub pages_read : Setting → ℕ → ℕ → Progress → Progress
pages_read s block zero p = p
pages_read s block (suc n) p =
    read_on s (row_of s.geometry block n) 0 (page_size s.geometry) (pages_read s block n p)
