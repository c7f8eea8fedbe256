-- What a scan of either depth tells of a block, and the numbers that it finds on an array.
use Rattle.std.specs.Prelude.{ℕ, Bool, List}
use Rattle.geometry.specs.declared.Geometry.{Geometry}
use Rattle.copies.specs.Blocks.{has_number, greatest}
use Rattle.copies.specs.Current.{greatest_below, filled_last}
use Rattle.copies.specs.Pick.{Pick}
use Rattle.copies.specs.Quick.{quick_has, quick_greatest, quick_below, quick_last}
use Rattle.scan_summary.specs.Quick.{quick_summed}
use Rattle.scan_summary.specs.Summary.{summed}
use Rattle.scan_summary.specs.declared.Depth.{Depth}
use Rattle.scan_summary.specs.declared.Depth.TheVariants.{Full, Quick}
use Rattle.scan_summary.specs.declared.Summary.{Summary}

unfoldable pub summary_by : Depth → Geometry → List ℕ → Summary
summary_by Full g block = summed g block g.pages
summary_by Quick g block = quick_summed g block

-- whether a page that is read is whole, and the greatest number on one, 0 if none is; of a block without a factory mark
unfoldable pub has_by : Depth → Geometry → List ℕ → Bool
has_by Full g block = has_number g block
has_by Quick g block = quick_has g block

unfoldable pub greatest_by : Depth → Geometry → List ℕ → ℕ
greatest_by Full g block = greatest g block
greatest_by Quick g block = quick_greatest g block

-- the greatest of the blocks below n, 0 if none, and the block filled last
unfoldable pub below_by : Depth → Geometry → List ℕ → ℕ → ℕ
below_by Full g array n = greatest_below g array n
below_by Quick g array n = quick_below g array n

unfoldable pub last_by : Depth → Geometry → List ℕ → Pick
last_by Full g array = filled_last g array
last_by Quick g array = quick_last g array
