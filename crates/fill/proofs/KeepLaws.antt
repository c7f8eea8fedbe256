-- What every operation keeps, a fill keeps, as a whole and step by step. Assumes nothing.
use Prim.Native.Nat.{ℕ, zero, suc}
use Rattle.geometry.specs.Sizes.{row_of}
use Rattle.chip_array.specs.Device.{Setting}
use Rattle.progress.specs.Progress.{Progress}
use Rattle.progress.specs.Steps.{erase_on}
use Rattle.progress.specs.Kept.{Kept}
use Rattle.fill.specs.Fill.{Copy, Source, given, kept, main_read, page_filled, pages_filled, filled}

module _ (s : Setting) (P : Progress → Type 0) (k : Kept s P) where
  main_keeps : (n : ℕ) (source : Source) (p : Progress) → P p → P (main_read s n source p)
  unfolding main_read
  main_keeps n (given main) p h = h
  main_keeps n (kept old form) p h = k.read (row_of s.geometry old n) 0 s.geometry.main p h

  pub page_keeps : (block : ℕ) (c : Copy) (n : ℕ) (source : Source) (p : Progress) → P p → P (page_filled s block c n source p)
  unfolding page_filled
  page_keeps block c n source p h = k.program block n _ (main_read s n source p) (main_keeps n source p h)

  fill_keeps : (block : ℕ) (c : Copy) (source : ℕ → Source) (n : ℕ) (p : Progress) → P p → P (pages_filled s block c source n p)
  unfolding pages_filled
  fill_keeps block c source zero p h = h
  fill_keeps block c source (suc n) p h = page_keeps block c n (source n) (pages_filled s block c source n p) (fill_keeps block c source n p h)

  pub filled_keeps : (block : ℕ) (c : Copy) (source : ℕ → Source) (p : Progress) → P p → P (filled s block c source p)
  filled_keeps block c source p h = fill_keeps block c source s.geometry.pages (erase_on s block p) (k.erase block p h)
