-- `bitmaps::spread` meets its contract: the bits passed are written. Assumes nothing.
use mathlib.Core.Path.{◌≡◌}
use Rattle.bitmaps.specs.Bitmap.{spread_bits}
use Rattle.bitmaps.proofs.spread.Given as goal

abbrev pub invariant-loop-place : goal.invariant-loop-place
invariant-loop-place l = l.flags ≡ spread_bits l.byte l.at l.place l.initial.flags
