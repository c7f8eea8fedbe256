-- `bitmaps::count_set` meets its contract. Assumes nothing.
use mathlib.Core.Path.{◌≡◌}
use Prim.Native.Nat.{◌≤◌}
use Rattle.bitmaps.specs.Bitmap.{count_bits}
use Rattle.bitmaps.proofs.count_set.Given as goal

abbrev pub invariant-loop-block : goal.invariant-loop-block
invariant-loop-block l = (l.count ≡ count_bits l.bits l.block) × (l.count ≤ l.block)
