-- `bitmaps::share_no_bit` meets its contract: what is shared is 0 exactly where no block passed has both bits. Assumes nothing.
use Prim.Native.Nat.{◌*◌}
use mathlib.Core.Path.{◌≡◌}
use lib.Dec.{eqb}
use lib.ListN.{length}
use Rattle.bitmaps.specs.Bitmap.{never_both}
use Rattle.bitmaps.proofs.share_no_bit.Given as goal

abbrev pub invariant-loop-one : goal.invariant-loop-one
invariant-loop-one l = eqb l.shared 0 ≡ never_both l.first l.second (8 * length l.yielded)
