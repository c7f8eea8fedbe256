-- `bitmaps::is_never_both` meets its contract: the blocks left to look at decide as all do. Assumes nothing.
use Prim.Native.Nat.{◌*◌, ◌≤◌}
use mathlib.Core.Path.{◌≡◌}
use Rattle.bitmaps.specs.Bitmap.{never_both}
use Rattle.bitmaps.proofs.is_never_both.Given as goal

abbrev pub invariant-loop-block : goal.invariant-loop-block
invariant-loop-block l = (8 * l.bytes ≤ l.block) × (never_both l.first l.second l.block ≡ never_both l.first l.second l.blocks)
