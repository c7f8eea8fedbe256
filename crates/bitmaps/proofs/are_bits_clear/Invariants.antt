-- `bitmaps::are_bits_clear` meets its contract. Assumes nothing.
use Rattle.bitmaps.specs.Bitmap.{clear_from}
use mathlib.Core.Path.{◌≡◌}
use Prim.Native.Nat.{◌-◌}
use Rattle.bitmaps.proofs.are_bits_clear.Given as goal

abbrev pub invariant-loop-block : goal.invariant-loop-block
invariant-loop-block l = clear_from l.bits l.block (l.end - l.block) ≡ clear_from l.bits l.from (l.end - l.from)
