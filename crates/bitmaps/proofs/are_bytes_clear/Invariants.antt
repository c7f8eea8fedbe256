-- `bitmaps::are_bytes_clear` meets its contract: what is found and the bytes left decide as all do. Assumes nothing.
use Prim.Native.Nat.{◌+◌, ◌-◌, ◌*◌}
use mathlib.Core.Bool.{cond, false}
use mathlib.Core.Path.{◌≡◌}
use lib.Dec.{eqb}
use Rattle.bitmaps.specs.Bitmap.{clear_from}
use Rattle.bitmaps.proofs.are_bytes_clear.Given as goal

abbrev pub invariant-loop-byte : goal.invariant-loop-byte
invariant-loop-byte l = cond (eqb l.found 0) (clear_from l.bits (8 * (l.from + l.byte-index)) (8 * (l.end - (l.from + l.byte-index)))) false ≡ clear_from l.bits (8 * l.from) (8 * (l.end - l.from))
