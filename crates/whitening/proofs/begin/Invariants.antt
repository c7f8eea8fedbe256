-- `whitening::begin` meets its contract: so far the list begins as the stream does, and the register is the one that gives the next byte. Assumes nothing.
use Prim.Native.Nat.{◌+◌, ◌*◌, ◌<◌}
use mathlib.Core.Path.{◌≡◌}
use Rattle.whitening.specs.Stream.{stepped, Begins}
use Rattle.whitening.proofs.begin.Given as goal

abbrev pub invariant-loop-byte : goal.invariant-loop-byte
invariant-loop-byte l = (l.register ≡ stepped (8 * l.byte-index) (l.page + 1)) × (l.register < 32768) × Begins l.byte-index (l.page + 1) l.byte-items
