-- `whitening::extend` meets its contract: a list that began as the stream does goes on as it does. Assumes nothing.
use Prim.Native.Nat.{ℕ, ◌*◌}
use mathlib.Core.Path.{◌≡◌}
use lib.ListN.{length}
use Rattle.whitening.specs.Stream.{Begins}
use Rattle.whitening.proofs.extend.Given as goal

abbrev pub invariant-loop-at : goal.invariant-loop-at
invariant-loop-at l = (length l.stream ≡ 4096) × ((r : ℕ) → Begins (15 * l.apart) r l.initial.stream → Begins l.at r l.stream)
