-- `state_choose::count_permitted` meets its contract: the count is that of the blocks passed. Assumes nothing.
use Prim.Native.Nat.{◌≤◌}
use mathlib.Core.Path.{◌≡◌}
use Rattle.state_choose.specs.Choose.{count_permitted}
use Rattle.state_choose.proofs.count_permitted.Given as goal

abbrev pub invariant-loop-b : goal.invariant-loop-b
invariant-loop-b l = (l.count ≡ count_permitted l.marked l.invalid l.held l.b) × (l.count ≤ l.b)
