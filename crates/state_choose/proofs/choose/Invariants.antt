-- `state_choose::choose` meets its contract: the blocks left decide as all do. Assumes nothing.
use Prim.Native.Nat.{◌<◌, ◌-◌}
use mathlib.Core.Path.{◌≡◌}
use Rattle.state_choose.specs.Choose.{permitted, search_after, chosen}
use Rattle.state_choose.proofs.choose.Given as goal

abbrev pub invariant-loop : goal.invariant-loop
invariant-loop l = (l.block < l.blocks)
    × (search_after (permitted l.marked l.invalid l.held) l.blocks (l.blocks - l.counter) l.block ≡ chosen l.marked l.invalid l.held l.blocks l.last)
