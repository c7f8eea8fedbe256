-- `format_erase::erase_all` meets its contract: after each block the round is on its way as RoundLaws tells. Assumes nothing.
use Prim.Native.Nat.{◌-◌, ◌≤◌}
use mathlib.Core.Path.{◌≡◌}
use lib.ListN.{length}
use Rattle.chip_array.specs.Device.{setting}
use Rattle.bus.specs.Line.{line}
use Rattle.format_erase.proofs.RoundLaws.{Rounding}
use Rattle.format_erase.proofs.erase_all.Given as goal

abbrev pub invariant-loop-block : goal.invariant-loop-block
invariant-loop-block l = (l.block ≤ l.g.blocks) × (length l.array ≡ length l.initial.array) × (length l.register ≡ length l.initial.register) × (length l.history ≡ length l.initial.history) × (length l.page ≡ length l.initial.page)
    × Rounding (setting l.g l.mask l.fates) l.marked (line l.initial.b l.initial.array l.initial.register l.initial.history) (line l.b l.array l.register l.history) l.block l.invalid l.numbers

abbrev pub decreases-loop-block : goal.decreases-loop-block
decreases-loop-block l = l.g.blocks - l.block
