-- `format_scan::add_bits` meets its contract: the bits of the blocks passed are added. Assumes nothing.
use Prim.Native.Nat.{◌≤◌, ◌-◌}
use mathlib.Core.Path.{◌≡◌}
use lib.ListN.{length}
use Rattle.format_scan.specs.Survey.{union_to}
use Rattle.format_scan.proofs.add_bits.Given as goal

abbrev pub invariant-loop-block : goal.invariant-loop-block
invariant-loop-block l = (l.block ≤ l.blocks) × (l.bits ≡ union_to l.initial.bits l.more l.block) × (length l.bits ≡ 512)

abbrev pub decreases-loop-block : goal.decreases-loop-block
decreases-loop-block l = l.blocks - l.block
