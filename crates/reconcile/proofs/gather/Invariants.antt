-- `reconcile::gather` meets its contract: what is gathered is that of the sales passed. Assumes nothing.
use Prim.Native.Nat.{◌+◌, ◌-◌}
use lib.ListN.{length}
use Rattle.reconcile.proofs.PassLaws.{Reached}
use Rattle.reconcile.proofs.gather.Given as goal

abbrev pub invariant-loop-i : goal.invariant-loop-i
invariant-loop-i l = Reached l.box_numbers l.box_amounts l.mechanism_numbers l.mechanism_amounts l.agreed l.only_box l.only_mechanism l.difference l.i l.j

abbrev pub decreases-loop-i : goal.decreases-loop-i
decreases-loop-i l = length l.box_numbers + length l.mechanism_numbers - (l.i + l.j)
