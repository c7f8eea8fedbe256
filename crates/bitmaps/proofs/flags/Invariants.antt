-- `bitmaps::flags` meets its contract: the bytes of the blocks passed are their flags, the others 0. Assumes nothing.
use Rattle.bitmaps.proofs.ByteLaws.{Flagged}
use Rattle.bitmaps.proofs.flags.Given as goal

abbrev pub invariant-loop-at : goal.invariant-loop-at
invariant-loop-at l = Flagged l.first l.second l.flags l.at
