-- `pages::add_zeros` meets its contract: at every turn the bytes passed are added, each at its place. Assumes nothing.
use Rattle.pages.proofs.CountLaws.{Added}
use Rattle.pages.proofs.add_zeros.Given as goal

abbrev pub invariant-loop-i : goal.invariant-loop-i
invariant-loop-i l = Added l.initial.counts l.row l.counts l.i
