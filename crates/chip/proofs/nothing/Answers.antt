-- `chip::nothing` meets its contract. Assumes nothing.
use Rattle.chip.proofs.nothing.Goals as goal

pub returns : goal.returns
returns c = rw c.refuse.ensures
