-- `scan_found::Found::note` meets its contract. Assumes nothing.
use Rattle.std.proofs.Common.{arith}
use Rattle.std.proofs.lemmas.Grind.{common_steps}
use Rattle.scan_found.specs.Found.{noted}
use Rattle.scan_found.proofs.Found.note.Goals as goal

pub returns : goal.returns
unfolding noted
returns c = grind (arith, common_steps)
