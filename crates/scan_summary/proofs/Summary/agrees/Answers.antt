-- `scan_summary::Summary::agrees` meets its contract. Assumes nothing.
use Rattle.std.proofs.Common.{arith}
use Rattle.std.proofs.lemmas.Grind.{common_steps}
use Rattle.copies.specs.Blocks.{agrees}
use Rattle.pages.specs.Layout.{label_of}
use Rattle.scan_summary.proofs.Summary.agrees.Goals as goal

pub returns-then-number_of-self : goal.returns-then-number_of-self
unfolding agrees label_of
returns-then-number_of-self c = grind (arith, common_steps)

pub returns-else-number_of-self : goal.returns-else-number_of-self
unfolding agrees label_of
returns-else-number_of-self c = grind (arith, common_steps)
