-- `journal::replaces_of` meets its contract. Assumes nothing.
use native.Mathlib.Omega.{arith}
use Rattle.pages.proofs.ByteLaws.{pair_lt}
use Rattle.journal.specs.Records.{replaces_in}
use Rattle.journal.proofs.replaces_of.Goals as goal

pub returns : goal.returns
unfolding replaces_in
returns c =
    (c.pair_at.ensures, rw c.pair_at.ensures (pair_lt 9 c.args.page.now c.requires (omega (arith, c.type_inv.page 9)) (omega (arith, c.type_inv.page 10))))
