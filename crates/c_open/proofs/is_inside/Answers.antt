-- `c_open::is_inside` meets its contract. Assumes nothing.
use Prim.Native.Nat.{ℕ}
use mathlib.Core.List.{List}
use mathlib.Core.Path.{ap, ◌∙◌}
use Rattle.open_write.specs.Open.{open_state, open_fits}
use Rattle.c_open.proofs.ByteLaws.{page-lent}
use Rattle.c_open.proofs.is_inside.Goals as goal

pub returns : goal.returns
returns c =
    λ st. c.fits.ensures st ∙ ap (λ (page : List ℕ). open_fits c.args.g (open_state st c.args.write page)) (page-lent c.args.bytes.now c.requires)
