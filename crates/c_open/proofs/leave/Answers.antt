-- `c_open::leave` meets its contract. Assumes nothing.
use mathlib.Core.Path.{refl, ◌∙◌}
use Rattle.open_write.specs.Open.{open_state}
use Rattle.c_open.specs.OpenBytes.{open_bytes}
use Rattle.c_open.proofs.ByteLaws.{page_cleared}
use Rattle.c_open.proofs.leave.Goals as goal

pub returns-then-gone : goal.returns-then-gone
returns-then-gone c =
    rw (c.if-gone.true)
    (c.store.ensures
    ∙ (λ i. open_bytes (open_state c.args.state (c.none.ensures i) (page_cleared c.args.bytes.now _ _ c.requires c.clear.ensures refl i))))

pub returns-else-gone : goal.returns-else-gone
returns-else-gone c = rw (c.if-gone.false) c.store-else-gone.ensures
