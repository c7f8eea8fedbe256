-- `format::first_state` meets its contract. Assumes nothing.
use Rattle.format.specs.Format.{first_state}
use Rattle.format.proofs.first_state.Goals as goal

pub returns : goal.returns
unfolding first_state
returns c = c.mounted_above.ensures
