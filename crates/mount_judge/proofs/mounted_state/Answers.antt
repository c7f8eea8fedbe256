-- `mount_judge::mounted_state` meets its contract. Assumes nothing.
use mathlib.Core.Path.{◌∙◌}
use Rattle.mount_judge.proofs.mounted_state.Goals as goal

pub returns : goal.returns
returns c = c.mounted_above.ensures ∙ rw (c.list_kinds.ensures, c.map_copies.ensures)
