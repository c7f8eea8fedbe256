-- `state::State::has_sound_entries` meets its contract: a sound table's block is on the chip, as the walk over the map requires.
-- Assumes nothing.
use Rattle.std.proofs.Common.{arith}
use Rattle.std.proofs.lemmas.Grind.{common_steps}
use Rattle.state.specs.State.{sound_entries}
use Rattle.state.proofs.State.has_sound_entries.Goals as goal

pub returns-then-has_sound_table : goal.returns-then-has_sound_table
unfolding sound_entries
returns-then-has_sound_table c = grind (arith, common_steps)

pub returns-else-has_sound_table : goal.returns-else-has_sound_table
unfolding sound_entries
returns-else-has_sound_table c = grind (arith, common_steps)
