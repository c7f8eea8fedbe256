-- The table of refused confirm cycles, computed: each sets the flag. Assumes nothing.
use mathlib.Core.Path.{◌≡◌, refl}
use Rattle.chip_interface.specs.Interface.{begun, status_mode, read_mode, plain_command, address_fits, latched, addressed, fate_word, next_fate, started}
use Rattle.chip_interface.specs.Refused.{latching}
use Rattle.chip_array.specs.Device.{read_started, program_started, erase_started}
use Rattle.chip_array.specs.Refused.{confirm_flags, all_refused}

pub array_refuses : confirm_flags ≡ all_refused
unfolding begun status_mode read_mode plain_command address_fits latched addressed fate_word next_fate started latching read_started program_started erase_started
array_refuses = refl
