-- The table of cycles that the chip refuses by itself, computed: each sets the flag. Assumes nothing.
use mathlib.Core.List.{map}
use mathlib.Core.Path.{◌≡◌, refl}
use Rattle.chip_interface.specs.Interface.{begun, status_mode, read_mode, plain_command, address_fits, latched, addressed, fate_word, next_fate, started, parameter_addressed}
use Rattle.chip_interface.specs.Refused.{latching}
use Rattle.chip_array.specs.Device.{fitting, read_started, program_started, erase_started, completed}
use Rattle.chip.specs.Chip.{is_confirm, confirmed, confirmable, commanded, data_taken, data_given, parameter_given, finished, status_read, exec}
use Rattle.chip.specs.Refused.{flags_after, flags_of, all_refused, chip_rows}

pub chip_refuses : map flags_of chip_rows ≡ map all_refused chip_rows
unfolding begun status_mode read_mode plain_command address_fits latched addressed fate_word next_fate started parameter_addressed latching fitting read_started program_started erase_started completed is_confirm confirmed confirmable commanded data_taken data_given parameter_given finished status_read exec flags_after
chip_refuses = refl
