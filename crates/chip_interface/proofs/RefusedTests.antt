-- The table of what the interface refuses, computed: each command and address byte of a row sets the flag.
-- Assumes nothing.
use mathlib.Core.List.{map}
use mathlib.Core.Path.{◌≡◌, refl}
use Rattle.chip_interface.specs.Interface.{begun, status_mode, read_mode, plain_command, address_fits, latched, addressed, fate_word, next_fate, started, parameter_addressed}
use Rattle.chip_interface.specs.Refused.{flags_of, all_refused, latching, interface_rows}

pub interface_refuses : map flags_of interface_rows ≡ map all_refused interface_rows
unfolding begun status_mode read_mode plain_command address_fits latched addressed fate_word next_fate started parameter_addressed latching
interface_refuses = refl
