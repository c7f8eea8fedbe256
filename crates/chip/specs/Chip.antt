-- What each bus cycle makes of the chip.
use Rattle.std.specs.Prelude.{ℕ, ◌+◌, ◌-◌, Bool, true, false, cond, List, eqb, ltb, length, get_or, set}
use Rattle.geometry.specs.declared.Geometry.{Geometry}
use Rattle.geometry.specs.Sizes.{block_size, row_count}
use Rattle.chip_interface.specs.declared.Interface.{Interface}
use Rattle.chip_interface.specs.Interface.{plain_command, addressed, parameter_addressed, status_byte, read_confirm, program_confirm, erase_confirm, program_data_phase, output_phase, status_phase, busy_status_phase, parameters_operation}
use Rattle.chip_array.specs.Device.{Device, Setting, device, with_interface, illegal_cycle, row_at, lengths_fit, read_started, program_started, erase_started, page_loaded, completed}

-- one bus cycle. The last two are an address and a data output cycle on the wire: the address byte of ECh, which takes a fate
-- word, and an output of the parameter page, which is lent
pub data Cycle : Type 0 where
  command : ℕ → Cycle
  address : ℕ → Cycle
  data_in : ℕ → Cycle
  data_out : Cycle
  status : Cycle
  parameter_address : ℕ → Cycle
  parameter_out : List ℕ → Cycle

-- 30h, 10h, D0h
unfoldable pub is_confirm : ℕ → Bool
is_confirm code = cond (eqb code read_confirm) true (cond (eqb code program_confirm) true (eqb code erase_confirm))

unfoldable pub confirmed : ℕ → Setting → Device → Device
confirmed code s d =
    cond (eqb code read_confirm) (read_started s d) (cond (eqb code program_confirm) (program_started s d) (erase_started s d))

unfoldable pub confirmable : Setting → Device → Bool
confirmable s d =
    cond (lengths_fit s.geometry d)
    (cond (eqb (length s.mask) (block_size s.geometry)) (ltb (row_at d.interface) (row_count s.geometry)) false)
    false

-- a command cycle
unfoldable pub commanded : ℕ → Setting → Device → Device
commanded code s d =
    cond (is_confirm code)
    (cond (confirmable s d) (confirmed code s d) (illegal_cycle d))
    (with_interface (plain_command code d.interface) d)

abbrev pub next_column : Interface → Interface
next_column i =
    record { phase = i.phase; count = i.count; address = i.address; first = i.first; column = i.column + 1; operation = i.operation; busy = i.busy; failed = i.failed; loaded = i.loaded; fate = i.fate; illegal = i.illegal; protected = i.protected }

-- a data input cycle: after 80h and its address, up to the last column
unfoldable pub data_taken : ℕ → Device → Device
data_taken byte d =
    cond (eqb d.interface.phase program_data_phase)
    (cond (ltb d.interface.column (length d.register))
    (device (next_column d.interface) d.array (set d.register d.interface.column byte) d.history)
    (illegal_cycle d))
    (illegal_cycle d)

-- what is put out after 00h: the page register, or after ECh the parameter page
abbrev pub outputs_register : Interface → Bool
outputs_register i = cond (eqb i.phase output_phase) (cond (eqb i.operation parameters_operation) false true) false

abbrev pub outputs_parameters : Interface → Bool
outputs_parameters i = cond (eqb i.operation parameters_operation) (eqb i.phase output_phase) false

-- a data output cycle: after 00h with a page in the register, up to the last column
unfoldable pub data_given : Device → Device
data_given d =
    cond (outputs_register d.interface)
    (cond (ltb d.interface.column (length d.register)) (with_interface (next_column d.interface) d) (illegal_cycle d))
    (illegal_cycle d)

unfoldable pub data_byte : Device → ℕ
data_byte d = cond (outputs_register d.interface) (get_or d.register d.interface.column 0) 0

-- a data output cycle of the parameter page: after ECh and 00h, up to its last byte
unfoldable pub parameter_given : List ℕ → Device → Device
parameter_given page d =
    cond (outputs_parameters d.interface)
    (cond (ltb d.interface.column (length page)) (with_interface (next_column d.interface) d) (illegal_cycle d))
    (illegal_cycle d)

unfoldable pub parameter_byte : List ℕ → Interface → ℕ
parameter_byte page i = cond (outputs_parameters i) (get_or page i.column 0) 0

abbrev pub less_busy : Interface → Interface
less_busy i =
    record { phase = i.phase; count = i.count; address = i.address; first = i.first; column = i.column; operation = i.operation; busy = i.busy - 1; failed = i.failed; loaded = i.loaded; fate = i.fate; illegal = i.illegal; protected = i.protected }

-- the parameter page asks for no geometry
unfoldable pub finished : Geometry → Device → Device
finished g d =
    cond (eqb d.interface.operation parameters_operation) (with_interface (page_loaded d.interface) d)
    (cond (lengths_fit g d) (cond (ltb (row_at d.interface) (row_count g)) (completed g d) (illegal_cycle d)) (illegal_cycle d))

-- a status read: after 70h
unfoldable pub status_read : Geometry → Device → Device
status_read g d =
    cond (eqb d.interface.phase status_phase) d
    (cond (eqb d.interface.phase busy_status_phase)
    (cond (eqb d.interface.busy 0) (finished g d) (with_interface (less_busy d.interface) d))
    (illegal_cycle d))

unfoldable pub status_shown : Interface → ℕ
status_shown i =
    cond (eqb i.phase status_phase) (status_byte i.protected 1 i.failed)
    (cond (eqb i.phase busy_status_phase) (cond (eqb i.busy 0) (status_byte i.protected 1 i.failed) (status_byte i.protected 0 0)) 0)

-- the chip after one more cycle
unfoldable pub exec : Setting → Device → Cycle → Device
exec s d (command code) = commanded code s d
exec s d (address byte) = with_interface (addressed s.geometry byte d.interface) d
exec s d (data_in byte) = data_taken byte d
exec s d data_out = data_given d
exec s d status = status_read s.geometry d
exec s d (parameter_address byte) = with_interface (parameter_addressed byte s.fates d.interface) d
exec s d (parameter_out page) = parameter_given page d
