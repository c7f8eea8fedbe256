-- The cycles of each operation with the number of its status reads, and the i-th cycle of a list.
use Rattle.std.specs.Prelude.{ℕ, zero, suc, List, [], ◌∷◌, ◌++◌, replicate, Option, Some, None}
use Rattle.chip_interface.specs.Interface.{read_code, read_confirm, program_confirm, erase_confirm}
use Rattle.chip.specs.Chip.{Cycle}
use Rattle.chip.specs.Chip.Cycle.{command, address, data_in, data_out, status, parameter_address, parameter_out}
use Rattle.bus_sequences.specs.Cycles.{read_address, program_data, erase_address, confirm_cycles}
use Rattle.capture.specs.declared.Captured.{Captured}
use Rattle.capture.specs.declared.Captured.TheVariants.{Command, Address, DataIn, DataOut, Status}

-- a cycle as it is captured: the address byte of ECh and an output of the parameter page look like any other
abbrev pub seen : Cycle → Captured
seen (command code) = Command code
seen (address byte) = Address byte
seen (data_in byte) = DataIn byte
seen data_out = DataOut
seen status = Status
seen (parameter_address byte) = Address byte
seen (parameter_out page) = DataOut

-- the i-th cycle of a list, none past its end
unfoldable pub cycle_at : List Cycle → ℕ → Option Captured
cycle_at [] i = None
cycle_at (c ∷ cs) zero = Some (seen c)
cycle_at (c ∷ cs) (suc i) = cycle_at cs i

-- a confirm cycle, 70h and so many status reads
abbrev pub polled_cycles : ℕ → ℕ → List Cycle
polled_cycles code polls = confirm_cycles code ++ replicate polls status

-- 00h and so many bytes out
abbrev pub output_cycles : ℕ → List Cycle
output_cycles moved = command read_code ∷ replicate moved data_out

-- the first cycles of an operation, its confirm cycle, 70h and the status reads
abbrev pub confirmed_capture : List Cycle → ℕ → ℕ → List Cycle
confirmed_capture first code polls = (first ++ confirm_cycles code) ++ replicate polls status

abbrev pub program_capture : ℕ → List ℕ → ℕ → List Cycle
program_capture row bytes polls = confirmed_capture (program_data row bytes) program_confirm polls

abbrev pub erase_capture : ℕ → ℕ → List Cycle
erase_capture row polls = confirmed_capture (erase_address row) erase_confirm polls

-- a read up to its last status read
abbrev pub fetch_capture : ℕ → ℕ → ℕ → List Cycle
fetch_capture row column polls = confirmed_capture (read_address row column) read_confirm polls

-- a read that passed and moved bytes
abbrev pub read_capture : ℕ → ℕ → ℕ → ℕ → List Cycle
read_capture row column moved polls = fetch_capture row column polls ++ output_cycles moved
