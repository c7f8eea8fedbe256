-- The part of the data sheet, ready, with a million cycles allowed, and what an operation leaves of it.
use Rattle.std.specs.Prelude.{ℕ, List, length}
use Rattle.geometry.specs.declared.Geometry.{Geometry}
use Rattle.chip_interface.specs.Interface.{powered_on}
use Rattle.chip_array.specs.Device.{Setting, device}
use Rattle.chip.specs.Chip.{Cycle}
use Rattle.bus.specs.Line.{Line, uncut_line, send_all, sent}

abbrev pub part : Geometry
part = record { main = 2048; spare = 128; pages = 64; blocks = 4096; logical = 4094 }

abbrev pub begun : List ℕ → List ℕ → List ℕ → Line
begun a r h = uncut_line (device powered_on a r h) 1000000

-- the cycles sent, and the lent array, page register and history as they are left
pub record Measured : Type 0 where
  pub cycles : ℕ
  pub array : List ℕ
  pub register : List ℕ
  pub history : List ℕ

abbrev pub measured : ℕ → List ℕ → List ℕ → List ℕ → Measured
measured n a r h = record { cycles = n; array = a; register = r; history = h }

-- of an operation with these cycles
abbrev pub measured_by : Setting → Line → List Cycle → Measured
measured_by s l cs =
    let e = send_all s l cs in
    measured (length (sent s l cs)) e.chip.array e.chip.register e.chip.history
