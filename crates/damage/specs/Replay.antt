-- A trace of cycles led from one chip to another.
use Rattle.std.specs.Prelude.{List, ◌≡◌}
use Rattle.chip_array.specs.Device.{Device, Setting}
use Rattle.chip.specs.Chip.{Cycle}
use Rattle.bus.specs.Line.{run, Legal}
use Rattle.chip_laws.specs.Lengths.{SameLengths}

-- run one after the other from chip d the cycles leave chip e, each is legal where it is sent, and array, register and
-- history are as long as they were
pub record Replayed (s : Setting) (d e : Device) (cycles : List Cycle) : Type 0 where
  pub leads : run s d cycles ≡ e
  pub each_legal : Legal s d cycles
  pub same_lengths : SameLengths d e
