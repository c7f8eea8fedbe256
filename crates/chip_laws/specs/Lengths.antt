-- Two chips whose array, page register and history are as long.
use Rattle.std.specs.Prelude.{◌≡◌, length}
use Rattle.chip_array.specs.Device.{Device}

pub record SameLengths (d e : Device) : Type 0 where
  pub array : length e.array ≡ length d.array
  pub register : length e.register ≡ length d.register
  pub history : length e.history ≡ length d.history
