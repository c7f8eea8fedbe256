-- When the parameter page can be read, and how that ends.
use Rattle.std.specs.Prelude.{ℕ, ◌≤◌, ◌+◌, List, ◌≡◌, length}
use Rattle.chip_interface.specs.Interface.{output_phase}
use Rattle.chip_array.specs.Device.{Setting, Device}
use Rattle.bus.specs.Line.{Line}
use Rattle.operations.specs.Ends.{End, ready_end, ready_total}

-- no command is under way, nothing refused or cut, and n bytes are not more than the page has. Geometry and lengths are not asked
pub record CanTell (l : Line) (page : List ℕ) (n : ℕ) : Type 0 where
  pub ready : l.chip.interface.phase ≤ output_phase
  pub legal : l.chip.interface.illegal ≡ 0
  pub uncut : l.cut ≡ 0
  pub within : n ≤ length page

-- its cycles: ECh, 00h, 70h and the status reads, and where it is ready in time 00h and n bytes
abbrev pub parameter_total : Setting → Device → ℕ → ℕ
parameter_total s d n = ready_total s d 1 (1 + n)

abbrev pub parameter_end : Setting → Line → ℕ → End
parameter_end s l n = ready_end s l 1 (1 + n)
