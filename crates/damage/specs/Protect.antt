-- What a write, an erase or a formatting leaves of a chip whose write-protect line is low.
use Rattle.std.specs.Prelude.{◌≡◌}
use Rattle.chip_array.specs.Device.{Device}
use Rattle.state.specs.declared.State.{State}
use Rattle.request.specs.Call.{Result}

-- an answer 13: the line is low, the state is the one handed in, and neither the array nor the history has changed
pub record Unwritten (d : Device) (state : State) (r : Result) : Type 0 where
  pub low : d.interface.protected ≡ 0 → ⊥
  pub same_state : r.state ≡ state
  pub same_array : r.chip.array ≡ d.array
  pub same_history : r.chip.history ≡ d.history
