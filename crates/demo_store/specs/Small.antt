-- The small chip of the requirement paper (32, 16, P 4, 4 blocks) with the store on it, as the requests' definitions take it.
use Rattle.std.specs.Prelude.{ℕ, replicate}
use Rattle.geometry.specs.declared.Geometry.{Geometry}
use Rattle.chip_interface.specs.Interface.{powered_on}
use Rattle.chip_array.specs.Device.{Device, device}
use Rattle.state.specs.State.{blank}
use Rattle.request.specs.Call.{Result, result_with}
use Rattle.demo_store.specs.declared.Store.{Store}
use Rattle.demo_store.specs.declared.Ended.{Ended}

abbrev pub small_geometry : ℕ → Geometry
small_geometry logical = record { main = 32; spare = 16; pages = 4; blocks = 4; logical = logical }

abbrev pub chip_in : Store → Device
chip_in s = device s.interface s.array s.register s.history

abbrev pub ended_as : Ended → Result
ended_as e = result_with e.answer e.store.state (chip_in e.store) e.sent

abbrev pub new_store : ℕ → Store
new_store logical =
    record {
      geometry = small_geometry logical;
      state = blank 0;
      interface = powered_on;
      array = replicate 768 255;
      register = replicate 48 255;
      history = replicate 4 0;
    }
