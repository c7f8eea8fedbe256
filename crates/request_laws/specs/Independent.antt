-- Requests that do not depend on the interface that the chip was left with, but for the write-protect line.
use Rattle.std.specs.Prelude.{ℕ, ◌≡◌}
use Rattle.chip_interface.specs.Interface.{ready_phase}
use Rattle.chip_interface.specs.declared.Interface.{Interface}
use Rattle.chip_array.specs.Device.{Device}
use Rattle.request.specs.Call.{Result}

-- the interface that a chip has from power on, this word for its write-protect line
abbrev pub powered_at : ℕ → Interface
powered_at line =
    record { phase = ready_phase; count = 0; address = 0; first = 0; column = 0; operation = 0; busy = 0; failed = 0; loaded = 0; fate = 0; illegal = 0; protected = line }

-- chips that differ at most in their interfaces, and have the same write-protect line
pub record SameMemory (d e : Device) : Type 0 where
  pub line : e.interface.protected ≡ d.interface.protected
  pub array : e.array ≡ d.array
  pub register : e.register ≡ d.register
  pub history : e.history ≡ d.history

-- results that differ at most in the interfaces of their chips
pub record SameOutcome (r q : Result) : Type 0 where
  pub answer : q.answer ≡ r.answer
  pub state : q.state ≡ r.state
  pub sent : q.sent ≡ r.sent
  pub array : q.chip.array ≡ r.chip.array
  pub register : q.chip.register ≡ r.chip.register
  pub history : q.chip.history ≡ r.chip.history
