-- What every request shares: the test of the sizes, the start of a call, and how it is answered.
use Rattle.std.specs.Prelude.{ℕ, ◌-◌, Bool, false, cond, List, [], eqb, length}
use Rattle.geometry.specs.declared.Geometry.{Geometry}
use Rattle.geometry.specs.Sizes.{block_size}
use Rattle.chip_interface.specs.declared.Interface.{Interface}
use Rattle.chip_array.specs.Device.{Device, Setting, fitting, with_interface}
use Rattle.chip.specs.Chip.{Cycle}
use Rattle.bus.specs.Line.{Line, uncut_line}
use Rattle.bus_polling.specs.declared.Outcome.{Outcome}
use Rattle.bus_polling.specs.Outcomes.{is_passed, is_silent, is_cut_off, is_protected}
use Rattle.operations.specs.Trace.{ArrayOperation}
use Rattle.progress.specs.Progress.{Progress}
use Rattle.state.specs.State.{blank}
use Rattle.state.specs.declared.State.{State}

-- the answer by its number, the next state, the chip as it is left, and the cycles sent
pub record Result : Type 0 where
  pub answer : ℕ
  pub state : State
  pub chip : Device
  pub sent : ℕ

abbrev pub result_with : ℕ → State → Device → ℕ → Result
result_with a s d n = record { answer = a; state = s; chip = d; sent = n }

-- a request from its call to its end: what it hands back, the cycles that it sent, and the array operations that it started
pub record Performed (A : Type 0) : Type 0 where
  pub gives : A
  pub cycles : List Cycle
  pub started : List ArrayOperation

unfoldable pub result_of : {A : Type 0} → Performed A → A
result_of r = r.gives

unfoldable pub sent_in : {A : Type 0} → Performed A → List Cycle
sent_in r = r.cycles

unfoldable pub started_in : {A : Type 0} → Performed A → List ArrayOperation
started_in r = r.started

-- no cycle is sent
abbrev pub unsent : {A : Type 0} → A → Performed A
unsent a = record { gives = a; cycles = []; started = [] }

-- all that was sent on the way to p
abbrev pub performed : {A : Type 0} → A → Progress → Performed A
performed a p = record { gives = a; cycles = p.cycles; started = p.started }

-- the geometry is valid, and array, register, history and mask are as long as it asks
unfoldable pub sized : Geometry → ℕ → ℕ → ℕ → ℕ → Bool
sized g a r h m = cond (fitting g a r h) (eqb m (block_size g)) false

abbrev pub sized_for : Setting → Device → Bool
sized_for s d = sized s.geometry (length d.array) (length d.register) (length d.history) (length s.mask)

-- each call has fate words of its own; the write-protect line is as it is handed in
abbrev pub fresh_interface : Interface → Interface
fresh_interface i =
    record { phase = i.phase; count = i.count; address = i.address; first = i.first; column = i.column; operation = i.operation; busy = i.busy; failed = i.failed; loaded = i.loaded; fate = 0; illegal = 0; protected = i.protected }

-- the line on which a call begins that may send n cycles
abbrev pub call_line : Device → ℕ → Line
call_line d n = uncut_line (with_interface (fresh_interface d.interface) d) n

-- 10 silent, 11 cut. 255 stands for a cycle that the chip did not allow, which comes only where a chip is handed in
-- that is not ready
unfoldable pub stop_answer : Outcome → ℕ
stop_answer o = cond (is_silent o) 10 (cond (is_cut_off o) 11 255)

-- the answer and the state where the last operation ended so
abbrev pub answer_for : Outcome → ℕ
answer_for o = cond (is_passed o) 0 (stop_answer o)

abbrev pub state_for : Outcome → State → State
state_for o state = cond (is_passed o) state (blank 2)

-- the same where a status read ended so: 13 on a protected chip, and the state as it came
unfoldable pub status_answer : Outcome → ℕ
status_answer o = cond (is_protected o) 13 (stop_answer o)

unfoldable pub status_state : Outcome → State → State
status_state o state = cond (is_protected o) state (blank 2)

-- a request that has come to line l, of n cycles allowed
abbrev pub end_at : ℕ → ℕ → State → Line → Result
end_at n answer state l = result_with answer state l.chip (n - l.left)
