-- How a request that resets the chip begins: the test of the sizes, fate words of its own, a reset.
use Rattle.std.specs.Prelude.{ℕ, true, cond, [], ◌≡◌}
use Rattle.chip_array.specs.Device.{Device, Setting}
use Rattle.bus.specs.Line.{Line, send_all}
use Rattle.bus_polling.specs.Polling.{ended_as}
use Rattle.bus_polling.specs.declared.Outcome.TheVariants.{Passed}
use Rattle.bus_sequences.specs.Cycles.{reset_cycles}
use Rattle.progress.specs.Progress.{Progress, progress, reset_on}
use Rattle.state.specs.declared.State.{State}
use Rattle.request.specs.Call.{Result, result_with, sized_for, call_line, answer_for}

-- the line after the reset, and the request that has come there
abbrev pub start_line : Setting → Device → ℕ → Line
start_line s d n = send_all s (call_line d n) reset_cycles

abbrev pub start_run : Setting → Device → ℕ → Progress
start_run s d n = reset_on s (progress (call_line d n) Passed [] [])

-- 1 where the sizes do not go together; else 0 to go on, or the answer of a reset that did not pass
unfoldable pub start_answer : Setting → Device → ℕ → ℕ
start_answer s d n = cond (sized_for s d) (answer_for (ended_as (start_line s d n))) 1

-- the request whose other steps, and what they come to, are rest; refused with no cycle and nothing changed
abbrev pub started : Setting → Device → ℕ → State → (Progress → Result) → Result
started s d n state rest = cond (sized_for s d) (rest (start_run s d n)) (result_with 1 state d 0)

-- the answer so far, and the line
pub record Started (s : Setting) (d : Device) (n answer : ℕ) (l : Line) : Type 0 where
  pub answer_is : answer ≡ start_answer s d n
  pub line_is : sized_for s d ≡ true → l ≡ start_line s d n
  pub same_array : answer ≡ 1 → l.chip.array ≡ d.array
  pub same_register : answer ≡ 1 → l.chip.register ≡ d.register
  pub same_history : answer ≡ 1 → l.chip.history ≡ d.history
