-- The call that lets the chip tell its size: a reset, the parameter page, and what its first good copy says.
use Rattle.std.specs.Prelude.{ℕ, cond, List, [], ◌++◌, eqb, length}
use Rattle.geometry.specs.declared.Geometry.{Geometry}
use Rattle.chip_array.specs.Device.{Device, Setting, setting}
use Rattle.bus.specs.Line.{send_all, sent}
use Rattle.bus_polling.specs.Outcomes.{is_passed}
use Rattle.bus_polling.specs.declared.Outcome.TheVariants.{Passed}
use Rattle.progress.specs.Progress.{Progress, progress, reset_on}
use Rattle.parameter_read.specs.Cycles.{parameter_cycles, parameter_outcome}
use Rattle.parameters.specs.declared.Sizes.{Sizes}
use Rattle.parameters.specs.Page.{told}
use Rattle.state.specs.State.{blank}
use Rattle.state.specs.declared.State.{State}
use Rattle.request.specs.Call.{Result, result_with, Performed, result_of, unsent, performed, call_line, stop_answer, end_at}

-- what the call hands back as every request does, and the sizes, four zeros unless it is done
pub record Identified : Type 0 where
  pub returned : Result
  pub sizes : Sizes

abbrev pub identified : Result → Sizes → Identified
identified r z = record { returned = r; sizes = z }

abbrev pub no_sizes : Sizes
no_sizes = record { main = 0; spare = 0; pages = 0; blocks = 0 }

-- the geometry of a chip that has not told it yet
abbrev pub unknown : Geometry
unknown = record { main = 0; spare = 0; pages = 0; blocks = 0; logical = 0 }

-- the bytes of the three copies
abbrev pub parameter_bytes : ℕ
parameter_bytes = 768

-- n bytes of the parameter page are read, if all before it passed; that starts no operation on the array
unfoldable pub parameters_on : Setting → List ℕ → ℕ → Progress → Progress
parameters_on s page n p =
    cond (is_passed p.outcome)
    (progress
    (send_all s p.line (parameter_cycles s p.line page n))
    (parameter_outcome s p.line page n)
    (p.cycles ++ sent s p.line (parameter_cycles s p.line page n))
    p.started)
    p

-- the call on its way, of n cycles allowed: a reset, then all bytes of the page
abbrev pub identify_run : Setting → Device → ℕ → List ℕ → Progress
identify_run s d n page = parameters_on s page parameter_bytes (reset_on s (progress (call_line d n) Passed [] []))

-- 10 and 11 stop the state; what the page tells leaves it as it was
unfoldable pub identify_end : ℕ → State → List ℕ → ℕ → Progress → Identified
identify_end n state page logical p =
    cond (is_passed p.outcome)
    (identified (end_at n (told page logical).answer state p.line) (told page logical).sizes)
    (identified (end_at n (stop_answer p.outcome) (blank 2) p.line) no_sizes)

-- 1 at once where the page has another length
unfoldable pub identify_request : List ℕ → List ℕ → Device → ℕ → State → List ℕ → ℕ → Performed Identified
identify_request mask fates d n state page logical =
    cond (eqb (length page) parameter_bytes)
    (performed (identify_end n state page logical (identify_run (setting unknown mask fates) d n page)) (identify_run (setting unknown mask fates) d n page))
    (unsent (identified (result_with 1 state d 0) no_sizes))

abbrev pub identifying : List ℕ → List ℕ → Device → ℕ → State → List ℕ → ℕ → Identified
identifying mask fates d n state page logical = result_of (identify_request mask fates d n state page logical)
