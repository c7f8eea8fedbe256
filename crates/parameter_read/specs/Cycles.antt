-- The cycles that read the parameter page, as the paper lists them: ECh, 00h, 70h, status reads, 00h and its bytes.
use Rattle.std.specs.Prelude.{ℕ, cond, List, [], ◌∷◌, replicate}
use Rattle.chip_array.specs.Device.{Setting}
use Rattle.chip.specs.Chip.{Cycle}
use Rattle.chip.specs.Chip.Cycle.{command, parameter_address, parameter_out}
use Rattle.chip_interface.specs.Interface.{read_code, parameter_code}
use Rattle.bus.specs.Line.{Line, send, send_all, parameter_byte_out}
use Rattle.bus_polling.specs.Outcomes.{is_passed}
use Rattle.bus_polling.specs.Polling.{outcome_of}
use Rattle.bus_polling.specs.declared.Outcome.{Outcome}
use Rattle.bus_sequences.specs.Cycles.{started_cycles, when_ready, when_ready_outcome, put_out}

-- up to ready: ECh, and its address byte, which starts the operation
abbrev pub parameter_load : Setting → Line → List Cycle
parameter_load s l = started_cycles s l (command parameter_code ∷ []) (parameter_address 0)

-- 00h and n bytes of the page out
abbrev pub parameter_output : List ℕ → ℕ → List Cycle
parameter_output page n = command read_code ∷ replicate n (parameter_out page)

unfoldable pub parameter_cycles : Setting → Line → List ℕ → ℕ → List Cycle
parameter_cycles s l page n = when_ready s l (parameter_load s l) (parameter_output page n)

unfoldable pub parameter_outcome : Setting → Line → List ℕ → ℕ → Outcome
parameter_outcome s l page n = when_ready_outcome s l (parameter_load s l) (parameter_output page n)

-- the bytes that n output cycles of the page put out, and those that the operation puts out
abbrev pub page_outputs : Setting → List ℕ → ℕ → Line → List ℕ
page_outputs s page n l = put_out s (parameter_out page) (parameter_byte_out page) n l

unfoldable pub parameter_outputs : Setting → Line → List ℕ → ℕ → List ℕ
parameter_outputs s l page n =
    cond (is_passed (outcome_of (send_all s l (parameter_load s l))))
    (page_outputs s page n (send s (send_all s l (parameter_load s l)) (command read_code)))
    []
