-- The trace of an operation: the cycles it sent, and the array operation it started.
use Rattle.std.specs.Prelude.{ℕ, ◌/◌, ◌%◌, cond, List, [], ◌∷◌, ◌++◌, eqb}
use Rattle.chip_array.specs.Device.{Setting}
use Rattle.chip.specs.Chip.{Cycle}
use Rattle.chip.specs.Chip.Cycle.{command}
use Rattle.bus.specs.Line.{Line, send_all, sent, goes_on}
use Rattle.bus_polling.specs.Polling.{outcome_of, answer_of}
use Rattle.bus_sequences.specs.Cycles.{read_address, program_data, erase_address, confirmed_cycles, read_cycles, program_cycles, erase_cycles}
use Rattle.bus_polling.specs.declared.Outcome.{Outcome}
use Rattle.chip_interface.specs.Interface.{read_confirm, program_confirm, erase_confirm}

-- kind: 1 read, 2 program, 3 erase. bytes: the data of a program. before: the array when the confirm cycle came
pub record ArrayOperation : Type 0 where
  pub kind : ℕ
  pub block : ℕ
  pub page : ℕ
  pub bytes : List ℕ
  pub before : List ℕ
  pub answer : Outcome

-- how it is answered: a read does not look at the write-protect line
abbrev pub told_by : ℕ → Line → Outcome
told_by kind l = cond (eqb kind 1) (outcome_of l) (answer_of l)

-- the array operation is started if its confirm cycle was sent and allowed; one that a protected chip takes and does not start is noted too
unfoldable pub started_by : Setting → Line → List Cycle → ℕ → ℕ → ℕ → List ℕ → List ArrayOperation
started_by s l first code kind row bytes =
    cond (goes_on (send_all s l (first ++ (command code ∷ []))))
    (record {
      kind = kind;
      block = row / s.geometry.pages;
      page = row % s.geometry.pages;
      bytes = bytes;
      before = (send_all s l first).chip.array;
      answer = told_by kind (send_all s l (confirmed_cycles s l first code));
    }
    ∷ [])
    []

abbrev pub read_starts : Setting → Line → ℕ → ℕ → List ArrayOperation
read_starts s l row column = started_by s l (read_address row column) read_confirm 1 row []

abbrev pub program_starts : Setting → Line → ℕ → List ℕ → List ArrayOperation
program_starts s l row bytes = started_by s l (program_data row bytes) program_confirm 2 row bytes

abbrev pub erase_starts : Setting → Line → ℕ → List ArrayOperation
erase_starts s l row = started_by s l (erase_address row) erase_confirm 3 row []

-- the cycles that an operation sent
abbrev pub read_sends : Setting → Line → ℕ → ℕ → ℕ → List Cycle
read_sends s l row column n = sent s l (read_cycles s l row column n)

abbrev pub program_sends : Setting → Line → ℕ → List ℕ → List Cycle
program_sends s l row bytes = sent s l (program_cycles s l row bytes)

abbrev pub erase_sends : Setting → Line → ℕ → List Cycle
erase_sends s l row = sent s l (erase_cycles s l row)
