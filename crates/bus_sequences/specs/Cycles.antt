-- The cycles of each operation, as the paper lists them.
use Rattle.std.specs.Prelude.{ℕ, zero, suc, cond, List, [], ◌∷◌, ◌++◌, map, replicate}
use Rattle.geometry.specs.Sizes.{column_bytes, row_bytes}
use Rattle.chip_array.specs.Device.{Setting}
use Rattle.chip.specs.Chip.{Cycle}
use Rattle.chip.specs.Chip.Cycle.{command, address, data_in, data_out, status}
use Rattle.bus.specs.Line.{Line, send, send_all, goes_on, byte_out}
use Rattle.bus_polling.specs.declared.Outcome.{Outcome}
use Rattle.bus_polling.specs.Polling.{status_reads, outcome_of, ended_as}
use Rattle.bus_polling.specs.Outcomes.{is_passed}
use Rattle.chip_interface.specs.Interface.{reset_code, status_code, read_code, program_code, erase_code, read_confirm, program_confirm, erase_confirm}

-- two column bytes and three row bytes
abbrev pub address_cycles : ℕ → ℕ → List Cycle
address_cycles column row = map address (column_bytes column ++ row_bytes row)

abbrev pub row_cycles : ℕ → List Cycle
row_cycles row = map address (row_bytes row)

-- FFh, 70h, one status read
abbrev pub reset_cycles : List Cycle
reset_cycles = command reset_code ∷ command status_code ∷ status ∷ []

-- 70h, one status read
abbrev pub status_cycles : List Cycle
status_cycles = command status_code ∷ status ∷ []

-- 00h, five address bytes; then 30h
abbrev pub read_address : ℕ → ℕ → List Cycle
read_address row column = command read_code ∷ address_cycles column row

-- 80h, five address bytes, the data; then 10h
abbrev pub program_data : ℕ → List ℕ → List Cycle
program_data row bytes = command program_code ∷ (address_cycles 0 row ++ map data_in bytes)

-- 60h, three row bytes; then D0h
abbrev pub erase_address : ℕ → List Cycle
erase_address row = command erase_code ∷ row_cycles row

-- a confirm cycle and 70h
abbrev pub confirm_cycles : ℕ → List Cycle
confirm_cycles code = command code ∷ command status_code ∷ []

-- an operation up to the status read that reports ready, from a line l: the first cycles, the cycle that starts it, 70h, status reads
abbrev pub started_cycles : Setting → Line → List Cycle → Cycle → List Cycle
started_cycles s l first start =
    (first ++ (start ∷ command status_code ∷ []))
    ++ status_reads s (send_all s l (first ++ (start ∷ command status_code ∷ []))).chip

-- one that a confirm cycle starts
abbrev pub confirmed_cycles : Setting → Line → List Cycle → ℕ → List Cycle
confirmed_cycles s l first code = started_cycles s l first (command code)

abbrev pub program_cycles : Setting → Line → ℕ → List ℕ → List Cycle
program_cycles s l row bytes = confirmed_cycles s l (program_data row bytes) program_confirm

abbrev pub erase_cycles : Setting → Line → ℕ → List Cycle
erase_cycles s l row = confirmed_cycles s l (erase_address row) erase_confirm

-- cycles up to ready, and where it is ready others after them; how that ends
abbrev pub when_ready : Setting → Line → List Cycle → List Cycle → List Cycle
when_ready s l first rest = first ++ cond (is_passed (outcome_of (send_all s l first))) rest []

abbrev pub when_ready_outcome : Setting → Line → List Cycle → List Cycle → Outcome
when_ready_outcome s l first rest =
    cond (is_passed (outcome_of (send_all s l first))) (ended_as (send_all s l (when_ready s l first rest)))
    (outcome_of (send_all s l first))

-- a read: up to ready, and where it is ready 00h and n bytes out
abbrev pub page_read : Setting → Line → ℕ → ℕ → List Cycle
page_read s l row column = confirmed_cycles s l (read_address row column) read_confirm

abbrev pub page_line : Setting → Line → ℕ → ℕ → Line
page_line s l row column = send_all s l (page_read s l row column)

unfoldable pub read_cycles : Setting → Line → ℕ → ℕ → ℕ → List Cycle
read_cycles s l row column n = when_ready s l (page_read s l row column) (command read_code ∷ replicate n data_out)

unfoldable pub read_outcome : Setting → Line → ℕ → ℕ → ℕ → Outcome
read_outcome s l row column n =
    when_ready_outcome s l (page_read s l row column) (command read_code ∷ replicate n data_out)

-- the bytes that n output cycles put out, each the one that `byte` tells of the line before it
unfoldable pub put_out : Setting → Cycle → (Line → ℕ) → ℕ → Line → List ℕ
put_out s output byte zero l = []
put_out s output byte (suc n) l =
    let more = put_out s output byte n (send s l output) in cond (goes_on (send s l output)) (byte l ∷ more) []

abbrev pub outputs : Setting → ℕ → Line → List ℕ
outputs s n l = put_out s data_out byte_out n l

unfoldable pub read_outputs : Setting → Line → ℕ → ℕ → ℕ → List ℕ
read_outputs s l row column n =
    cond (is_passed (outcome_of (page_line s l row column))) (outputs s n (send s (page_line s l row column) (command read_code))) []
