-- The request that reads one logical page, in the order of the paper's table.
use Rattle.std.specs.Prelude.{ℕ, cond, List, eqb, get_or, replicate}
use Rattle.chip_array.specs.Device.{Device, Setting}
use Rattle.state.specs.State.{none}
use Rattle.state.specs.declared.State.{State}
use Rattle.request.specs.Call.{result_with, Performed, result_of, unsent, performed}
use Rattle.request_refusals.specs.Refusals.{refusal_of}
use Rattle.read_page.specs.Fetching.{ReadResult, read_result, page_progress, reading_block}

-- a logical block without a copy reads FFh, and one with a copy what the kind of that copy stores
unfoldable pub copy_request : Setting → Device → ℕ → State → ℕ → ℕ → ℕ → List ℕ → Performed ReadResult
copy_request s d n state block form page buffer =
    cond (eqb block none) (unsent (read_result (result_with 0 state d 0) (replicate s.geometry.main 255)))
    (performed (reading_block s d n state block form page buffer) (page_progress s d n block page))

-- n: the cycles allowed
unfoldable pub read_request : Setting → Device → ℕ → State → ℕ → ℕ → List ℕ → Performed ReadResult
read_request s d n state logical page buffer =
    cond (eqb (refusal_of s d state logical page buffer) 0)
    (copy_request s d n state (get_or state.map logical 0) (get_or state.kinds logical 0) page buffer)
    (unsent (read_result (result_with (refusal_of s d state logical page buffer) state d 0) buffer))

abbrev pub reading_copy : Setting → Device → ℕ → State → ℕ → ℕ → ℕ → List ℕ → ReadResult
reading_copy s d n state block form page buffer = result_of (copy_request s d n state block form page buffer)

abbrev pub reading_page : Setting → Device → ℕ → State → ℕ → ℕ → List ℕ → ReadResult
reading_page s d n state logical page buffer = result_of (read_request s d n state logical page buffer)
