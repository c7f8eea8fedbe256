-- Requests on the journal of a state that a write may be open on.
use Rattle.std.specs.Prelude.{ℕ, false, cond, eqb}
use Rattle.chip_array.specs.Device.{Device, Setting}
use Rattle.request.specs.Call.{Performed, result_of, unsent, sized_for}
use Rattle.journal.specs.declared.Sale.{Sale}
use Rattle.journal_requests.specs.Requests.{Appended, append_request, TakingsResult, takings_request}
use Rattle.open_write.specs.Open.{OpenState, is_opened}
use Rattle.open_write.specs.Requests.{OpenResult, open_result, beside, open_refusal, through}

-- what such a request hands back, and what it tells: the number of the record, or the takings
pub record OpenTold : Type 0 where
  pub returned : OpenResult
  pub told : ℕ

abbrev pub open_told : OpenResult → ℕ → OpenTold
open_told r k = record { returned = r; told = k }

abbrev pub append_beside : OpenState → Appended → OpenTold
append_beside x r = open_told (beside x r.returned) r.number

abbrev pub takings_beside : OpenState → TakingsResult → OpenTold
takings_beside x r = open_told (beside x r.returned) r.takings

-- a request with this refusal, which tells 0, or, where there is none, this run
abbrev pub tells_unless : ℕ → OpenState → Device → Performed OpenTold → Performed OpenTold
tells_unless refused x d run = cond (eqb refused 0) run (unsent (open_told (open_result refused x d 0) 0))

-- an append gets 15 while a write is open, before its reads
unfoldable pub open_append_request : Setting → Device → ℕ → OpenState → Sale → Performed OpenTold
open_append_request s d n x sale =
    tells_unless (open_refusal s.geometry (sized_for s d) x (is_opened x)) x d
    (through (append_beside x) (append_request s d n x.state sale))

-- the takings are told whether a write is open or not
unfoldable pub open_takings_request : Setting → Device → ℕ → OpenState → Performed OpenTold
open_takings_request s d n x =
    tells_unless (open_refusal s.geometry (sized_for s d) x false) x d
    (through (takings_beside x) (takings_request s d n x.state))

-- what each hands back
abbrev pub appending_open : Setting → Device → ℕ → OpenState → Sale → OpenTold
appending_open s d n x sale = result_of (open_append_request s d n x sale)

abbrev pub takings_open : Setting → Device → ℕ → OpenState → OpenTold
takings_open s d n x = result_of (open_takings_request s d n x)
