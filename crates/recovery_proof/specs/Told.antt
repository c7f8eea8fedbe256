-- How a further write or erase ends, and when it is answered 8 or 9, after a list.
use Rattle.std.specs.Prelude.{ℕ, List, ◌≡◌}
use Rattle.geometry.specs.declared.Geometry.{Geometry}
use Rattle.cells.specs.Bytes.{Bytes}
use Rattle.request_refusals.specs.Refusals.{refusal_of}
use Rattle.request.specs.Call.{result_of}
use Rattle.write_changes.specs.Changes.{write_update, writing, erase_update, erase_refusal, erasing_logical}
use Rattle.open_write.specs.Requests.{beside}
use Rattle.write_laws.specs.Changing.{Changing}
use Rattle.recovery.specs.Calls.{Lent, to_write, to_erase, Store, state_of, setting_of, chip_of, run_of}
use Rattle.recovery_proof.specs.Protected.{Unbarred}

-- requests that are not refused: they end as on the base state, which no write is open beside
abbrev pub WritesTold : Geometry → Store → Type 0
WritesTold g y =
    (a : Lent) (logical page : ℕ) (bytes : List ℕ) → Bytes a.mask → Bytes bytes → Unbarred g a y → refusal_of (setting_of g a) (chip_of a y.chip) y.state logical page bytes ≡ 0
    → let r = writing (setting_of g a) (chip_of a y.chip) a.allowed y.state logical page bytes in
    (result_of (run_of g (to_write a logical page bytes) y) ≡ beside (state_of y) r)
    × Changing (setting_of g a) (chip_of a y.chip) a.allowed y.state (write_update y.state logical page bytes) r

abbrev pub ErasesTold : Geometry → Store → Type 0
ErasesTold g y =
    (a : Lent) (logical : ℕ) → Bytes a.mask → Unbarred g a y → erase_refusal (setting_of g a) (chip_of a y.chip) y.state logical ≡ 0
    → let r = erasing_logical (setting_of g a) (chip_of a y.chip) a.allowed y.state logical in
    (result_of (run_of g (to_erase a logical) y) ≡ beside (state_of y) r) × Changing (setting_of g a) (chip_of a y.chip) a.allowed y.state (erase_update logical) r
