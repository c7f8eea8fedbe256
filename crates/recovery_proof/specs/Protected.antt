-- What a further write, erase or opening leaves after a list where the write-protect line is low: everything as it was.
use Rattle.std.specs.Prelude.{ℕ, ◌≤◌, List, ◌≡◌}
use Rattle.geometry.specs.declared.Geometry.{Geometry}
use Rattle.cells.specs.Bytes.{Bytes}
use Rattle.request.specs.Call.{sized_for}
use Rattle.request_refusals.specs.Refusals.{refusal_of}
use Rattle.write_changes.specs.Changes.{erase_refusal}
use Rattle.open_write.specs.Open.{is_opened}
use Rattle.open_write.specs.Requests.{open_refusal}
use Rattle.recovery.specs.Calls.{Lent, Call, to_write, to_erase, to_open, Store, state_of, setting_of, chip_of, answer_of, step}

-- two stores that differ in the words of the chip's interface only
pub record Untaken (y z : Store) : Type 0 where
  pub same_state : state_of z ≡ state_of y
  pub same_array : z.chip.array ≡ y.chip.array
  pub same_register : z.chip.register ≡ y.chip.register
  pub same_history : z.chip.history ≡ y.chip.history
  pub same_account : z.account ≡ y.account
  pub same_marked : z.marked ≡ y.marked
  pub same_failed : z.failed ≡ y.failed

-- answered 13: state, chip, book and note are as they were
abbrev pub TurnedAway : Geometry → Store → Call → Type 0
TurnedAway g y c = (answer_of g c y ≡ 13) × Untaken y (step g c y)

-- no write is open on a mounted state
abbrev pub Unbarred : Geometry → Lent → Store → Type 0
Unbarred g a y = open_refusal g (sized_for (setting_of g a) (chip_of a y.chip)) (state_of y) (is_opened (state_of y)) ≡ 0

-- so it is with what is not refused before, with two cycles allowed
abbrev pub ProtectedWrites : Geometry → Store → Type 0
ProtectedWrites g y =
    (a : Lent) (logical page : ℕ) (bytes : List ℕ) → (a.protected ≡ 0 → ⊥) → 2 ≤ a.allowed → Unbarred g a y → refusal_of (setting_of g a) (chip_of a y.chip) y.state logical page bytes ≡ 0
    → TurnedAway g y (to_write a logical page bytes)

abbrev pub ProtectedErases : Geometry → Store → Type 0
ProtectedErases g y =
    (a : Lent) (logical : ℕ) → (a.protected ≡ 0 → ⊥) → 2 ≤ a.allowed → Unbarred g a y → erase_refusal (setting_of g a) (chip_of a y.chip) y.state logical ≡ 0
    → TurnedAway g y (to_erase a logical)

abbrev pub ProtectedOpens : Geometry → Store → Type 0
ProtectedOpens g y =
    (a : Lent) (logical page : ℕ) (bytes : List ℕ) → Bytes a.mask → Bytes bytes → (a.protected ≡ 0 → ⊥) → 2 ≤ a.allowed → Unbarred g a y → refusal_of (setting_of g a) (chip_of a y.chip) y.state logical page bytes ≡ 0
    → TurnedAway g y (to_open a logical page bytes)
