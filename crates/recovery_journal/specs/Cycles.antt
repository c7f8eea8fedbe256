-- The cycles that requests on the journal send: each legal where it is sent, and how many there are at the most.
use Rattle.std.specs.Prelude.{ℕ, ◌≤◌}
use Rattle.geometry.specs.declared.Geometry.{Geometry}
use Rattle.cells.specs.Bytes.{Bytes}
use Rattle.request.specs.Call.{sent_in}
use Rattle.journal.specs.Records.{SaleFits}
use Rattle.journal.specs.declared.Sale.{Sale}
use Rattle.recovery.specs.Calls.{Lent, Store, setting_of, chip_of}
use Rattle.recovery_proof.specs.Sent.{Sends}
use Rattle.recovery_journal.specs.Journal.{append_run_of, append_on, takings_run_of, takings_on}

abbrev pub TakingsSend : Geometry → Store → Type 0
TakingsSend g y =
    (a : Lent)
    → Sends (setting_of g a) (chip_of a y.chip) a.allowed (sent_in (takings_run_of g a y)) (takings_on g a y).returned.chip (takings_on g a y).returned.sent

abbrev pub AppendsSend : Geometry → Store → Type 0
AppendsSend g y =
    (a : Lent) (sale : Sale) → Bytes a.mask → SaleFits sale
    → Sends (setting_of g a) (chip_of a y.chip) a.allowed (sent_in (append_run_of g a sale y)) (append_on g a sale y).returned.chip (append_on g a sale y).returned.sent

-- 65,535 reads of a page and as many of the nine bytes up to the price, each with 256 status reads, at the largest geometry: 65,535 × (4,361 + 274)
abbrev pub takings_most : ℕ
takings_most = 303754725

abbrev pub TakingsBounded : Geometry → Store → Type 0
TakingsBounded g y = (a : Lent) → (takings_on g a y).returned.sent ≤ takings_most

-- as many reads of a page, 65,535 × 4,361, and 3,565,469,698, which bound every write
abbrev pub append_most : ℕ
append_most = 3851267833

abbrev pub AppendsBounded : Geometry → Store → Type 0
AppendsBounded g y =
    (a : Lent) (sale : Sale) → Bytes a.mask → SaleFits sale → (append_on g a sale y).returned.sent ≤ append_most
