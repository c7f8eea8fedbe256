-- After every list of calls, and after any formattings since, a further formatting for any number of logical blocks spares bad blocks as every other call
-- does: those with a factory mark, those that the current table lists, and those that failed in it.
use Rattle.std.specs.Prelude.{ℕ, false, List}
use Rattle.geometry.specs.declared.Geometry.{Geometry}
use Rattle.cells.specs.Bytes.{Bytes}
use Rattle.chip_array.specs.Device.{Device}
use Rattle.copies.specs.Table.{with_logical}
use Rattle.state.specs.declared.State.{State}
use Rattle.request.specs.Call.{Result, Performed, sent_in, started_in, call_line}
use Rattle.recovery.specs.Calls.{Lent, Store, setting_of, chip_of}
use Rattle.recovery.specs.Recovery.{Spared}
use Rattle.recovery_cycles.specs.Spared.{SparesEach}
use Rattle.format.specs.Format.{format_request}
use Rattle.recovery_format.specs.Again.{Again, AllTyped, reformatted}

-- a formatting of a chip
abbrev pub format_for : Geometry → ℕ → Lent → State → Device → Performed Result
format_for g logical a st d = format_request (setting_of (with_logical logical g) a) (chip_of a d) a.allowed st

-- by its trace
abbrev pub FormatSpares : Geometry → Store → Type 0
FormatSpares g y =
    (fs : List Again) → AllTyped fs → (logical : ℕ) (a : Lent) (st : State) → Bytes a.mask
    → Spared (with_logical logical g) y.marked (λ b. false) (started_in (format_for g logical a st (reformatted g fs y.chip)))

-- and by each of its 10h and D0h cycles
abbrev pub FormatSparesCycles : Geometry → Store → Type 0
FormatSparesCycles g y =
    (fs : List Again) → AllTyped fs → (logical : ℕ) (a : Lent) (st : State) → Bytes a.mask
    → let d = reformatted g fs y.chip in
    SparesEach (setting_of (with_logical logical g) a) y.marked (λ b. false) (call_line (chip_of a d) a.allowed).chip (sent_in (format_for g logical a st d))
