-- The requests on the journal: a record appended, and the takings. Both read the journal first.
use Rattle.std.specs.Prelude.{ℕ, suc, ◌/◌, ◌%◌, Bool, true, false, cond, [], ◌++◌, eqb, ltb}
use Rattle.geometry.specs.declared.Geometry.{Geometry}
use Rattle.chip_array.specs.Device.{Device, Setting}
use Rattle.bus_polling.specs.Outcomes.{is_passed}
use Rattle.bus_polling.specs.declared.Outcome.TheVariants.{Passed}
use Rattle.state.specs.State.{mounted}
use Rattle.state.specs.declared.State.{State}
use Rattle.progress.specs.Progress.{Progress, progress}
use Rattle.request.specs.Call.{Result, result_with, Performed, result_of, unsent, performed, sized_for, call_line, answer_for, state_for, end_at}
use Rattle.fill_tables.specs.Tables.{Tabled, end_of_run}
use Rattle.write_changes.specs.Changes.{Update, write_update}
use Rattle.write.specs.Update.{change_from}
use Rattle.journal.specs.Records.{Pages, sale_bytes, room, records}
use Rattle.journal.specs.Takings.{in_force, takings_of}
use Rattle.journal.specs.declared.Sale.{Sale}
use Rattle.journal_read.specs.Reads.{pages_by, pass_on, amounts_on}

-- the refusal of a request on the journal that comes before its reads, tested in this order, 0 where there is none: 1 geometry, 7
-- mount first
unfoldable pub journal_refusal : Geometry → Bool → State → ℕ
journal_refusal g fits state = cond fits (cond (mounted state g.blocks g.logical) 0 7) 1

abbrev pub journal_refusal_of : Setting → Device → State → ℕ
journal_refusal_of s d state = journal_refusal s.geometry (sized_for s d) state

-- a request that is not refused begins so
abbrev pub journal_first : Device → ℕ → Progress
journal_first d n = progress (call_line d n) Passed [] []

-- the pages of the journal, and how many records it has
abbrev pub journal_pages : Setting → Device → State → Pages
journal_pages s d st = pages_by s.geometry d.array st.map st.kinds

abbrev pub records_in : Setting → Device → State → ℕ
records_in s d st = records (journal_pages s d st) (room s.geometry)

-- the journal is read to its end
abbrev pub pass_run : Setting → Device → ℕ → State → Progress
pass_run s d n st = pass_on s st.map (journal_pages s d st) (journal_first d n)

-- takings: what a request hands back, and the sum, 0 unless it is answered 0
pub record TakingsResult : Type 0 where
  pub returned : Result
  pub takings : ℕ

abbrev pub takings_result : Result → ℕ → TakingsResult
takings_result r t = record { returned = r; takings = t }

-- then the amounts of the records in force
unfoldable pub takings_run : Setting → Device → ℕ → State → Progress
takings_run s d n st =
    amounts_on s st.map (journal_pages s d st) (records_in s d st) (records_in s d st) (pass_run s d n st)

-- a request that has come to p, where the takings are t
abbrev pub takings_end : ℕ → State → ℕ → Progress → TakingsResult
takings_end n st t p =
    takings_result (end_at n (answer_for p.outcome) (state_for p.outcome st) p.line) (cond (is_passed p.outcome) t 0)

-- n: the cycles allowed
unfoldable pub takings_request : Setting → Device → ℕ → State → Performed TakingsResult
takings_request s d n st =
    cond (eqb (journal_refusal_of s d st) 0)
    (performed (takings_end n st (takings_of (journal_pages s d st) (room s.geometry)) (takings_run s d n st)) (takings_run s d n st))
    (unsent (takings_result (result_with (journal_refusal_of s d st) st d 0) 0))

abbrev pub telling_takings : Setting → Device → ℕ → State → TakingsResult
telling_takings s d n st = result_of (takings_request s d n st)

-- an append: what a request hands back, and the number that the record got, 0 unless it is answered 0
pub record Appended : Type 0 where
  pub returned : Result
  pub number : ℕ

abbrev pub appended : Result → ℕ → Appended
appended r k = record { returned = r; number = k }

-- a record may replace none, or one that is in force
unfoldable pub may_replace : Pages → ℕ → ℕ → Bool
may_replace pages e t = cond (eqb t 0) true (in_force pages e t)

-- the refusal of an append that comes after its reads: 16 where the number to replace is absent or no longer in force, 2 where there is
-- no room for one record more
unfoldable pub append_refusal : Pages → ℕ → ℕ → ℕ → ℕ
append_refusal pages most e t = cond (may_replace pages e t) (cond (ltb e most) 0 2) 16

-- record e, counted from 0, as a write
abbrev pub sale_update : Geometry → State → ℕ → Sale → Update
sale_update g st e r = write_update st (e / g.pages) (e % g.pages) (sale_bytes g.main (suc e) r)

-- the write from where the reads have come to. Its trace holds what it starts itself
abbrev pub sale_write : Setting → Device → ℕ → State → Sale → Tabled
sale_write s d n st r =
    change_from s st (sale_update s.geometry st (records_in s d st) r)
    (progress (pass_run s d n st).line Passed (pass_run s d n st).cycles [])

-- how it ends
abbrev pub sale_end : ℕ → ℕ → Tabled → Appended
sale_end n e t = appended (end_of_run n t) (cond (eqb t.answer 0) (suc e) 0)

-- the write comes after the reads
abbrev pub written : Setting → Device → ℕ → State → Sale → Performed Appended
written s d n st r =
    record {
      gives = sale_end n (records_in s d st) (sale_write s d n st r);
      cycles = (sale_write s d n st r).progress.cycles;
      started = (pass_run s d n st).started ++ (sale_write s d n st r).progress.started;
    }

-- no write comes
abbrev pub unwritten : Setting → Device → ℕ → State → ℕ → State → Performed Appended
unwritten s d n st answer next = performed (appended (end_at n answer next (pass_run s d n st).line) 0) (pass_run s d n st)

abbrev pub sale_refusal : Setting → Device → State → Sale → ℕ
sale_refusal s d st r = append_refusal (journal_pages s d st) (room s.geometry) (records_in s d st) r.replaces

-- whether an append comes to its write
unfoldable pub comes_to_write : Setting → Device → ℕ → State → Sale → Bool
comes_to_write s d n st r =
    cond (eqb (journal_refusal_of s d st) 0) (cond (is_passed (pass_run s d n st).outcome) (eqb (sale_refusal s d st r) 0) false) false

-- after the reads: silent or cut, refused, or the write
unfoldable pub append_run : Setting → Device → ℕ → State → Sale → Performed Appended
append_run s d n st r =
    cond (is_passed (pass_run s d n st).outcome)
    (cond (eqb (sale_refusal s d st r) 0) (written s d n st r) (unwritten s d n st (sale_refusal s d st r) st))
    (unwritten s d n st (answer_for (pass_run s d n st).outcome) (state_for (pass_run s d n st).outcome st))

unfoldable pub append_request : Setting → Device → ℕ → State → Sale → Performed Appended
append_request s d n st r =
    cond (eqb (journal_refusal_of s d st) 0) (append_run s d n st r) (unsent (appended (result_with (journal_refusal_of s d st) st d 0) 0))

abbrev pub appending : Setting → Device → ℕ → State → Sale → Appended
appending s d n st r = result_of (append_request s d n st r)
