-- Requests on a state that a write may be open on: the two that open it and go on with it, and what the others make of it.
use Rattle.std.specs.Prelude.{ℕ, ◌-◌, Bool, true, false, cond, List, [], eqb, leb, ltb, take}
use Rattle.geometry.specs.declared.Geometry.{Geometry}
use Rattle.chip_array.specs.Device.{Device, Setting}
use Rattle.bus.specs.Line.{Line}
use Rattle.bus_polling.specs.Outcomes.{is_passed}
use Rattle.bus_polling.specs.declared.Outcome.TheVariants.{Passed}
use Rattle.progress.specs.Progress.{Progress, progress}
use Rattle.scan_summary.specs.declared.Depth.{Depth}
use Rattle.parameters.specs.declared.Sizes.{Sizes}
use Rattle.request.specs.Call.{Result, Performed, result_of, sent_in, started_in, unsent, performed, sized_for, call_line, status_answer, status_state, end_at}
use Rattle.request_refusals.specs.Refusals.{refusal_of}
use Rattle.read_page.specs.Fetching.{ReadResult}
use Rattle.read.specs.Reading.{read_request}
use Rattle.mount.specs.Mount.{mount_request}
use Rattle.format.specs.Format.{format_request}
use Rattle.identify.specs.Identify.{Identified, identify_request}
use Rattle.write_changes.specs.Changes.{change_first, write_request, erase_request}
use Rattle.fill_cursor.specs.Cursor.{running}
use Rattle.fill_driver.specs.Driver.{Ran, run_for}
use Rattle.open_write.specs.Open.{OpenState, open_state, with_state, is_opened, cursor_of, words_of, closed, opened_with, mounted_open}

-- the answer by its number, the next state with its open write, the chip as it is left, and the cycles sent
pub record OpenResult : Type 0 where
  pub answer : ℕ
  pub state : OpenState
  pub chip : Device
  pub sent : ℕ

abbrev pub open_result : ℕ → OpenState → Device → ℕ → OpenResult
open_result a x d n = record { answer = a; state = x; chip = d; sent = n }

-- a request that has come to line l, of n cycles allowed
abbrev pub open_at : ℕ → ℕ → OpenState → Line → OpenResult
open_at n answer x l = open_result answer x l.chip (n - l.left)

-- a request that ended with the base state, and whether what was open is given up
abbrev pub leaving : Bool → OpenState → Result → OpenResult
leaving given_up x r =
    open_result r.answer (cond given_up (closed r.state x) (with_state r.state x)) r.chip r.sent

-- 8 to 11 stop the state, and so does 255, which comes on a chip that is not ready
unfoldable pub stops : ℕ → Bool
stops answer = cond (leb 8 answer) (cond (leb answer 11) true (eqb answer 255)) false

-- an answer that stops the state gives up what was open
abbrev pub beside : OpenState → Result → OpenResult
beside x r = leaving (stops r.answer) x r

-- a mount gives it up unless it is answered 1
abbrev pub mount_gives : ℕ → Bool
mount_gives answer = cond (eqb answer 1) false true

-- a formatting unless it is answered 1 or 13, with which the state comes back as it was
abbrev pub format_gives : ℕ → Bool
format_gives answer = cond (eqb answer 1) false (cond (eqb answer 13) false true)

-- 1 geometry, 7 mount first, then 15, in the order of the paper; 0 where the request goes on. barred: one that may not come while a write is
-- open, or only then
unfoldable pub open_refusal : Geometry → Bool → OpenState → Bool → ℕ
open_refusal g fits x barred = cond fits (cond (mounted_open g x) (cond barred 15 0) 7) 1

-- by the same cycles and operations, another result
abbrev pub through : {A B : Type 0} → (A → B) → Performed A → Performed B
through f r = record { gives = f (result_of r); cycles = sent_in r; started = started_in r }

-- a request with this refusal or, where there is none, this run; n: the cycles allowed
abbrev pub unless : ℕ → OpenState → Device → Performed OpenResult → Performed OpenResult
unless refused x d run = cond (eqb refused 0) run (unsent (open_result refused x d 0))

-- reads are answered whether a write is open or not
pub record OpenRead : Type 0 where
  pub returned : OpenResult
  pub buffer : List ℕ

abbrev pub open_read : OpenResult → List ℕ → OpenRead
open_read r buffer = record { returned = r; buffer = buffer }

abbrev pub read_beside : OpenState → ReadResult → OpenRead
read_beside x r = open_read (beside x r.returned) r.buffer

unfoldable pub open_read_request : Setting → Device → ℕ → OpenState → ℕ → ℕ → List ℕ → Performed OpenRead
open_read_request s d n x logical page buffer =
    let refused = open_refusal s.geometry (sized_for s d) x false in
    cond (eqb refused 0) (through (read_beside x) (read_request s d n x.state logical page buffer))
    (unsent (open_read (open_result refused x d 0) buffer))

-- a write and an erase get 15 while one is open
unfoldable pub open_write_request : Setting → Device → ℕ → OpenState → ℕ → ℕ → List ℕ → Performed OpenResult
open_write_request s d n x logical page bytes =
    unless (open_refusal s.geometry (sized_for s d) x (is_opened x)) x d
    (through (beside x) (write_request s d n x.state logical page bytes))

unfoldable pub open_erase_request : Setting → Device → ℕ → OpenState → ℕ → Performed OpenResult
open_erase_request s d n x logical =
    unless (open_refusal s.geometry (sized_for s d) x (is_opened x)) x d
    (through (beside x) (erase_request s d n x.state logical))

-- so does a formatting, on a mounted state only
unfoldable pub open_format_request : Setting → Device → ℕ → OpenState → Performed OpenResult
open_format_request s d n x =
    cond (eqb (open_refusal s.geometry (sized_for s d) x (is_opened x)) 15) (unsent (open_result 15 x d 0))
    (through (λ r. leaving (format_gives r.answer) x r) (format_request s d n x.state))

-- a mount, full or quick
unfoldable pub open_mount_request : Depth → Setting → Device → ℕ → OpenState → Performed OpenResult
open_mount_request depth s d n x =
    through (λ r. leaving (mount_gives r.answer) x r) (mount_request depth s d n x.state)

-- the chip asked for its size
pub record OpenIdentified : Type 0 where
  pub returned : OpenResult
  pub sizes : Sizes

abbrev pub open_identified : OpenResult → Sizes → OpenIdentified
open_identified r z = record { returned = r; sizes = z }

unfoldable pub open_identify_request : List ℕ → List ℕ → Device → ℕ → OpenState → List ℕ → ℕ → Performed OpenIdentified
open_identify_request mask fates d n x parameters logical =
    through (λ (r : Identified). open_identified (beside x r.returned) r.sizes) (identify_request mask fates d n x.state parameters logical)

-- a write is opened: the status is read, and no more. 13 leaves everything as it came
abbrev pub open_end : ℕ → OpenState → ℕ → ℕ → List ℕ → Progress → OpenResult
open_end n x logical page bytes p =
    cond (is_passed p.outcome) (open_at n 0 (opened_with logical page bytes x) p.line)
    (beside x (end_at n (status_answer p.outcome) (status_state p.outcome x.state) p.line))

unfoldable pub open_request : Setting → Device → ℕ → OpenState → ℕ → ℕ → List ℕ → Performed OpenResult
open_request s d n x logical page bytes =
    unless (open_refusal s.geometry (sized_for s d) x (is_opened x)) x d
    (unless (refusal_of s d x.state logical page bytes) x d
    (performed (open_end n x logical page bytes (change_first s d n)) (change_first s d n)))

-- what an advance hands back, and 1 if the write is finished, which acknowledges it
pub record Advanced : Type 0 where
  pub returned : OpenResult
  pub finished : ℕ

abbrev pub advanced : OpenResult → ℕ → Advanced
advanced r f = record { returned = r; finished = f }

-- at most this many page programs of the write that is open
abbrev pub advance_run : Setting → Device → ℕ → OpenState → ℕ → Ran
advance_run s d n x most =
    run_for s (take s.geometry.main x.page) most (running (cursor_of x.write) x.state) (progress (call_line d n) Passed [] [])

-- where it has come to: it is still open; or it has ended, finished if it is answered 0, else stopped
unfoldable pub advance_end : ℕ → OpenState → Ran → Advanced
advance_end n x t =
    let c = t.running.cursor in
    cond (ltb c.phase 2) (advanced (open_at n 0 (open_state t.running.state (words_of c) x.page) t.progress.line) 0)
    (advanced (open_at n c.answer (closed t.running.state x) t.progress.line) (cond (eqb c.answer 0) 1 0))

-- 15 where none is open
unfoldable pub advance_request : Setting → Device → ℕ → OpenState → ℕ → Performed Advanced
advance_request s d n x most =
    let refused = open_refusal s.geometry (sized_for s d) x (eqb x.write.opened 0) in
    cond (eqb refused 0) (performed (advance_end n x (advance_run s d n x most)) (advance_run s d n x most).progress)
    (unsent (advanced (open_result refused x d 0) 0))

-- what each hands back
abbrev pub reading_open : Setting → Device → ℕ → OpenState → ℕ → ℕ → List ℕ → OpenRead
reading_open s d n x logical page buffer = result_of (open_read_request s d n x logical page buffer)

abbrev pub writing_open : Setting → Device → ℕ → OpenState → ℕ → ℕ → List ℕ → OpenResult
writing_open s d n x logical page bytes = result_of (open_write_request s d n x logical page bytes)

abbrev pub erasing_open : Setting → Device → ℕ → OpenState → ℕ → OpenResult
erasing_open s d n x logical = result_of (open_erase_request s d n x logical)

abbrev pub formatting_open : Setting → Device → ℕ → OpenState → OpenResult
formatting_open s d n x = result_of (open_format_request s d n x)

abbrev pub mounting_open : Depth → Setting → Device → ℕ → OpenState → OpenResult
mounting_open depth s d n x = result_of (open_mount_request depth s d n x)

abbrev pub identifying_open : List ℕ → List ℕ → Device → ℕ → OpenState → List ℕ → ℕ → OpenIdentified
identifying_open mask fates d n x parameters logical = result_of (open_identify_request mask fates d n x parameters logical)

abbrev pub opening_write : Setting → Device → ℕ → OpenState → ℕ → ℕ → List ℕ → OpenResult
opening_write s d n x logical page bytes = result_of (open_request s d n x logical page bytes)

abbrev pub advancing_write : Setting → Device → ℕ → OpenState → ℕ → Advanced
advancing_write s d n x most = result_of (advance_request s d n x most)
