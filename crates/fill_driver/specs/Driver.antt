-- A write or erase run on the chip: what is due is performed, one action after the other.
use Rattle.std.specs.Prelude.{ℕ, zero, suc, ◌-◌, ◌<◌, cond, List, ◌≡◌, eqb}
use Rattle.geometry.specs.declared.Geometry.{Geometry}
use Rattle.chip_array.specs.Device.{Setting}
use Rattle.chip.specs.Chip.{Cycle}
use Rattle.bus.specs.Line.{Line}
use Rattle.bus_polling.specs.Outcomes.{is_failed}
use Rattle.bus_polling.specs.declared.Outcome.{Outcome}
use Rattle.bus_polling.specs.declared.Outcome.TheVariants.{Passed}
use Rattle.operations.specs.Ends.{Called}
use Rattle.operations.specs.Trace.{ArrayOperation}
use Rattle.progress.specs.Progress.{Progress, progress}
use Rattle.progress.specs.Steps.{erase_on}
use Rattle.pages.specs.Layout.{data_kind}
use Rattle.state.specs.State.{form_of}
use Rattle.fill.specs.Fill.{Copy, copy, Source, data_source, table_copy, table_source, page_filled}
use Rattle.fill.specs.declared.Content.{Content}
use Rattle.fill_cursor.specs.Cursor.{prepared, after_due, programs, is_open_now, actions_most}
use Rattle.fill_cursor.specs.declared.Cursor.{Cursor}
use Rattle.fill_cursor.specs.declared.Running.{Running}

-- the kind of the old copy, by the state that goes with the cursor
abbrev pub form_now : Running → ℕ
form_now r = form_of r.state r.cursor.logical

-- the fill of a cursor: its label, and where the main bytes of its pages come from
unfoldable pub copy_of : Cursor → Copy
copy_of c = cond (eqb c.phase 0) (copy data_kind c.logical c.number) (table_copy c.number)

unfoldable pub source_of : Geometry → Cursor → ℕ → List ℕ → List ℕ → ℕ → Source
source_of g c form invalid bytes =
    cond (eqb c.phase 0) (data_source g c.old form c.first c.count bytes) (table_source g invalid)

-- what the data copy of a cursor holds
abbrev pub content_of : Cursor → ℕ → Content
content_of c form =
    record { kind = data_kind; logical = c.logical; number = c.number; old = c.old; form = form; first = c.first; count = c.count }

-- the erase that is due, or the page, which is read just before its program where it is kept
unfoldable pub performed : Setting → Cursor → ℕ → List ℕ → List ℕ → Progress → Progress
performed s c form invalid bytes p =
    cond (eqb c.step 1) (erase_on s c.block p)
    (page_filled s c.block (copy_of c) c.page (source_of s.geometry c form invalid bytes c.page) p)

-- where a request has come to
pub record Ran : Type 0 where
  pub progress : Progress
  pub running : Running

abbrev pub ran_to : Progress → Running → Ran
ran_to p r = record { progress = p; running = r }

-- a request goes on after an operation that failed
unfoldable pub gone : Outcome → Outcome
gone o = cond (is_failed o) Passed o

abbrev pub gone_on : Progress → Progress
gone_on p = progress p.line (gone p.outcome) p.cycles p.started

-- one action: a number and a block are taken, or the erase or the page is performed
unfoldable pub acted : Setting → List ℕ → Running → Progress → Ran
acted s bytes r p =
    let q = performed s r.cursor (form_now r) r.state.invalid bytes p in
    cond (eqb r.cursor.step 0) (ran_to p (prepared s.geometry r.cursor r.state))
    (ran_to (gone_on q) (after_due s.geometry.pages r q.outcome))

-- at most n actions, until the request has ended or so many page programs were sent
unfoldable pub ran : Setting → List ℕ → ℕ → ℕ → Running → Progress → Ran
ran s bytes zero left r p = ran_to p r
ran s bytes (suc n) left r p =
    let a = acted s bytes r p in
    let more = ran s bytes n (left - programs r.cursor) a.running a.progress in
    cond (is_open_now r.cursor left) more (ran_to p r)

-- as many actions as there can be
abbrev pub run_for : Setting → List ℕ → ℕ → Running → Progress → Ran
run_for s bytes left r p = ran s bytes (actions_most left r) left r p

-- a run from line l, which comes to line m; if it ends with answer 0, the chip takes the next command, and the search for the next block starts on
-- the chip
pub record RanAs (s : Setting) (bytes : List ℕ) (left : ℕ) (start : Running) (l m : Line) (r : Running) : Type 0 where
  pub line_is : (cs : List Cycle) (os : List ArrayOperation) → m ≡ (run_for s bytes left start (progress l Passed cs os)).progress.line
  pub running_is : (cs : List Cycle) (os : List ArrayOperation) → r ≡ (run_for s bytes left start (progress l Passed cs os)).running
  pub next_called : start.cursor.phase < 2 → (r.cursor.phase < 2 → ⊥) → r.cursor.answer ≡ 0 → Called s m × (r.state.last < s.geometry.blocks)
