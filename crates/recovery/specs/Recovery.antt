-- Demand 3: what a mount gives back after every list of calls, and which blocks are programmed or erased in it.
use Rattle.std.specs.Prelude.{ℕ, ◌<◌, Bool, true, false, cond, List, [], ◌∷◌, ◌⊎◌, ◌↔◌, ◌≡◌, eqb, length, replicate}
use Rattle.std.proofs.Math.Option.{Option, none, some}
use Rattle.geometry.specs.declared.Geometry.{Geometry}
use Rattle.geometry.specs.Sizes.{block_size}
use Rattle.cells.specs.Bytes.{Bytes}
use Rattle.chip_array.specs.Device.{Device, setting}
use Rattle.bus_polling.specs.Outcomes.{is_failed}
use Rattle.operations.specs.Trace.{ArrayOperation}
use Rattle.copies.specs.Blocks.{block_in}
use Rattle.copies.specs.Pick.{at}
use Rattle.copies.specs.Table.{lists}
use Rattle.copies.specs.Current.{current_table}
use Rattle.scan_summary.specs.declared.Depth.{Depth}
use Rattle.open_write.specs.Open.{OpenState, kept_bytes}
use Rattle.open_write.specs.Requests.{OpenResult, OpenRead, reading_open}
use Rattle.recovery.specs.Book.{Book, Same, Note, entered, fed}
use Rattle.recovery.specs.Copy.{has_copy, last_passed}
use Rattle.recovery.specs.Calls.{Lent, Call, Callable, Event, AllPossible, Store, under_way, setting_of, chip_of, mount_on, read_of, trace_of, mount_entry, after, format_on, begun}

-- a read of a logical page from the state and the chip that a request left, uncut and not silent
abbrev pub plain_read : Geometry → OpenResult → ℕ → ℕ → OpenRead
plain_read g r logical page =
    reading_open (setting g (replicate (block_size g) 0) []) r.chip 4294967295 r.state logical page (replicate g.main 0)

-- the reading that a mount makes: what such reads give, page by page
abbrev pub reading_by : Geometry → OpenResult → Book
reading_by g r logical page = (plain_read g r logical page).buffer

-- no request is under way, or the one under way has no complete copy on the chip or would have changed no byte
pub data Unaffected (g : Geometry) (y : Store) : Type 0 where
  none_under_way : under_way y ≡ none → Unaffected g y
  no_copy : (t : Note) → under_way y ≡ some t → has_copy g y.chip.array t.started ≡ false → Unaffected g y
  no_byte : (t : Note) → under_way y ≡ some t → Same g (entered g t.change y.account.book) y.account.book → Unaffected g y

-- the mount r after a list that came to store y: it succeeds; its reading and the book just before it are equal exactly
-- where the request under way does not show, and otherwise the reading is the book with that request as the last; either way it is
-- the book that the mount leaves. Every other read from there that is neither silent nor cut gives the same
pub record Recovered (g : Geometry) (y : Store) (r : OpenResult) : Type 0 where
  pub done : r.answer ≡ 0
  pub heard : (logical page : ℕ) → logical < g.logical → page < g.pages → (plain_read g r logical page).returned.answer ≡ 0
  pub equal : Same g (reading_by g r) y.account.book ↔ Unaffected g y
  pub otherwise : (t : Note) → under_way y ≡ some t → (Unaffected g y → ⊥) → Same g (reading_by g r) (entered g t.change y.account.book)
  pub leaves : Same g (reading_by g r) (fed g (mount_entry g y r) y.account).book
  pub any_read : (a : Lent) (logical page : ℕ) (buffer : List ℕ) → logical < g.logical → page < g.pages → length a.mask ≡ block_size g → length buffer ≡ g.main
      → let q = reading_open (setting_of g a) (chip_of a r.chip) a.allowed r.state logical page buffer in
      (q.returned.answer ≡ 10 → ⊥) → (q.returned.answer ≡ 11 → ⊥) → (q.returned.answer ≡ 0) × (q.buffer ≡ reading_by g r logical page)

-- what is said of a store that a list of calls, with power lost at any places between them, has come to, after every acknowledged
-- formatting of any chip whose array is bytes
abbrev pub Always : (Geometry → Store → Type 0) → Type 0
Always P =
    (g : Geometry) (a : Lent) (d : Device) (x : OpenState) → Bytes a.mask → Bytes d.array → length x.page ≡ kept_bytes → (format_on g a d x).answer ≡ 0
    → (es : List Event) → AllPossible g es (begun g a d x) → P g (after g es (begun g a d x))

-- every mount, full or quick, that is not answered 1, 10 or 11 recovers the book
abbrev pub Recovers : Geometry → Store → Type 0
Recovers g y =
    (depth : Depth) (a : Lent) → ((mount_on depth g a y).answer ≡ 1 → ⊥) → ((mount_on depth g a y).answer ≡ 10 → ⊥) → ((mount_on depth g a y).answer ≡ 11 → ⊥)
    → Recovered g y (mount_on depth g a y)

-- what reads show: the book, and with the open write entered once its new copy is filled
unfoldable pub shown_with : Geometry → Option Note → Book → Book
shown_with g none book = book
shown_with g (some t) book = cond (last_passed g t.started) (entered g t.change book) book

abbrev pub shown : Geometry → Store → Book
shown g y = shown_with g (under_way y) y.account.book

-- a read answered 0 gives the bytes shown of its page, and any other leaves its buffer as it was
pub record ReadsBook (g : Geometry) (y : Store) (logical page : ℕ) (buffer : List ℕ) (q : OpenRead) : Type 0 where
  pub gives : q.returned.answer ≡ 0 → q.buffer ≡ shown g y logical page
  pub keeps : (q.returned.answer ≡ 0 → ⊥) → q.buffer ≡ buffer

abbrev pub ReadsRight : Geometry → Store → Type 0
ReadsRight g y =
    (a : Lent) (logical page : ℕ) (buffer : List ℕ) → ReadsBook g y logical page buffer (read_of g a logical page buffer y)

-- an operation is a read, or a program or an erase of a block that bears no factory mark, that the table current on the
-- chip at its confirm cycle does not list, and that has not failed
pub record SparesBad (g : Geometry) (marked failed : ℕ → Bool) (o : ArrayOperation) : Type 0 where
  pub below : o.block < g.blocks
  pub unmarked : marked o.block ≡ false
  pub table : ℕ
  pub table_is : current_table g o.before ≡ at table
  pub unlisted : lists g (block_in g o.before table) o.block ≡ false
  pub unfailed : failed o.block ≡ false

abbrev pub SparedBy : Geometry → (ℕ → Bool) → (ℕ → Bool) → ArrayOperation → Type 0
SparedBy g marked failed o = (o.kind ≡ 1) ⊎ SparesBad g marked failed o

-- one operation after the other: a block that fails is among the failed ones from then on
unfoldable pub Spared : Geometry → (ℕ → Bool) → (ℕ → Bool) → List ArrayOperation → Type 0
Spared g marked failed [] = Unit {0}
Spared g marked failed (o ∷ os) =
    SparedBy g marked failed o × Spared g marked (λ b. cond (failed b) true (cond (eqb o.block b) (is_failed o.answer) false)) os

-- every further call spares such blocks
abbrev pub Spares : Geometry → Store → Type 0
Spares g y = (c : Call) → Callable c y → Spared g y.marked y.failed (trace_of g c y)
