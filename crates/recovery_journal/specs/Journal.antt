-- Lists of calls on one chip with appends and requests for the takings among them, and what is said of the takings.
use Rattle.std.specs.Prelude.{ℕ, suc, ◌/◌, ◌%◌, Bool, true, false, cond, List, [], ◌∷◌, ◌⊎◌, ◌≡◌, eqb, length}
use Rattle.std.proofs.Math.Option.{some}
use Rattle.geometry.specs.declared.Geometry.{Geometry}
use Rattle.geometry.specs.Sizes.{block_size}
use Rattle.cells.specs.Bytes.{Bytes}
use Rattle.chip_array.specs.Device.{Device}
use Rattle.scan_summary.specs.declared.Depth.{Depth}
use Rattle.request.specs.Call.{Performed, result_of, started_in, sized_for}
use Rattle.open_write.specs.Open.{OpenState, kept_bytes, is_opened, mounted_open}
use Rattle.open_write.specs.Requests.{open_result, open_refusal}
use Rattle.journal.specs.Records.{SaleFits, Pages, in_order, sale_bytes, room, records}
use Rattle.journal.specs.Takings.{takings_of}
use Rattle.journal.specs.declared.Sale.{Sale}
use Rattle.journal_requests.specs.Requests.{comes_to_write, records_in, sale_write}
use Rattle.open_journal.specs.Requests.{OpenTold, open_told, open_append_request, open_takings_request}
use Rattle.recovery.specs.Book.{Book, Change, write, Note, entered, Entry, changed, unentered, fed}
use Rattle.recovery.specs.Calls.{Lent, to_mount, Event, Possible, Store, store, state_of, under_way, setting_of, chip_of, mount_on, failed_after, step, happens, format_on, begun}
use Rattle.recovery.specs.Recovery.{shown}

-- an event of the lists without a journal, an append of a record, or a request for the takings
pub data JournalEvent : Type 0 where
  other : Event → JournalEvent
  to_append : Lent → Sale → JournalEvent
  to_takings : Lent → JournalEvent

-- of a call nothing is assumed but that bytes are bytes, and that the numbers of a sale have their widths
abbrev pub PossibleJournal : Geometry → JournalEvent → Store → Type 0
PossibleJournal g (other e) y = Possible g e y
PossibleJournal g (to_append a sale) y = Bytes a.mask × SaleFits sale
PossibleJournal g (to_takings a) y = Unit {0}

-- what each gives on a store
abbrev pub append_run_of : Geometry → Lent → Sale → Store → Performed OpenTold
append_run_of g a sale y = open_append_request (setting_of g a) (chip_of a y.chip) a.allowed (state_of y) sale

abbrev pub append_on : Geometry → Lent → Sale → Store → OpenTold
append_on g a sale y = result_of (append_run_of g a sale y)

abbrev pub takings_run_of : Geometry → Lent → Store → Performed OpenTold
takings_run_of g a y = open_takings_request (setting_of g a) (chip_of a y.chip) a.allowed (state_of y)

abbrev pub takings_on : Geometry → Lent → Store → OpenTold
takings_on g a y = result_of (takings_run_of g a y)

-- record e, counted from 0, as a write of its page
abbrev pub sale_change : Geometry → ℕ → Sale → Change
sale_change g e sale = write (e / g.pages) (e % g.pages) (sale_bytes g.main (suc e) sale)

-- whether an append comes to its write: none is open, and its reads and refusals let it
abbrev pub writes_sale : Geometry → Lent → Sale → Store → Bool
writes_sale g a sale y =
    cond (eqb (open_refusal g (sized_for (setting_of g a) (chip_of a y.chip)) (state_of y) (is_opened (state_of y))) 0)
    (comes_to_write (setting_of g a) (chip_of a y.chip) a.allowed y.state sale) false

-- what the book is fed of an append: one that came to its write is that write, with the operations that the write started; one that did
-- not is no entry, as a read is none
abbrev pub append_entry : Geometry → Lent → Sale → Store → Entry
append_entry g a sale y =
    cond (writes_sale g a sale y)
    (changed (sale_change g (records_in (setting_of g a) (chip_of a y.chip) y.state) sale) (append_on g a sale y).returned.answer
    (sale_write (setting_of g a) (chip_of a y.chip) a.allowed y.state sale).progress.started)
    unentered

unfoldable pub append_step : Geometry → Lent → Sale → Store → Store
append_step g a sale y =
    store (append_on g a sale y).returned.state (append_on g a sale y).returned.chip (fed g (append_entry g a sale y) y.account) y.marked
    (failed_after y.failed (started_in (append_run_of g a sale y)))

unfoldable pub takings_step : Geometry → Lent → Store → Store
takings_step g a y =
    store (takings_on g a y).returned.state (takings_on g a y).returned.chip y.account y.marked
    (failed_after y.failed (started_in (takings_run_of g a y)))

abbrev pub happens_journal : Geometry → JournalEvent → Store → Store
happens_journal g (other e) y = happens g e y
happens_journal g (to_append a sale) y = append_step g a sale y
happens_journal g (to_takings a) y = takings_step g a y

-- each where it happens
unfoldable pub AllPossibleJournal : Geometry → List JournalEvent → Store → Type 0
AllPossibleJournal g [] y = Unit {0}
AllPossibleJournal g (e ∷ es) y = PossibleJournal g e y × AllPossibleJournal g es (happens_journal g e y)

unfoldable pub after_journal : Geometry → List JournalEvent → Store → Store
after_journal g [] y = y
after_journal g (e ∷ es) y = after_journal g es (happens_journal g e y)

-- what is said of a store that such a list has come to, after every acknowledged formatting of any chip whose array is bytes
abbrev pub AlwaysJournal : (Geometry → Store → Type 0) → Type 0
AlwaysJournal P =
    (g : Geometry) (a : Lent) (d : Device) (x : OpenState) → Bytes a.mask → Bytes d.array → length x.page ≡ kept_bytes → (format_on g a d x).answer ≡ 0
    → (es : List JournalEvent) → AllPossibleJournal g es (begun g a d x) → P g (after_journal g es (begun g a d x))

-- the journal of a book
abbrev pub journal_of : Geometry → Book → Pages
journal_of g book = in_order g book

abbrev pub book_takings : Geometry → Book → ℕ
book_takings g book = takings_of (journal_of g book) (room g)

-- a request for the takings that is answered 0 gives those of what reads show, which is the book where no write is open, and any other gives 0
pub record TellsTakings (g : Geometry) (y : Store) (q : OpenTold) : Type 0 where
  pub gives : q.returned.answer ≡ 0 → q.told ≡ book_takings g (shown g y)
  pub else_none : (q.returned.answer ≡ 0 → ⊥) → q.told ≡ 0

abbrev pub TakingsRight : Geometry → Store → Type 0
TakingsRight g y = (a : Lent) → TellsTakings g y (takings_on g a y)

-- an append answered 0 enters its record after those of the book's journal, and tells its number
pub record Enters (g : Geometry) (y : Store) (a : Lent) (sale : Sale) : Type 0 where
  pub number_is : (append_on g a sale y).returned.answer ≡ 0 → (append_on g a sale y).told ≡ suc (records (journal_of g y.account.book) (room g))
  pub book_is : (append_on g a sale y).returned.answer ≡ 0
      → (append_step g a sale y).account.book ≡ entered g (sale_change g (records (journal_of g y.account.book) (room g)) sale) y.account.book
  pub else_none : ((append_on g a sale y).returned.answer ≡ 0 → ⊥) → (append_on g a sale y).told ≡ 0

abbrev pub AppendsRight : Geometry → Store → Type 0
AppendsRight g y = (a : Lent) (sale : Sale) → Bytes a.mask → SaleFits sale → Enters g y a sale

-- while a write is open an append is answered 15, sends nothing, and leaves state, chip and account
pub record TurnedAway (g : Geometry) (y : Store) (a : Lent) (sale : Sale) : Type 0 where
  pub gives : append_on g a sale y ≡ open_told (open_result 15 (state_of y) (chip_of a y.chip) 0) 0
  pub book_kept : (append_step g a sale y).account ≡ y.account

abbrev pub AppendsBarred : Geometry → Store → Type 0
AppendsBarred g y =
    (a : Lent) (sale : Sale) → length a.mask ≡ block_size g → mounted_open g (state_of y) ≡ true → is_opened (state_of y) ≡ true → TurnedAway g y a sale

-- takings with the request under way as the last
pub record Settles (g : Geometry) (y : Store) (takings : ℕ) : Type 0 where
  pub noted : Note
  pub under_way_fact : under_way y ≡ some noted
  pub takings_are : takings ≡ book_takings g (entered g noted.change y.account.book)

-- after a mount answered 0 the takings are those of the book before it, or those with the request under way as the last
abbrev pub AfterCut : Geometry → Store → Type 0
AfterCut g y =
    (depth : Depth) (a : Lent) → (mount_on depth g a y).answer ≡ 0 → (b : Lent) → (takings_on g b (step g (to_mount depth a) y)).returned.answer ≡ 0
    → ((takings_on g b (step g (to_mount depth a) y)).told ≡ book_takings g y.account.book)
    ⊎ Settles g y (takings_on g b (step g (to_mount depth a) y)).told
