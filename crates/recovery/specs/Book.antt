-- The book of the writes and erases acknowledged so far ("the book" of the paper), and the request under way.
use Rattle.std.specs.Prelude.{ℕ, ◌<◌, Bool, true, false, cond, List, [], ◌++◌, ◌≡◌, eqb, leb, replicate}
use Rattle.std.proofs.Math.Option.{Option, none, some}
use Rattle.geometry.specs.declared.Geometry.{Geometry}
use Rattle.operations.specs.Trace.{ArrayOperation}

-- the bytes of each page of each logical block
abbrev pub Book : Type 0
Book = ℕ → ℕ → List ℕ

-- two books have the same bytes on all logical pages
abbrev pub Same : Geometry → Book → Book → Type 0
Same g a b = (logical page : ℕ) → logical < g.logical → page < g.pages → a logical page ≡ b logical page

-- after an acknowledged formatting every page is FFh
abbrev pub blank_book : Geometry → Book
blank_book g logical page = replicate g.main 255

-- a write of one page with the caller's bytes, or an erase of one logical block
pub data Change : Type 0 where
  write : ℕ → ℕ → List ℕ → Change
  erase : ℕ → Change

-- a request entered: its page takes the caller's bytes; all pages of an erased logical block become FFh
unfoldable pub entered : Geometry → Change → Book → Book
entered g (write logical page bytes) book l p = cond (eqb l logical) (cond (eqb p page) bytes (book l p)) (book l p)
entered g (erase logical) book l p = cond (eqb l logical) (replicate g.main 255) (book l p)

-- the request under way: what it would change, and the array operations that it started
pub record Note : Type 0 where
  pub change : Change
  pub started : List ArrayOperation

abbrev pub note : Change → List ArrayOperation → Note
note c os = record { change = c; started = os }

pub record Account : Type 0 where
  pub book : Book
  pub noted : Option Note

abbrev pub account : Book → Option Note → Account
account b n = record { book = b; noted = n }

abbrev pub blank_account : Geometry → Account
blank_account g = account (blank_book g) none

-- what the book is fed: a write or an erase with its answer and the operations that it started; a mount with its answer
-- and whether the request noted has a complete copy; a write that is opened with its answer; an advance with its answer, whether it finished
-- the open write, and the operations that it started; reads and other calls are no entries
pub data Entry : Type 0 where
  changed : Change → ℕ → List ArrayOperation → Entry
  mounted : ℕ → Bool → Entry
  opened : Change → ℕ → Entry
  advanced : ℕ → ℕ → List ArrayOperation → Entry
  unentered : Entry

-- answered 8 to 11
abbrev pub is_under_way : ℕ → Bool
is_under_way answer = cond (leb 8 answer) (leb answer 11) false

-- a noted request with a complete copy is entered as if answered 0; the note is cleared either way
unfoldable pub settled : Geometry → Bool → Option Note → Book → Account
settled g copy none book = account book none
settled g copy (some t) book = account (cond copy (entered g t.change book) book) none

-- answered 0 or 8 to 11
abbrev pub is_begun : ℕ → Bool
is_begun answer = cond (eqb answer 0) true (is_under_way answer)

-- the open write that is noted goes on: finished it is entered, otherwise its note has the operations of all its calls
unfoldable pub gone_on : Geometry → ℕ → ℕ → List ArrayOperation → Option Note → Account → Account
gone_on g answer finished started none y = y
gone_on g answer finished started (some t) y =
    cond (eqb finished 1) (account (entered g t.change y.book) none)
    (cond (is_begun answer) (account y.book (some (note t.change (t.started ++ started)))) y)

-- a write or an erase answered 0 is entered, one answered 8 to 11 is noted; a mount answered 0 settles the note; an open write is
-- noted from its opening on, since a mount would settle it, and entered when it is finished; all else changes nothing
unfoldable pub fed : Geometry → Entry → Account → Account
fed g (changed c answer started) y =
    cond (eqb answer 0) (account (entered g c y.book) y.noted)
    (cond (is_under_way answer) (account y.book (some (note c started))) y)
fed g (mounted answer copy) y = cond (eqb answer 0) (settled g copy y.noted y.book) y
fed g (opened c answer) y = cond (is_begun answer) (account y.book (some (note c []))) y
fed g (advanced answer finished started) y = gone_on g answer finished started y.noted y
fed g unentered y = y
