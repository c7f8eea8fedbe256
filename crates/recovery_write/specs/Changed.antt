-- How a write or an erase that is not refused ends on a chip that this store left, whatever fails, is silent or is cut.
use Rattle.std.specs.Prelude.{ℕ, ◌≤◌, ◌<◌, Bool, true, cond, List, ◌≡◌, length}
use Rattle.geometry.specs.declared.Geometry.{Geometry}
use Rattle.bitmaps.specs.Bitmap.{bit_at}
use Rattle.cells.specs.Bytes.{Bytes}
use Rattle.chip_array.specs.Device.{Setting}
use Rattle.copies.specs.Blocks.{block_in, is_marked}
use Rattle.copies.specs.Pick.{at}
use Rattle.copies.specs.Current.{current_table, reading}
use Rattle.state.specs.State.{blank}
use Rattle.state.specs.declared.State.{State}
use Rattle.fill_tables.specs.Tables.{Tabled}
use Rattle.write_laws.specs.Changing.{ChangeAnswer}
use Rattle.write_changes.specs.Changes.{Update, write_update, erase_update}
use Rattle.damage.specs.Run.{Slow}
use Rattle.recovery_stored.specs.Stored.{Stored}
use Rattle.recovery_stored.specs.Knows.{Knows}
use Rattle.recovery.specs.Book.{Book, Same, Change, write, erase, entered}
use Rattle.recovery.specs.Copy.{has_copy}
use Rattle.recovery.specs.Calls.{failed_after}
use Rattle.recovery.specs.Recovery.{Spared}

-- a mounted state, the book and the blocks that failed go with the array
pub record Agrees (g : Geometry) (array : List ℕ) (st : State) (book : Book) (failed : ℕ → Bool) : Type 0 where
  pub stored : Stored g array
  pub knows : Knows g array st
  pub reads : Same g (reading g array st.table) book
  pub failed_listed : (b : ℕ) → b < g.blocks → failed b ≡ true → bit_at st.invalid b ≡ true

-- the blocks with a factory mark are these
abbrev pub MarkedBy : Geometry → List ℕ → (ℕ → Bool) → Type 0
MarkedBy g array marked = (b : ℕ) → b < g.blocks → is_marked g (block_in g array b) ≡ marked b

-- a request whose addresses and buffer are right
abbrev pub Proper : Geometry → Change → Type 0
Proper g (write logical page bytes) = (logical < g.logical) × (page < g.pages) × (length bytes ≡ g.main) × Bytes bytes
Proper g (erase logical) = logical < g.logical

-- the new copy that it asks for
unfoldable pub update_of : State → Change → Update
update_of st (write logical page bytes) = write_update st logical page bytes
update_of st (erase logical) = erase_update logical

abbrev pub array_of : Tabled → List ℕ
array_of t = t.progress.line.chip.array

-- answered 0, the state goes with the array, the chip is ready and the pages read as the book with the request entered;
-- otherwise the state is stopped, and they read so exactly where the request has a complete copy, else as before. Answered 13, the state goes with the
-- array and the book as they were
pub record Changed (s : Setting) (c : Change) (book : Book) (marked failed : ℕ → Bool) (t : Tabled) : Type 0 where
  pub answers : ChangeAnswer t.answer
  pub legal : t.progress.line.chip.interface.illegal ≡ 0
  pub stored : Stored s.geometry (array_of t)
  pub done : t.answer ≡ 0 → Agrees s.geometry (array_of t) t.state (entered s.geometry c book) (failed_after failed t.progress.started)
  pub ready : t.answer ≡ 0 → t.progress.line.chip.interface.phase ≤ 2
  pub stopped : (t.answer ≡ 0 → ⊥) → (t.answer ≡ 13 → ⊥) → t.state ≡ blank 2
  pub kept : t.answer ≡ 13 → Agrees s.geometry (array_of t) t.state book (failed_after failed t.progress.started)
  pub kept_ready : t.answer ≡ 13 → t.progress.line.chip.interface.phase ≤ 2
  pub table : ℕ
  pub table_is : current_table s.geometry (array_of t) ≡ at table
  pub reads : (t.answer ≡ 0 → ⊥) → Same s.geometry (reading s.geometry (array_of t) table)
      (cond (has_copy s.geometry (array_of t) t.progress.started) (entered s.geometry c book) book)
  pub marks : MarkedBy s.geometry (array_of t) marked
  pub spared : Spared s.geometry marked failed t.progress.started
  pub silent_by : t.answer ≡ 10 → Slow s.fates
  pub used_up : t.answer ≡ 11 → t.progress.line.left ≡ 0
