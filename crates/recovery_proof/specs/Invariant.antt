-- What holds between two calls of every list, however they were answered.
use Rattle.std.specs.Prelude.{ℕ, ◌≤◌, Bool, true, false, List, ◌⊎◌, ◌≡◌, length, take}
use Rattle.std.proofs.Math.Option.{none, some}
use Rattle.geometry.specs.declared.Geometry.{Geometry}
use Rattle.geometry.specs.Sizes.{chip_size}
use Rattle.chip_array.specs.Device.{lengths_fit}
use Rattle.operations.specs.Trace.{ArrayOperation}
use Rattle.copies.specs.Pick.{at}
use Rattle.copies.specs.Current.{current_table, reading}
use Rattle.state.specs.declared.State.{State}
use Rattle.fill_cursor.specs.Cursor.{running}
use Rattle.open_write.specs.Open.{kept_bytes, cursor_of, mounted_open}
use Rattle.recovery_stored.specs.Stored.{Stored}
use Rattle.recovery.specs.Book.{Book, Same, write, note, Account, settled}
use Rattle.recovery.specs.Calls.{Store, state_of, under_way, copy_of_note, failed_after}
use Rattle.recovery_write.specs.Changed.{Agrees, MarkedBy, Proper}
use Rattle.recovery_write.proofs.StandsLaws.{Stands}

-- the book that a mount answered 0 leaves: with the request noted, if it has a complete copy
abbrev pub due_of : Geometry → List ℕ → Account → Book
due_of g array y = (settled g (copy_of_note g array y.noted) y.noted y.book).book

-- a mounted state that goes with the array and the book, a chip ready for a command, nothing under way and no write open
pub record Up (g : Geometry) (y : Store) : Type 0 where
  pub agrees : Agrees g y.chip.array y.state y.account.book y.failed
  pub ready : y.chip.interface.phase ≤ 2
  pub quiet : under_way y ≡ none
  pub shut : y.write.opened ≡ 0

-- a write is open: it was opened on array₀, when the state was st₀ and these blocks had failed; it is noted with the operations of all its calls,
-- stands where the words kept of it say, and the chip is ready for a command
pub record Open (g : Geometry) (y : Store) : Type 0 where
  pub array₀ : List ℕ
  pub long₀ : length array₀ ≡ chip_size g
  pub st₀ : State
  pub failed₀ : ℕ → Bool
  pub logical : ℕ
  pub first : ℕ
  pub bytes : List ℕ
  pub marks₀ : MarkedBy g array₀ y.marked
  pub agrees : Agrees g array₀ st₀ y.account.book failed₀
  pub proper : Proper g (write logical first bytes)
  pub started : List ArrayOperation
  pub noted_is : under_way y ≡ some (note (write logical first bytes) started)
  pub failed_is : y.failed ≡ failed_after failed₀ started
  pub opened_is : y.write.opened ≡ 1
  pub page_is : take g.main y.page ≡ bytes
  pub ready : y.chip.interface.phase ≤ 2
  pub stands : Stands g array₀ long₀ st₀ (write logical first bytes) y.account.book y.marked failed₀ marks₀ agrees proper (running (cursor_of y.write) y.state) y.chip started

-- the sizes fit, the factory marks are those of the chip that was formatted, a mount succeeds and reads as the book with the request under way, if it has a complete copy; the
-- state is such a mounted one, such a write is open on it, or it does not count as mounted
pub record Inv (g : Geometry) (y : Store) : Type 0 where
  pub fits : lengths_fit g y.chip ≡ true
  pub kept : length y.page ≡ kept_bytes
  pub marks : MarkedBy g y.chip.array y.marked
  pub stored : Stored g y.chip.array
  pub table : ℕ
  pub table_is : current_table g y.chip.array ≡ at table
  pub reads : Same g (reading g y.chip.array table) (due_of g y.chip.array y.account)
  pub is : Up g y ⊎ (Open g y ⊎ (mounted_open g (state_of y) ≡ false))
