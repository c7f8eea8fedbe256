-- A chip as it is found, whichever version of the store wrote it: what demand 3 starts from where no formatting has come before.
use Rattle.std.specs.Prelude.{ℕ, true, false, List, ◌≡◌, length}
use Rattle.std.proofs.Math.Option.{none}
use Rattle.geometry.specs.declared.Geometry.{Geometry}
use Rattle.chip_array.specs.Device.{Device, lengths_fit}
use Rattle.copies.specs.Blocks.{block_in, is_marked}
use Rattle.copies.specs.Current.{current_table, reading}
use Rattle.open_write.specs.Open.{OpenState, kept_bytes, mounted_open}
use Rattle.mount.specs.Mount.{block_of}
use Rattle.recovery_stored.specs.Stored.{Stored}
use Rattle.recovery.specs.Book.{account}
use Rattle.recovery.specs.Calls.{Event, AllPossible, Store, store, after}
use Rattle.recovery_update.specs.Older.{OlderStored, ListedOlder}

-- nothing is mounted and nothing under way; the book is what the current table and copies read, the marks are those of the chip
abbrev pub found_on : Geometry → Device → OpenState → Store
found_on g d x =
    store x d (account (reading g d.array (block_of (current_table g d.array))) none) (λ b. is_marked g (block_in g d.array b)) (λ b. false)

-- what is said of a store that a list of calls, with power lost at any places between them, has come to from there; the first mount is one of
-- these calls, and may be cut like any other
abbrev pub AlwaysFound : (Geometry → List ℕ → Type 0) → (Geometry → Store → Type 0) → Type 0
AlwaysFound Start P =
    (g : Geometry) (d : Device) (x : OpenState) → Start g d.array → lengths_fit g d ≡ true → mounted_open g x ≡ false → length x.page ≡ kept_bytes
    → (es : List Event) → AllPossible g es (found_on g d x) → P g (after g es (found_on g d x))

-- a chip that this store can leave, and one that an older store can leave, whatever kinds it knows (`before_wide`, `before_white`)
abbrev pub AlwaysFrom : (Geometry → Store → Type 0) → Type 0
AlwaysFrom P = AlwaysFound Stored P

abbrev pub AlwaysUpdated : (Geometry → Store → Type 0) → Type 0
AlwaysUpdated P = (kinds : List ℕ) → AlwaysFound (λ g array. OlderStored kinds g array × ListedOlder kinds g array) P
