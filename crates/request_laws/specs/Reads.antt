-- What a read gives from the state and the chip that an earlier request left.
use Rattle.std.specs.Prelude.{ℕ, ◌≤◌, ◌<◌, List, ◌≡◌, length}
use Rattle.geometry.specs.declared.Geometry.{Geometry}
use Rattle.geometry.specs.Sizes.{block_size}
use Rattle.chip_interface.specs.Interface.{fate_word, busy_of}
use Rattle.chip_array.specs.Device.{Device, Setting, setting}
use Rattle.copies.specs.Current.{current_table, reading}
use Rattle.copies.specs.Pick.{at}
use Rattle.state.specs.declared.State.{State}
use Rattle.request.specs.Call.{Result}
use Rattle.read_page.specs.Fetching.{ReadResult}
use Rattle.read.specs.Reading.{reading_page}
use Rattle.read.proofs.ReadingLaws.{Gives}
use Rattle.damage.specs.Run.{read_most}

-- the answers of a read of a chip that is ready for a command
pub data ReadAnswer : ℕ → Type 0 where
  is_done : ReadAnswer 0
  is_geometry : ReadAnswer 1
  is_address : ReadAnswer 2
  is_length : ReadAnswer 3
  is_unmounted : ReadAnswer 7
  is_silent_fact : ReadAnswer 10
  is_cut : ReadAnswer 11

-- a read of a logical page with these bytes, that may send n cycles: unless it is silent or cut, it is answered 0, its
-- buffer has the bytes, and state, array and history are as they were; it is silent only where its fate word has 256 or
-- more busy reads, and cut only where all n cycles were sent
pub record ReadsAs (s : Setting) (d : Device) (n : ℕ) (state : State) (bytes : List ℕ) (r : ReadResult) : Type 0 where
  pub gives : (r.returned.answer ≡ 10 → ⊥) → (r.returned.answer ≡ 11 → ⊥) → Gives s d state bytes r
  pub silent_by : r.returned.answer ≡ 10 → 256 ≤ busy_of (fate_word s.fates 0)
  pub cut_at : r.returned.answer ≡ 11 → r.returned.sent ≡ n
  pub sent-most : r.returned.sent ≤ read_most s.geometry.main

-- from the state and the chip of a result every logical page reads so, with any mask of the right length, any fates, any
-- allowance and any buffer of main bytes
abbrev pub Readable : Geometry → Result → (ℕ → ℕ → List ℕ) → Type 0
Readable g r pages =
    (mask fates : List ℕ) (n logical page : ℕ) (buffer : List ℕ) → length mask ≡ block_size g → logical < g.logical → page < g.pages → length buffer ≡ g.main
    → ReadsAs (setting g mask fates) r.chip n r.state (pages logical page) (reading_page (setting g mask fates) r.chip n r.state logical page buffer)

-- a mount of an array that was answered 0: reads give the current copies under the current table
pub record MountRead (g : Geometry) (array : List ℕ) (r : Result) : Type 0 where
  pub table_is : current_table g array ≡ at r.state.table
  pub reads : Readable g r (reading g array r.state.table)
