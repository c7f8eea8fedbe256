-- What the reads of a request on the journal leave and tell.
use Rattle.std.specs.Prelude.{ℕ, ◌+◌, ◌≤◌, ◌<◌, true, List, ◌≡◌, length, get_or, take}
use Rattle.geometry.specs.declared.Geometry.{Geometry}
use Rattle.bitmaps.specs.Bitmap.{bit_at}
use Rattle.chip_array.specs.Device.{Setting}
use Rattle.chip.specs.Chip.{Cycle}
use Rattle.bus.specs.Line.{Line}
use Rattle.bus_polling.specs.Outcomes.{is_passed}
use Rattle.bus_polling.specs.declared.Outcome.{Outcome}
use Rattle.bus_polling.specs.declared.Outcome.TheVariants.{Passed}
use Rattle.operations.specs.Ends.{Lent}
use Rattle.operations.specs.Trace.{ArrayOperation}
use Rattle.journal.specs.Records.{Pages, room, records}
use Rattle.journal.specs.Takings.{targets, replaced_by, counts, amounts, takings}
use Rattle.state.specs.State.{none}
use Rattle.progress.specs.Progress.{Progress, progress}
use Rattle.journal_read.specs.Reads.{pages_by, part_on, pass_on, amount_on, amounts_on}

-- a map and kinds as a mounted state has them
pub record Mapped (g : Geometry) (map kinds : List ℕ) : Type 0 where
  pub long : length map ≡ 4096
  pub kinds_long : length kinds ≡ 4096
  pub below : (i : ℕ) → i < g.logical → (get_or map i 0 ≡ none → ⊥) → get_or map i 0 < g.blocks

-- reads led from line l to line m, and the last ended as o; nothing on the chip has changed
pub record Ran (s : Setting) (run : Progress → Progress) (l m : Line) (o : Outcome) : Type 0 where
  pub line_is : (cs : List Cycle) (os : List ArrayOperation) → m ≡ (run (progress l Passed cs os)).line
  pub outcome_is : (cs : List Cycle) (os : List ArrayOperation) → o ≡ (run (progress l Passed cs os)).outcome
  pub same_array : m.chip.array ≡ l.chip.array
  pub same_history : m.chip.history ≡ l.chip.history
  pub left_most : m.left ≤ l.left
  pub next : is_passed o ≡ true → Lent s m

-- the first n bytes of page k were read
pub record PartRead (s : Setting) (map kinds : List ℕ) (k n : ℕ) (l m : Line) (o : Outcome) (bytes : List ℕ) : Type 0 where
  pub ran : Ran s (part_on s map k n) l m o
  pub bytes_are : is_passed o ≡ true → bytes ≡ take n (pages_by s.geometry l.chip.array map kinds k)

-- bits that tell which of e records are replaced
abbrev pub Told : Pages → ℕ → List ℕ → Type 0
Told pages e bits = (t : ℕ) → t < 65536 → bit_at bits t ≡ replaced_by (targets pages) e t

-- the journal was read to its end: e records, and bits for those that are replaced
pub record Counted (s : Setting) (map : List ℕ) (pages : Pages) (l m : Line) (o : Outcome) (e : ℕ) (bits : List ℕ) : Type 0 where
  pub ran : Ran s (pass_on s map pages) l m o
  pub records_are : is_passed o ≡ true → e ≡ records pages (room s.geometry)
  pub bits_are : is_passed o ≡ true → Told pages e bits

-- the amount of record k of e was read and added to a sum, if it is in force
pub record Added (s : Setting) (map : List ℕ) (pages : Pages) (e k : ℕ) (l m : Line) (o : Outcome) (sum next : ℕ) : Type 0 where
  pub ran : Ran s (amount_on s map pages e k) l m o
  pub sum_is : is_passed o ≡ true → next ≡ sum + counts (amounts pages) (targets pages) e k

-- the amounts of the records in force were read
pub record Totalled (s : Setting) (map : List ℕ) (pages : Pages) (l m : Line) (o : Outcome) (e sum : ℕ) : Type 0 where
  pub ran : Ran s (amounts_on s map pages e e) l m o
  pub sum_is : is_passed o ≡ true → sum ≡ takings pages e
