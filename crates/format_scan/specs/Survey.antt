-- What a formatting takes over from the chip that it finds: factory marks, the list of invalid blocks carried over, the block of its table, the greatest
-- number.
use Rattle.std.specs.Prelude.{ℕ, zero, suc, Bool, true, false, cond, List, ◌≡◌, eqb, replicate}
use Rattle.geometry.specs.declared.Geometry.{Geometry}
use Rattle.bitmaps.specs.Bitmap.{bit_at, with_bit, never_both}
use Rattle.chip_array.specs.Device.{Setting}
use Rattle.chip.specs.Chip.{Cycle}
use Rattle.bus.specs.Line.{Line}
use Rattle.bus_polling.specs.Outcomes.{is_passed}
use Rattle.bus_polling.specs.declared.Outcome.{Outcome}
use Rattle.bus_polling.specs.declared.Outcome.TheVariants.{Passed}
use Rattle.operations.specs.Ends.{Called}
use Rattle.operations.specs.Trace.{ArrayOperation}
use Rattle.copies.specs.Carried.{carried_table}
use Rattle.copies.specs.Current.{greatest_below}
use Rattle.copies.specs.Pick.{Pick, nothing, at}
use Rattle.scan_found.specs.Contents.{entry_of}
use Rattle.scan_found.specs.Found.{found_to, bits_at, marks_to}
use Rattle.scan_found.specs.declared.Found.{Found}
use Rattle.progress.specs.Progress.{progress}
use Rattle.state.specs.State.{add_block}
use Rattle.scan_summary.specs.declared.Depth.TheVariants.{Full}
use Rattle.scan.specs.Scan.{blocks_read}
use Rattle.format_scan.specs.declared.Survey.{Survey}

abbrev pub survey : List ℕ → List ℕ → ℕ → ℕ → Survey
survey marked carried old greatest = record { marked = marked; carried = carried; old = old; greatest = greatest }

-- the list of the table found is carried over: it is laid out whatever its number of logical blocks, and does not list its own block
unfoldable pub carries : Geometry → Found → Bool
carries g f =
    cond f.tables
    (cond (eqb f.right 0) false
    (cond (never_both f.marked f.bits g.blocks) (cond (bit_at f.bits f.table) false true) false))
    false

unfoldable pub survey_of : Geometry → Found → Survey
survey_of g f =
    cond (carries g f) (survey f.marked f.bits f.table f.greatest) (survey f.marked (replicate 512 0) 65535 f.greatest)

-- the same by the definitions on the array
unfoldable pub list_bits : Geometry → List ℕ → Pick → List ℕ
list_bits g array nothing = replicate 512 0
list_bits g array (at t) = bits_at g array t

abbrev pub surveyed : Geometry → List ℕ → Survey
surveyed g array =
    survey (marks_to g array g.blocks) (list_bits g array (carried_table g array)) (entry_of (carried_table g array)) (greatest_below g array g.blocks)

-- bits with those that the first n blocks have in another bitmap added
unfoldable pub union_to : List ℕ → List ℕ → ℕ → List ℕ
union_to bits more zero = bits
union_to bits more (suc n) = let rest = union_to bits more n in cond (bit_at more n) (with_bit rest n) rest

-- the blocks that the first round of erases passes over: those with a factory mark, those on the list carried over, and the block of its table
unfoldable pub passed_over : Geometry → Survey → List ℕ
passed_over g v = add_block v.old (union_to v.marked v.carried g.blocks)

-- every page was read, and this was found
pub record FoundDone (s : Setting) (l m : Line) (o : Outcome) (f : Found) : Type 0 where
  pub line_is : (cs : List Cycle) (os : List ArrayOperation) → m ≡ (blocks_read Full s s.geometry.blocks (progress l Passed cs os)).line
  pub outcome_is : (cs : List Cycle) (os : List ArrayOperation) → o ≡ (blocks_read Full s s.geometry.blocks (progress l Passed cs os)).outcome
  pub same_array : m.chip.array ≡ l.chip.array
  pub same_history : m.chip.history ≡ l.chip.history
  pub next : is_passed o ≡ true → Called s m
  pub found_is : is_passed o ≡ true → f ≡ found_to Full s.geometry l.chip.array s.geometry.blocks

-- and this is taken over
pub record SurveyDone (s : Setting) (l m : Line) (o : Outcome) (v : Survey) : Type 0 where
  pub line_is : (cs : List Cycle) (os : List ArrayOperation) → m ≡ (blocks_read Full s s.geometry.blocks (progress l Passed cs os)).line
  pub outcome_is : (cs : List Cycle) (os : List ArrayOperation) → o ≡ (blocks_read Full s s.geometry.blocks (progress l Passed cs os)).outcome
  pub same_array : m.chip.array ≡ l.chip.array
  pub same_history : m.chip.history ≡ l.chip.history
  pub next : is_passed o ≡ true → Called s m
  pub survey_is : is_passed o ≡ true → v ≡ surveyed s.geometry l.chip.array
