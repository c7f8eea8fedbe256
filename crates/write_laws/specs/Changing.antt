-- How a write or an erase that is not refused ends on a ready chip, whatever the array holds and whatever fails, is silent or is cut.
use Rattle.std.specs.Prelude.{ℕ, ◌+◌, ◌-◌, ◌*◌, ◌≤◌, ◌<◌, true, false, cond, List, ◌⊎◌, ◌↔◌, ◌≡◌, eqb, ltb, length, set}
use Rattle.geometry.specs.declared.Geometry.{Geometry}
use Rattle.cells.specs.Bytes.{Bytes}
use Rattle.bitmaps.specs.Bitmap.{bit_at}
use Rattle.chip_array.specs.Device.{Device, Setting}
use Rattle.operations.specs.Trace.{ArrayOperation}
use Rattle.pages.specs.Layout.{data_kind}
use Rattle.copies.specs.Blocks.{block_in, page_in}
use Rattle.state_choose.specs.Choose.{permitted}
use Rattle.state.specs.State.{blank, next_number, number_end, numbers_left, held_bits, mounted}
use Rattle.state.specs.declared.State.{State}
use Rattle.request.specs.Call.{Result, sized_for, call_line}
use Rattle.fill.specs.Fill.{copy, copy_page, main_of, table_copy, table_main}
use Rattle.fill_tables.specs.Tables.{Tabled}
use Rattle.write_changes.specs.Changes.{Update, Copied, copies_filled, change_first, change_call, update_source}
use Rattle.damage.specs.Protect.{Unwritten}
use Rattle.damage.specs.Replay.{Replayed}
use Rattle.damage.specs.Run.{failed_in, failed_count, Slow, fill_most, table_fill_most}

-- lists as their types have them: array and mask are bytes, the state's invalid bitmap is 512 bytes, its map has 4,096 entries
pub record InRange (s : Setting) (d : Device) (st : State) : Type 0 where
  pub array_bytes : Bytes d.array
  pub mask_bytes : Bytes s.mask
  pub invalid_long : length st.invalid ≡ 512
  pub invalid_bytes : Bytes st.invalid
  pub map_long : length st.map ≡ 4096

-- the answers of a request on a ready chip that is not refused
pub data ChangeAnswer : ℕ → Type 0 where
  is_done : ChangeAnswer 0
  is_worn : ChangeAnswer 8
  is_spent : ChangeAnswer 9
  is_silent_fact : ChangeAnswer 10
  is_cut : ChangeAnswer 11
  is_protected_fact : ChangeAnswer 13

-- the most cycles: the status read, every block filled once with a data copy and once with a table
abbrev pub fills_most : Geometry → ℕ
fills_most g = g.blocks * fill_most g + g.blocks * table_fill_most g

abbrev pub change_most : Geometry → ℕ
change_most g = 2 + fills_most g

-- the pages of a new copy: given by the caller, kept from the old copy as the array before had it, FFh where there is none
abbrev pub new_page : Geometry → List ℕ → State → Update → ℕ → ℕ → List ℕ
new_page g before st u number i =
    copy_page g (copy data_kind u.logical number) i (main_of g before i (update_source g st u i))

-- those of a table of invalid blocks
abbrev pub new_table : Geometry → List ℕ → ℕ → ℕ → List ℕ
new_table g invalid number i = copy_page g (table_copy number) i (table_main g invalid i)

-- a block of an array has these pages
abbrev pub Holds : Geometry → List ℕ → ℕ → (ℕ → List ℕ) → Type 0
Holds g array b pages = (i : ℕ) → i < g.pages → page_in g (block_in g array b) i ≡ pages i

-- the request from the chip handed in, up to the end of its data fills
abbrev pub copies_done : Setting → Device → ℕ → State → Update → Copied
copies_done s d n st u = copies_filled s (held_bits st s.geometry.logical) u (numbers_left st) false st (change_first s d n)

-- the blocks that hold something current: as known at the start, and updated by the data fill if it passed
abbrev pub held_last : Setting → State → Copied → List ℕ
held_last s st c =
    cond (eqb c.answer 0) (held_bits c.state s.geometry.logical) (held_bits st s.geometry.logical)

-- the numbers taken by the fills that failed, one for each block that did, and by the data fill if it passed
abbrev pub numbers_taken : Setting → Copied → List ArrayOperation → ℕ
numbers_taken s c os = failed_count os s.geometry.blocks + cond (eqb c.answer 0) 1 0

-- a request that ran as t tells and was acknowledged with r: the state counts as mounted and the chip is ready, all lists as their types have them; the map has
-- the block filled last by the data fills, which has the pages of the new copy; a table was filled exactly if any block failed in
-- the data fills, and lists what is invalid; the state has the marks that it had, the blocks that failed as invalid besides those that
-- were, and the number after those taken, that of the table fill included
pub record Acknowledged (s : Setting) (d : Device) (n : ℕ) (st : State) (u : Update) (t : Tabled) (r : Result) : Type 0 where
  pub counts_mounted : mounted r.state s.geometry.blocks s.geometry.logical ≡ true
  pub still_ready : r.chip.interface.phase ≤ 2
  pub still_in_range : InRange s r.chip r.state
  pub map_is : r.state.map ≡ set st.map u.logical (copies_done s d n st u).state.last
  pub new_copy : Holds s.geometry r.chip.array (copies_done s d n st u).state.last
      (new_page s.geometry d.array st u (next_number st + failed_count (copies_done s d n st u).progress.started s.geometry.blocks))
  pub any_failed : (copies_done s d n st u).failed ≡ ltb 0 (failed_count (copies_done s d n st u).progress.started s.geometry.blocks)
  pub same_table : (copies_done s d n st u).failed ≡ false → r.state.table ≡ st.table
  pub new_table_fact : (copies_done s d n st u).failed ≡ true
      → Holds s.geometry r.chip.array r.state.table (new_table s.geometry r.state.invalid (next_number r.state - 1))
  pub same_marked : r.state.marked ≡ st.marked
  pub invalid_are : (b : ℕ) → b < s.geometry.blocks → bit_at r.state.invalid b ≡ cond (bit_at st.invalid b) true (failed_in b t.progress.started)
  pub number_is : next_number r.state ≡ next_number st + (numbers_taken s (copies_done s d n st u) t.progress.started + cond (copies_done s d n st u).failed 1 0)

-- a request that ran as t tells and ended with r: every cycle is legal where it is sent, and the sizes are kept; a request that is not acknowledged leaves a stopped state, but for an answer 13; blocks that
-- the state has as marked or invalid are untouched, those that held something current by the data fills (never the present copy), and
-- those that hold it then by the table fills; no more cycles are sent than change_most. It is worn only where every block that was
-- unmarked and valid at the start, and holds nothing current, has failed since (so has every block permitted at the start but the one
-- that the new copy was filled into); spent only where the fills took all numbers that were left; silent only where a fate word is slow;
-- and cut only where all n cycles were sent. It is protected exactly where the line is low and the status read is not cut: then nothing
-- has changed, and the state is the one handed in
pub record ChangeLeft (s : Setting) (d : Device) (n : ℕ) (st : State) (u : Update) (t : Tabled) (r : Result) : Type 0 where
  pub legal : r.chip.interface.illegal ≡ 0
  pub replayed : Replayed s (call_line d n).chip r.chip t.progress.cycles
  pub sizes_kept : sized_for s r.chip ≡ true
  pub bytes_kept : Bytes r.chip.array
  pub answers : ChangeAnswer r.answer
  pub stopped_so : (r.answer ≡ 0 → ⊥) → (r.answer ≡ 13 → ⊥) → r.state ≡ blank 2
  pub protected_exactly : (r.answer ≡ 13) ↔ ((2 ≤ n) × (d.interface.protected ≡ 0 → ⊥))
  pub unwritten : r.answer ≡ 13 → Unwritten d st r
  pub acknowledged : r.answer ≡ 0 → Acknowledged s d n st u t r
  pub marked_kept : (b : ℕ) → b < s.geometry.blocks → bit_at st.marked b ≡ true → block_in s.geometry r.chip.array b ≡ block_in s.geometry d.array b
  pub invalid_kept : (b : ℕ) → b < s.geometry.blocks → bit_at st.invalid b ≡ true → block_in s.geometry r.chip.array b ≡ block_in s.geometry d.array b
  pub present_kept : (b : ℕ) → b < s.geometry.blocks → bit_at (held_bits st s.geometry.logical) b ≡ true
      → block_in s.geometry (copies_done s d n st u).progress.line.chip.array b ≡ block_in s.geometry d.array b
  pub current_kept : (b : ℕ) → b < s.geometry.blocks → bit_at (held_last s st (copies_done s d n st u)) b ≡ true
      → block_in s.geometry r.chip.array b ≡ block_in s.geometry (copies_done s d n st u).progress.line.chip.array b
  pub sent_is : r.sent ≡ length t.progress.cycles
  pub sent-most : r.sent ≤ change_most s.geometry
  pub worn_by : r.answer ≡ 8 → (b : ℕ) → b < s.geometry.blocks → permitted st.marked st.invalid (held_last s st (copies_done s d n st u)) b ≡ true
      → failed_in b t.progress.started ≡ true
  pub worn_start : r.answer ≡ 8 → (b : ℕ) → b < s.geometry.blocks → permitted st.marked st.invalid (held_bits st s.geometry.logical) b ≡ true
      → (failed_in b t.progress.started ≡ true) ⊎ (((copies_done s d n st u).answer ≡ 0) × (b ≡ (copies_done s d n st u).state.last))
  pub spent_by : r.answer ≡ 9 → number_end ≤ next_number st + numbers_taken s (copies_done s d n st u) t.progress.started
  pub silent_by : r.answer ≡ 10 → Slow s.fates
  pub cut_at : r.answer ≡ 11 → r.sent ≡ n

abbrev pub Changing : Setting → Device → ℕ → State → Update → Result → Type 0
Changing s d n st u r = ChangeLeft s d n st u (change_call s d n st u) r
