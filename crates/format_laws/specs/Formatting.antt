-- What every formatting leaves, and what an acknowledged one gives.
use Rattle.std.specs.Prelude.{ℕ, zero, suc, ◌+◌, ◌-◌, ◌*◌, ◌≤◌, ◌<◌, max, true, false, cond, List, [], ◌⊎◌, ◌↔◌, ◌≡◌, length, replicate}
use Rattle.geometry.specs.declared.Geometry.{Geometry}
use Rattle.geometry.specs.Sizes.{page_size}
use Rattle.chip_array.specs.Device.{Device, Setting}
use Rattle.bitmaps.specs.Bitmap.{bit_at}
use Rattle.cells.specs.Bytes.{Bytes}
use Rattle.copies.specs.Blocks.{block_in, page_in, is_marked, is_complete, whole_in}
use Rattle.copies.specs.Carried.{carried_table, is_carried}
use Rattle.copies.specs.Current.{current_table, greatest_below, mount_answer, number_at, reading}
use Rattle.copies.specs.Pick.{Pick, nothing, at}
use Rattle.copies.specs.Table.{lists}
use Rattle.operations.specs.Trace.{ArrayOperation}
use Rattle.bus_polling.specs.Outcomes.{is_passed, is_protected}
use Rattle.bus_polling.specs.declared.Outcome.TheVariants.{Passed}
use Rattle.state.specs.State.{blank, next_number, number_end, mounted}
use Rattle.state.specs.declared.State.{State}
use Rattle.request.specs.Call.{Result, sized_for, call_line}
use Rattle.progress.specs.Progress.{Progress, progress, reset_on, status_on}
use Rattle.scan.specs.Scan.{blocks_read}
use Rattle.scan_summary.specs.declared.Depth.TheVariants.{Full}
use Rattle.format_scan.specs.Survey.{surveyed, passed_over}
use Rattle.format_erase.specs.Round.{Round, erased_to}
use Rattle.fill.specs.Fill.{table_copy, table_main, copy_page}
use Rattle.format.specs.Format.{format_run}
use Rattle.mount.specs.Mount.{mounted_state}
use Rattle.damage.specs.Protect.{Unwritten}
use Rattle.damage.specs.Replay.{Replayed}
use Rattle.damage.specs.Run.{failed_in, failed_count, Slow, Failing, read_most, erase_most, table_fill_most}

-- what demand 3 starts from: the table on the chip with its number, its pages as they were programmed and what it lists,
-- every other unmarked block that it does not list erased but for that of a former table, whole under a lower number, if block `former` is on
-- the chip, so that nothing unlisted is complete but the two, a mount that succeeds and gives this state, and every logical page FFh
pub record Formatted (g : Geometry) (array : List ℕ) (st : State) : Type 0 where
  pub table_is : current_table g array ≡ at st.table
  pub lists_are : (b : ℕ) → b < g.blocks → lists g (block_in g array st.table) b ≡ bit_at st.invalid b
  pub number_next : next_number st ≡ number_at g array st.table + 1
  pub table_pages_fact : (i : ℕ) → i < g.pages
      → page_in g (block_in g array st.table) i ≡ copy_page g (table_copy (number_at g array st.table)) i (table_main g st.invalid i)
  pub table_whole : (i : ℕ) → i < g.pages → whole_in g (block_in g array st.table) i ≡ true
  pub table_bytes : (i : ℕ) → i < g.pages → Bytes (page_in g (block_in g array st.table) i)
  pub former : ℕ
  pub former_whole : former < g.blocks → (i : ℕ) → i < g.pages → whole_in g (block_in g array former) i ≡ true
  pub former_bytes : former < g.blocks → (i : ℕ) → i < g.pages → Bytes (page_in g (block_in g array former) i)
  pub erased : (b : ℕ) → b < g.blocks → (b ≡ st.table → ⊥) → (b ≡ former → ⊥) → is_marked g (block_in g array b) ≡ false → lists g (block_in g array st.table) b ≡ false
      → (i : ℕ) → i < g.pages → page_in g (block_in g array b) i ≡ replicate (page_size g) 255
  pub only_table : (b : ℕ) → b < g.blocks → is_complete g (block_in g array b) ≡ true → lists g (block_in g array st.table) b ≡ false → (b ≡ st.table) ⊎ (b ≡ former)
  pub mounts : mount_answer g array ≡ 0
  pub state_is : st ≡ mounted_state g array
  pub reads_blank : (logical p : ℕ) → reading g array st.table logical p ≡ replicate g.main 255

-- the most cycles of a block's erase with the reading of its pages, and of a formatting
abbrev pub block_most : Geometry → ℕ
block_most g = erase_most + g.pages * read_most (page_size g)

abbrev pub format_most : Geometry → ℕ
format_most g = 5 + g.blocks * (g.pages * read_most (page_size g)) + (g.blocks * block_most g + (g.blocks * table_fill_most g + erase_most))

-- a formatting that was acknowledged: what demand 3 starts from, a state that counts as mounted, and a chip ready for
-- the next call
pub record Acknowledged (s : Setting) (r : Result) : Type 0 where
  pub formatted : Formatted s.geometry r.chip.array r.state
  pub counts_mounted : mounted r.state s.geometry.blocks s.geometry.logical ≡ true
  pub still_sized : sized_for s r.chip ≡ true
  pub still_ready : r.chip.interface.phase ≤ 2

-- how many of the first n blocks of an array bear no factory mark, are not carried over and have no failed erase or program in a trace
unfoldable pub unfailed : Geometry → List ℕ → List ArrayOperation → ℕ → ℕ
unfailed g array trace zero = 0
unfailed g array trace (suc n) =
    unfailed g array trace n + cond (is_marked g (block_in g array n)) 0 (cond (is_carried g array n) 0 (cond (failed_in n trace) 0 1))

-- 1 where the list of the current table is carried over: then the block of a complete table is held all the time, and cannot be filled
unfoldable pub count_of : Pick → ℕ
count_of nothing = 0
count_of (at t) = 1

abbrev pub tables_held : Geometry → List ℕ → ℕ
tables_held g array = count_of (carried_table g array)

-- a formatting up to its page reads, up to its status read, and up to the end of its first round of erases
abbrev pub reads_done : Setting → Device → ℕ → Progress
reads_done s d n = blocks_read Full s s.geometry.blocks (reset_on s (progress (call_line d n) Passed [] []))

abbrev pub status_done : Setting → Device → ℕ → Progress
status_done s d n = status_on s (reads_done s d n)

abbrev pub round_from : Setting → Progress → Round
round_from s p = erased_to s (passed_over s.geometry (surveyed s.geometry p.line.chip.array)) s.geometry.blocks p

abbrev pub round_done : Setting → Device → ℕ → Progress
round_done s d n = (round_from s (status_done s d n)).progress

-- the number that the last table fill needed: one above the greatest on a whole page of the array and of those read in the first round, 1 if none,
-- and one more for each block whose table fill failed; os is the trace of all
abbrev pub number_needed : Geometry → List ℕ → Round → List ArrayOperation → ℕ
number_needed g array r os =
    max (greatest_below g array g.blocks) r.numbers.greatest + 1 + (failed_count os g.blocks - failed_count r.progress.started g.blocks)

-- a table fill needs a number above 18,446,744,073,709,551,615: the first round passed and left N + 2 blocks, and the number needed is past the last
pub record NumbersEnd (g : Geometry) (array : List ℕ) (r : Round) (os : List ArrayOperation) : Type 0 where
  pub round_passed : is_passed r.progress.outcome ≡ true
  pub blocks_left : g.logical + 2 ≤ unfailed g array r.progress.started g.blocks
  pub above : number_end ≤ number_needed g array r os

-- the answers of a formatting of a chip whose sizes go together
pub data FormatAnswer : ℕ → Type 0 where
  is_done : FormatAnswer 0
  is_worn : FormatAnswer 8
  is_spent : FormatAnswer 9
  is_silent_fact : FormatAnswer 10
  is_cut : FormatAnswer 11
  is_protected_fact : FormatAnswer 13

-- a formatting of a chip whose sizes go together, whatever its state, fates, mask and allowance of n cycles: every
-- cycle legal where it is sent, the sizes kept, blocks with a factory mark and those carried over untouched, no more cycles than format_most; if it is
-- acknowledged, no block has got a mark, and the table lists the blocks carried over and those of which an erase or a program failed, and no
-- others; if not, the state is stopped, but for an answer 13. It is worn where under N + 2 unmarked blocks that are not carried over are unfailed after
-- the first round of erases, and else only where none of them is in the end, but for the block of a complete table; there it is worn, or spent before that. It is spent exactly where a table fill needs a number above the last, so only where a
-- fate word fails or the chip bears the last number; silent only where one is slow, and cut only where all n cycles were sent. It is protected exactly where its status read shows
-- that the line is low: then nothing has changed, and the state is the one handed in
pub record Formatting (s : Setting) (d : Device) (n : ℕ) (state : State) (r : Result) : Type 0 where
  pub legal : r.chip.interface.illegal ≡ 0
  pub replayed : Replayed s (call_line d n).chip r.chip (format_run s d n state).progress.cycles
  pub sizes_kept : sized_for s r.chip ≡ true
  pub answers : FormatAnswer r.answer
  pub worn_by : r.answer ≡ 8 → (unfailed s.geometry d.array (round_done s d n).started s.geometry.blocks < s.geometry.logical + 2)
      ⊎ (unfailed s.geometry d.array (format_run s d n state).progress.started s.geometry.blocks ≤ tables_held s.geometry d.array)
  pub worn_so : is_passed (round_done s d n).outcome ≡ true → unfailed s.geometry d.array (round_done s d n).started s.geometry.blocks < s.geometry.logical + 2
      → r.answer ≡ 8
  pub worn_out : is_passed (round_done s d n).outcome ≡ true → unfailed s.geometry d.array (format_run s d n state).progress.started s.geometry.blocks ≤ tables_held s.geometry d.array
      → (r.answer ≡ 8) ⊎ (r.answer ≡ 9)
  pub spent_exactly : (r.answer ≡ 9) ↔ NumbersEnd s.geometry d.array (round_from s (status_done s d n)) (format_run s d n state).progress.started
  pub spent_by : r.answer ≡ 9 → (number_end ≤ greatest_below s.geometry d.array s.geometry.blocks + 1) ⊎ Failing s.fates
  pub silent_by : r.answer ≡ 10 → Slow s.fates
  pub marked_kept : (b : ℕ) → b < s.geometry.blocks → is_marked s.geometry (block_in s.geometry d.array b) ≡ true
      → block_in s.geometry r.chip.array b ≡ block_in s.geometry d.array b
  pub marks_same : r.answer ≡ 0 → (b : ℕ) → b < s.geometry.blocks
      → is_marked s.geometry (block_in s.geometry r.chip.array b) ≡ is_marked s.geometry (block_in s.geometry d.array b)
  pub acknowledged : r.answer ≡ 0 → Acknowledged s r
  pub lists_are : r.answer ≡ 0 → (b : ℕ) → b < s.geometry.blocks
      → lists s.geometry (block_in s.geometry r.chip.array r.state.table) b ≡ cond (is_carried s.geometry d.array b) true (failed_in b (format_run s d n state).progress.started)
  pub carried_kept : (b : ℕ) → b < s.geometry.blocks → is_carried s.geometry d.array b ≡ true
      → block_in s.geometry r.chip.array b ≡ block_in s.geometry d.array b
  pub sent_is : r.sent ≡ length (format_run s d n state).progress.cycles
  pub sent-most : r.sent ≤ format_most s.geometry
  pub cut_at : r.answer ≡ 11 → r.sent ≡ n
  pub stopped_so : (r.answer ≡ 0 → ⊥) → (r.answer ≡ 13 → ⊥) → r.state ≡ blank 2
  pub protected_exactly : (r.answer ≡ 13) ↔ (is_protected (status_done s d n).outcome ≡ true)
  pub unwritten : r.answer ≡ 13 → Unwritten d state r
