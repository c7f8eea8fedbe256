-- A small chip as a store leaves it that knows kinds 44h and 54h alone, with a fill that was cut: 32 main and 16 spare bytes, 4 pages, 4 blocks, 2 logical
-- blocks. It is one that this store can leave, and after a write both layouts stand side by side. Assumes nothing.
use Prim.Native.Nat.{ℕ, zero, suc, ◌<◌}
use mathlib.Core.Bool.{Bool, true, false, cond, false≢true}
use mathlib.Core.List.{List, [], ◌∷◌, ◌++◌}
use mathlib.Core.Path.{◌≡◌, refl, sym, ap, subst, ◌∙◌}
use native.Mathlib.Omega.{arith}
use borrow.Author.Tests.{ltb-true}
use lib.Count.{ones}
use lib.Dec.{ltb}
use lib.ListN.{length, replicate, set}
use Rattle.geometry.specs.declared.Geometry.{Geometry}
use Rattle.geometry.proofs.LimitLaws.{limits}
use Rattle.bools.proofs.BoolLaws.{both}
use Rattle.cells.specs.Bytes.{Bytes}
use Rattle.cells.specs.Cells.{raised}
use Rattle.cells.specs.Part.{put}
use Rattle.bitmaps.specs.Bitmap.{bit_at, with_bit, count_bits, clear_from}
use Rattle.whitening.specs.Stream.{shifted, stepped, bits_given, bytes_given}
use Rattle.whitening.specs.Whitened.{xored}
use Rattle.pages.specs.Check.{zero_bits}
use Rattle.pages.specs.Layout.{label, whole, all_ones, stored_check, counted_check, kind_of, number_width, is_data_kind, is_table_kind, is_white_kind, label_of, number_of, bytes_of, label_bytes, encoded}
use Rattle.pages.specs.Over.{Over}
use Rattle.pages.proofs.OverLaws.{over_refl, raised-over}
use Rattle.copies.specs.Blocks.{formed, block_in, page_in, label_in, is_marked, agrees, complete_to, is_complete, is_table, is_data, is_copy_of, any_to, greatest_to, has_number, greatest}
use Rattle.copies.specs.Pick.{at, better, pick, some_below}
use Rattle.copies.specs.Table as table
use Rattle.copies.specs.Table.{lists}
use Rattle.copies.specs.Current as current
use Rattle.copies.specs.Current.{current_table, current_copy, filled_last, reading, greatest_below, shares_number, clashes_at, clashes, judge_table, mount_answer}
use Rattle.fill.specs.Fill.{table_main}
use Rattle.bus.specs.Line.{may_go, cut_after, send, byte_out, send_all, sent, goes_on}
use Rattle.bus_polling.specs.Outcomes.{is_passed, is_protected, is_silent, is_cut_off, is_failed}
use Rattle.bus_polling.specs.Polling.{waiting, polls, outcome_of, ended_as}
use Rattle.bus_sequences.specs.Cycles.{read_cycles, read_outcome, put_out, read_outputs}
use Rattle.cells.specs.Cells.{programmed, weakened}
use Rattle.chip.specs.Chip.{is_confirm, confirmed, confirmable, commanded, data_taken, data_given, data_byte, finished, status_read, exec}
use Rattle.chip_array.specs.Device.{fitting, read_started, program_started, erase_started, completed, device, setting}
use Rattle.chip_interface.specs.Interface.{begun, status_mode, read_mode, plain_command, address_fits, latched, addressed, fate_word, next_fate, started, status_byte, powered_on}
use Rattle.fill.specs.Fill.{main_of, main_read, page_filled, pages_filled, data_source, is_given}
use Rattle.fill_tables.specs.Tables.{after_status, after_fill, try_block, try_table, tables_filled}
use Rattle.operations.specs.Ends.{status_end}
use Rattle.operations.specs.Trace.{started_by}
use Rattle.progress.specs.Progress.{read_on, status_on}
use Rattle.progress.specs.Steps.{erase_on, program_on}
use Rattle.request.specs.Call.{stop_answer, status_answer, status_state, Result}
use Rattle.state.specs.State.{copy_bits, mounted_with}
use Rattle.state.specs.declared.State.{State}
use Rattle.state_choose.specs.Choose.{permitted, search_after}
use Rattle.write_changes.specs.Changes.{copy_tried, after_try, copies_filled, then_table, changing, write_update}
use Rattle.scan_found.specs.Contents.{entry_of, tabulate, map_in, kinds_of}
use Rattle.scan_found.specs.Found.{bits_at, marks_to}
use Rattle.mount.specs.Mount.{block_of, mounted_state}
use Rattle.recovery_stored.specs.Stored.{Stored}
use Rattle.recovery_stored.proofs.StoredLaws.{same_at}
use Rattle.recovery_update.specs.Older.{before_wide, older_whole, older_to, older_complete, older_table, older_data, older_current, older_shares, older_clashes_at, older_judge, older_answer, OlderLeft, OlderStored, ListedOlder}
use Rattle.recovery_update.proofs.OlderLaws.{older_stored}

abbrev small : Geometry
small = record { main = 32; spare = 16; pages = 4; blocks = 4; logical = 2 }

-- pages of a table under number 1, of a copy of logical block 0 under number 2, and of another under number 3
abbrev table_page : ℕ → List ℕ
table_page i = encoded 16 (label 84 0 i 1) (table_main small (0 ∷ []) i)

abbrev copy_page : ℕ → ℕ → List ℕ
copy_page byte i = encoded 16 (label 68 0 i 2) (replicate 32 byte)

abbrev cut_page : ℕ → List ℕ
cut_page i = encoded 16 (label 68 0 i 3) (replicate 32 0)

-- masks: nothing raised, half of every byte, all
abbrev none : List ℕ
none = replicate 48 0

abbrev half : List ℕ
half = replicate 48 15

abbrev all : List ℕ
all = replicate 48 255

-- the table in block 0, a copy with A5h in page 0 in block 1, a fill of block 2 that was cut in its second page, and an erased block
abbrev array : List ℕ
array =
    (table_page 0 ++ (table_page 1 ++ (table_page 2 ++ table_page 3)))
    ++ ((copy_page 165 0 ++ (copy_page 255 1 ++ (copy_page 255 2 ++ copy_page 255 3)))
    ++ ((cut_page 0 ++ (raised (cut_page 1) half ++ replicate 96 255)) ++ replicate 192 255))

-- bytes, by a test
unfoldable all_bytes : List ℕ → Bool
all_bytes [] = true
all_bytes (x ∷ xs) = cond (ltb x 256) (all_bytes xs) false

bytes_by : (xs : List ℕ) → all_bytes xs ≡ true → Bytes xs
unfolding all_bytes
bytes_by [] e i = omega arith
bytes_by (x ∷ xs) e zero = ltb-true x 256 (both (ltb x 256) (all_bytes xs) e).0
bytes_by (x ∷ xs) e (suc i) = bytes_by xs (both (ltb x 256) (all_bytes xs) e).1 i

-- a page x is whole page e with the bits of mask m raised
left_by : (x e m : List ℕ) → older_whole before_wide small e ≡ true → all_bytes e ≡ true → all_bytes m ≡ true → raised e m ≡ x → OlderLeft before_wide small x
left_by x e m w b c q =
    record { page = e; is_whole = w; is_over = subst (Over e) q (raised-over m (over_refl e (bytes_by e b)) (bytes_by m c)) }

-- each page of the chip is one that could be left
left_at : (b i : ℕ) → b < 4 → i < 4 → OlderLeft before_wide small (page_in small (block_in small array b) i)
unfolding ones zero_bits number_width is_data_kind is_table_kind bytes_of number_of label_bytes encoded kind_of label_of all_ones stored_check counted_check whole table_main table.table_page raised put bit_at with_bit count_bits all_bytes
left_at zero zero h k = left_by _ (table_page 0) none refl refl refl refl
left_at zero (suc zero) h k = left_by _ (table_page 1) none refl refl refl refl
left_at zero (suc (suc zero)) h k = left_by _ (table_page 2) none refl refl refl refl
left_at zero (suc (suc (suc zero))) h k = left_by _ (table_page 3) none refl refl refl refl
left_at zero (suc (suc (suc (suc i)))) h k = absurd (omega (arith, k))
left_at (suc zero) zero h k = left_by _ (copy_page 165 0) none refl refl refl refl
left_at (suc zero) (suc zero) h k = left_by _ (copy_page 255 1) none refl refl refl refl
left_at (suc zero) (suc (suc zero)) h k = left_by _ (copy_page 255 2) none refl refl refl refl
left_at (suc zero) (suc (suc (suc zero))) h k = left_by _ (copy_page 255 3) none refl refl refl refl
left_at (suc zero) (suc (suc (suc (suc i)))) h k = absurd (omega (arith, k))
left_at (suc (suc zero)) zero h k = left_by _ (cut_page 0) none refl refl refl refl
left_at (suc (suc zero)) (suc zero) h k = left_by _ (cut_page 1) half refl refl refl refl
left_at (suc (suc zero)) (suc (suc zero)) h k = left_by _ (cut_page 2) all refl refl refl refl
left_at (suc (suc zero)) (suc (suc (suc zero))) h k = left_by _ (cut_page 3) all refl refl refl refl
left_at (suc (suc zero)) (suc (suc (suc (suc i)))) h k = absurd (omega (arith, k))
left_at (suc (suc (suc zero))) zero h k = left_by _ (cut_page 0) all refl refl refl refl
left_at (suc (suc (suc zero))) (suc zero) h k = left_by _ (cut_page 1) all refl refl refl refl
left_at (suc (suc (suc zero))) (suc (suc zero)) h k = left_by _ (cut_page 2) all refl refl refl refl
left_at (suc (suc (suc zero))) (suc (suc (suc zero))) h k = left_by _ (cut_page 3) all refl refl refl refl
left_at (suc (suc (suc zero))) (suc (suc (suc (suc i)))) h k = absurd (omega (arith, k))
left_at (suc (suc (suc (suc b)))) i h k = absurd (omega (arith, h))

table_first : older_current before_wide small array ≡ at 0
unfolding ones zero_bits number_width is_data_kind is_table_kind bytes_of number_of label_bytes encoded kind_of label_of all_ones stored_check counted_check whole table_main table.table_page raised put bit_at with_bit count_bits clear_from is_marked agrees older_to older_complete older_table older_data older_current older_shares older_clashes_at older_judge better pick some_below table.clear_where table.right_first table.right_page table.right_to table.right_table
table_first = refl

lists-none : (b : ℕ) → b < 4 → lists small (block_in small array 0) b ≡ false
unfolding ones zero_bits number_width is_data_kind is_table_kind bytes_of number_of label_bytes encoded kind_of label_of all_ones stored_check counted_check whole table_main table.table_page raised put bit_at with_bit count_bits
lists-none zero h = refl
lists-none (suc zero) h = refl
lists-none (suc (suc zero)) h = refl
lists-none (suc (suc (suc zero))) h = refl
lists-none (suc (suc (suc (suc b)))) h = absurd (omega (arith, h))

-- such a store mounts it
was_mounted : older_answer before_wide small array ≡ 0
unfolding ones zero_bits number_width is_data_kind is_table_kind bytes_of number_of label_bytes encoded kind_of label_of all_ones stored_check counted_check whole table_main table.table_page raised put bit_at with_bit count_bits clear_from is_marked agrees older_to older_complete older_table older_data older_current older_shares older_clashes_at older_judge better pick some_below table.clear_where table.right_first table.right_page table.right_to table.right_table
was_mounted = refl

array_long : length array ≡ 768
unfolding ones zero_bits number_width is_data_kind is_table_kind bytes_of number_of label_bytes encoded kind_of label_of all_ones stored_check counted_check whole table_main table.table_page raised put bit_at with_bit count_bits
array_long = refl

was_stored : OlderStored before_wide small array
was_stored =
    record {
      is_valid = limits small refl;
      array_long = array_long;
      mounts = was_mounted;
      left = λ t b i e h k m n. left_at b i h k;
    }

listed_older : ListedOlder before_wide small array
listed_older t b i e h k m y w =
    let first : t ≡ 0 = same_at (sym e ∙ table_first) in
    absurd (false≢true (sym (lists-none b h) ∙ subst (λ (x : ℕ). lists small (block_in small array x) b ≡ true) first y))

-- and it is one that this store can leave
pub is_stored : Stored small array
is_stored = older_stored before_wide small array was_stored listed_older

-- a mount finds table 0, the copy in block 1, number 3 on the fill that was cut, and A5h and FFh on the first two pages of logical block 0
mount_finds : mount_answer small array ∷ greatest_below small array 4 ∷ [] ≡ 0 ∷ 3 ∷ []
unfolding ones zero_bits number_width is_data_kind is_table_kind bytes_of number_of label_bytes encoded kind_of label_of all_ones stored_check counted_check whole table_main table.table_page raised put bit_at with_bit count_bits clear_from is_marked agrees complete_to is_complete is_table is_data is_copy_of any_to greatest_to has_number greatest greatest_below filled_last current_table current_copy current.page_of shares_number clashes_at clashes judge_table mount_answer better pick some_below table.clear_where table.right_first table.right_page table.right_to table.right_table
mount_finds = refl

mount_picks : (current_table small array ≡ at 0) × (current_copy small array 0 0 ≡ at 1) × (filled_last small array ≡ at 2)
unfolding ones zero_bits number_width is_data_kind is_table_kind bytes_of number_of label_bytes encoded kind_of label_of all_ones stored_check counted_check whole table_main table.table_page raised put bit_at with_bit count_bits clear_from is_marked agrees complete_to is_complete is_table is_data is_copy_of any_to greatest_to has_number greatest greatest_below filled_last current_table current_copy current.page_of shares_number clashes_at clashes judge_table mount_answer better pick some_below table.clear_where table.right_first table.right_page table.right_to table.right_table
mount_picks = (refl, refl, refl)

mount-reads : reading small array 0 0 0 ++ reading small array 0 0 1 ≡ replicate 32 165 ++ replicate 32 255
unfolding ones zero_bits number_width is_data_kind is_table_kind bytes_of number_of label_bytes encoded kind_of label_of all_ones stored_check counted_check whole table_main table.table_page raised put bit_at with_bit count_bits clear_from is_marked agrees complete_to is_complete is_table is_data is_copy_of any_to greatest_to has_number greatest greatest_below filled_last current_table current_copy current.page_of formed is_white_kind shares_number clashes_at clashes judge_table mount_answer better pick some_below table.clear_where table.right_first table.right_page table.right_to table.right_table xored bytes_given bits_given stepped shifted
mount-reads = refl

-- the state that a mount gives
abbrev state : State
state =
    record { status = 1; table = 0; last = 2; number = 3; marked = replicate 512 0; invalid = replicate 512 0; map = set (replicate 4096 65535) 0 1; kinds = set (replicate 4096 0) 0 68 }

pages_tell : (greatest_below small array 4 ≡ 3) × (block_of (current_table small array) ≡ 0) × (block_of (filled_last small array) ≡ 2) × (marks_to small array 4 ≡ replicate 512 0) × (bits_at small array 0 ≡ replicate 512 0)
unfolding ones zero_bits number_width is_data_kind is_table_kind bytes_of number_of label_bytes encoded kind_of label_of all_ones stored_check counted_check whole table_main table.table_page raised put bit_at with_bit count_bits clear_from is_marked agrees complete_to is_complete is_table is_data is_copy_of any_to greatest_to has_number greatest greatest_below filled_last current_table current_copy current.page_of shares_number clashes_at clashes judge_table mount_answer better pick some_below table.clear_where table.right_first table.right_page table.right_to table.right_table marks_to map_in kinds_of tabulate entry_of block_of current.kind_at
pages_tell = (refl, refl, refl, refl, refl)

map_gives : map_in small array 0 ≡ set (replicate 4096 65535) 0 1
unfolding ones zero_bits number_width is_data_kind is_table_kind bytes_of number_of label_bytes encoded kind_of label_of all_ones stored_check counted_check whole table_main table.table_page raised put bit_at with_bit count_bits clear_from is_marked agrees complete_to is_complete is_table is_data is_copy_of any_to greatest_to has_number greatest greatest_below filled_last current_table current_copy current.page_of shares_number clashes_at clashes judge_table mount_answer better pick some_below table.clear_where table.right_first table.right_page table.right_to table.right_table marks_to map_in kinds_of tabulate entry_of block_of current.kind_at
map_gives = refl

kinds_gives : kinds_of small array 0 ≡ set (replicate 4096 0) 0 68
unfolding ones zero_bits number_width is_data_kind is_table_kind bytes_of number_of label_bytes encoded kind_of label_of all_ones stored_check counted_check whole table_main table.table_page raised put bit_at with_bit count_bits clear_from is_marked agrees complete_to is_complete is_table is_data is_copy_of any_to greatest_to has_number greatest greatest_below filled_last current_table current_copy current.page_of shares_number clashes_at clashes judge_table mount_answer better pick some_below table.clear_where table.right_first table.right_page table.right_to table.right_table marks_to map_in kinds_of tabulate entry_of block_of current.kind_at
kinds_gives = refl

mount_gives_lem : mounted_state small array ≡ state
unfolding mounted_state
mount_gives_lem =
    let t = pages_tell.1 in
    λ i. mounted_with (pages_tell.0 i) (t i) (pages_tell.2 i) (pages_tell.3 i) ((ap (bits_at small array) t ∙ pages_tell.4) i) ((ap (map_in small array) t ∙ map_gives) i) ((ap (kinds_of small array) t ∙ kinds_gives) i)

-- page 1 of logical block 0 takes 5Ah
abbrev written : Result
written =
    changing (setting small (replicate 192 0) []) (device powered_on array (replicate 48 255) (4 ∷ 4 ∷ 2 ∷ 0 ∷ [])) 10000 state (write_update state 0 1 (replicate 32 90))

abbrev kind_in : List ℕ → ℕ → ℕ
kind_in xs b = (label_in small (block_in small xs b) 0).kind

-- answer, the block filled and its number; the kinds side by side, a mount's answer, and the first two pages of logical block 0: the one kept and the one written
pub written-beside : (written.answer ∷ written.state.last ∷ written.state.number ∷ []) ++ (kind_in written.chip.array 0 ∷ kind_in written.chip.array 1 ∷ kind_in written.chip.array 3 ∷ mount_answer small written.chip.array ∷ [])
    ++ (reading small written.chip.array 0 0 0 ++ reading small written.chip.array 0 0 1)
    ≡ (0 ∷ 3 ∷ 4 ∷ []) ++ (84 ∷ 68 ∷ 108 ∷ 0 ∷ []) ++ (replicate 32 165 ++ replicate 32 90)
unfolding ones begun status_mode read_mode plain_command address_fits latched addressed fate_word next_fate started status_byte fitting read_started program_started erase_started completed is_confirm confirmed confirmable commanded data_taken data_given data_byte finished status_read exec programmed weakened raised put may_go cut_after send byte_out send_all sent goes_on waiting polls outcome_of is_passed ended_as read_cycles read_outcome put_out read_outputs started_by read_on stop_answer status_on status_end after_status status_answer status_state is_protected is_silent is_cut_off bit_at with_bit zero_bits number_width bytes_of number_of label_bytes encoded kind_of erase_on program_on is_failed main_of main_read page_filled pages_filled table_main permitted search_after after_fill try_block try_table tables_filled table.table_page is_data_kind is_table_kind copy_bits copy_tried after_try copies_filled then_table data_source is_given label_of all_ones stored_check counted_check whole count_bits clear_from is_marked agrees complete_to is_complete is_table is_data is_copy_of any_to greatest_to has_number greatest greatest_below filled_last current_table current_copy current.page_of formed is_white_kind shares_number clashes_at clashes judge_table mount_answer better pick some_below table.clear_where table.right_first table.right_page table.right_to table.right_table xored bytes_given bits_given stepped shifted
written-beside = refl
