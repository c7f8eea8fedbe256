-- Formattings computed on a small chip whose table lists a block: 32 main and 16 spare bytes, 4 pages, 4 blocks, 1 logical block. Assumes nothing.
use Prim.Native.Nat.{ℕ}
use mathlib.Core.Bool.{cond}
use mathlib.Core.List.{List, [], ◌∷◌, ◌++◌}
use mathlib.Core.Path.{◌≡◌, refl}
use lib.Count.{ones}
use lib.ListN.{replicate}
use Rattle.geometry.specs.declared.Geometry.{Geometry}
use Rattle.cells.specs.Cells.{programmed, weakened, raised}
use Rattle.cells.specs.Part.{put}
use Rattle.bitmaps.specs.Bitmap.{bit_at, with_bit, count_bits, clear_from}
use Rattle.chip_interface.specs.Interface.{powered_on, begun, status_mode, read_mode, plain_command, address_fits, latched, addressed, fate_word, next_fate, started, status_byte}
use Rattle.chip_array.specs.Device.{device, setting, fitting, read_started, program_started, erase_started, completed}
use Rattle.chip.specs.Chip.{is_confirm, confirmed, confirmable, commanded, data_taken, data_given, data_byte, finished, status_read, exec}
use Rattle.bus.specs.Line.{may_go, cut_after, send, byte_out, send_all, sent, goes_on}
use Rattle.bus_polling.specs.Polling.{waiting, polls, outcome_of, ended_as}
use Rattle.bus_polling.specs.Outcomes.{is_passed, is_failed, is_silent, is_cut_off, is_protected}
use Rattle.bus_sequences.specs.Cycles.{read_cycles, read_outcome, put_out, read_outputs}
use Rattle.operations.specs.Trace.{started_by}
use Rattle.operations.specs.Ends.{status_end}
use Rattle.whitening.specs.Stream.{shifted, stepped, bits_given, bytes_given}
use Rattle.whitening.specs.Whitened.{xored}
use Rattle.pages.specs.Check.{zero_bits}
use Rattle.pages.specs.Layout.{label, table_kind, number_width, is_data_kind, is_table_kind, bytes_of, number_of, label_bytes, encoded, kind_of, label_of, all_ones, stored_check, counted_check, whole, is_white_kind}
use Rattle.copies.specs.Blocks.{is_marked, any_to, greatest_to, agrees, complete_to, is_complete, is_table, has_number, greatest, formed}
use Rattle.copies.specs.Carried.{carried_by, listed_by}
use Rattle.copies.specs.Current.{current_table, greatest_below}
use Rattle.copies.specs.Pick.{better, pick}
use Rattle.copies.specs.Table as table
use Rattle.progress.specs.Progress.{read_on, reset_on, status_on}
use Rattle.progress.specs.Steps.{erase_on, program_on}
use Rattle.scan_block.specs.Pages.{pages_read}
use Rattle.scan_quick.specs.BlockRead.{block_read}
use Rattle.scan.specs.Scan.{blocks_read}
use Rattle.scan_found.specs.Contents.{entry_of}
use Rattle.scan_found.specs.Found.{marks_to}
use Rattle.state_choose.specs.Choose.{permitted, search_after, count_permitted}
use Rattle.state.specs.State.{blank, copy_bits}
use Rattle.request.specs.Call.{Result, result_of, sized, stop_answer, status_answer, status_state}
use Rattle.fill.specs.Fill.{main_of, main_read, page_filled, pages_filled, table_main}
use Rattle.fill_tables.specs.Tables.{after_status, after_fill, try_block, try_table, tables_filled}
use Rattle.format_erase.specs.Round.{after_erase, block_erased, failed_at, joined, numbers_at, erased_to}
use Rattle.format_scan.specs.Survey.{list_bits, union_to, passed_over}
use Rattle.format.specs.Format.{first_state, too_few, after_late, late_run, tables_run, round_run, status_run, reads_run, format_request, formatting}

abbrev chip : ℕ → Geometry
chip logical = record { main = 32; spare = 16; pages = 4; blocks = 4; logical = logical }

-- a table under number 7 for so many logical blocks, that lists the blocks whose bits one byte has set
abbrev table_block : ℕ → ℕ → List ℕ
table_block logical bits =
    encoded 16 (label table_kind 0 0 7) (table_main (chip logical) (bits ∷ []) 0)
    ++ (encoded 16 (label table_kind 0 1 7) (replicate 32 255)
    ++ (encoded 16 (label table_kind 0 2 7) (replicate 32 255) ++ encoded 16 (label table_kind 0 3 7) (replicate 32 255)))

-- a formatting for 1 logical block of a chip with such a table in block 0, which may send n cycles; its mask lets nothing through
abbrev formatted : ℕ → ℕ → ℕ → Result
formatted logical bits n =
    formatting (setting (chip 1) (replicate 192 0) []) (device powered_on (table_block logical bits ++ replicate 576 255) (replicate 48 255) (replicate 4 0)) n (blank 0)

-- the answer, the cycles, the block of the current table, and for each block whether it is listed
abbrev flag : List ℕ → ℕ → ℕ
flag array b = cond (listed_by (chip 1) array (current_table (chip 1) array) b) 1 0

abbrev told : Result → List ℕ
told r =
    r.answer ∷ r.sent ∷ entry_of (current_table (chip 1) r.chip.array) ∷ flag r.chip.array 0 ∷ flag r.chip.array 1 ∷ flag r.chip.array 2 ∷ flag r.chip.array 3 ∷ []

-- cut after the first round: the old table is current and lists block 3. Cut just before the late erase takes effect, the new one is. Uncut: it lists block 3,
-- and block 0 is erased. A table for 2 logical blocks is carried over all the same; one that lists its own block is not
formats_tell : told (formatted 1 8 947) ∷ told (formatted 1 8 1186) ∷ told (formatted 1 8 10000) ∷ told (formatted 2 8 10000) ∷ told (formatted 1 9 10000) ∷ []
    ≡ (11 ∷ 947 ∷ 0 ∷ 0 ∷ 0 ∷ 0 ∷ 1 ∷ [])
    ∷ (11 ∷ 1186 ∷ 1 ∷ 0 ∷ 0 ∷ 0 ∷ 1 ∷ [])
    ∷ (0 ∷ 1189 ∷ 1 ∷ 0 ∷ 0 ∷ 0 ∷ 1 ∷ [])
    ∷ (0 ∷ 1189 ∷ 1 ∷ 0 ∷ 0 ∷ 0 ∷ 1 ∷ [])
    ∷ (0 ∷ 1196 ∷ 0 ∷ 0 ∷ 0 ∷ 0 ∷ 0 ∷ [])
    ∷ []
unfolding result_of ones begun status_mode read_mode plain_command address_fits latched addressed fate_word next_fate started status_byte fitting read_started program_started erase_started completed is_confirm confirmed confirmable commanded data_taken data_given data_byte finished status_read exec programmed weakened raised put may_go cut_after send byte_out send_all sent goes_on waiting polls outcome_of is_passed ended_as read_cycles read_outcome put_out read_outputs started_by read_on reset_on status_on pages_read block_read blocks_read sized stop_answer is_silent is_cut_off bit_at with_bit count_bits zero_bits number_width bytes_of number_of label_bytes encoded kind_of label_of all_ones stored_check counted_check whole is_marked marks_to after_erase block_erased failed_at erased_to erase_on program_on is_failed main_of formed is_white_kind main_read page_filled pages_filled table_main permitted search_after count_permitted after_fill try_block try_table tables_filled first_state too_few tables_run round_run status_run reads_run format_request table.table_page is_data_kind is_table_kind any_to greatest joined numbers_at greatest_below greatest_to has_number status_end after_status after_late late_run union_to passed_over list_bits entry_of carried_by listed_by current_table better pick is_table is_complete complete_to agrees table.laid_table table.right_table table.right_to table.right_page table.right_first table.clear_where clear_from copy_bits status_answer status_state is_protected xored bytes_given bits_given stepped shifted
formats_tell = refl

-- formatted again after that cut: block 3 is still listed, and for 2 logical blocks too few blocks are left, which loses no entry either
abbrev again : ℕ → Result
again logical = formatting (setting (chip logical) (replicate 192 0) []) (formatted 1 8 947).chip 10000 (blank 0)

again_tells : told (again 1) ∷ told (again 2) ∷ [] ≡ (0 ∷ 1189 ∷ 1 ∷ 0 ∷ 0 ∷ 0 ∷ 1 ∷ []) ∷ (8 ∷ 947 ∷ 0 ∷ 0 ∷ 0 ∷ 0 ∷ 1 ∷ []) ∷ []
unfolding result_of ones begun status_mode read_mode plain_command address_fits latched addressed fate_word next_fate started status_byte fitting read_started program_started erase_started completed is_confirm confirmed confirmable commanded data_taken data_given data_byte finished status_read exec programmed weakened raised put may_go cut_after send byte_out send_all sent goes_on waiting polls outcome_of is_passed ended_as read_cycles read_outcome put_out read_outputs started_by read_on reset_on status_on pages_read block_read blocks_read sized stop_answer is_silent is_cut_off bit_at with_bit count_bits zero_bits number_width bytes_of number_of label_bytes encoded kind_of label_of all_ones stored_check counted_check whole is_marked marks_to after_erase block_erased failed_at erased_to erase_on program_on is_failed main_of formed is_white_kind main_read page_filled pages_filled table_main permitted search_after count_permitted after_fill try_block try_table tables_filled first_state too_few tables_run round_run status_run reads_run format_request table.table_page is_data_kind is_table_kind any_to greatest joined numbers_at greatest_below greatest_to has_number status_end after_status after_late late_run union_to passed_over list_bits entry_of carried_by listed_by current_table better pick is_table is_complete complete_to agrees table.laid_table table.right_table table.right_to table.right_page table.right_first table.clear_where clear_from copy_bits status_answer status_state is_protected xored bytes_given bits_given stepped shifted
again_tells = refl
