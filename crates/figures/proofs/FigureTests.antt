-- The paper's figures on the small chip, computed from the definitions. Assumes nothing.
use mathlib.Core.List.{[], ◌∷◌, ◌++◌}
use mathlib.Core.Path.{◌≡◌, refl}
use lib.Count.{ones}
use lib.ListN.{length, replicate, set}
use Rattle.chip_interface.specs.Interface.{begun, status_mode, read_mode, plain_command, address_fits, latched, addressed, fate_word, next_fate, started, status_byte}
use Rattle.chip_array.specs.Device.{setting, fitting, read_started, program_started, erase_started, completed}
use Rattle.chip.specs.Chip.{is_confirm, confirmed, confirmable, commanded, data_taken, data_given, data_byte, finished, status_read, exec}
use Rattle.cells.specs.Cells.{programmed, weakened, raised}
use Rattle.cells.specs.Part.{put}
use Rattle.bus.specs.Line.{may_go, cut_after, send, byte_out, send_all, sent, goes_on}
use Rattle.bus_polling.specs.Polling.{waiting, polls, outcome_of, ended_as}
use Rattle.bus_polling.specs.Outcomes.{is_passed, is_failed, is_silent, is_cut_off, is_protected}
use Rattle.bus_sequences.specs.Cycles.{read_cycles, read_outcome, put_out, read_outputs}
use Rattle.operations.specs.Trace.{started_by}
use Rattle.operations.specs.Ends.{status_end}
use Rattle.progress.specs.Progress.{read_on, reset_on, status_on}
use Rattle.scan_block.specs.Pages.{pages_from, pages_read}
use Rattle.scan_summary.specs.declared.Depth.TheVariants.{Full, Quick}
use Rattle.whitening.specs.Stream.{shifted, stepped, bits_given, bytes_given}
use Rattle.whitening.specs.Whitened.{xored}
use Rattle.copies.specs.Quick.{ends_whole}
use Rattle.scan_quick.specs.BlockRead.{ends_read, quick_read, block_read}
use Rattle.scan.specs.Scan.{blocks_read}
use Rattle.request.specs.Call.{call_line, sized, stop_answer, status_answer, status_state, result_of}
use Rattle.bitmaps.specs.Bitmap.{bit_at, with_bit, count_bits, clear_from, never_both}
use Rattle.pages.specs.Check.{zero_bits}
use Rattle.pages.specs.Layout.{number_width, is_data_kind, is_table_kind, bytes_of, number_of, label_bytes, encoded, kind_of, label_of, all_ones, stored_check, counted_check, whole, is_white_kind}
use Rattle.copies.specs.Blocks.{is_marked, any_to, greatest_to, agrees, complete_to, is_complete, is_table, is_data, is_copy_of, has_number, greatest, formed}
use Rattle.scan_found.specs.Contents.{entry_of}
use Rattle.scan_found.specs.Found.{marks_to}
use Rattle.format_erase.specs.Round.{after_erase, block_erased, failed_at, joined, numbers_at, erased_to}
use Rattle.progress.specs.Steps.{erase_on, program_on}
use Rattle.fill.specs.Fill.{main_of, main_read, page_filled, pages_filled, table_main}
use Rattle.state_choose.specs.Choose.{permitted, search_after, count_permitted}
use Rattle.state.specs.State.{blank, copy_bits, empty_from, sound_from, sound_entries, mounted, free_blocks}
use Rattle.fill_tables.specs.Tables.{after_status, after_fill, try_block, try_table, tables_filled}
use Rattle.format_scan.specs.Survey.{list_bits, union_to, passed_over}
use Rattle.format.specs.Format.{first_state, too_few, after_late, late_run, tables_run, round_run, status_run, reads_run, format_request, formatting}
use Rattle.copies.specs.Carried.{carried_by}
use Rattle.copies.specs.Current.{current_table, current_copy, greatest_below, next_number, filled_last, shares_number, clashes_at, clashes, judge_table, mount_answer}
use Rattle.copies.specs.Pick.{at, better, pick, some_below}
use Rattle.mount.specs.Mount.{mount_run}
use Rattle.copies.specs.Table as table
use Rattle.figures.specs.Figures as bench
use Rattle.figures.specs.Figures.{figures, mount_rows, format_rows, given, paper}

-- every starred case is as the paper says
pub figures_agree : given figures ≡ paper figures
unfolding result_of given paper ones begun status_mode read_mode plain_command address_fits latched addressed fate_word next_fate started status_byte fitting read_started program_started erase_started completed is_confirm confirmed confirmable commanded data_taken data_given data_byte finished status_read exec programmed weakened raised put may_go cut_after send byte_out send_all sent goes_on waiting polls outcome_of is_passed ended_as read_cycles read_outcome put_out read_outputs started_by read_on reset_on status_on pages_read block_read blocks_read sized stop_answer is_silent is_cut_off bit_at with_bit count_bits zero_bits number_width bytes_of number_of label_bytes encoded kind_of label_of all_ones stored_check counted_check whole is_marked marks_to after_erase block_erased failed_at erased_to erase_on program_on is_failed main_of formed is_white_kind main_read page_filled pages_filled table_main permitted search_after count_permitted after_fill try_block try_table tables_filled first_state too_few tables_run round_run status_run reads_run format_request table.table_page is_data_kind is_table_kind any_to greatest joined numbers_at greatest_below greatest_to has_number status_end after_status late_run after_late copy_bits list_bits union_to passed_over carried_by entry_of current_table pick better is_table is_complete complete_to agrees xored bytes_given bits_given stepped shifted
figures_agree = refl

-- a formatting, all FFh at the start
format_sends : bench.bench (bench.formatted []) ≡ 0 ∷ 1196 ∷ []
unfolding result_of ones begun status_mode read_mode plain_command address_fits latched addressed fate_word next_fate started status_byte fitting read_started program_started erase_started completed is_confirm confirmed confirmable commanded data_taken data_given data_byte finished status_read exec programmed weakened raised put may_go cut_after send byte_out send_all sent goes_on waiting polls outcome_of is_passed ended_as read_cycles read_outcome put_out read_outputs started_by read_on reset_on status_on pages_read block_read blocks_read sized stop_answer is_silent is_cut_off bit_at with_bit count_bits zero_bits number_width bytes_of number_of label_bytes encoded kind_of label_of all_ones stored_check counted_check whole is_marked marks_to after_erase block_erased failed_at erased_to erase_on program_on is_failed main_of formed is_white_kind main_read page_filled pages_filled table_main permitted search_after count_permitted after_fill try_block try_table tables_filled first_state too_few tables_run round_run status_run reads_run format_request table.table_page is_data_kind is_table_kind any_to greatest joined numbers_at greatest_below greatest_to has_number status_end after_status late_run after_late copy_bits list_bits union_to passed_over carried_by entry_of current_table pick better is_table is_complete complete_to agrees xored bytes_given bits_given stepped shifted
format_sends = refl

format_state : (bench.formatted []).state ≡ bench.formatted_state
unfolding result_of ones begun status_mode read_mode plain_command address_fits latched addressed fate_word next_fate started status_byte fitting read_started program_started erase_started completed is_confirm confirmed confirmable commanded data_taken data_given data_byte finished status_read exec programmed weakened raised put may_go cut_after send byte_out send_all sent goes_on waiting polls outcome_of is_passed ended_as read_cycles read_outcome put_out read_outputs started_by read_on reset_on status_on pages_read block_read blocks_read sized stop_answer is_silent is_cut_off bit_at with_bit count_bits zero_bits number_width bytes_of number_of label_bytes encoded kind_of label_of all_ones stored_check counted_check whole is_marked marks_to after_erase block_erased failed_at erased_to erase_on program_on is_failed main_of formed is_white_kind main_read page_filled pages_filled table_main permitted search_after count_permitted after_fill try_block try_table tables_filled first_state too_few tables_run round_run status_run reads_run format_request table.table_page is_data_kind is_table_kind any_to greatest joined numbers_at greatest_below greatest_to has_number status_end after_status late_run after_late copy_bits list_bits union_to passed_over carried_by entry_of current_table pick better is_table is_complete complete_to agrees xored bytes_given bits_given stepped shifted
format_state = refl

format_table : (bench.formatted []).chip.array ≡ bench.table_array
unfolding result_of ones begun status_mode read_mode plain_command address_fits latched addressed fate_word next_fate started status_byte fitting read_started program_started erase_started completed is_confirm confirmed confirmable commanded data_taken data_given data_byte finished status_read exec programmed weakened raised put may_go cut_after send byte_out send_all sent goes_on waiting polls outcome_of is_passed ended_as read_cycles read_outcome put_out read_outputs started_by read_on reset_on status_on pages_read block_read blocks_read sized stop_answer is_silent is_cut_off bit_at with_bit count_bits zero_bits number_width bytes_of number_of label_bytes encoded kind_of label_of all_ones stored_check counted_check whole is_marked marks_to after_erase block_erased failed_at erased_to erase_on program_on is_failed main_of formed is_white_kind main_read page_filled pages_filled table_main permitted search_after count_permitted after_fill try_block try_table tables_filled first_state too_few tables_run round_run status_run reads_run format_request table.table_page is_data_kind is_table_kind any_to greatest joined numbers_at greatest_below greatest_to has_number status_end after_status late_run after_late copy_bits list_bits union_to passed_over carried_by entry_of current_table pick better is_table is_complete complete_to agrees xored bytes_given bits_given stepped shifted
format_table = refl

-- one cycle fewer allowed
format_cut : (formatting (bench.call []) (bench.chip_with (replicate 768 255)) 1195 (blank 0)).answer ≡ 11
unfolding result_of ones begun status_mode read_mode plain_command address_fits latched addressed fate_word next_fate started status_byte fitting read_started program_started erase_started completed is_confirm confirmed confirmable commanded data_taken data_given data_byte finished status_read exec programmed weakened raised put may_go cut_after send byte_out send_all sent goes_on waiting polls outcome_of is_passed ended_as read_cycles read_outcome put_out read_outputs started_by read_on reset_on status_on pages_read block_read blocks_read sized stop_answer is_silent is_cut_off bit_at with_bit count_bits zero_bits number_width bytes_of number_of label_bytes encoded kind_of label_of all_ones stored_check counted_check whole is_marked marks_to after_erase block_erased failed_at erased_to erase_on program_on is_failed main_of formed is_white_kind main_read page_filled pages_filled table_main permitted search_after count_permitted after_fill try_block try_table tables_filled first_state too_few tables_run round_run status_run reads_run format_request table.table_page is_data_kind is_table_kind any_to greatest joined numbers_at greatest_below greatest_to has_number status_end after_status late_run after_late copy_bits list_bits union_to passed_over carried_by entry_of current_table pick better is_table is_complete complete_to agrees xored bytes_given bits_given stepped shifted
format_cut = refl

-- one marked block of four
format_marked : bench.bench (formatting (bench.call []) (bench.chip_with (set (replicate 768 255) 416 0)) 10000 (blank 0)) ≡ 8 ∷ 954 ∷ []
unfolding result_of ones begun status_mode read_mode plain_command address_fits latched addressed fate_word next_fate started status_byte fitting read_started program_started erase_started completed is_confirm confirmed confirmable commanded data_taken data_given data_byte finished status_read exec programmed weakened raised put may_go cut_after send byte_out send_all sent goes_on waiting polls outcome_of is_passed ended_as read_cycles read_outcome put_out read_outputs started_by read_on reset_on status_on pages_read block_read blocks_read sized stop_answer is_silent is_cut_off bit_at with_bit count_bits zero_bits number_width bytes_of number_of label_bytes encoded kind_of label_of all_ones stored_check counted_check whole is_marked marks_to after_erase block_erased failed_at erased_to erase_on program_on is_failed main_of formed is_white_kind main_read page_filled pages_filled table_main permitted search_after count_permitted after_fill try_block try_table tables_filled first_state too_few tables_run round_run status_run reads_run format_request table.table_page copy_bits free_blocks mounted clear_from never_both empty_from sound_from sound_entries is_data_kind is_table_kind any_to greatest joined numbers_at greatest_below greatest_to has_number status_end after_status late_run after_late list_bits union_to passed_over carried_by entry_of current_table pick better is_table is_complete complete_to agrees xored bytes_given bits_given stepped shifted
format_marked = refl

-- the line is low: 13 after the page reads and the status read, and the state as it came; one cycle fewer allowed
format_protected : bench.bench (formatting (bench.call []) bench.protected_chip 10000 bench.formatted_state) ≡ 13 ∷ 933 ∷ []
unfolding result_of ones begun status_mode read_mode plain_command address_fits latched addressed fate_word next_fate started status_byte fitting read_started program_started erase_started completed is_confirm confirmed confirmable commanded data_taken data_given data_byte finished status_read exec programmed weakened raised put may_go cut_after send byte_out send_all sent goes_on waiting polls outcome_of is_passed ended_as read_cycles read_outcome put_out read_outputs started_by read_on reset_on status_on pages_read block_read blocks_read sized stop_answer is_silent is_cut_off bit_at with_bit count_bits zero_bits number_width bytes_of number_of label_bytes encoded kind_of label_of all_ones stored_check counted_check whole is_marked marks_to after_erase block_erased failed_at erased_to erase_on program_on is_failed main_of formed is_white_kind main_read page_filled pages_filled table_main permitted search_after count_permitted after_fill try_block try_table tables_filled first_state too_few tables_run round_run status_run reads_run format_request table.table_page copy_bits free_blocks mounted clear_from never_both empty_from sound_from sound_entries is_data_kind is_table_kind any_to greatest joined numbers_at greatest_below greatest_to has_number status_end after_status status_answer status_state is_protected late_run after_late list_bits union_to passed_over carried_by entry_of current_table pick better is_table is_complete complete_to agrees xored bytes_given bits_given stepped shifted
format_protected = refl

format_protected_state : (formatting (bench.call []) bench.protected_chip 10000 bench.formatted_state).state ≡ bench.formatted_state
unfolding result_of ones begun status_mode read_mode plain_command address_fits latched addressed fate_word next_fate started status_byte fitting read_started program_started erase_started completed is_confirm confirmed confirmable commanded data_taken data_given data_byte finished status_read exec programmed weakened raised put may_go cut_after send byte_out send_all sent goes_on waiting polls outcome_of is_passed ended_as read_cycles read_outcome put_out read_outputs started_by read_on reset_on status_on pages_read block_read blocks_read sized stop_answer is_silent is_cut_off bit_at with_bit count_bits zero_bits number_width bytes_of number_of label_bytes encoded kind_of label_of all_ones stored_check counted_check whole is_marked marks_to after_erase block_erased failed_at erased_to erase_on program_on is_failed main_of formed is_white_kind main_read page_filled pages_filled table_main permitted search_after count_permitted after_fill try_block try_table tables_filled first_state too_few tables_run round_run status_run reads_run format_request table.table_page copy_bits free_blocks mounted clear_from never_both empty_from sound_from sound_entries is_data_kind is_table_kind any_to greatest joined numbers_at greatest_below greatest_to has_number status_end after_status status_answer status_state is_protected late_run after_late list_bits union_to passed_over carried_by entry_of current_table pick better is_table is_complete complete_to agrees xored bytes_given bits_given stepped shifted
format_protected_state = refl

format_protected_cut : bench.bench (formatting (bench.call []) bench.protected_chip 932 bench.formatted_state) ≡ 11 ∷ 932 ∷ []
unfolding result_of ones begun status_mode read_mode plain_command address_fits latched addressed fate_word next_fate started status_byte fitting read_started program_started erase_started completed is_confirm confirmed confirmable commanded data_taken data_given data_byte finished status_read exec programmed weakened raised put may_go cut_after send byte_out send_all sent goes_on waiting polls outcome_of is_passed ended_as read_cycles read_outcome put_out read_outputs started_by read_on reset_on status_on pages_read block_read blocks_read sized stop_answer is_silent is_cut_off bit_at with_bit count_bits zero_bits number_width bytes_of number_of label_bytes encoded kind_of label_of all_ones stored_check counted_check whole is_marked marks_to after_erase block_erased failed_at erased_to erase_on program_on is_failed main_of formed is_white_kind main_read page_filled pages_filled table_main permitted search_after count_permitted after_fill try_block try_table tables_filled first_state too_few tables_run round_run status_run reads_run format_request table.table_page copy_bits free_blocks mounted clear_from never_both empty_from sound_from sound_entries is_data_kind is_table_kind any_to greatest joined numbers_at greatest_below greatest_to has_number status_end after_status status_answer status_state is_protected late_run after_late list_bits union_to passed_over carried_by entry_of current_table pick better is_table is_complete complete_to agrees xored bytes_given bits_given stepped shifted
format_protected_cut = refl

-- three logical blocks on four blocks
format_wide : bench.bench (formatting (setting (record { main = 32; spare = 16; pages = 4; blocks = 4; logical = 3 }) (replicate 192 0) []) (bench.chip_with (replicate 768 255)) 10000 (blank 0)) ≡ 1 ∷ 0 ∷ []
unfolding result_of ones begun status_mode read_mode plain_command address_fits latched addressed fate_word next_fate started status_byte fitting read_started program_started erase_started completed is_confirm confirmed confirmable commanded data_taken data_given data_byte finished status_read exec programmed weakened raised put may_go cut_after send byte_out send_all sent goes_on waiting polls outcome_of is_passed ended_as read_cycles read_outcome put_out read_outputs started_by read_on reset_on status_on pages_read block_read blocks_read sized stop_answer is_silent is_cut_off bit_at with_bit count_bits zero_bits number_width bytes_of number_of label_bytes encoded kind_of label_of all_ones stored_check counted_check whole is_marked marks_to after_erase block_erased failed_at erased_to erase_on program_on is_failed main_of formed is_white_kind main_read page_filled pages_filled table_main permitted search_after count_permitted after_fill try_block try_table tables_filled first_state too_few tables_run round_run status_run reads_run format_request table.table_page copy_bits free_blocks mounted clear_from never_both empty_from sound_from sound_entries is_data_kind is_table_kind any_to greatest joined numbers_at greatest_below greatest_to has_number status_end after_status late_run after_late list_bits union_to passed_over carried_by entry_of current_table pick better is_table is_complete complete_to agrees xored bytes_given bits_given stepped shifted
format_wide = refl

-- a formatting of a chip that bears a table: the list is carried over, and its block is erased last
format_carries : bench.again (bench.formatted_again 8 []) ≡ 0 ∷ 1189 ∷ 1 ∷ 8 ∷ 8 ∷ []
unfolding result_of ones begun status_mode read_mode plain_command address_fits latched addressed fate_word next_fate started status_byte fitting read_started program_started erase_started completed is_confirm confirmed confirmable commanded data_taken data_given data_byte finished status_read exec programmed weakened raised put may_go cut_after send byte_out send_all sent goes_on waiting polls outcome_of is_passed ended_as read_cycles read_outcome put_out read_outputs started_by read_on reset_on status_on pages_read block_read blocks_read sized stop_answer is_silent is_cut_off bit_at with_bit count_bits zero_bits number_width bytes_of number_of label_bytes encoded kind_of label_of all_ones stored_check counted_check whole is_marked marks_to after_erase block_erased failed_at erased_to erase_on program_on is_failed main_of formed is_white_kind main_read page_filled pages_filled table_main permitted search_after count_permitted after_fill try_block try_table tables_filled first_state too_few tables_run round_run status_run reads_run format_request table.table_page is_data_kind is_table_kind any_to greatest joined numbers_at greatest_below greatest_to has_number status_end after_status late_run after_late copy_bits list_bits union_to passed_over carried_by entry_of current_table pick better is_table is_complete complete_to agrees table.clear_where table.right_first table.right_page table.right_to table.right_table table.laid_table clear_from xored bytes_given bits_given stepped shifted
format_carries = refl

-- that erase fails: a second table lists the block
format_late : bench.again (bench.formatted_again 8 (replicate 23 0 ++ (65536 ∷ []))) ≡ 0 ∷ 1424 ∷ 2 ∷ 9 ∷ 9 ∷ []
unfolding result_of ones begun status_mode read_mode plain_command address_fits latched addressed fate_word next_fate started status_byte fitting read_started program_started erase_started completed is_confirm confirmed confirmable commanded data_taken data_given data_byte finished status_read exec programmed weakened raised put may_go cut_after send byte_out send_all sent goes_on waiting polls outcome_of is_passed ended_as read_cycles read_outcome put_out read_outputs started_by read_on reset_on status_on pages_read block_read blocks_read sized stop_answer is_silent is_cut_off bit_at with_bit count_bits zero_bits number_width bytes_of number_of label_bytes encoded kind_of label_of all_ones stored_check counted_check whole is_marked marks_to after_erase block_erased failed_at erased_to erase_on program_on is_failed main_of formed is_white_kind main_read page_filled pages_filled table_main permitted search_after count_permitted after_fill try_block try_table tables_filled first_state too_few tables_run round_run status_run reads_run format_request table.table_page is_data_kind is_table_kind any_to greatest joined numbers_at greatest_below greatest_to has_number status_end after_status late_run after_late copy_bits list_bits union_to passed_over carried_by entry_of current_table pick better is_table is_complete complete_to agrees table.clear_where table.right_first table.right_page table.right_to table.right_table table.laid_table clear_from xored bytes_given bits_given stepped shifted
format_late = refl

-- an empty list; one that lists its own block is not carried over, and so nothing is spared
format_empty : bench.again (bench.formatted_again 0 []) ≡ 0 ∷ 1196 ∷ 1 ∷ 8 ∷ 0 ∷ []
unfolding result_of ones begun status_mode read_mode plain_command address_fits latched addressed fate_word next_fate started status_byte fitting read_started program_started erase_started completed is_confirm confirmed confirmable commanded data_taken data_given data_byte finished status_read exec programmed weakened raised put may_go cut_after send byte_out send_all sent goes_on waiting polls outcome_of is_passed ended_as read_cycles read_outcome put_out read_outputs started_by read_on reset_on status_on pages_read block_read blocks_read sized stop_answer is_silent is_cut_off bit_at with_bit count_bits zero_bits number_width bytes_of number_of label_bytes encoded kind_of label_of all_ones stored_check counted_check whole is_marked marks_to after_erase block_erased failed_at erased_to erase_on program_on is_failed main_of formed is_white_kind main_read page_filled pages_filled table_main permitted search_after count_permitted after_fill try_block try_table tables_filled first_state too_few tables_run round_run status_run reads_run format_request table.table_page is_data_kind is_table_kind any_to greatest joined numbers_at greatest_below greatest_to has_number status_end after_status late_run after_late copy_bits list_bits union_to passed_over carried_by entry_of current_table pick better is_table is_complete complete_to agrees table.clear_where table.right_first table.right_page table.right_to table.right_table table.laid_table clear_from xored bytes_given bits_given stepped shifted
format_empty = refl

format_own : bench.again (bench.formatted_again 9 []) ≡ 0 ∷ 1196 ∷ 0 ∷ 8 ∷ 0 ∷ []
unfolding result_of ones begun status_mode read_mode plain_command address_fits latched addressed fate_word next_fate started status_byte fitting read_started program_started erase_started completed is_confirm confirmed confirmable commanded data_taken data_given data_byte finished status_read exec programmed weakened raised put may_go cut_after send byte_out send_all sent goes_on waiting polls outcome_of is_passed ended_as read_cycles read_outcome put_out read_outputs started_by read_on reset_on status_on pages_read block_read blocks_read sized stop_answer is_silent is_cut_off bit_at with_bit count_bits zero_bits number_width bytes_of number_of label_bytes encoded kind_of label_of all_ones stored_check counted_check whole is_marked marks_to after_erase block_erased failed_at erased_to erase_on program_on is_failed main_of formed is_white_kind main_read page_filled pages_filled table_main permitted search_after count_permitted after_fill try_block try_table tables_filled first_state too_few tables_run round_run status_run reads_run format_request table.table_page is_data_kind is_table_kind any_to greatest joined numbers_at greatest_below greatest_to has_number status_end after_status late_run after_late copy_bits list_bits union_to passed_over carried_by entry_of current_table pick better is_table is_complete complete_to agrees table.clear_where table.right_first table.right_page table.right_to table.right_table table.laid_table clear_from xored bytes_given bits_given stepped shifted
format_own = refl

-- cut after the erases of blocks 1 and 2: the old table is current, and lists block 3
format_cut_between : current_table bench.small (formatting (setting (record { main = 32; spare = 16; pages = 4; blocks = 4; logical = 1 }) (replicate 192 0) []) (bench.chip_with (bench.array_with 0 (bench.table_block 7 8))) 947 (blank 0)).chip.array ≡ at 0
unfolding result_of ones begun status_mode read_mode plain_command address_fits latched addressed fate_word next_fate started status_byte fitting read_started program_started erase_started completed is_confirm confirmed confirmable commanded data_taken data_given data_byte finished status_read exec programmed weakened raised put may_go cut_after send byte_out send_all sent goes_on waiting polls outcome_of is_passed ended_as read_cycles read_outcome put_out read_outputs started_by read_on reset_on status_on pages_read block_read blocks_read sized stop_answer is_silent is_cut_off bit_at with_bit count_bits zero_bits number_width bytes_of number_of label_bytes encoded kind_of label_of all_ones stored_check counted_check whole is_marked marks_to after_erase block_erased failed_at erased_to erase_on program_on is_failed main_of formed is_white_kind main_read page_filled pages_filled table_main permitted search_after count_permitted after_fill try_block try_table tables_filled first_state too_few tables_run round_run status_run reads_run format_request table.table_page is_data_kind is_table_kind any_to greatest joined numbers_at greatest_below greatest_to has_number status_end after_status late_run after_late copy_bits list_bits union_to passed_over carried_by entry_of current_table pick better is_table is_complete complete_to agrees table.clear_where table.right_first table.right_page table.right_to table.right_table table.laid_table clear_from xored bytes_given bits_given stepped shifted
format_cut_between = refl

-- a mount of what was formatted: 16 pages of 48 bytes and the reset
mount_sends : length (mount_run Full (bench.call []) (call_line (bench.chip_with bench.table_array) 10000)).cycles ≡ 931
unfolding result_of ones begun status_mode read_mode plain_command address_fits latched addressed fate_word next_fate started status_byte fitting read_started program_started erase_started completed is_confirm confirmed confirmable commanded data_taken data_given data_byte finished status_read exec programmed weakened raised put may_go cut_after send byte_out send_all sent goes_on waiting polls outcome_of is_passed ended_as read_cycles read_outcome put_out read_outputs started_by read_on reset_on status_on pages_read block_read blocks_read sized stop_answer is_silent is_cut_off bit_at with_bit count_bits zero_bits number_width bytes_of number_of label_bytes encoded kind_of label_of all_ones stored_check counted_check whole is_marked marks_to after_erase block_erased failed_at erased_to erase_on program_on is_failed main_of formed is_white_kind main_read page_filled pages_filled table_main permitted search_after count_permitted after_fill try_block try_table tables_filled first_state too_few tables_run round_run status_run reads_run format_request table.table_page is_data_kind is_table_kind any_to greatest joined numbers_at greatest_below greatest_to has_number status_end after_status late_run after_late copy_bits list_bits union_to passed_over carried_by entry_of current_table pick better is_table is_complete complete_to agrees xored bytes_given bits_given stepped shifted
mount_sends = refl

-- a quick mount of it: the table's 4 pages, two of each other block, and a byte of each block
quick_mount_sends : length (mount_run Quick (bench.call []) (call_line (bench.chip_with bench.table_array) 10000)).cycles ≡ 627
unfolding result_of ones begun status_mode read_mode plain_command address_fits latched addressed fate_word next_fate started status_byte fitting read_started program_started erase_started completed is_confirm confirmed confirmable commanded data_taken data_given data_byte finished status_read exec programmed weakened raised put may_go cut_after send byte_out send_all sent goes_on waiting polls outcome_of is_passed ended_as read_cycles read_outcome put_out read_outputs started_by read_on reset_on status_on pages_from ends_whole ends_read quick_read block_read blocks_read sized stop_answer is_silent is_cut_off bit_at with_bit count_bits zero_bits number_width bytes_of number_of label_bytes encoded kind_of label_of all_ones stored_check counted_check whole is_marked marks_to after_erase block_erased failed_at erased_to erase_on program_on is_failed main_of formed is_white_kind main_read page_filled pages_filled table_main permitted search_after count_permitted after_fill try_block try_table tables_filled first_state too_few tables_run round_run status_run reads_run format_request table.table_page is_data_kind is_table_kind any_to greatest joined numbers_at greatest_below greatest_to has_number status_end after_status late_run after_late copy_bits list_bits union_to passed_over carried_by entry_of current_table pick better is_table is_complete complete_to agrees xored bytes_given bits_given stepped shifted
quick_mount_sends = refl

-- mounts answered 0, 4, 5 and 6: the table, an erased chip, the table of another geometry, a copy of a block that is none
mount_done : mount_answer bench.small bench.table_array ≡ 0
unfolding agrees complete_to is_complete is_table is_data is_copy_of has_number greatest is_marked any_to greatest_to current_table current_copy greatest_below next_number filled_last shares_number clashes_at clashes judge_table mount_answer better pick some_below table.clear_where table.right_first table.right_page table.right_to table.right_table table.table_page table_main put number_width is_data_kind is_table_kind bytes_of number_of label_bytes encoded kind_of label_of all_ones stored_check counted_check whole zero_bits ones bit_at with_bit count_bits clear_from joined numbers_at
mount_done = refl

mount-none : mount_answer bench.small (replicate 768 255) ≡ 4
unfolding agrees complete_to is_complete is_table is_data is_copy_of has_number greatest is_marked any_to greatest_to current_table current_copy greatest_below next_number filled_last shares_number clashes_at clashes judge_table mount_answer better pick some_below table.clear_where table.right_first table.right_page table.right_to table.right_table table.table_page table_main put number_width is_data_kind is_table_kind bytes_of number_of label_bytes encoded kind_of label_of all_ones stored_check counted_check whole zero_bits ones bit_at with_bit count_bits clear_from joined numbers_at
mount-none = refl

mount-wrong : mount_answer (record { main = 32; spare = 16; pages = 4; blocks = 4; logical = 1 }) bench.table_array ≡ 5
unfolding agrees complete_to is_complete is_table is_data is_copy_of has_number greatest is_marked any_to greatest_to current_table current_copy greatest_below next_number filled_last shares_number clashes_at clashes judge_table mount_answer better pick some_below table.clear_where table.right_first table.right_page table.right_to table.right_table table.table_page table_main put number_width is_data_kind is_table_kind bytes_of number_of label_bytes encoded kind_of label_of all_ones stored_check counted_check whole zero_bits ones bit_at with_bit count_bits clear_from joined numbers_at
mount-wrong = refl

mount_clash : mount_answer bench.small (bench.copy_array 1 2 2) ≡ 6
unfolding agrees complete_to is_complete is_table is_data is_copy_of has_number greatest is_marked any_to greatest_to current_table current_copy greatest_below next_number filled_last shares_number clashes_at clashes judge_table mount_answer better pick some_below table.clear_where table.right_first table.right_page table.right_to table.right_table table.table_page table_main put number_width is_data_kind is_table_kind bytes_of number_of label_bytes encoded kind_of label_of all_ones stored_check counted_check whole zero_bits ones bit_at with_bit count_bits clear_from joined numbers_at
mount_clash = refl

-- where conditions meet, the answers are those of the paper's table
pub mount_rows_agree : given mount_rows ≡ paper mount_rows
unfolding given paper agrees complete_to is_complete is_table is_data is_copy_of is_marked current_table current_copy next_number filled_last shares_number clashes_at clashes judge_table mount_answer better pick some_below table.clear_where table.right_first table.right_page table.right_to table.right_table table.table_page table_main put number_width bytes_of number_of label_bytes encoded kind_of label_of all_ones stored_check counted_check whole zero_bits ones bit_at with_bit count_bits clear_from is_data_kind is_table_kind any_to greatest joined numbers_at greatest_below greatest_to has_number
mount_rows_agree = refl

pub format_rows_agree : given format_rows ≡ paper format_rows
unfolding result_of given paper ones begun status_mode read_mode plain_command address_fits latched addressed fate_word next_fate started status_byte fitting read_started program_started erase_started completed is_confirm confirmed confirmable commanded data_taken data_given data_byte finished status_read exec programmed weakened raised put may_go cut_after send byte_out send_all sent goes_on waiting polls outcome_of is_passed ended_as read_cycles read_outcome put_out read_outputs started_by read_on reset_on status_on pages_read block_read blocks_read sized stop_answer is_silent is_cut_off bit_at with_bit count_bits zero_bits number_width bytes_of number_of label_bytes encoded kind_of label_of all_ones stored_check counted_check whole is_marked marks_to after_erase block_erased failed_at erased_to erase_on program_on is_failed main_of formed is_white_kind main_read page_filled pages_filled table_main permitted search_after count_permitted after_fill try_block try_table tables_filled first_state too_few tables_run round_run status_run reads_run format_request table.table_page is_data_kind is_table_kind any_to greatest joined numbers_at greatest_below greatest_to has_number status_end after_status late_run after_late copy_bits list_bits union_to passed_over carried_by entry_of current_table pick better is_table is_complete complete_to agrees clear_from table.clear_where table.right_first table.right_page table.right_to table.right_table table.laid_table xored bytes_given bits_given stepped shifted
format_rows_agree = refl
