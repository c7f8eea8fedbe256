-- Writes and erases computed on the small chip: 32 main and 16 spare bytes, 4 pages, 4 blocks, 2 logical blocks. Assumes nothing.
use Prim.Native.Nat.{ℕ}
use mathlib.Core.List.{List, [], ◌∷◌}
use mathlib.Core.Path.{◌≡◌, refl}
use lib.Count.{ones}
use lib.ListN.{replicate, set}
use Rattle.geometry.specs.declared.Geometry.{Geometry}
use Rattle.cells.specs.Cells.{programmed, weakened, raised}
use Rattle.cells.specs.Part.{put}
use Rattle.bitmaps.specs.Bitmap.{bit_at, with_bit}
use Rattle.chip_interface.specs.Interface.{powered_on, begun, status_mode, read_mode, plain_command, address_fits, latched, addressed, fate_word, next_fate, started, status_byte}
use Rattle.chip_array.specs.Device.{Device, Setting, device, setting, fitting, read_started, program_started, erase_started, completed}
use Rattle.chip.specs.Chip.{is_confirm, confirmed, confirmable, commanded, data_taken, data_given, data_byte, finished, status_read, exec}
use Rattle.bus.specs.Line.{may_go, cut_after, send, byte_out, send_all, sent, goes_on}
use Rattle.bus_polling.specs.Polling.{waiting, polls, outcome_of, ended_as}
use Rattle.bus_polling.specs.Outcomes.{is_passed, is_failed, is_silent, is_cut_off, is_protected}
use Rattle.bus_sequences.specs.Cycles.{read_cycles, read_outcome, put_out, read_outputs}
use Rattle.operations.specs.Trace.{started_by}
use Rattle.whitening.specs.Stream.{shifted, stepped, bits_given, bytes_given}
use Rattle.whitening.specs.Whitened.{xored}
use Rattle.pages.specs.Check.{zero_bits}
use Rattle.pages.specs.Layout.{data_kind, number_width, is_data_kind, is_table_kind, bytes_of, number_of, label_bytes, encoded, kind_of, is_white_kind}
use Rattle.copies.specs.Table as table
use Rattle.state_choose.specs.Choose.{permitted, search_after}
use Rattle.state.specs.State.{copy_bits}
use Rattle.state.specs.declared.State.{State}
use Rattle.operations.specs.Ends.{status_end}
use Rattle.progress.specs.Progress.{read_on, status_on}
use Rattle.progress.specs.Steps.{erase_on, program_on}
use Rattle.request.specs.Call.{Result, stop_answer, status_answer, status_state}
use Rattle.copies.specs.Blocks.{formed}
use Rattle.fill.specs.Fill.{main_of, main_read, page_filled, pages_filled, table_main, data_source, is_given}
use Rattle.fill_tables.specs.Tables.{after_status, after_fill, try_block, try_table, tables_filled}
use Rattle.write_changes.specs.Changes.{write_update, erase_update, after_try, copy_tried, copies_filled, then_table, changing}

abbrev small : Geometry
small = record { main = 32; spare = 16; pages = 4; blocks = 4; logical = 2 }

-- a call with these fates whose mask lets nothing through
abbrev call : List ℕ → Setting
call fates = setting small (replicate 192 0) fates

abbrev chip : Device
chip = device powered_on (replicate 768 255) (replicate 48 255) (replicate 4 0)

-- the state with the table in block 0, block last filled last, this greatest number taken, and the copy of logical block 0 in block b
abbrev state : ℕ → ℕ → ℕ → State
state last number b =
    record { status = 1; table = 0; last = last; number = number; marked = replicate 512 0; invalid = replicate 512 0; map = set (replicate 4096 65535) 0 b; kinds = set (replicate 4096 0) 0 data_kind }

-- page 0 of logical block 0 takes A5h
abbrev written : List ℕ → State → Result
written fates st = changing (call fates) chip 10000 st (write_update st 0 0 (replicate 32 165))

-- answer, cycles, the block of the table, the block filled last and the greatest number taken
abbrev told : Result → List ℕ
told r = r.answer ∷ r.sent ∷ r.state.table ∷ r.state.last ∷ r.state.number ∷ []

-- without an old copy: 237 cycles, in block 1 under number 2
first-write : told (written [] (state 0 1 65535)) ≡ 0 ∷ 237 ∷ 0 ∷ 1 ∷ 2 ∷ []
unfolding ones begun status_mode read_mode plain_command address_fits latched addressed fate_word next_fate started status_byte fitting read_started program_started erase_started completed is_confirm confirmed confirmable commanded data_taken data_given data_byte finished status_read exec programmed weakened raised put may_go cut_after send byte_out send_all sent goes_on waiting polls outcome_of is_passed ended_as read_cycles read_outcome put_out read_outputs started_by read_on stop_answer status_on status_end after_status status_answer status_state is_protected is_silent is_cut_off bit_at with_bit zero_bits number_width bytes_of number_of label_bytes encoded kind_of erase_on program_on is_failed main_of formed is_white_kind main_read page_filled pages_filled table_main permitted search_after after_fill try_block try_table tables_filled table.table_page is_data_kind is_table_kind copy_bits copy_tried after_try copies_filled then_table data_source is_given xored bytes_given bits_given stepped shifted
first-write = refl

-- over an old copy in block 1 three pages are read: 363 cycles, in block 2
second-write : told (written [] (state 1 2 1)) ≡ 0 ∷ 363 ∷ 0 ∷ 2 ∷ 3 ∷ []
unfolding ones begun status_mode read_mode plain_command address_fits latched addressed fate_word next_fate started status_byte fitting read_started program_started erase_started completed is_confirm confirmed confirmable commanded data_taken data_given data_byte finished status_read exec programmed weakened raised put may_go cut_after send byte_out send_all sent goes_on waiting polls outcome_of is_passed ended_as read_cycles read_outcome put_out read_outputs started_by read_on stop_answer status_on status_end after_status status_answer status_state is_protected is_silent is_cut_off bit_at with_bit zero_bits number_width bytes_of number_of label_bytes encoded kind_of erase_on program_on is_failed main_of formed is_white_kind main_read page_filled pages_filled table_main permitted search_after after_fill try_block try_table tables_filled table.table_page is_data_kind is_table_kind copy_bits copy_tried after_try copies_filled then_table data_source is_given xored bytes_given bits_given stepped shifted
second-write = refl

-- an erase fills a copy of FFh, with nothing read
erase_copy : told (changing (call []) chip 10000 (state 1 2 1) (erase_update 0)) ≡ 0 ∷ 237 ∷ 0 ∷ 2 ∷ 3 ∷ []
unfolding ones begun status_mode read_mode plain_command address_fits latched addressed fate_word next_fate started status_byte fitting read_started program_started erase_started completed is_confirm confirmed confirmable commanded data_taken data_given data_byte finished status_read exec programmed weakened raised put may_go cut_after send byte_out send_all sent goes_on waiting polls outcome_of is_passed ended_as read_cycles read_outcome put_out read_outputs started_by read_on stop_answer status_on status_end after_status status_answer status_state is_protected is_silent is_cut_off bit_at with_bit zero_bits number_width bytes_of number_of label_bytes encoded kind_of erase_on program_on is_failed main_of formed is_white_kind main_read page_filled pages_filled table_main permitted search_after after_fill try_block try_table tables_filled table.table_page is_data_kind is_table_kind copy_bits copy_tried after_try copies_filled then_table data_source is_given xored bytes_given bits_given stepped shifted
erase_copy = refl

-- the first erase fails: another fill in block 3, then a table in block 1, which the old copy left
failed_erase : told (written (65536 ∷ []) (state 1 2 1)) ≡ 0 ∷ 605 ∷ 1 ∷ 1 ∷ 5 ∷ []
unfolding ones begun status_mode read_mode plain_command address_fits latched addressed fate_word next_fate started status_byte fitting read_started program_started erase_started completed is_confirm confirmed confirmable commanded data_taken data_given data_byte finished status_read exec programmed weakened raised put may_go cut_after send byte_out send_all sent goes_on waiting polls outcome_of is_passed ended_as read_cycles read_outcome put_out read_outputs started_by read_on stop_answer status_on status_end after_status status_answer status_state is_protected is_silent is_cut_off bit_at with_bit zero_bits number_width bytes_of number_of label_bytes encoded kind_of erase_on program_on is_failed main_of formed is_white_kind main_read page_filled pages_filled table_main permitted search_after after_fill try_block try_table tables_filled table.table_page is_data_kind is_table_kind copy_bits copy_tried after_try copies_filled then_table data_source is_given xored bytes_given bits_given stepped shifted
failed_erase = refl

-- the last number is used, and the next fill has none
last_number : told (written [] (state 1 18446744073709551614 1)) ≡ 0 ∷ 363 ∷ 0 ∷ 2 ∷ 18446744073709551615 ∷ []
unfolding ones begun status_mode read_mode plain_command address_fits latched addressed fate_word next_fate started status_byte fitting read_started program_started erase_started completed is_confirm confirmed confirmable commanded data_taken data_given data_byte finished status_read exec programmed weakened raised put may_go cut_after send byte_out send_all sent goes_on waiting polls outcome_of is_passed ended_as read_cycles read_outcome put_out read_outputs started_by read_on stop_answer status_on status_end after_status status_answer status_state is_protected is_silent is_cut_off bit_at with_bit zero_bits number_width bytes_of number_of label_bytes encoded kind_of erase_on program_on is_failed main_of formed is_white_kind main_read page_filled pages_filled table_main permitted search_after after_fill try_block try_table tables_filled table.table_page is_data_kind is_table_kind copy_bits copy_tried after_try copies_filled then_table data_source is_given xored bytes_given bits_given stepped shifted
last_number = refl

spent : told (written [] (state 1 18446744073709551615 1)) ≡ 9 ∷ 2 ∷ 0 ∷ 0 ∷ 0 ∷ []
unfolding ones begun status_mode read_mode plain_command address_fits latched addressed fate_word next_fate started status_byte fitting read_started program_started erase_started completed is_confirm confirmed confirmable commanded data_taken data_given data_byte finished status_read exec programmed weakened raised put may_go cut_after send byte_out send_all sent goes_on waiting polls outcome_of is_passed ended_as read_cycles read_outcome put_out read_outputs started_by read_on stop_answer status_on status_end after_status status_answer status_state is_protected is_silent is_cut_off bit_at with_bit zero_bits number_width bytes_of number_of label_bytes encoded kind_of erase_on program_on is_failed main_of formed is_white_kind main_read page_filled pages_filled table_main permitted search_after after_fill try_block try_table tables_filled table.table_page is_data_kind is_table_kind copy_bits copy_tried after_try copies_filled then_table data_source is_given xored bytes_given bits_given stepped shifted
spent = refl

-- both blocks that are left fail: worn
worn : told (written (65536 ∷ 65536 ∷ []) (state 1 2 1)) ≡ 8 ∷ 16 ∷ 0 ∷ 0 ∷ 0 ∷ []
unfolding ones begun status_mode read_mode plain_command address_fits latched addressed fate_word next_fate started status_byte fitting read_started program_started erase_started completed is_confirm confirmed confirmable commanded data_taken data_given data_byte finished status_read exec programmed weakened raised put may_go cut_after send byte_out send_all sent goes_on waiting polls outcome_of is_passed ended_as read_cycles read_outcome put_out read_outputs started_by read_on stop_answer status_on status_end after_status status_answer status_state is_protected is_silent is_cut_off bit_at with_bit zero_bits number_width bytes_of number_of label_bytes encoded kind_of erase_on program_on is_failed main_of formed is_white_kind main_read page_filled pages_filled table_main permitted search_after after_fill try_block try_table tables_filled table.table_page is_data_kind is_table_kind copy_bits copy_tried after_try copies_filled then_table data_source is_given xored bytes_given bits_given stepped shifted
worn = refl

-- 256 busy status reads: silent, and stopped
silent : told (written (256 ∷ []) (state 1 2 1)) ≡ 10 ∷ 264 ∷ 0 ∷ 0 ∷ 0 ∷ []
unfolding ones begun status_mode read_mode plain_command address_fits latched addressed fate_word next_fate started status_byte fitting read_started program_started erase_started completed is_confirm confirmed confirmable commanded data_taken data_given data_byte finished status_read exec programmed weakened raised put may_go cut_after send byte_out send_all sent goes_on waiting polls outcome_of is_passed ended_as read_cycles read_outcome put_out read_outputs started_by read_on stop_answer status_on status_end after_status status_answer status_state is_protected is_silent is_cut_off bit_at with_bit zero_bits number_width bytes_of number_of label_bytes encoded kind_of erase_on program_on is_failed main_of formed is_white_kind main_read page_filled pages_filled table_main permitted search_after after_fill try_block try_table tables_filled table.table_page is_data_kind is_table_kind copy_bits copy_tried after_try copies_filled then_table data_source is_given xored bytes_given bits_given stepped shifted
silent = refl

-- the same chip with its write-protect line low
abbrev protected_chip : Device
protected_chip =
    device record { phase = 0; count = 0; address = 0; first = 0; column = 0; operation = 0; busy = 0; failed = 0; loaded = 0; fate = 0; illegal = 0; protected = 1 }
    (replicate 768 255) (replicate 48 255) (replicate 4 0)

abbrev untaken : ℕ → State → Result
untaken allowed st = changing (call []) protected_chip allowed st (write_update st 0 0 (replicate 32 165))

-- the status shows a protected chip: 13 after two cycles, and the state is the one handed in
protected_write : told (untaken 2 (state 1 2 1)) ≡ 13 ∷ 2 ∷ 0 ∷ 1 ∷ 2 ∷ []
unfolding ones begun status_mode read_mode plain_command address_fits latched addressed fate_word next_fate started status_byte fitting read_started program_started erase_started completed is_confirm confirmed confirmable commanded data_taken data_given data_byte finished status_read exec programmed weakened raised put may_go cut_after send byte_out send_all sent goes_on waiting polls outcome_of is_passed ended_as read_cycles read_outcome put_out read_outputs started_by read_on stop_answer status_on status_end after_status status_answer status_state is_protected is_silent is_cut_off bit_at with_bit zero_bits number_width bytes_of number_of label_bytes encoded kind_of erase_on program_on is_failed main_of formed is_white_kind main_read page_filled pages_filled table_main permitted search_after after_fill try_block try_table tables_filled table.table_page is_data_kind is_table_kind copy_bits copy_tried after_try copies_filled then_table data_source is_given xored bytes_given bits_given stepped shifted
protected_write = refl

-- so before the number is asked for, and before a block is
protected_spent : told (untaken 10000 (state 1 18446744073709551615 1)) ≡ 13 ∷ 2 ∷ 0 ∷ 1 ∷ 18446744073709551615 ∷ []
unfolding ones begun status_mode read_mode plain_command address_fits latched addressed fate_word next_fate started status_byte fitting read_started program_started erase_started completed is_confirm confirmed confirmable commanded data_taken data_given data_byte finished status_read exec programmed weakened raised put may_go cut_after send byte_out send_all sent goes_on waiting polls outcome_of is_passed ended_as read_cycles read_outcome put_out read_outputs started_by read_on stop_answer status_on status_end after_status status_answer status_state is_protected is_silent is_cut_off bit_at with_bit zero_bits number_width bytes_of number_of label_bytes encoded kind_of erase_on program_on is_failed main_of formed is_white_kind main_read page_filled pages_filled table_main permitted search_after after_fill try_block try_table tables_filled table.table_page is_data_kind is_table_kind copy_bits copy_tried after_try copies_filled then_table data_source is_given xored bytes_given bits_given stepped shifted
protected_spent = refl

protected_erase : told (changing (call []) protected_chip 10000 (state 1 2 1) (erase_update 0)) ≡ 13 ∷ 2 ∷ 0 ∷ 1 ∷ 2 ∷ []
unfolding ones begun status_mode read_mode plain_command address_fits latched addressed fate_word next_fate started status_byte fitting read_started program_started erase_started completed is_confirm confirmed confirmable commanded data_taken data_given data_byte finished status_read exec programmed weakened raised put may_go cut_after send byte_out send_all sent goes_on waiting polls outcome_of is_passed ended_as read_cycles read_outcome put_out read_outputs started_by read_on stop_answer status_on status_end after_status status_answer status_state is_protected is_silent is_cut_off bit_at with_bit zero_bits number_width bytes_of number_of label_bytes encoded kind_of erase_on program_on is_failed main_of formed is_white_kind main_read page_filled pages_filled table_main permitted search_after after_fill try_block try_table tables_filled table.table_page is_data_kind is_table_kind copy_bits copy_tried after_try copies_filled then_table data_source is_given xored bytes_given bits_given stepped shifted
protected_erase = refl

-- cut before the status is read: stopped
protected_cut : told (untaken 1 (state 1 2 1)) ≡ 11 ∷ 1 ∷ 0 ∷ 0 ∷ 0 ∷ []
unfolding ones begun status_mode read_mode plain_command address_fits latched addressed fate_word next_fate started status_byte fitting read_started program_started erase_started completed is_confirm confirmed confirmable commanded data_taken data_given data_byte finished status_read exec programmed weakened raised put may_go cut_after send byte_out send_all sent goes_on waiting polls outcome_of is_passed ended_as read_cycles read_outcome put_out read_outputs started_by read_on stop_answer status_on status_end after_status status_answer status_state is_protected is_silent is_cut_off bit_at with_bit zero_bits number_width bytes_of number_of label_bytes encoded kind_of erase_on program_on is_failed main_of formed is_white_kind main_read page_filled pages_filled table_main permitted search_after after_fill try_block try_table tables_filled table.table_page is_data_kind is_table_kind copy_bits copy_tried after_try copies_filled then_table data_source is_given xored bytes_given bits_given stepped shifted
protected_cut = refl
