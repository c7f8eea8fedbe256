-- Page programs counted and fate words left, computed on the small chip: 32 main and 16 spare bytes, 4 pages, 4 blocks, 2 logical blocks. Assumes nothing.
use Prim.Native.Nat.{ℕ}
use mathlib.Core.List.{List, [], ◌∷◌}
use mathlib.Core.Option.{some}
use mathlib.Core.Path.{◌≡◌, refl}
use lib.Count.{ones}
use lib.ListN.{replicate, set}
use Rattle.geometry.specs.declared.Geometry.{Geometry}
use Rattle.cells.specs.Cells.{programmed, weakened, raised}
use Rattle.cells.specs.Part.{put}
use Rattle.bitmaps.specs.Bitmap.{bit_at, with_bit}
use Rattle.chip_interface.specs.Interface.{powered_on, begun, status_mode, read_mode, plain_command, address_fits, latched, addressed, fate_word, next_fate, started, status_byte}
use Rattle.chip_array.specs.Device.{Device, device, setting, fitting, read_started, program_started, erase_started, completed}
use Rattle.chip.specs.Chip.{is_confirm, confirmed, confirmable, commanded, data_taken, data_given, data_byte, finished, status_read, exec}
use Rattle.bus.specs.Line.{may_go, cut_after, send, byte_out, send_all, sent, goes_on}
use Rattle.bus_polling.specs.Polling.{waiting, polls, outcome_of, ended_as}
use Rattle.bus_polling.specs.Outcomes.{is_passed, is_failed, is_silent, is_cut_off, is_protected}
use Rattle.bus_sequences.specs.Cycles.{read_cycles, read_outcome, put_out, read_outputs}
use Rattle.operations.specs.Trace.{started_by}
use Rattle.whitening.specs.Stream.{shifted, stepped, bits_given, bytes_given}
use Rattle.whitening.specs.Whitened.{xored}
use Rattle.pages.specs.Check.{zero_bits}
use Rattle.pages.specs.Layout.{data_kind, number_width, is_data_kind, is_table_kind, bytes_of, number_of, label_bytes, encoded, kind_of, is_white_kind}
use Rattle.copies.specs.Table as table
use Rattle.state_choose.specs.Choose.{permitted, search_after}
use Rattle.state.specs.State.{copy_bits}
use Rattle.progress.specs.Progress.{read_on}
use Rattle.progress.specs.Steps.{erase_on, program_on}
use Rattle.request.specs.Call.{stop_answer}
use Rattle.copies.specs.Blocks.{formed}
use Rattle.fill.specs.Fill.{main_of, main_read, page_filled, table_main, data_source, is_given}
use Rattle.fill_cursor.specs.Cursor.{first_cursor, on_block, prepared, page_after, filled_whole, unfilled, after_action, withdrawn, settled, programs, is_open_now, weight, actions_most}
use Rattle.fill_driver.specs.Driver.{copy_of, source_of, performed, gone, acted, ran}
use Rattle.open_write.specs.Open.{OpenState, open_state, words_of}
use Rattle.open_write.specs.Requests.{open_result, Advanced, advanced, advance_run}
use Rattle.fill_portions.specs.Portions.{after, words_after}
use Rattle.fill_portions.specs.Programs.{programs_in}

abbrev small : Geometry
small = record { main = 32; spare = 16; pages = 4; blocks = 4; logical = 2 }

abbrev chip : Device
chip = device powered_on (replicate 768 255) (replicate 48 255) (replicate 4 0)

-- a write of page 0 of logical block 0 is open, over a copy in block 1; the table is in block 0
abbrev opened : OpenState
opened =
    open_state
    (record { status = 1; table = 0; last = 1; number = 2; marked = replicate 512 0; invalid = replicate 512 0; map = set (replicate 4096 65535) 0 1; kinds = set (replicate 4096 0) 0 data_kind })
    (words_of (first_cursor 0 0 0 1 1)) (replicate 4096 165)

-- the page programs of an advance with these fate words, whose mask lets nothing through
abbrev sent_programs : List ℕ → ℕ → ℕ
sent_programs fates most =
    programs_in (advance_run (setting small (replicate 192 0) fates) chip 10000 opened most).progress.started

-- none; two, of which one is kept and read before; one after an erase that failed; one that failed; all four, and no more where the write finishes
counted : (sent_programs [] 0 ≡ 0) × (sent_programs [] 2 ≡ 2) × (sent_programs (65536 ∷ []) 1 ≡ 1) × (sent_programs (0 ∷ 65536 ∷ []) 1 ≡ 1) × (sent_programs [] 9 ≡ 4)
unfolding programs_in acted ran performed copy_of source_of prepared on_block page_after filled_whole unfilled after_action withdrawn settled programs is_open_now weight actions_most gone ones begun status_mode read_mode plain_command address_fits latched addressed fate_word next_fate started status_byte fitting read_started program_started erase_started completed is_confirm confirmed confirmable commanded data_taken data_given data_byte finished status_read exec programmed weakened raised put may_go cut_after send byte_out send_all sent goes_on waiting polls outcome_of is_passed ended_as read_cycles read_outcome put_out read_outputs started_by read_on stop_answer is_protected is_silent is_cut_off bit_at with_bit zero_bits number_width bytes_of number_of label_bytes encoded kind_of erase_on program_on is_failed main_of formed is_white_kind main_read page_filled table_main permitted search_after table.table_page is_data_kind is_table_kind copy_bits data_source is_given xored bytes_given bits_given stepped shifted
counted = (refl, refl, refl, refl, refl)

-- an advance that was answered 0, one that was refused, each on a chip that took two fate words
abbrev ended : ℕ → Advanced
ended answer =
    advanced
    (open_result answer opened (device (record { phase = 0; count = 0; address = 0; first = 0; column = 0; operation = 0; busy = 0; failed = 0; loaded = 0; fate = 2; illegal = 0; protected = 0 }) [] [] []) 7)
    0

left : (words_after (ended 0) (4 ∷ 5 ∷ 6 ∷ []) ≡ 6 ∷ []) × (words_after (ended 15) (4 ∷ 5 ∷ 6 ∷ []) ≡ 4 ∷ 5 ∷ 6 ∷ [])
left = (refl, refl)

-- cycles add up
summed : after 5 (some (ended 0)) ≡ some (advanced (open_result 0 opened (ended 0).returned.chip 12) 0)
summed = refl
