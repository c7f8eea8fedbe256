-- The confirm cycles of a write computed on the small chip: 32 main and 16 spare bytes, 4 pages, 4 blocks, 2 logical blocks.
-- Assumes nothing.
use Prim.Native.Nat.{ℕ}
use mathlib.Core.List.{List, [], ◌∷◌, map}
use mathlib.Core.Path.{◌≡◌, refl}
use lib.Count.{ones}
use lib.ListN.{replicate, set}
use Rattle.geometry.specs.declared.Geometry.{Geometry}
use Rattle.cells.specs.Cells.{programmed, weakened, raised}
use Rattle.cells.specs.Part.{put}
use Rattle.bitmaps.specs.Bitmap.{bit_at, with_bit}
use Rattle.chip_interface.specs.Interface.{powered_on, begun, status_mode, read_mode, plain_command, address_fits, latched, addressed, fate_word, next_fate, started, status_byte}
use Rattle.chip_array.specs.Device.{Device, Setting, device, setting, fitting, read_started, program_started, erase_started, completed, block_at}
use Rattle.chip.specs.Chip.{is_confirm, confirmed, confirmable, commanded, data_taken, data_given, data_byte, finished, status_read, exec, status_shown}
use Rattle.bus.specs.Line.{may_go, cut_after, send, byte_out, send_all, sent, goes_on}
use Rattle.bus_polling.specs.Polling.{waiting, polls, outcome_of, ended_as}
use Rattle.bus_polling.specs.Outcomes.{is_passed, is_failed, is_silent, is_cut_off}
use Rattle.bus_sequences.specs.Cycles.{read_cycles, read_outcome, put_out, read_outputs}
use Rattle.operations.specs.Trace.{started_by}
use Rattle.operations.specs.Ends.{status_end}
use Rattle.whitening.specs.Stream.{shifted, stepped, bits_given, bytes_given}
use Rattle.whitening.specs.Whitened.{xored}
use Rattle.pages.specs.Check.{zero_bits}
use Rattle.pages.specs.Layout.{data_kind, number_width, is_data_kind, is_table_kind, bytes_of, number_of, label_bytes, encoded, kind_of, is_white_kind}
use Rattle.copies.specs.Table as table
use Rattle.state_choose.specs.Choose.{permitted, search_after}
use Rattle.state.specs.State.{copy_bits}
use Rattle.state.specs.declared.State.{State}
use Rattle.progress.specs.Progress.{read_on, progress, status_on}
use Rattle.progress.specs.Steps.{erase_on, program_on}
use Rattle.request.specs.Call.{stop_answer, call_line}
use Rattle.copies.specs.Blocks.{formed}
use Rattle.fill.specs.Fill.{main_of, main_read, page_filled, pages_filled, table_main, data_source, is_given}
use Rattle.fill_tables.specs.Tables.{after_fill, try_block, try_table, tables_filled, after_status}
use Rattle.write_changes.specs.Changes.{write_update, after_try, copy_tried, copies_filled, then_table, change_call}
use mathlib.Core.Bool.{cond}
use Rattle.recovery_cycles.specs.Starts.{takes, gives_failed, fails_next, Start, starts_at, starts_in}

abbrev small : Geometry
small = record { main = 32; spare = 16; pages = 4; blocks = 4; logical = 2 }

-- the first erase fails; the mask lets nothing through
abbrev call : Setting
call = setting small (replicate 192 0) (65536 ∷ [])

abbrev chip : Device
chip = device powered_on (replicate 768 255) (replicate 48 255) (replicate 4 0)

-- the table in block 0, the copy of logical block 0 in block 1, filled last, the next number 3
abbrev state : State
state =
    record { status = 1; table = 0; last = 1; number = 2; marked = replicate 512 0; invalid = replicate 512 0; map = set (replicate 4096 65535) 0 1; kinds = set (replicate 4096 0) 0 data_kind }

-- a confirm cycle: its code, the block that the chip names, and 1 where E1h is read after it
abbrev told : Start → List ℕ
told t = t.code ∷ block_at small t.chip.interface ∷ cond t.failed 1 0 ∷ []

-- page 0 of logical block 0 takes A5h: an erase of block 2, which fails, the fill of block 3 with three pages kept from block 1,
-- and a table in block 1
write_starts : map told (starts_in call (call_line chip 10000).chip (change_call call chip 10000 state (write_update state 0 0 (replicate 32 165))).progress.cycles)
    ≡ (208 ∷ 2 ∷ 1 ∷ []) ∷ (208 ∷ 3 ∷ 0 ∷ []) ∷ (16 ∷ 3 ∷ 0 ∷ []) ∷ (48 ∷ 1 ∷ 0 ∷ []) ∷ (16 ∷ 3 ∷ 0 ∷ []) ∷ (48 ∷ 1 ∷ 0 ∷ []) ∷ (16 ∷ 3 ∷ 0 ∷ []) ∷ (48 ∷ 1 ∷ 0 ∷ []) ∷ (16 ∷ 3 ∷ 0 ∷ [])
    ∷ (208 ∷ 1 ∷ 0 ∷ []) ∷ (16 ∷ 1 ∷ 0 ∷ []) ∷ (16 ∷ 1 ∷ 0 ∷ []) ∷ (16 ∷ 1 ∷ 0 ∷ []) ∷ (16 ∷ 1 ∷ 0 ∷ []) ∷ []
unfolding ones begun status_mode read_mode plain_command address_fits latched addressed fate_word next_fate started status_byte fitting read_started program_started erase_started completed is_confirm confirmed confirmable commanded data_taken data_given data_byte finished status_read exec programmed weakened raised put may_go cut_after send byte_out send_all sent goes_on waiting polls outcome_of is_passed ended_as read_cycles read_outcome put_out read_outputs started_by read_on status_on status_end after_status stop_answer is_silent is_cut_off bit_at with_bit zero_bits number_width bytes_of number_of label_bytes encoded kind_of erase_on program_on is_failed main_of formed is_white_kind main_read page_filled pages_filled table_main permitted search_after after_fill try_block try_table tables_filled table.table_page is_data_kind is_table_kind copy_bits copy_tried after_try copies_filled then_table data_source is_given status_shown takes gives_failed fails_next starts_at starts_in xored bytes_given bits_given stepped shifted
write_starts = refl
