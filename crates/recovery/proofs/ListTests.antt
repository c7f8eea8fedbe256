-- Lists with a cut write on the small chip, computed: 32 main and 16 spare bytes, 4 pages, 4 blocks, 2 logical blocks. Assumes
-- nothing.
use Prim.Native.Nat.{ℕ}
use mathlib.Core.Bool.{Bool, true, false, cond}
use mathlib.Core.List.{List, [], ◌∷◌, ◌++◌}
use mathlib.Core.Path.{◌≡◌, refl, ap, ◌∙◌}
use borrow.Author.Tests.{eq-eqb, ne_eqb}
use lib.Count.{ones}
use lib.ListN.{get_or, replicate}
use Rattle.geometry.specs.declared.Geometry.{Geometry}
use Rattle.bools.proofs.BoolLaws.{or_none}
use Rattle.cells.specs.Cells.{programmed, weakened, raised}
use Rattle.cells.specs.Part.{put}
use Rattle.bitmaps.specs.Bitmap.{bit_at, with_bit, count_bits, clear_from}
use Rattle.chip_interface.specs.Interface.{powered_on, begun, status_mode, read_mode, plain_command, address_fits, latched, addressed, fate_word, next_fate, started, status_byte}
use Rattle.chip_array.specs.Device.{device, setting, fitting, read_started, program_started, erase_started, completed}
use Rattle.chip.specs.Chip.{is_confirm, confirmed, confirmable, commanded, data_taken, data_given, data_byte, finished, status_read, exec}
use Rattle.bus.specs.Line.{may_go, cut_after, send, byte_out, send_all, sent, goes_on}
use Rattle.bus_polling.specs.Polling.{waiting, polls, outcome_of, ended_as}
use Rattle.bus_polling.specs.Outcomes.{is_passed, is_failed, is_silent, is_cut_off, is_protected}
use Rattle.bus_sequences.specs.Cycles.{read_cycles, read_outcome, put_out, read_outputs}
use Rattle.operations.specs.Trace.{ArrayOperation, started_by}
use Rattle.whitening.specs.Stream.{shifted, stepped, bits_given, bytes_given}
use Rattle.whitening.specs.Whitened.{xored}
use Rattle.pages.specs.Check.{zero_bits}
use Rattle.pages.specs.Layout.{table_kind, label, whole, all_ones, stored_check, counted_check, kind_of, number_width, is_data_kind, is_table_kind, is_white_kind, label_of, number_of, bytes_of, label_bytes, encoded}
use Rattle.copies.specs.Blocks.{formed, is_marked, agrees, complete_to, is_complete, is_table, is_data, is_copy_of}
use Rattle.copies.specs.Pick.{better, pick, some_below}
use Rattle.copies.specs.Table as table
use Rattle.copies.specs.Current as current
use Rattle.copies.specs.Current.{current_table, current_copy, reading, shares_number, clashes_at, clashes, judge_table, mount_answer}
use Rattle.state_choose.specs.Choose.{permitted, search_after}
use Rattle.state.specs.State.{copy_bits}
use Rattle.state.specs.declared.State.{State}
use Rattle.operations.specs.Ends.{status_end}
use Rattle.progress.specs.Progress.{read_on, status_on}
use Rattle.progress.specs.Steps.{erase_on, program_on}
use Rattle.request.specs.Call.{stop_answer, status_answer, status_state, started_in}
use Rattle.fill.specs.Fill.{main_of, main_read, page_filled, pages_filled, table_main, data_source, is_given}
use Rattle.fill_tables.specs.Tables.{Tabled, after_status, after_fill, try_block, try_table, tables_filled}
use Rattle.write_changes.specs.Changes.{write_update, after_try, copy_tried, copies_filled, then_table, change_call}
use Rattle.identify.proofs.SentLaws.{identify_starts}
use Rattle.damage.specs.Run.{failed_in}
use Rattle.open_write.specs.Open.{OpenState}
use Rattle.open_write.specs.Requests.{open_identify_request}
use Rattle.recovery.specs.Book.{Change, write, entered, Account, blank_account, changed, mounted, opened, settled, gone_on, fed}
use Rattle.recovery.specs.Copy.{is_data_program, sent_page, sent_pages, has_copy}
use Rattle.scan_summary.specs.declared.Depth.{Depth}
use Rattle.recovery.specs.Calls.{Lent, to_mount, to_read, to_identify, to_advance, Store, under_way, mount_on, advance_on, chip_of, answer_of, trace_of, failed_after, failed_next, step, unpowered}

abbrev small : Geometry
small = record { main = 32; spare = 16; pages = 4; blocks = 4; logical = 2 }

-- the chip after a formatting: a table under number 1 in block 0, the others erased
abbrev table_pages : ℕ → List ℕ
table_pages i = encoded 16 (label table_kind 0 i 1) (table_main small (replicate 512 0) i)

abbrev formatted : List ℕ
formatted = table_pages 0 ++ (table_pages 1 ++ (table_pages 2 ++ (table_pages 3 ++ replicate 576 255)))

abbrev state : State
state =
    record { status = 1; table = 0; last = 0; number = 1; marked = replicate 512 0; invalid = replicate 512 0; map = replicate 4096 65535; kinds = replicate 4096 0 }

-- a write of logical block 0, page 0 that sends 237 cycles, cut before the last: its mask lets all or nothing of an operation
-- under way through
abbrev cut : ℕ → ℕ → Tabled
cut mask byte =
    change_call (setting small (replicate 192 mask) []) (device powered_on formatted (replicate 48 255) (replicate 4 0)) 236 state (write_update state 0 0 (replicate 32 byte))

abbrev array_of : Tabled → List ℕ
array_of t = t.progress.line.chip.array

-- its answer, whether it has a complete copy, the answer of a mount, and the first byte that then reads back
abbrev told : Tabled → List ℕ
told t =
    t.answer ∷ cond (has_copy small (array_of t) t.progress.started) 1 0 ∷ mount_answer small (array_of t) ∷ get_or (reading small (array_of t) 0 0 0) 0 0 ∷ []

-- a cut write that survives, one that does not, and one that would have changed no byte
cut_writes : told (cut 255 165) ++ (told (cut 0 165) ++ told (cut 255 255)) ≡ 11 ∷ 1 ∷ 0 ∷ 165 ∷ 11 ∷ 0 ∷ 0 ∷ 255 ∷ 11 ∷ 1 ∷ 0 ∷ 255 ∷ []
unfolding ones begun status_mode read_mode plain_command address_fits latched addressed fate_word next_fate started status_byte fitting read_started program_started erase_started completed is_confirm confirmed confirmable commanded data_taken data_given data_byte finished status_read exec programmed weakened raised put may_go cut_after send byte_out send_all sent goes_on waiting polls outcome_of is_passed ended_as read_cycles read_outcome put_out read_outputs started_by read_on status_on status_end after_status status_answer status_state is_protected stop_answer is_silent is_cut_off bit_at with_bit zero_bits number_width bytes_of number_of label_bytes encoded kind_of erase_on program_on is_failed main_of main_read page_filled pages_filled table_main permitted search_after after_fill try_block try_table tables_filled table.table_page is_data_kind is_table_kind copy_bits copy_tried after_try copies_filled then_table data_source is_given has_copy sent_pages sent_page is_data_program some_below better pick is_marked agrees complete_to is_complete is_table is_data is_copy_of current_table current_copy current.page_of formed is_white_kind shares_number clashes_at clashes judge_table mount_answer whole all_ones stored_check counted_check label_of count_bits clear_from table.clear_where table.right_first table.right_page table.right_to table.right_table xored bytes_given bits_given stepped shifted
cut_writes = refl

-- the book after it, a silent mount and a mount answered 0: first byte of logical block 0, page 0
abbrev later : ℕ → Bool → List ℕ
later byte copy =
    let noted = fed small (changed (write 0 0 (replicate 32 byte)) 11 []) (blank_account small) in
    let still = fed small (mounted 10 copy) noted in
    get_or (noted.book 0 0) 0 0 ∷ get_or (still.book 0 0) 0 0 ∷ get_or ((fed small (mounted 0 copy) still).book 0 0) 0 0 ∷ []

books_later : later 165 true ++ (later 165 false ++ later 255 true) ≡ 255 ∷ 255 ∷ 165 ∷ 255 ∷ 255 ∷ 255 ∷ 255 ∷ 255 ∷ 255 ∷ []
unfolding fed settled entered
books_later = refl

-- a read, cut or not, changes neither book nor note; nor do a refused write and a mount answered 1
read_unbooked : (g : Geometry) (a : Lent) (logical page : ℕ) (buffer : List ℕ) (y : Store) → (step g (to_read a logical page buffer) y).account ≡ y.account
unfolding step fed
read_unbooked g a logical page buffer y = refl

-- asking the chip for its size changes neither book nor note, nor what is known of marked and failed blocks
identify_unbooked : (g : Geometry) (a : Lent) (parameters : List ℕ) (logical : ℕ) (y : Store) → let z = step g (to_identify a parameters logical) y in (z.account ≡ y.account) × (z.marked ≡ y.marked) × ((b : ℕ) → z.failed b ≡ y.failed b)
unfolding started_in step fed failed_next failed_in open_identify_request
identify_unbooked g a parameters logical y =
    (refl, refl, λ b. ap (λ (os : List ArrayOperation). failed_after y.failed os b) (identify_starts a.mask a.fates (chip_of a y.chip) a.allowed y.state parameters logical) ∙ or_none (y.failed b))

refused_unbooked : (g : Geometry) (c : Change) (y : Account) → (fed g (changed c 1 []) y ≡ y) × (fed g (changed c 7 []) y ≡ y) × (fed g (changed c 2 []) y ≡ y) × (fed g (changed c 3 []) y ≡ y) × (fed g (mounted 1 false) y ≡ y)
unfolding fed
refused_unbooked g c y = (refl, refl, refl, refl, refl)

-- nor does what is refused because a write is open
barred_unbooked : (g : Geometry) (c : Change) (y : Account) → (fed g (changed c 15 []) y ≡ y) × (fed g (opened c 15) y ≡ y)
unfolding fed
barred_unbooked g c y = (refl, refl)

-- an advance goes on with the write that is noted, by its answer, whether it finished, and the operations that it started
advance_booked : (g : Geometry) (a : Lent) (most : ℕ) (y : Store) → (step g (to_advance a most) y).account ≡ gone_on g (answer_of g (to_advance a most) y) (advance_on g a most y).finished (trace_of g (to_advance a most) y) (under_way y) y.account
unfolding step fed
advance_booked g a most y = refl

-- nor does a write or an erase that a protected chip did not take
protected_unbooked : (g : Geometry) (c : Change) (y : Account) → fed g (changed c 13 []) y ≡ y
unfolding fed
protected_unbooked g c y = refl

-- a mount answered 0 starts the failed blocks anew, any other keeps them
mount_clears : (depth : Depth) (g : Geometry) (a : Lent) (y : Store) (b : ℕ) → (mount_on depth g a y).answer ≡ 0 → (step g (to_mount depth a) y).failed b ≡ false
unfolding step failed_next
mount_clears depth g a y b z = rw (eq-eqb (mount_on depth g a y).answer 0 z)

mount_keeps : (depth : Depth) (g : Geometry) (a : Lent) (y : Store) (b : ℕ) → ((mount_on depth g a y).answer ≡ 0 → ⊥) → (step g (to_mount depth a) y).failed b ≡ failed_after y.failed (trace_of g (to_mount depth a) y) b
unfolding step failed_next
mount_keeps depth g a y b z = rw (ne_eqb (mount_on depth g a y).answer 0 z)

-- power lost keeps the book and its note, the array, what was programmed since the last erase, and what is known of marked and failed blocks
unpowered_keeps : (x : OpenState) (register : List ℕ) (y : Store) → let z = unpowered x register y in (z.account ≡ y.account) × (z.chip.array ≡ y.chip.array) × (z.chip.history ≡ y.chip.history) × (z.marked ≡ y.marked) × (z.failed ≡ y.failed)
unfolding unpowered
unpowered_keeps x register y = (refl, refl, refl, refl, refl)
