-- The small chip is formatted, and a write is cut where its copy is whole: 32 main and 16 spare bytes, 4 pages, 4 blocks, 2 logical
-- blocks. Power is lost, the book still has FFh, and the next mount reads the new page. Assumes nothing.
use Prim.Native.Nat.{ℕ, zero, suc, ◌<◌}
use mathlib.Core.Bool.{Bool, true, false, cond}
use mathlib.Core.List.{List, [], ◌∷◌, ◌++◌}
use mathlib.Core.Option.{Option, none, some}
use mathlib.Core.Path.{◌≡◌, refl, sym, ap, subst, ◌∙◌}
use native.Mathlib.Omega.{arith}
use borrow.Author.Tests.{eq-eqb}
use lib.Count.{ones}
use lib.Dec.{eqb}
use lib.ListN.{length, get_or, replicate, length-replicate}
use Rattle.geometry.specs.declared.Geometry.{Geometry}
use Rattle.bools.proofs.BoolLaws.{clash}
use Rattle.cells.specs.Bytes.{Bytes}
use Rattle.cells.specs.Cells.{programmed, weakened, raised}
use Rattle.cells.specs.Part.{put}
use Rattle.bitmaps.specs.Bitmap.{bit_at, with_bit, count_bits, clear_from}
use Rattle.chip_interface.specs.Interface.{powered_on, begun, status_mode, read_mode, plain_command, address_fits, latched, addressed, fate_word, next_fate, started, status_byte}
use Rattle.chip_array.specs.Device.{Device, device, fitting, read_started, program_started, erase_started, completed}
use Rattle.chip.specs.Chip.{is_confirm, confirmed, confirmable, commanded, data_taken, data_given, data_byte, finished, status_read, exec}
use Rattle.bus.specs.Line.{may_go, cut_after, send, byte_out, send_all, sent, goes_on}
use Rattle.bus_polling.specs.Polling.{waiting, polls, outcome_of, ended_as}
use Rattle.bus_polling.specs.Outcomes.{is_passed, is_failed, is_silent, is_cut_off, is_protected}
use Rattle.bus_sequences.specs.Cycles.{read_cycles, read_outcome, put_out, read_outputs}
use Rattle.operations.specs.Ends.{status_end}
use Rattle.operations.specs.Trace.{ArrayOperation, started_by}
use Rattle.whitening.specs.Stream.{shifted, stepped, bits_given, bytes_given}
use Rattle.whitening.specs.Whitened.{xored}
use Rattle.pages.specs.Check.{zero_bits}
use Rattle.pages.specs.Layout.{table_kind, label, whole, all_ones, stored_check, counted_check, kind_of, number_width, is_data_kind, is_table_kind, is_white_kind, label_of, number_of, bytes_of, label_bytes, encoded}
use Rattle.copies.specs.Blocks.{formed, block_in, is_marked, agrees, complete_to, is_complete, is_table, is_data, is_copy_of, any_to, greatest_to, has_number, greatest}
use Rattle.copies.specs.Pick.{better, pick, some_below}
use Rattle.copies.specs.Table as table
use Rattle.copies.specs.Carried.{carried_by}
use Rattle.copies.specs.Current as current
use Rattle.copies.specs.Current.{current_table, current_copy, reading, greatest_below, shares_number, clashes_at, clashes, judge_table, mount_answer}
use Rattle.scan_found.specs.Contents.{entry_of}
use Rattle.scan_found.specs.Found.{marks_to}
use Rattle.state_choose.specs.Choose.{permitted, search_after, count_permitted}
use Rattle.state.specs.State.{blank, mounted, copy_bits}
use Rattle.state.specs.declared.State.{State}
use Rattle.progress.specs.Progress.{read_on, reset_on, status_on}
use Rattle.progress.specs.Steps.{erase_on, program_on}
use Rattle.request.specs.Call.{Result, result_with, result_of, started_in, sized, sized_for, stop_answer, status_answer, status_state}
use Rattle.request_refusals.specs.Refusals.{refusal, refusal_of}
use Rattle.scan_block.specs.Pages.{pages_read}
use Rattle.scan_summary.specs.declared.Depth.{Depth}
use Rattle.scan_summary.specs.declared.Depth.TheVariants.{Full, Quick}
use Rattle.scan_quick.specs.BlockRead.{block_read}
use Rattle.scan.specs.Scan.{blocks_read}
use Rattle.fill.specs.Fill.{main_of, main_read, page_filled, pages_filled, table_main, data_source, is_given}
use Rattle.fill_tables.specs.Tables.{Tabled, end_of_run, after_fill, try_block, try_table, tables_filled, after_status}
use Rattle.write_changes.specs.Changes.{write_update, after_try, copy_tried, copies_filled, then_table, change_call}
use Rattle.format_erase.specs.Round.{after_erase, block_erased, failed_at, joined, numbers_at, erased_to}
use Rattle.format_scan.specs.Survey.{list_bits, union_to, passed_over}
use Rattle.format.specs.Format.{first_state, too_few, after_late, late_run, tables_run, round_run, reads_run, format_request, formatting, status_run}
use Rattle.format_laws.specs.Formatting.{Acknowledged}
use Rattle.format_laws.proofs.FormattingLaws.{format_acknowledged}
use Rattle.damage.specs.Run.{failed_in, scan_most}
use Rattle.mount_laws.specs.Mounting.{mount_most}
use Rattle.recovery.specs.Book.{Change, write, entered, Note, note, Account, account, blank_book, blank_account, changed, fed}
use Rattle.recovery.specs.Copy.{is_data_program, sent_page, sent_pages, has_copy}
use Rattle.open_write.specs.Open.{OpenState, open_state, no_write, closed, kept_bytes, is_opened, open_fits}
use Rattle.open_write.specs.Requests.{OpenResult, stops, open_refusal, open_format_request}
use Rattle.recovery.specs.Calls as calls
use Rattle.recovery.specs.Calls.{Lent, to_write, Event, called, power_lost, AllPossible, Store, store, state_of, under_way, setting_of, mount_on, copy_of_note, failed_after, step, unpowered, after, format_on}
use Rattle.recovery.specs.Recovery.{reading_by, Unaffected, none_under_way, no_copy, no_byte}
use Rattle.recovery_write.specs.Changed.{update_of}
use Rattle.recovery_proof.proofs.OpenLaws.{admitted_so}
use Rattle.recovery_proof.proofs.StartLaws.{begun_is}
use Rattle.recovery_proof.proofs.ChangeSteps.{after_change, write_goes}
use Rattle.recovery_proof.proofs.RecoveryLaws.{recovers}
use Rattle.recovery_proof.proofs.AnswerLaws.{comes_back}

abbrev small : Geometry
small = record { main = 32; spare = 16; pages = 4; blocks = 4; logical = 2 }

-- nothing fails; what is cut takes effect on every bit
abbrev lent : ℕ → Lent
lent allowed = record { mask = replicate 192 255; fates = []; allowed = allowed; protected = 0 }

abbrev erased : Device
erased = device powered_on (replicate 768 255) (replicate 48 255) (replicate 4 0)

-- the formatting: a table under number 1 in block 0, the others erased
abbrev table_pages : ℕ → List ℕ
table_pages i = encoded 16 (label table_kind 0 i 1) (table_main small (replicate 512 0) i)

abbrev state : State
state =
    record { status = 1; table = 0; last = 0; number = 1; marked = replicate 512 0; invalid = replicate 512 0; map = replicate 4096 65535; kinds = replicate 4096 0 }

abbrev chip : Device
chip =
    device (record { phase = 1; count = 5; address = 196608; first = 0; column = 48; operation = 2; busy = 0; failed = 0; loaded = 0; fate = 0; illegal = 0; protected = 0 })
    (table_pages 0 ++ (table_pages 1 ++ (table_pages 2 ++ (table_pages 3 ++ replicate 576 255)))) (table_pages 3) (4 ∷ 0 ∷ 0 ∷ 0 ∷ [])

format_is : formatting (setting_of small (lent 10000)) erased 10000 (blank 0) ≡ result_with 0 state chip 1196
unfolding ones begun status_mode read_mode plain_command address_fits latched addressed fate_word next_fate started status_byte fitting read_started program_started erase_started completed is_confirm confirmed confirmable commanded data_taken data_given data_byte finished status_read exec programmed weakened raised put may_go cut_after send byte_out send_all sent goes_on waiting polls outcome_of is_passed ended_as read_cycles read_outcome put_out read_outputs started_by read_on status_on status_end after_status status_answer status_state is_protected reset_on pages_read block_read blocks_read sized stop_answer is_silent is_cut_off bit_at with_bit count_bits zero_bits number_width bytes_of number_of label_bytes encoded kind_of label_of all_ones stored_check counted_check whole is_marked marks_to after_erase block_erased failed_at erased_to erase_on program_on is_failed main_of formed is_white_kind main_read page_filled pages_filled table_main permitted search_after count_permitted after_fill try_block try_table tables_filled first_state too_few tables_run round_run reads_run status_run table.table_page is_data_kind is_table_kind any_to greatest joined numbers_at greatest_below greatest_to has_number result_of format_request late_run after_late copy_bits list_bits union_to passed_over carried_by entry_of current_table pick better is_table is_complete complete_to agrees xored bytes_given bits_given stepped shifted
format_is = refl

-- the write of logical block 0, page 0 that sends 237 cycles, cut before the last, which would read its last program's status
abbrev page : List ℕ
page = replicate 32 165

abbrev cut : Tabled
cut = change_call (setting_of small (lent 236)) chip 236 state (write_update state 0 0 page)

abbrev array_of : Tabled → List ℕ
array_of t = t.progress.line.chip.array

-- its answer, whether it has a complete copy, the answer of a mount, and what page 0 of logical block 0 then reads
pub cut-told : cut.answer ∷ cond (has_copy small (array_of cut) cut.progress.started) 1 0 ∷ mount_answer small (array_of cut) ∷ reading small (array_of cut) 0 0 0 ≡ 11 ∷ 1 ∷ 0 ∷ page
unfolding ones begun status_mode read_mode plain_command address_fits latched addressed fate_word next_fate started status_byte fitting read_started program_started erase_started completed is_confirm confirmed confirmable commanded data_taken data_given data_byte finished status_read exec programmed weakened raised put may_go cut_after send byte_out send_all sent goes_on waiting polls outcome_of is_passed ended_as read_cycles read_outcome put_out read_outputs started_by read_on status_on status_end after_status status_answer status_state is_protected stop_answer is_silent is_cut_off bit_at with_bit zero_bits number_width bytes_of number_of label_bytes encoded kind_of erase_on program_on is_failed main_of main_read page_filled pages_filled table_main permitted search_after after_fill try_block try_table tables_filled table.table_page is_data_kind is_table_kind copy_bits copy_tried after_try copies_filled then_table data_source is_given has_copy sent_pages sent_page is_data_program some_below better pick is_marked agrees complete_to is_complete is_data is_copy_of current_copy current.page_of formed is_white_kind whole all_ones stored_check counted_check label_of count_bits clear_from is_table current_table shares_number clashes_at clashes judge_table mount_answer table.clear_where table.right_first table.right_page table.right_to table.right_table xored bytes_given bits_given stepped shifted
cut-told = refl

cut_answer : cut.answer ≡ 11
cut_answer = ap (λ (x : List ℕ). get_or x 0 0) cut-told

is_one : (b : Bool) → ◌≡◌ {A = ℕ} (cond b 1 0) 1 → b ≡ true
is_one true e = refl
is_one false e = absurd (omega (arith, e))

cut-copy : has_copy small (array_of cut) cut.progress.started ≡ true
cut-copy = is_one _ (ap (λ (x : List ℕ). get_or x 1 0) cut-told)

bytes_same : (n x : ℕ) → x < 256 → Bytes (replicate n x)
bytes_same zero x h i = omega arith
bytes_same (suc n) x h zero = h
bytes_same (suc n) x h (suc i) = bytes_same n x h i

-- memory that comes up as zeros, its page kept in 4,096 bytes
abbrev empty : OpenState
empty = open_state (blank 0) no_write (replicate 4096 0)

empty-long : length empty.page ≡ kept_bytes
empty-long = length-replicate {A = ℕ} 4096 0

-- the list
abbrev before : Store
before = calls.begun small (lent 10000) erased empty

-- power is lost, and memory comes back as zeros
abbrev list : List Event
list = called (to_write (lent 236) 0 0 page) ∷ power_lost empty (replicate 48 0) ∷ []

abbrev stored : Store
stored = after small list before

-- nothing is mounted, so the formatting is not barred
unbarred : (fits : Bool) → eqb (open_refusal small fits empty (is_opened empty)) 15 ≡ false
unfolding open_refusal mounted
unbarred true = refl
unbarred false = refl

format_done : (format_on small (lent 10000) erased empty).answer ≡ 0
unfolding result_of open_format_request
format_done = rw (unbarred (sized_for (setting_of small (lent 10000)) erased)) (ap (λ (r : Result). r.answer) format_is)

acknowledged : Acknowledged (setting_of small (lent 10000)) (result_with 0 state chip 1196)
acknowledged =
    subst (Acknowledged (setting_of small (lent 10000))) format_is (format_acknowledged (setting_of small (lent 10000)) erased 10000 (blank 0) (bytes_same 192 255 (omega arith)) (bytes_same 768 255 (omega arith)) (ap (λ (r : Result). r.answer) format_is))

unrefused : refusal_of (setting_of small (lent 236)) chip state 0 0 page ≡ 0
unfolding refusal
unrefused = rw (acknowledged.still_sized, acknowledged.counts_mounted)

abbrev marks : ℕ → Bool
marks b = is_marked small (block_in small erased.array b)

abbrev fails : ℕ → Bool
fails b = failed_in b (started_in (format_request (setting_of small (lent 10000)) erased 10000 (blank 0)))

abbrev start : Store
start = store (closed state empty) chip (blank_account small) marks fails

begun_so : before ≡ start
begun_so =
    begun_is small (lent 10000) erased empty (bytes_same 192 255 (omega arith)) (bytes_same 768 255 (omega arith)) empty-long format_done
    ∙ ap (λ (r : Result). store (closed r.state empty) r.chip (blank_account small) marks fails) format_is

admitted : open_refusal small (sized_for (setting_of small (lent 236)) chip) (state_of start) (is_opened (state_of start)) ≡ 0
unfolding open_fits
admitted =
    let long : length start.page ≡ kept_bytes = length-replicate {A = ℕ} (length empty.page) 0 ∙ empty-long in
    admitted_so small (sized_for (setting_of small (lent 236)) chip) (state_of start) (is_opened (state_of start)) acknowledged.still_sized (rw (acknowledged.counts_mounted, eq-eqb (length start.page) kept_bytes long)) refl

-- what the cut write leaves: nothing is open, and then power is lost
abbrev after_cut : Store
after_cut =
    store (closed cut.state (state_of start)) cut.progress.line.chip (fed small (changed (write 0 0 page) cut.answer cut.progress.started) (blank_account small)) marks (failed_after fails cut.progress.started)

write_steps : step small (to_write (lent 236) 0 0 page) start ≡ after_cut
unfolding stops update_of
write_steps =
    (write_goes small start (lent 236) 0 0 page (eq-eqb _ 0 admitted) (eq-eqb _ 0 unrefused)).1
    ∙ ap (λ (k : ℕ). after_change (stops k) small start (write 0 0 page) (end_of_run 236 cut) cut.progress.started) cut_answer

stored_is : stored ≡ unpowered empty (replicate 48 0) after_cut
unfolding after
stored_is = ap (unpowered empty (replicate 48 0)) (ap (step small (to_write (lent 236) 0 0 page)) begun_so ∙ write_steps)

-- a request answered 11 is noted, and no page changes
fed-cut : (c : Change) (k : ℕ) (os : List ArrayOperation) → k ≡ 11 → fed small (changed c k os) (blank_account small) ≡ account (blank_book small) (some (note c os))
unfolding fed
fed-cut c k os e = rw e

account_is : stored.account ≡ account (blank_book small) (some (note (write 0 0 page) cut.progress.started))
unfolding unpowered
account_is = ap (λ (y : Store). y.account) stored_is ∙ fed-cut (write 0 0 page) cut.answer cut.progress.started cut_answer

noted : under_way stored ≡ some (note (write 0 0 page) cut.progress.started)
noted = ap (λ (x : Account). x.noted) account_is

-- before the mount the book has FFh
pub book_before : (logical p : ℕ) → stored.account.book logical p ≡ replicate 32 255
book_before logical p = ap (λ (x : Account). x.book logical p) account_is

-- and the request noted has a complete copy
pub copy-noted : copy_of_note small stored.chip.array (under_way stored) ≡ true
unfolding copy_of_note unpowered
copy-noted =
    ap (λ (x : Option Note). copy_of_note small stored.chip.array x) noted
    ∙ ap (λ (y : Store). has_copy small y.chip.array cut.progress.started) stored_is
    ∙ cut-copy

-- so it shows: it has a copy, and would change a byte
abbrev change_of : Option Note → Change
change_of none = write 0 0 []
change_of (some t) = t.change

abbrev is_some : Option Note → Bool
is_some none = false
is_some (some t) = true

shows : Unaffected small stored → ⊥
unfolding copy_of_note entered
shows (none_under_way e) = clash {b = is_some (under_way stored)} (ap is_some noted) (ap is_some e)
shows (no_copy t e f) = clash copy-noted (ap (copy_of_note small stored.chip.array) e ∙ f)
shows (no_byte t e same) =
    let change : t.change ≡ write 0 0 page = sym (ap change_of e) ∙ ap change_of noted in
    let here : page ≡ replicate 32 255 =
    sym (ap (λ (c : Change). entered small c stored.account.book 0 0) change) ∙ same 0 0 (omega arith) (omega arith) ∙ book_before 0 0 in
    absurd (omega (arith, ap (λ (x : List ℕ). get_or x 0 0) here))

-- a mount, full or quick, heard and not cut, reads the new page
abbrev mount : Depth → OpenResult
mount depth = mount_on depth small (lent 10000) stored

possible : AllPossible small list before
unfolding AllPossible mounted
possible = (((bytes_same 192 255 (omega arith), bytes_same 32 165 (omega arith)), tt), ((refl, empty-long, refl), tt))

few : (depth : Depth) → mount_most depth small < 10000
unfolding scan_most
few Full = omega arith
few Quick = omega arith

mount_done : (depth : Depth) → (mount depth).answer ≡ 0
mount_done depth =
    comes_back small (lent 10000) erased empty (bytes_same 192 255 (omega arith)) (bytes_same 768 255 (omega arith)) empty-long format_done list possible depth (lent 10000) refl (λ slow. omega (arith, slow.within)) (few depth)

pub mount-reads : (depth : Depth) → reading_by small (mount depth) 0 0 ≡ page
unfolding entered
mount-reads depth =
    let done = mount_done depth in
    let r = recovers small (lent 10000) erased empty (bytes_same 192 255 (omega arith)) (bytes_same 768 255 (omega arith)) empty-long format_done list possible depth (lent 10000)
    (λ e. omega (arith, e, done)) (λ e. omega (arith, e, done)) (λ e. omega (arith, e, done)) in
    r.otherwise (note (write 0 0 page) cut.progress.started) noted shows 0 0 (omega arith) (omega arith)
