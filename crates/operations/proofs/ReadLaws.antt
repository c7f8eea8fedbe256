-- A read, from 00h to the last byte out.
use Prim.Native.Nat.{ℕ, zero, suc, ◌+◌, ◌-◌, ◌*◌, ◌/◌, ◌%◌, ◌<◌, ◌≤◌}
use mathlib.Core.Bool.{true, false, cond}
use mathlib.Core.List.{List, [], ◌∷◌, ◌++◌}
use mathlib.Core.Path.{◌≡◌, refl, sym, ap, subst, ◌∙◌}
use native.Mathlib.Omega.{arith}
use borrow.Author.Tests.{eq-eqb}
use borrow.Table.Steps.{cases}
use lib.Dec.{eqb, leb}
use lib.ListN.{length, take, drop, replicate, length-replicate}
use lib.Seq.{take-take, drop-drop}
use Rattle.geometry.specs.Sizes.{page_size, column_bytes, row_bytes}
use Rattle.geometry.proofs.SizeLaws.{row_count_most, page_size_most, row_within}
use Rattle.cells.specs.Part.{part}
use Rattle.cells.proofs.PartLaws.{length_part}
use Rattle.chip_interface.specs.declared.Interface.{Interface}
use Rattle.chip_interface.specs.Interface.{beginning, full_address, in_phase, output_resumed, started, addressed}
use Rattle.chip_array.specs.Device.{Device, Setting, device, with_interface, row_at, completed, page_loaded}
use Rattle.chip.specs.Chip.{Cycle, exec, is_confirm, data_byte}
use Rattle.chip.specs.Chip.Cycle.{command, address, data_out}
use Rattle.bus.specs.Line.{Line, run, send, send_all, uncut_line, still, AllStill, byte_out}
use Rattle.bus.proofs.LineLaws.{send_on, admits_more}
use Rattle.bus.proofs.QuietLaws.{quiet_run, still-take, still_address, still_repeated}
use Rattle.bus.proofs.StepLaws.{at_column, busy_with, begin_read, resume_output, five_bytes, confirm_read, one_out, data_given_fact}
use Rattle.bus_polling.specs.Outcomes.{is_passed}
use Rattle.bus_polling.specs.Polling.{outcome_of}
use Rattle.bus_sequences.specs.Cycles.{read_address, address_cycles, row_cycles, page_line, read_cycles, read_outcome, read_outputs, outputs}
use Rattle.operations.specs.Trace.{read_starts}
use Rattle.operations.specs.Ends.{Called, CanRead, ends_as, read_end, ready_end, end_of_read, total_for}
use Rattle.operations.proofs.CallLaws.{uncut_is, fitting_holds, row_is, column_is, address_holds}
use Rattle.operations.proofs.TraceLaws.{effect_starts}
use Rattle.operations.proofs.ConfirmLaws.{settles}
use Rattle.operations.proofs.EndLaws.{Effect}
use Rattle.operations.proofs.OutputLaws.{Puts, put_out_are}
use Rattle.operations.proofs.ReadyLaws.{Followed, Passing, passing, passing_load, passing_final, ready_ends, ready_legal, load_outcome, is_passed_lem}

-- a part of a part
take-drop : (n c m : ℕ) (ys : List ℕ) → c + n ≤ m → take n (drop c (take m ys)) ≡ take n (drop c ys)
take-drop n zero m ys h = take-take n m ys (omega arith)
take-drop n (suc c) zero ys h = absurd (omega arith)
take-drop n (suc c) (suc m) [] h = refl
take-drop n (suc c) (suc m) (y ∷ ys) h = take-drop n c m ys (omega arith)

part-part : (at m c n : ℕ) (xs : List ℕ) → c + n ≤ m → part c n (part at m xs) ≡ part (at + c) n xs
part-part at m c n xs h = take-drop n c m (drop at xs) h ∙ ap (take n) (drop-drop c at xs)

-- the page register is put out column by column
register_puts : (s : Setting) (a r h : List ℕ) → Puts s data_out byte_out false r a r h
unfolding byte_out data_byte
register_puts s a r h =
    record {
      steps = λ i p o q. one_out s i a r h p o q;
      gives = λ i k p o e. rw (admits_more (uncut_line (device i a r h) (suc k)) (record { uncut = refl; legal = e }) (omega arith), eq-eqb i.phase 2 p, o);
    }

module _ (s : Setting) (d : Device) (left row column n : ℕ) (p : CanRead s (uncut_line d left) row column n) where
  small : column < 65536
  small = omega (arith, p.column_below, page_size_most s.geometry p.called.is_valid)

  filled : Interface
  filled = full_address (column + row * 65536) (beginning 3 0 d.interface)

  five : (i : Interface) → run s (with_interface (beginning 3 0 i) d) (address_cycles column row) ≡ with_interface (full_address (column + row * 65536) (beginning 3 0 i)) d
  five i =
      five_bytes s d 3 column row i refl small (omega (arith, p.row_below, row_count_most s.geometry p.called.is_valid))
      (address_holds s.geometry column row p.called.is_valid p.column_below p.row_below)

  -- with a page in the register the first address byte starts another read
  first_again : (b : ℕ) (i : Interface) → exec s (with_interface (output_resumed i) d) (address b) ≡ exec s (with_interface (beginning 3 0 (output_resumed i)) d) (address b)
  unfolding exec addressed
  first_again b i = rw (eq-eqb i.column i.column refl)

  after_address_fact : run s d (read_address row column) ≡ device filled d.array d.register d.history
  unfolding run filled
  after_address_fact =
      cases (eqb d.interface.loaded 1)
      (λ t.
      ap (λ (x : Device). run s x (address_cycles column row)) (resume_output s d p.called.ready t)
      ∙ ap (λ (x : Device). run s x (address (column / 256 % 256) ∷ row_cycles row)) (first_again (column % 256) d.interface)
      ∙ five (output_resumed d.interface))
      (λ t. ap (λ (x : Device). run s x (address_cycles column row)) (begin_read s d p.called.ready t) ∙ five d.interface)

  page : List ℕ
  page = part (row * page_size s.geometry) (page_size s.geometry) d.array

  length_page : length page ≡ page_size s.geometry
  unfolding page
  length_page =
      length_part (row * page_size s.geometry) (page_size s.geometry) d.array
      (rw p.called.array_long (row_within s.geometry p.called.is_valid row p.row_below))

  confirmed : Device
  confirmed = device (started 1 s.fates filled) d.array page d.history

  row_at_fact : row_at filled ≡ row
  unfolding filled
  row_at_fact = row_is column row small

  confirm_is : exec s (run s d (read_address row column)) (command 48) ≡ confirmed
  unfolding confirmed page filled
  confirm_is =
      ap (λ (x : Device). exec s x (command 48)) after_address_fact
      ∙ confirm_read s (device filled d.array d.register d.history)
      (fitting_holds s.geometry _ _ _ p.called.is_valid p.called.array_long p.called.register_long p.called.history_long)
      p.called.mask_long (rw row_at_fact p.row_below) refl refl
      ∙ ap (λ (r : ℕ). device (started 1 s.fates filled) d.array (part (r * page_size s.geometry) (page_size s.geometry) d.array) d.history) row_at_fact

  -- the interface when ready is reported, and in data output
  interface_ready : Interface
  interface_ready = page_loaded (busy_with 0 (in_phase 8 (started 1 s.fates filled)))

  loaded : Device
  loaded = device interface_ready d.array page d.history

  still_first : AllStill (read_address row column)
  unfolding still is_confirm
  still_first = (refl, still_address (column_bytes column ++ row_bytes row))

  effect : Effect s d (read_address row column) (command 48) 1 confirmed loaded d.array d.history
  unfolding confirmed loaded interface_ready filled started completed
  effect =
      record {
        confirmed = record {
          confirm = confirm_is;
          busy = refl;
          legal = p.called.legal;
          settle = settles s confirmed refl (fitting_holds s.geometry _ _ _ p.called.is_valid p.called.array_long length_page p.called.history_long) (rw row_at_fact p.row_below);
          settled = refl;
          still_legal = p.called.legal;
        };
        quiet = λ k. quiet_run s d (take k (read_address row column)) (still-take k (read_address row column) still_first);
        busy_is = refl;
        failed_is = refl;
        fate_is = refl;
        then_failed = refl;
        then_fate = refl;
        then_array = refl;
        then_history = refl;
      }

  line : Line
  line = uncut_line d left

  abbrev tail : List Cycle
  tail = command 0 ∷ replicate n data_out

  length_tail : length tail ≡ 1 + n
  length_tail = ap suc (length-replicate n data_out) ∙ omega arith

  -- the interface after the last byte
  interface_last : Interface
  interface_last = at_column (column + n) (output_resumed interface_ready)

  last : Device
  last = device interface_last d.array page d.history

  tail_is : run s loaded tail ≡ last
  unfolding run loaded last interface_last interface_ready started filled
  tail_is =
      ap (λ (x : Device). run s x (replicate n data_out)) (resume_output s loaded (omega arith) refl)
      ∙ data_given_fact s n (output_resumed interface_ready) d.array page d.history refl refl (rw (column_is column row small, length_page) p.within)
      ∙ ap (λ (k : ℕ). device (at_column (k + n) (output_resumed interface_ready)) d.array page d.history) (column_is column row small)

  followed : Followed s d (read_address row column) (command 48) confirmed loaded last tail
  unfolding confirmed last interface_last interface_ready started filled still is_confirm
  followed =
      record {
        effect = effect;
        same_array = refl;
        same_history = refl;
        rest_is = tail_is;
        rest_still = (refl, still_repeated data_out refl n);
        last_legal = p.called.legal;
      }

  ends : end_of_read s line row column n ≡ read_end s line n
  unfolding end_of_read read_end read_cycles read_outcome line
  ends =
      ready_ends s d left (read_address row column) (command 48) confirmed loaded last tail followed
      ∙ ap (ready_end s (uncut_line d left) 6) length_tail

  abbrev Passes : Type 0
  Passes = Passing s d left (read_address row column) (command 48) confirmed loaded last tail followed

  passes : is_passed (read_end s line n).outcome ≡ true → Passes
  unfolding read_end line
  passes h =
      passing s d left (read_address row column) (command 48) confirmed loaded last tail followed
      (ap (λ (k : ℕ). is_passed (ready_end s (uncut_line d left) 6 k).outcome) length_tail ∙ h)

  -- cycles left once ready is reported
  abbrev more : ℕ
  more = left - total_for s d 6

  more_is : Passes → 1 + n ≤ more
  more_is q = omega (arith, q.covered, length_tail)

  page_line_is : Passes → page_line s line row column ≡ uncut_line loaded more
  unfolding line
  page_line_is q = passing_load s d left (read_address row column) (command 48) confirmed loaded last tail followed q

  page_passed : Passes → is_passed (outcome_of (page_line s line row column)) ≡ true
  unfolding line
  page_passed q =
      ap is_passed (load_outcome s d left (read_address row column) (command 48) confirmed loaded last tail followed)
      ∙ is_passed_lem s d left (read_address row column) (command 48) confirmed loaded last tail followed (omega (arith, q.covered)) q.in_time

  loaded_legal : loaded.interface.illegal ≡ 0
  unfolding loaded interface_ready started filled
  loaded_legal = p.called.legal

  bytes : Passes → read_outputs s line row column n ≡ part (row * page_size s.geometry + column) n d.array
  unfolding read_outputs loaded interface_ready started filled page
  bytes q =
      let first : send s (uncut_line loaded more) (command 0) ≡ uncut_line (with_interface (output_resumed interface_ready) loaded) (more - 1) =
      send_on s (uncut_line loaded more) (command 0) (admits_more (uncut_line loaded more) (record { uncut = refl; legal = loaded_legal }) (omega (arith, more_is q)))
      ∙ ap (λ (x : Device). uncut_line x (more - 1)) (resume_output s loaded (omega arith) refl) in
      rw (page_passed q)
      (ap (λ (x : Line). outputs s n (send s x (command 0))) (page_line_is q)
      ∙ ap (outputs s n) first
      ∙ put_out_are s data_out byte_out false page d.array page d.history (register_puts s d.array page d.history) n (more - 1) (output_resumed interface_ready) refl refl p.called.legal (rw (column_is column row small, length_page) p.within) (omega (arith, more_is q))
      ∙ ap (λ (k : ℕ). part k n page) (column_is column row small)
      ∙ part-part (row * page_size s.geometry) (page_size s.geometry) column n d.array p.within)

  final : Line
  final = send_all s line (read_cycles s line row column n)

  next : Passes → Called s final
  unfolding final read_cycles line last interface_last interface_ready started filled
  next q =
      subst (λ (x : Line). Called s x)
      (sym (passing_final s d left (read_address row column) (command 48) confirmed loaded last tail followed q))
      (record {
        is_valid = p.called.is_valid;
        array_long = p.called.array_long;
        register_long = length_page;
        history_long = p.called.history_long;
        mask_long = p.called.mask_long;
        ready = omega arith;
        legal = p.called.legal;
        uncut = refl;
      })

  allowed : final.chip.interface.illegal ≡ 0
  unfolding final read_cycles line
  allowed = ready_legal s d left (read_address row column) (command 48) confirmed loaded last tail followed

  starts : read_starts s line row column ≡ cond (leb left 6) [] (record { kind = 1; block = row / s.geometry.pages; page = row % s.geometry.pages; bytes = []; before = d.array; answer = ends_as s line 1 6 } ∷ [])
  unfolding line
  starts = effect_starts s d (read_address row column) 48 1 confirmed loaded d.array d.history effect row [] left refl

-- how a read ends
pub read_ends : (s : Setting) (l : Line) (row column n : ℕ) → CanRead s l row column n → end_of_read s l row column n ≡ read_end s l n
unfolding line
read_ends s l row column n p =
    subst (λ (x : Line). end_of_read s x row column n ≡ read_end s x n) (sym (uncut_is l p.called.uncut))
    (ends s l.chip l.left row column n (subst (λ (x : Line). CanRead s x row column n) (uncut_is l p.called.uncut) p))

-- a read that passes gives the bytes of the row from the column on
pub read_bytes : (s : Setting) (l : Line) (row column n : ℕ) → CanRead s l row column n → is_passed (read_end s l n).outcome ≡ true → read_outputs s l row column n ≡ part (row * page_size s.geometry + column) n l.chip.array
unfolding line
read_bytes s l row column n p =
    subst (λ (x : Line). is_passed (read_end s x n).outcome ≡ true → read_outputs s x row column n ≡ part (row * page_size s.geometry + column) n x.chip.array) (sym (uncut_is l p.called.uncut))
    (let q = subst (λ (x : Line). CanRead s x row column n) (uncut_is l p.called.uncut) p in
    λ h. bytes s l.chip l.left row column n q (passes s l.chip l.left row column n q h))

-- no cycle of it is answered illegal
pub read_legal : (s : Setting) (l : Line) (row column n : ℕ) → CanRead s l row column n → (send_all s l (read_cycles s l row column n)).chip.interface.illegal ≡ 0
unfolding line final
read_legal s l row column n p =
    subst (λ (x : Line). (send_all s x (read_cycles s x row column n)).chip.interface.illegal ≡ 0) (sym (uncut_is l p.called.uncut))
    (allowed s l.chip l.left row column n (subst (λ (x : Line). CanRead s x row column n) (uncut_is l p.called.uncut) p))

-- once it passed the chip takes the next operation
pub read_next : (s : Setting) (l : Line) (row column n : ℕ) → CanRead s l row column n → is_passed (read_end s l n).outcome ≡ true → Called s (send_all s l (read_cycles s l row column n))
unfolding line final
read_next s l row column n p =
    subst (λ (x : Line). is_passed (read_end s x n).outcome ≡ true → Called s (send_all s x (read_cycles s x row column n))) (sym (uncut_is l p.called.uncut))
    (let q = subst (λ (x : Line). CanRead s x row column n) (uncut_is l p.called.uncut) p in
    λ h. next s l.chip l.left row column n q (passes s l.chip l.left row column n q h))

-- it starts one array operation, where the allowance reaches its confirm cycle, and none otherwise
pub read_starts_lem : (s : Setting) (l : Line) (row column n : ℕ) → CanRead s l row column n → read_starts s l row column ≡ cond (leb l.left 6) [] (record { kind = 1; block = row / s.geometry.pages; page = row % s.geometry.pages; bytes = []; before = l.chip.array; answer = ends_as s l 1 6 } ∷ [])
unfolding line
read_starts_lem s l row column n p =
    subst (λ (x : Line). read_starts s x row column ≡ cond (leb x.left 6) [] (record { kind = 1; block = row / s.geometry.pages; page = row % s.geometry.pages; bytes = []; before = x.chip.array; answer = ends_as s x 1 6 } ∷ [])) (sym (uncut_is l p.called.uncut))
    (starts s l.chip l.left row column n (subst (λ (x : Line). CanRead s x row column n) (uncut_is l p.called.uncut) p))
