-- A program, from 80h to the last status read.
use Prim.Native.Nat.{ℕ, ◌+◌, ◌*◌, ◌/◌, ◌%◌, ◌<◌, ◌≤◌}
use mathlib.Core.Bool.{true, cond}
use mathlib.Core.List.{List, [], ◌∷◌, ◌++◌, map, append-nil}
use mathlib.Core.Path.{◌≡◌, refl, sym, ap, ap₂, subst, ◌∙◌}
use native.Mathlib.Omega.{arith}
use borrow.Author.Tests.{eqb-true, eqb-false}
use borrow.Table.Steps.{cases}
use lib.Dec.{eqb, leb}
use lib.ListN.{length, set, take, drop_of_length-le, length-map}
use lib.Seq.{sets, sets-eq}
use Rattle.geometry.specs.Sizes.{page_size, chip_size, row_count, row_of, column_bytes, row_bytes}
use Rattle.geometry.proofs.SizeLaws.{row_below, row_count_most, page_size_least, row_within, block_of_row, page_of_row}
use Rattle.cells.specs.Cells.{programmed, weakened}
use Rattle.cells.specs.Part.{part, put}
use Rattle.cells.proofs.CellLaws.{length-programmed, programmed-again}
use Rattle.cells.proofs.PartLaws.{length_part, part-put, put-put}
use Rattle.chip_interface.specs.declared.Interface.{Interface}
use Rattle.chip_interface.specs.Interface.{beginning, full_address, in_phase, started, unstarted, column_of_address, failed_for, next_fate}
use Rattle.chip_array.specs.Device.{Device, Setting, device, with_interface, row_at, fitting, completed}
use Rattle.chip.specs.Chip.{exec, is_confirm}
use Rattle.chip.specs.Chip.Cycle.{command, data_in}
use Rattle.bus.specs.Line.{Line, run, send_all, uncut_line, still, AllStill}
use Rattle.bus.proofs.LineLaws.{run_append}
use Rattle.bus.proofs.QuietLaws.{quiet_run, still-take, still-append, still_address, still_data}
use Rattle.bus.proofs.StepLaws.{at_column, busy_with, begin_program, five_bytes, data_taken_fact, confirm_program, confirm_program_low}
use Rattle.bus.proofs.WordLaws.{all_line}
use Rattle.bus_sequences.specs.Cycles.{program_data, address_cycles, program_cycles}
use Rattle.operations.specs.Trace.{program_starts}
use Rattle.operations.specs.Ends.{Called, MayProgram, CanProgram, End, end_of, answer_end, protected_end, ends_as, confirmed_end, program_end, word_for}
use Rattle.bus_polling.specs.Outcomes.{answered}
use Rattle.bus_polling.specs.Polling.{outcome_of, answer_of}
use Rattle.bus_polling.proofs.PollLaws.{answer_high}
use Rattle.operations.proofs.CallLaws.{uncut_is, fitting_holds, column_is, row_is, address_holds, arms, part_arms, put_long, set_long}
use Rattle.operations.proofs.EndLaws.{Effect, effect_ends, effect_next}
use Rattle.operations.proofs.UnstartedLaws.{Unstarted, unstarted_ends, unstarted_legal, unstarted_next}
use Rattle.operations.proofs.TraceLaws.{effect_starts}
use Rattle.operations.proofs.ConfirmLaws.{settles, confirmed_legal}

ap₃ : {A : Type 0} (f : ℕ → ℕ → ℕ → A) {a b c x y z : ℕ} → a ≡ x → b ≡ y → c ≡ z → f a b c ≡ f x y z
ap₃ f p q r = λ i. f (p i) (q i) (r i)

module _ (s : Setting) (d : Device) (n block page : ℕ) (bytes : List ℕ) (p : MayProgram s (uncut_line d n) block page bytes) where
  row : ℕ
  row = row_of s.geometry block page

  row_small : row < row_count s.geometry
  unfolding row
  row_small = row_below s.geometry p.called.is_valid block page p.block_below p.page_below

  -- the interface after the address, and after the data
  addressed : Interface
  addressed = full_address (0 + row * 65536) (beginning 4 0 d.interface)

  filled : Interface
  filled = at_column (page_size s.geometry) addressed

  at_zero : column_of_address (0 + row * 65536) ≡ 0
  at_zero = column_is 0 row (omega arith)

  taken : sets d.register (column_of_address (0 + row * 65536)) bytes ≡ bytes
  taken =
      ap (λ (k : ℕ). sets d.register k bytes) at_zero
      ∙ sets-eq bytes d.register 0 (omega (arith, p.bytes_long, p.called.register_long))
      ∙ ap (λ (zs : List ℕ). bytes ++ zs)
      (drop_of_length-le d.register {i = 0 + length bytes} (omega (arith, p.bytes_long, p.called.register_long)))
      ∙ append-nil bytes

  after_data : run s d (program_data row bytes) ≡ device filled d.array bytes d.history
  unfolding run addressed filled
  after_data =
      ap (λ (x : Device). run s x (address_cycles 0 row ++ map data_in bytes)) (begin_program s d p.called.ready)
      ∙ run_append s (with_interface (beginning 4 0 d.interface) d) (address_cycles 0 row) (map data_in bytes)
      ∙ ap (λ (x : Device). run s x (map data_in bytes))
      (five_bytes s d 4 0 row d.interface refl (omega arith) (omega (arith, row_small, row_count_most s.geometry p.called.is_valid))
      (address_holds s.geometry 0 row p.called.is_valid (omega (arith, page_size_least s.geometry p.called.is_valid)) row_small))
      ∙ data_taken_fact s bytes addressed d.array d.register d.history refl (omega (arith, at_zero, p.bytes_long, p.called.register_long))
      ∙ ap₂ (λ (k : ℕ) (r : List ℕ). device (at_column k addressed) d.array r d.history)
      (omega (arith, at_zero, p.bytes_long)) taken

  row_at_fact : row_at filled ≡ row
  unfolding filled addressed
  row_at_fact = row_is 0 row (omega arith)

  fits_filled : fitting s.geometry (length d.array) (length bytes) (length d.history) ≡ true
  fits_filled =
      fitting_holds s.geometry _ _ _ p.called.is_valid p.called.array_long p.bytes_long p.called.history_long

  block_is : row_at filled / s.geometry.pages ≡ block
  unfolding row
  block_is = ap (λ (r : ℕ). r / s.geometry.pages) row_at_fact ∙ block_of_row s.geometry p.called.is_valid block page p.page_below

  page_is : row_at filled % s.geometry.pages ≡ page
  unfolding row
  page_is = ap (λ (r : ℕ). r % s.geometry.pages) row_at_fact ∙ page_of_row s.geometry p.called.is_valid block page p.page_below

  still_first : AllStill (program_data row bytes)
  unfolding still is_confirm
  still_first = (refl, still-append (address_cycles 0 row) (map data_in bytes) (still_address (column_bytes 0 ++ row_bytes row)) (still_data bytes))

  first-long : length (program_data row bytes) ≡ 6 + length bytes
  first-long = omega (arith, length-map bytes data_in)

  module _ (high : d.interface.protected ≡ 0) where
    -- the array and the history as the confirm cycle leaves them, and the array once it passed
    half : List ℕ
    half =
        put (row * page_size s.geometry)
        (programmed (part (row * page_size s.geometry) (page_size s.geometry) d.array) (weakened bytes s.mask))
        d.array

    full : List ℕ
    full =
        put (row * page_size s.geometry)
        (programmed (part (row * page_size s.geometry) (page_size s.geometry) d.array) bytes)
        d.array

    marked : List ℕ
    marked = set d.history block (page + 1)

    confirmed : Device
    confirmed = device (started 2 s.fates filled) half bytes marked

    confirm_is : exec s (run s d (program_data row bytes)) (command 16) ≡ confirmed
    unfolding confirmed half marked filled addressed
    confirm_is =
        ap (λ (x : Device). exec s x (command 16)) after_data
        ∙ confirm_program s (device filled d.array bytes d.history) fits_filled p.called.mask_long (rw row_at_fact row_small) refl at_zero refl
        (rw (block_is, page_is) p.in_order) high
        ∙ ap₃ (λ (r b k : ℕ). device (started 2 s.fates filled) (put (r * page_size s.geometry) (programmed (part (r * page_size s.geometry) (page_size s.geometry) d.array) (weakened bytes s.mask)) d.array) bytes (set d.history b (k + 1)))
        row_at_fact block_is page_is

    -- the chip when ready is reported
    interface_ready : Interface
    interface_ready = in_phase 1 (busy_with 0 (in_phase 8 (started 2 s.fates filled)))

    done : Device
    done = completed s.geometry (with_interface (busy_with 0 (in_phase 8 confirmed.interface)) confirmed)

    failed : ℕ
    failed = failed_for 2 (word_for s d)

    page_fits : row * page_size s.geometry + page_size s.geometry ≤ length d.array
    page_fits = rw p.called.array_long (row_within s.geometry p.called.is_valid row row_small)

    old : List ℕ
    old = part (row * page_size s.geometry) (page_size s.geometry) d.array

    length_old : length old ≡ page_size s.geometry
    unfolding old
    length_old = length_part (row * page_size s.geometry) (page_size s.geometry) d.array page_fits

    -- the whole effect over the part of it that the mask let through is the whole effect
    again : put (row * page_size s.geometry) (programmed (part (row * page_size s.geometry) (page_size s.geometry) half) bytes) half ≡ full
    unfolding half full old
    again =
        let ys = programmed old (weakened bytes s.mask) in
        let m : length ys ≡ page_size s.geometry = length-programmed old (weakened bytes s.mask) ∙ length_old in
        let h : row * page_size s.geometry + length ys ≤ length d.array = rw m page_fits in
        ap (λ (zs : List ℕ). put (row * page_size s.geometry) (programmed zs bytes) half)
        (ap (λ (k : ℕ). part (row * page_size s.geometry) k half) (sym m) ∙ part-put (row * page_size s.geometry) ys d.array h)
        ∙ ap (λ (zs : List ℕ). put (row * page_size s.geometry) zs half) (programmed-again old bytes s.mask)
        ∙ put-put (row * page_size s.geometry) (programmed old bytes) ys d.array (length-programmed old bytes ∙ length_old ∙ sym m) h

    done_is : done ≡ cond (eqb failed 0) (device interface_ready full bytes marked) (device interface_ready half bytes marked)
    unfolding done completed confirmed started filled addressed interface_ready failed
    done_is =
        ap (λ (a : List ℕ). cond (eqb failed 0) (device interface_ready a bytes marked) (device interface_ready half bytes marked))
        (ap (λ (r : ℕ). put (r * page_size s.geometry) (programmed (part (r * page_size s.geometry) (page_size s.geometry) half) bytes) half) row_at_fact
        ∙ again)

    both_arms : (f : Device → ℕ) (v : ℕ) → f (device interface_ready full bytes marked) ≡ v → f (device interface_ready half bytes marked) ≡ v → f done ≡ v
    both_arms f v x y = ap f done_is ∙ arms f v (eqb failed 0) _ _ x y

    length_half : length half ≡ chip_size s.geometry
    unfolding half old
    length_half =
        put_long p.called (row * page_size s.geometry) (programmed old (weakened bytes s.mask))
        (rw (length-programmed old (weakened bytes s.mask) ∙ length_old) page_fits)

    length_full : length full ≡ chip_size s.geometry
    unfolding full old
    length_full =
        put_long p.called (row * page_size s.geometry) (programmed old bytes) (rw (length-programmed old bytes ∙ length_old) page_fits)

    length_marked : length marked ≡ s.geometry.blocks
    unfolding marked
    length_marked = set_long p.called block (page + 1)

    effect : Effect s d (program_data row bytes) (command 16) 2 confirmed done full marked
    unfolding confirmed done failed interface_ready filled addressed started
    effect =
        record {
          confirmed = record {
            confirm = confirm_is;
            busy = refl;
            legal = p.called.legal;
            settle = settles s confirmed refl (fitting_holds s.geometry _ _ _ p.called.is_valid length_half p.bytes_long length_marked) (rw row_at_fact row_small);
            settled = both_arms (λ (x : Device). x.interface.phase) 1 refl refl;
            still_legal = both_arms (λ (x : Device). x.interface.illegal) 0 p.called.legal p.called.legal;
          };
          quiet = λ k. quiet_run s d (take k (program_data row bytes)) (still-take k (program_data row bytes) still_first);
          busy_is = refl;
          failed_is = refl;
          fate_is = refl;
          then_failed = both_arms (λ (x : Device). x.interface.failed) failed refl refl;
          then_fate = both_arms (λ (x : Device). x.interface.fate) (next_fate s.fates d.interface.fate) refl refl;
          then_array = ap (λ (x : Device). x.array) done_is ∙ part_arms (λ (x : Device). x.array) (eqb failed 0) _ _;
          then_history = ap (λ (x : Device). x.history) done_is ∙ part_arms (λ (x : Device). x.history) (eqb failed 0) _ _;
        }

    ends : end_of (send_all s (uncut_line d n) (program_cycles s (uncut_line d n) row bytes)) ≡ program_end s (uncut_line d n) block page bytes
    unfolding program_end confirmed half full marked row
    ends =
        effect_ends s d (program_data row bytes) (command 16) 2 confirmed done full marked effect n
        ∙ ap (λ (m : ℕ). confirmed_end s (uncut_line d n) 2 m half marked full marked) first-long

    allowed : (send_all s (uncut_line d n) (program_cycles s (uncut_line d n) row bytes)).chip.interface.illegal ≡ 0
    allowed = confirmed_legal s d (program_data row bytes) (command 16) confirmed done effect.confirmed n

    next : answered (program_end s (uncut_line d n) block page bytes).outcome ≡ true → Called s (send_all s (uncut_line d n) (program_cycles s (uncut_line d n) row bytes))
    unfolding program_end confirmed_end
    next a =
        effect_next s d (program_data row bytes) (command 16) 2 confirmed done full marked effect n p.called.is_valid p.called.mask_long
        (ap (λ (x : Device). length x.array) done_is ∙ arms (λ (x : Device). length x.array) (chip_size s.geometry) (eqb failed 0) _ _ length_full length_half)
        (both_arms (λ (x : Device). length x.register) (page_size s.geometry) p.bytes_long p.bytes_long)
        (both_arms (λ (x : Device). length x.history) s.geometry.blocks length_marked length_marked)
        (ap (λ (m : ℕ). answered (ends_as s (uncut_line d n) 2 m)) first-long ∙ a)

    told : answer_of (send_all s (uncut_line d n) (program_cycles s (uncut_line d n) row bytes)) ≡ outcome_of (send_all s (uncut_line d n) (program_cycles s (uncut_line d n) row bytes))
    told =
        answer_high (send_all s (uncut_line d n) (program_cycles s (uncut_line d n) row bytes))
        (all_line s (uncut_line d n) (program_cycles s (uncut_line d n) row bytes) ∙ high)

    starts : program_starts s (uncut_line d n) row bytes ≡ cond (leb n (6 + length bytes)) [] (record { kind = 2; block = block; page = page; bytes = bytes; before = d.array; answer = (program_end s (uncut_line d n) block page bytes).outcome } ∷ [])
    unfolding program_end confirmed_end row
    starts =
        effect_starts s d (program_data row bytes) 16 2 confirmed done full marked effect row bytes n told
        ∙ ap (λ (m : ℕ). cond (leb n m) [] (record { kind = 2; block = row / s.geometry.pages; page = row % s.geometry.pages; bytes = bytes; before = d.array; answer = ends_as s (uncut_line d n) 2 m } ∷ [])) first-long
        ∙ ap₂ (λ (b k : ℕ). cond (leb n (6 + length bytes)) [] (record { kind = 2; block = b; page = k; bytes = bytes; before = d.array; answer = ends_as s (uncut_line d n) 2 (6 + length bytes) } ∷ []))
        (block_of_row s.geometry p.called.is_valid block page p.page_below)
        (page_of_row s.geometry p.called.is_valid block page p.page_below)

  -- with the line low the confirm cycle starts nothing
  module _ (low : d.interface.protected ≡ 0 → ⊥) where
    stayed : Device
    stayed = device (unstarted 2 filled) d.array bytes d.history

    stays_is : exec s (run s d (program_data row bytes)) (command 16) ≡ stayed
    unfolding stayed filled addressed
    stays_is =
        ap (λ (x : Device). exec s x (command 16)) after_data
        ∙ confirm_program_low s (device filled d.array bytes d.history) fits_filled p.called.mask_long (rw row_at_fact row_small) refl at_zero refl
        (rw (block_is, page_is) p.in_order) low

    nothing : Unstarted s d (program_data row bytes) (command 16) stayed
    unfolding stayed filled addressed
    nothing =
        record {
          confirm = stays_is;
          ready = omega arith;
          legal = p.called.legal;
          failed = refl;
          low = low;
          quiet = λ k. quiet_run s d (take k (program_data row bytes)) (still-take k (program_data row bytes) still_first);
          same = record { array = refl; history = refl; fate = refl };
        }

    low_ends : answer_end (send_all s (uncut_line d n) (program_cycles s (uncut_line d n) row bytes)) ≡ protected_end (uncut_line d n) (6 + length bytes)
    low_ends =
        unstarted_ends s d (program_data row bytes) (command 16) stayed nothing n ∙ ap (protected_end (uncut_line d n)) first-long

    low_allowed : (send_all s (uncut_line d n) (program_cycles s (uncut_line d n) row bytes)).chip.interface.illegal ≡ 0
    low_allowed = unstarted_legal s d (program_data row bytes) (command 16) stayed nothing n

    low_next : answered (answer_of (send_all s (uncut_line d n) (program_cycles s (uncut_line d n) row bytes))) ≡ true → Called s (send_all s (uncut_line d n) (program_cycles s (uncut_line d n) row bytes))
    unfolding stayed
    low_next a =
        unstarted_next s d (program_data row bytes) (command 16) stayed nothing n p.called.is_valid p.called.mask_long
        p.called.array_long p.bytes_long p.called.history_long a

  -- on either
  any_allowed : (send_all s (uncut_line d n) (program_cycles s (uncut_line d n) row bytes)).chip.interface.illegal ≡ 0
  any_allowed =
      cases (eqb d.interface.protected 0) (λ t. allowed (eqb-true _ _ t)) (λ t. low_allowed (eqb-false _ _ t))

  any_next : answered (answer_of (send_all s (uncut_line d n) (program_cycles s (uncut_line d n) row bytes))) ≡ true → Called s (send_all s (uncut_line d n) (program_cycles s (uncut_line d n) row bytes))
  unfolding end_of
  any_next a =
      cases (eqb d.interface.protected 0)
      (λ t.
      let high = eqb-true _ _ t in
      next high (sym (ap (λ (x : End). answered x.outcome) (ends high)) ∙ sym (ap answered (told high)) ∙ a))
      (λ t. low_next (eqb-false _ _ t) a)

-- how a program ends
pub program_ends : (s : Setting) (l : Line) (block page : ℕ) (bytes : List ℕ) → CanProgram s l block page bytes → end_of (send_all s l (program_cycles s l (row_of s.geometry block page) bytes)) ≡ program_end s l block page bytes
unfolding row
program_ends s l block page bytes p =
    subst (λ (x : Line). end_of (send_all s x (program_cycles s x (row_of s.geometry block page) bytes)) ≡ program_end s x block page bytes)
    (sym (uncut_is l p.may.called.uncut))
    (ends s l.chip l.left block page bytes (subst (λ (x : Line). MayProgram s x block page bytes) (uncut_is l p.may.called.uncut) p.may) p.high)

-- and is answered, bit 7 of its status set
pub program_answer : (s : Setting) (l : Line) (block page : ℕ) (bytes : List ℕ) → CanProgram s l block page bytes → answer_of (send_all s l (program_cycles s l (row_of s.geometry block page) bytes)) ≡ (program_end s l block page bytes).outcome
unfolding end_of
program_answer s l block page bytes p =
    answer_high (send_all s l (program_cycles s l (row_of s.geometry block page) bytes))
    (all_line s l (program_cycles s l (row_of s.geometry block page) bytes) ∙ p.high)
    ∙ ap (λ (x : End). x.outcome) (program_ends s l block page bytes p)

-- with the line low: protected after nine cycles and the data, and nothing changed
pub program_protected : (s : Setting) (l : Line) (block page : ℕ) (bytes : List ℕ) → MayProgram s l block page bytes → (l.chip.interface.protected ≡ 0 → ⊥) → answer_end (send_all s l (program_cycles s l (row_of s.geometry block page) bytes)) ≡ protected_end l (6 + length bytes)
unfolding row
program_protected s l block page bytes p low =
    subst (λ (x : Line). answer_end (send_all s x (program_cycles s x (row_of s.geometry block page) bytes)) ≡ protected_end x (6 + length bytes))
    (sym (uncut_is l p.called.uncut))
    (low_ends s l.chip l.left block page bytes (subst (λ (x : Line). MayProgram s x block page bytes) (uncut_is l p.called.uncut) p) low)

-- no cycle of it is answered illegal, whatever the line
pub program_legal : (s : Setting) (l : Line) (block page : ℕ) (bytes : List ℕ) → MayProgram s l block page bytes → (send_all s l (program_cycles s l (row_of s.geometry block page) bytes)).chip.interface.illegal ≡ 0
unfolding row
program_legal s l block page bytes p =
    subst (λ (x : Line). (send_all s x (program_cycles s x (row_of s.geometry block page) bytes)).chip.interface.illegal ≡ 0)
    (sym (uncut_is l p.called.uncut))
    (any_allowed s l.chip l.left block page bytes (subst (λ (x : Line). MayProgram s x block page bytes) (uncut_is l p.called.uncut) p))

-- once it was answered the chip takes the next operation, whatever the line
pub program_next : (s : Setting) (l : Line) (block page : ℕ) (bytes : List ℕ) → MayProgram s l block page bytes → answered (answer_of (send_all s l (program_cycles s l (row_of s.geometry block page) bytes))) ≡ true → Called s (send_all s l (program_cycles s l (row_of s.geometry block page) bytes))
unfolding row
program_next s l block page bytes p =
    subst (λ (x : Line). answered (answer_of (send_all s x (program_cycles s x (row_of s.geometry block page) bytes))) ≡ true → Called s (send_all s x (program_cycles s x (row_of s.geometry block page) bytes)))
    (sym (uncut_is l p.called.uncut))
    (any_next s l.chip l.left block page bytes (subst (λ (x : Line). MayProgram s x block page bytes) (uncut_is l p.called.uncut) p))

-- it starts one array operation, where the allowance reaches its confirm cycle, and none otherwise
pub program_starts_lem : (s : Setting) (l : Line) (block page : ℕ) (bytes : List ℕ) → CanProgram s l block page bytes → program_starts s l (row_of s.geometry block page) bytes ≡ cond (leb l.left (6 + length bytes)) [] (record { kind = 2; block = block; page = page; bytes = bytes; before = l.chip.array; answer = (program_end s l block page bytes).outcome } ∷ [])
unfolding row
program_starts_lem s l block page bytes p =
    subst (λ (x : Line). program_starts s x (row_of s.geometry block page) bytes ≡ cond (leb x.left (6 + length bytes)) [] (record { kind = 2; block = block; page = page; bytes = bytes; before = x.chip.array; answer = (program_end s x block page bytes).outcome } ∷ []))
    (sym (uncut_is l p.may.called.uncut))
    (starts s l.chip l.left block page bytes (subst (λ (x : Line). MayProgram s x block page bytes) (uncut_is l p.may.called.uncut) p.may) p.high)
