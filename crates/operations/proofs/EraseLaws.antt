-- An erase, from 60h to the last status read.
use Prim.Native.Nat.{ℕ, ◌+◌, ◌*◌, ◌/◌, ◌<◌, ◌≤◌}
use mathlib.Core.Bool.{true, cond}
use mathlib.Core.List.{List, [], ◌∷◌}
use mathlib.Core.Path.{◌≡◌, refl, sym, ap, ap₂, subst, ◌∙◌}
use native.Mathlib.Nat.{zero-add}
use native.Mathlib.Omega.{arith}
use borrow.Author.Tests.{eqb-true, eqb-false}
use borrow.Table.Steps.{cases}
use lib.Dec.{eqb, leb}
use lib.ListN.{length, set, take, replicate, length-replicate}
use lib.Seq.{set-set}
use Rattle.geometry.specs.Sizes.{page_size, block_size, chip_size, row_count, row_of, row_bytes}
use Rattle.geometry.proofs.SizeLaws.{row_below, row_count_most, page_size_least, block_within, block_of_row, page_of_row}
use Rattle.cells.specs.Cells.{raised}
use Rattle.cells.specs.Part.{part, put}
use Rattle.cells.proofs.CellLaws.{length-raised}
use Rattle.cells.proofs.PartLaws.{length_part, put-put}
use Rattle.chip_interface.specs.declared.Interface.{Interface}
use Rattle.chip_interface.specs.Interface.{beginning, full_address, in_phase, started, unstarted, address_fits, failed_for, next_fate}
use Rattle.chip_array.specs.Device.{Device, Setting, device, with_interface, row_at, fitting, completed}
use Rattle.chip.specs.Chip.{exec, is_confirm}
use Rattle.chip.specs.Chip.Cycle.{command}
use Rattle.bus.specs.Line.{Line, run, send_all, uncut_line, still, AllStill}
use Rattle.bus.proofs.QuietLaws.{quiet_run, still-take, still_address}
use Rattle.bus.proofs.StepLaws.{busy_with, begin_erase, three_bytes, confirm_erase, confirm_erase_low}
use Rattle.bus.proofs.WordLaws.{all_line}
use Rattle.bus_sequences.specs.Cycles.{erase_address, row_cycles, erase_cycles}
use Rattle.operations.specs.Trace.{erase_starts}
use Rattle.operations.specs.Ends.{Called, MayErase, CanErase, End, end_of, answer_end, protected_end, ends_as, confirmed_end, erase_end, word_for}
use Rattle.bus_polling.specs.Outcomes.{answered}
use Rattle.bus_polling.specs.Polling.{outcome_of, answer_of}
use Rattle.bus_polling.proofs.PollLaws.{answer_high}
use Rattle.operations.proofs.CallLaws.{uncut_is, fitting_holds, row_is, address_holds, arms, part_arms, put_long, set_long}
use Rattle.operations.proofs.TraceLaws.{effect_starts}
use Rattle.operations.proofs.ConfirmLaws.{settles, confirmed_legal}
use Rattle.operations.proofs.EndLaws.{Effect, effect_ends, effect_next}
use Rattle.operations.proofs.UnstartedLaws.{Unstarted, unstarted_ends, unstarted_legal, unstarted_next}

module _ (s : Setting) (d : Device) (n block : ℕ) (p : MayErase s (uncut_line d n) block) where
  row : ℕ
  row = row_of s.geometry block 0

  page_zero : 0 < s.geometry.pages
  page_zero = omega (arith, p.called.is_valid)

  row_small : row < row_count s.geometry
  unfolding row
  row_small = row_below s.geometry p.called.is_valid block 0 p.block_below page_zero

  filled : Interface
  filled = full_address (row * 65536) (beginning 5 2 d.interface)

  after_address_fact : run s d (erase_address row) ≡ device filled d.array d.register d.history
  unfolding run filled
  after_address_fact =
      ap (λ (x : Device). run s x (row_cycles row)) (begin_erase s d p.called.ready)
      ∙ three_bytes s d row d.interface (omega (arith, row_small, row_count_most s.geometry p.called.is_valid))
      (subst (λ (a : ℕ). address_fits s.geometry a ≡ true) (zero-add (row * 65536))
      (address_holds s.geometry 0 row p.called.is_valid (omega (arith, page_size_least s.geometry p.called.is_valid)) row_small))

  row_at_fact : row_at filled ≡ row
  unfolding filled
  row_at_fact = ap (λ (a : ℕ). a / 65536) (sym (zero-add (row * 65536))) ∙ row_is 0 row (omega arith)

  block_is : row_at filled / s.geometry.pages ≡ block
  unfolding row
  block_is = ap (λ (r : ℕ). r / s.geometry.pages) row_at_fact ∙ block_of_row s.geometry p.called.is_valid block 0 page_zero

  still_first : AllStill (erase_address row)
  unfolding still is_confirm
  still_first = (refl, still_address (row_bytes row))

  fits : fitting s.geometry (length d.array) (length d.register) (length d.history) ≡ true
  fits = fitting_holds s.geometry _ _ _ p.called.is_valid p.called.array_long p.called.register_long p.called.history_long

  module _ (high : d.interface.protected ≡ 0) where
    -- the array and the history as the confirm cycle leaves them, and once the erase passed
    half : List ℕ
    half =
        put (block * block_size s.geometry)
        (raised (part (block * block_size s.geometry) (block_size s.geometry) d.array) s.mask)
        d.array

    full : List ℕ
    full = put (block * block_size s.geometry) (replicate (block_size s.geometry) 255) d.array

    marked : List ℕ
    marked = set d.history block 255

    freed : List ℕ
    freed = set d.history block 0

    confirmed : Device
    confirmed = device (started 3 s.fates filled) half d.register marked

    confirm_is : exec s (run s d (erase_address row)) (command 208) ≡ confirmed
    unfolding confirmed half marked filled
    confirm_is =
        ap (λ (x : Device). exec s x (command 208)) after_address_fact
        ∙ confirm_erase s (device filled d.array d.register d.history)
        (fitting_holds s.geometry _ _ _ p.called.is_valid p.called.array_long p.called.register_long p.called.history_long)
        p.called.mask_long (rw row_at_fact row_small) refl refl high
        ∙ ap (λ (b : ℕ). device (started 3 s.fates filled) (put (b * block_size s.geometry) (raised (part (b * block_size s.geometry) (block_size s.geometry) d.array) s.mask) d.array) d.register (set d.history b 255))
        block_is

    -- the chip when ready is reported
    interface_ready : Interface
    interface_ready = in_phase 1 (busy_with 0 (in_phase 8 (started 3 s.fates filled)))

    done : Device
    done = completed s.geometry (with_interface (busy_with 0 (in_phase 8 confirmed.interface)) confirmed)

    failed : ℕ
    failed = failed_for 3 (word_for s d)

    block_fits : block * block_size s.geometry + block_size s.geometry ≤ length d.array
    block_fits = rw p.called.array_long (block_within s.geometry p.called.is_valid block p.block_below)

    old : List ℕ
    old = part (block * block_size s.geometry) (block_size s.geometry) d.array

    length_raise : length (raised old s.mask) ≡ block_size s.geometry
    unfolding old
    length_raise =
        length-raised old s.mask ∙ length_part (block * block_size s.geometry) (block_size s.geometry) d.array block_fits

    again : put (block * block_size s.geometry) (replicate (block_size s.geometry) 255) half ≡ full
    unfolding half full old
    again =
        put-put (block * block_size s.geometry) (replicate (block_size s.geometry) 255) (raised old s.mask) d.array
        (length-replicate (block_size s.geometry) 255 ∙ sym length_raise)
        (rw length_raise block_fits)

    freed_is : set marked block 0 ≡ freed
    unfolding marked freed
    freed_is = set-set d.history block 255 0

    done_is : done ≡ cond (eqb failed 0) (device interface_ready full d.register freed) (device interface_ready half d.register marked)
    unfolding done completed confirmed started filled interface_ready failed
    done_is =
        ap (λ (x : Device). cond (eqb failed 0) x (device interface_ready half d.register marked))
        (ap (λ (b : ℕ). device interface_ready (put (b * block_size s.geometry) (replicate (block_size s.geometry) 255) half) d.register (set marked b 0)) block_is
        ∙ (λ i. device interface_ready (again i) d.register (freed_is i)))

    both_arms : (f : Device → ℕ) (v : ℕ) → f (device interface_ready full d.register freed) ≡ v → f (device interface_ready half d.register marked) ≡ v → f done ≡ v
    both_arms f v x y = ap f done_is ∙ arms f v (eqb failed 0) _ _ x y

    length_half : length half ≡ chip_size s.geometry
    unfolding half old
    length_half = put_long p.called (block * block_size s.geometry) (raised old s.mask) (rw length_raise block_fits)

    length_full : length full ≡ chip_size s.geometry
    unfolding full
    length_full =
        put_long p.called (block * block_size s.geometry) (replicate (block_size s.geometry) 255) (rw length-replicate block_fits)

    length_marked : length marked ≡ s.geometry.blocks
    unfolding marked
    length_marked = set_long p.called block 255

    length_freed : length freed ≡ s.geometry.blocks
    unfolding freed
    length_freed = set_long p.called block 0

    effect : Effect s d (erase_address row) (command 208) 3 confirmed done full freed
    unfolding confirmed done failed interface_ready filled started
    effect =
        record {
          confirmed = record {
            confirm = confirm_is;
            busy = refl;
            legal = p.called.legal;
            settle = settles s confirmed refl (fitting_holds s.geometry _ _ _ p.called.is_valid length_half p.called.register_long length_marked) (rw row_at_fact row_small);
            settled = both_arms (λ (x : Device). x.interface.phase) 1 refl refl;
            still_legal = both_arms (λ (x : Device). x.interface.illegal) 0 p.called.legal p.called.legal;
          };
          quiet = λ k. quiet_run s d (take k (erase_address row)) (still-take k (erase_address row) still_first);
          busy_is = refl;
          failed_is = refl;
          fate_is = refl;
          then_failed = both_arms (λ (x : Device). x.interface.failed) failed refl refl;
          then_fate = both_arms (λ (x : Device). x.interface.fate) (next_fate s.fates d.interface.fate) refl refl;
          then_array = ap (λ (x : Device). x.array) done_is ∙ part_arms (λ (x : Device). x.array) (eqb failed 0) _ _;
          then_history = ap (λ (x : Device). x.history) done_is ∙ part_arms (λ (x : Device). x.history) (eqb failed 0) _ _;
        }

    ends : end_of (send_all s (uncut_line d n) (erase_cycles s (uncut_line d n) row)) ≡ erase_end s (uncut_line d n) block
    unfolding erase_end confirmed half full marked freed row
    ends = effect_ends s d (erase_address row) (command 208) 3 confirmed done full freed effect n

    allowed : (send_all s (uncut_line d n) (erase_cycles s (uncut_line d n) row)).chip.interface.illegal ≡ 0
    allowed = confirmed_legal s d (erase_address row) (command 208) confirmed done effect.confirmed n

    next : answered (erase_end s (uncut_line d n) block).outcome ≡ true → Called s (send_all s (uncut_line d n) (erase_cycles s (uncut_line d n) row))
    unfolding erase_end confirmed_end
    next a =
        effect_next s d (erase_address row) (command 208) 3 confirmed done full freed effect n p.called.is_valid p.called.mask_long
        (both_arms (λ (x : Device). length x.array) (chip_size s.geometry) length_full length_half)
        (both_arms (λ (x : Device). length x.register) (page_size s.geometry) p.called.register_long p.called.register_long)
        (both_arms (λ (x : Device). length x.history) s.geometry.blocks length_freed length_marked)
        a

    told : answer_of (send_all s (uncut_line d n) (erase_cycles s (uncut_line d n) row)) ≡ outcome_of (send_all s (uncut_line d n) (erase_cycles s (uncut_line d n) row))
    told =
        answer_high (send_all s (uncut_line d n) (erase_cycles s (uncut_line d n) row))
        (all_line s (uncut_line d n) (erase_cycles s (uncut_line d n) row) ∙ high)

    starts : erase_starts s (uncut_line d n) row ≡ cond (leb n 4) [] (record { kind = 3; block = block; page = 0; bytes = []; before = d.array; answer = (erase_end s (uncut_line d n) block).outcome } ∷ [])
    unfolding erase_end confirmed_end row
    starts =
        effect_starts s d (erase_address row) 208 3 confirmed done full freed effect row [] n told
        ∙ ap₂ (λ (b k : ℕ). cond (leb n 4) [] (record { kind = 3; block = b; page = k; bytes = []; before = d.array; answer = ends_as s (uncut_line d n) 3 4 } ∷ []))
        (block_of_row s.geometry p.called.is_valid block 0 page_zero)
        (page_of_row s.geometry p.called.is_valid block 0 page_zero)

  -- with the line low the confirm cycle starts nothing
  module _ (low : d.interface.protected ≡ 0 → ⊥) where
    stayed : Device
    stayed = device (unstarted 3 filled) d.array d.register d.history

    stays_is : exec s (run s d (erase_address row)) (command 208) ≡ stayed
    unfolding stayed filled
    stays_is =
        ap (λ (x : Device). exec s x (command 208)) after_address_fact
        ∙ confirm_erase_low s (device filled d.array d.register d.history) fits p.called.mask_long (rw row_at_fact row_small) refl refl low

    nothing : Unstarted s d (erase_address row) (command 208) stayed
    unfolding stayed filled
    nothing =
        record {
          confirm = stays_is;
          ready = omega arith;
          legal = p.called.legal;
          failed = refl;
          low = low;
          quiet = λ k. quiet_run s d (take k (erase_address row)) (still-take k (erase_address row) still_first);
          same = record { array = refl; history = refl; fate = refl };
        }

    low_ends : answer_end (send_all s (uncut_line d n) (erase_cycles s (uncut_line d n) row)) ≡ protected_end (uncut_line d n) 4
    low_ends = unstarted_ends s d (erase_address row) (command 208) stayed nothing n

    low_allowed : (send_all s (uncut_line d n) (erase_cycles s (uncut_line d n) row)).chip.interface.illegal ≡ 0
    low_allowed = unstarted_legal s d (erase_address row) (command 208) stayed nothing n

    low_next : answered (answer_of (send_all s (uncut_line d n) (erase_cycles s (uncut_line d n) row))) ≡ true → Called s (send_all s (uncut_line d n) (erase_cycles s (uncut_line d n) row))
    unfolding stayed
    low_next a =
        unstarted_next s d (erase_address row) (command 208) stayed nothing n p.called.is_valid p.called.mask_long
        p.called.array_long p.called.register_long p.called.history_long a

  -- on either
  any_allowed : (send_all s (uncut_line d n) (erase_cycles s (uncut_line d n) row)).chip.interface.illegal ≡ 0
  any_allowed =
      cases (eqb d.interface.protected 0) (λ t. allowed (eqb-true _ _ t)) (λ t. low_allowed (eqb-false _ _ t))

  any_next : answered (answer_of (send_all s (uncut_line d n) (erase_cycles s (uncut_line d n) row))) ≡ true → Called s (send_all s (uncut_line d n) (erase_cycles s (uncut_line d n) row))
  unfolding end_of
  any_next a =
      cases (eqb d.interface.protected 0)
      (λ t.
      let high = eqb-true _ _ t in
      next high (sym (ap (λ (x : End). answered x.outcome) (ends high)) ∙ sym (ap answered (told high)) ∙ a))
      (λ t. low_next (eqb-false _ _ t) a)

-- how an erase ends
pub erase_ends : (s : Setting) (l : Line) (block : ℕ) → CanErase s l block → end_of (send_all s l (erase_cycles s l (row_of s.geometry block 0))) ≡ erase_end s l block
unfolding row
erase_ends s l block p =
    subst (λ (x : Line). end_of (send_all s x (erase_cycles s x (row_of s.geometry block 0))) ≡ erase_end s x block)
    (sym (uncut_is l p.may.called.uncut))
    (ends s l.chip l.left block (subst (λ (x : Line). MayErase s x block) (uncut_is l p.may.called.uncut) p.may) p.high)

-- and is answered, bit 7 of its status set
pub erase_answer : (s : Setting) (l : Line) (block : ℕ) → CanErase s l block → answer_of (send_all s l (erase_cycles s l (row_of s.geometry block 0))) ≡ (erase_end s l block).outcome
unfolding end_of
erase_answer s l block p =
    answer_high (send_all s l (erase_cycles s l (row_of s.geometry block 0)))
    (all_line s l (erase_cycles s l (row_of s.geometry block 0)) ∙ p.high)
    ∙ ap (λ (x : End). x.outcome) (erase_ends s l block p)

-- with the line low: protected after seven cycles, and nothing changed
pub erase_protected : (s : Setting) (l : Line) (block : ℕ) → MayErase s l block → (l.chip.interface.protected ≡ 0 → ⊥) → answer_end (send_all s l (erase_cycles s l (row_of s.geometry block 0))) ≡ protected_end l 4
unfolding row
erase_protected s l block p low =
    subst (λ (x : Line). answer_end (send_all s x (erase_cycles s x (row_of s.geometry block 0))) ≡ protected_end x 4)
    (sym (uncut_is l p.called.uncut))
    (low_ends s l.chip l.left block (subst (λ (x : Line). MayErase s x block) (uncut_is l p.called.uncut) p) low)

-- no cycle of it is answered illegal, whatever the line
pub erase_legal : (s : Setting) (l : Line) (block : ℕ) → MayErase s l block → (send_all s l (erase_cycles s l (row_of s.geometry block 0))).chip.interface.illegal ≡ 0
unfolding row
erase_legal s l block p =
    subst (λ (x : Line). (send_all s x (erase_cycles s x (row_of s.geometry block 0))).chip.interface.illegal ≡ 0)
    (sym (uncut_is l p.called.uncut))
    (any_allowed s l.chip l.left block (subst (λ (x : Line). MayErase s x block) (uncut_is l p.called.uncut) p))

-- once it was answered the chip takes the next operation, whatever the line
pub erase_next : (s : Setting) (l : Line) (block : ℕ) → MayErase s l block → answered (answer_of (send_all s l (erase_cycles s l (row_of s.geometry block 0)))) ≡ true → Called s (send_all s l (erase_cycles s l (row_of s.geometry block 0)))
unfolding row
erase_next s l block p =
    subst (λ (x : Line). answered (answer_of (send_all s x (erase_cycles s x (row_of s.geometry block 0)))) ≡ true → Called s (send_all s x (erase_cycles s x (row_of s.geometry block 0))))
    (sym (uncut_is l p.called.uncut))
    (any_next s l.chip l.left block (subst (λ (x : Line). MayErase s x block) (uncut_is l p.called.uncut) p))

-- it starts one array operation, where the allowance reaches its confirm cycle, and none otherwise
pub erase_starts_lem : (s : Setting) (l : Line) (block : ℕ) → CanErase s l block → erase_starts s l (row_of s.geometry block 0) ≡ cond (leb l.left 4) [] (record { kind = 3; block = block; page = 0; bytes = []; before = l.chip.array; answer = (erase_end s l block).outcome } ∷ [])
unfolding row
erase_starts_lem s l block p =
    subst (λ (x : Line). erase_starts s x (row_of s.geometry block 0) ≡ cond (leb x.left 4) [] (record { kind = 3; block = block; page = 0; bytes = []; before = x.chip.array; answer = (erase_end s x block).outcome } ∷ []))
    (sym (uncut_is l p.may.called.uncut))
    (starts s l.chip l.left block (subst (λ (x : Line). MayErase s x block) (uncut_is l p.may.called.uncut) p.may) p.high)
