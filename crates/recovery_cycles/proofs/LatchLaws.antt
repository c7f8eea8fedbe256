-- What a chip has latched where it takes a 10h or D0h cycle: the row, and the bytes of a program. Assumes nothing.
use Prim.Native.Nat.{ℕ, ◌+◌, ◌*◌, ◌/◌, ◌<◌, ◌≤◌}
use mathlib.Core.Bool.{true}
use mathlib.Core.List.{List, [], ◌∷◌, ◌++◌, map, append-nil}
use mathlib.Core.Path.{◌≡◌, refl, sym, ap, subst, ◌∙◌}
use native.Mathlib.Nat.{zero-add, div-lt_iff_lt-mul}
use native.Mathlib.Omega.{arith}
use borrow.Author.Tests.{eq-eqb, lt-ltb, eqb-true, ltb-true, leb-true}
use borrow.Table.Steps.{cases}
use lib.Dec.{eqb, leb, ltb}
use lib.ListN.{length, set, drop_of_length-le, length-set}
use lib.Seq.{sets, sets-eq}
use Rattle.geometry.specs.Limits.{Valid}
use Rattle.geometry.specs.Sizes.{page_size, row_count}
use Rattle.geometry.proofs.SizeLaws.{row_count_most, page_size_least}
use Rattle.chip_interface.specs.declared.Interface.{Interface}
use Rattle.chip_interface.specs.Interface.{beginning, begun, plain_command, full_address, address_fits}
use Rattle.chip_array.specs.Device.{Device, Setting, Fitting, device, with_interface, row_at, program_started}
use Rattle.chip.specs.Chip.{exec, commanded, confirmable, confirmed, is_confirm, data_taken, next_column}
use Rattle.chip.specs.Chip.Cycle.{command, data_in}
use Rattle.chip.proofs.ConfirmableLaws.{confirms}
use Rattle.bus.specs.Line.{run, Legal}
use Rattle.bus.proofs.LineLaws.{run_append}
use Rattle.bus.proofs.LegalLaws.{legal_run, legal_start}
use Rattle.bus.proofs.StepLaws.{at_column, begin_program, begin_erase, three_bytes, five_bytes, data_taken_fact}
use Rattle.chip_laws.proofs.LengthLaws.{run_lengths}
use Rattle.chip_laws.proofs.ReplayLaws.{legal_rest}
use Rattle.bus_sequences.specs.Cycles.{address_cycles, row_cycles, program_data, erase_address}
use Rattle.operations.proofs.CallLaws.{column_is, row_is, address_holds}

-- no flag that is set is clear
pub one_zero : {A : Type 0} → ◌≡◌ {A = ℕ} 1 0 → A
one_zero e = absurd (omega (arith, e))

begun-ready : (p n : ℕ) (i : Interface) → (begun p n i).illegal ≡ 0 → i.phase ≤ 2
unfolding begun
begun-ready p n i h = cases (leb i.phase 2) (λ t. leb-true _ _ t) (λ f. one_zero (rw f at h))

module _ (s : Setting) where
  -- a confirm cycle that is taken has passed the test before it
  pub confirm_tested : (d : Device) (code : ℕ) → is_confirm code ≡ true → (exec s d (command code)).interface.illegal ≡ 0 → confirmable s d ≡ true
  unfolding exec commanded
  confirm_tested d code t h = cases (confirmable s d) (λ c. c) (λ f. one_zero (rw (t, f) at h))

  -- a 10h that is taken comes after a whole page
  whole_page : (d : Device) → (exec s d (command 16)).interface.illegal ≡ 0 → d.interface.column ≡ page_size s.geometry
  unfolding exec commanded confirmed is_confirm program_started
  whole_page d h =
      let c : confirmable s d ≡ true = confirm_tested d 16 refl h in
      cases (eqb d.interface.phase 6)
      (λ p. cases (eqb d.interface.first 0)
      (λ f. cases (eqb d.interface.column (page_size s.geometry)) (λ k. eqb-true _ _ k) (λ k. one_zero (rw (c, p, f, k) at h)))
      (λ f. one_zero (rw (c, p, f) at h)))
      (λ p. one_zero (rw (c, p) at h))

  -- one byte that is taken lies in the register
  byte_fits : (x : ℕ) (i : Interface) (a r h : List ℕ) → i.phase ≡ 6 → (exec s (device i a r h) (data_in x)).interface.illegal ≡ 0 → i.column < length r
  unfolding exec data_taken
  byte_fits x i a r h p e =
      cases (ltb i.column (length r)) (λ t. ltb-true _ _ t) (λ f. one_zero (rw (eq-eqb i.phase 6 p, f) at e))

  byte_taken : (x : ℕ) (i : Interface) (a r h : List ℕ) → i.phase ≡ 6 → i.column < length r → exec s (device i a r h) (data_in x) ≡ device (next_column i) a (set r i.column x) h
  unfolding exec data_taken
  byte_taken x i a r h p q = rw (eq-eqb i.phase 6 p, lt-ltb i.column (length r) q)

  -- so does all data
  data_fits : (xs : List ℕ) (i : Interface) (a r h : List ℕ) → i.phase ≡ 6 → i.column ≤ length r → Legal s (device i a r h) (map data_in xs) → i.column + length xs ≤ length r
  data_fits [] i a r h p k g = omega arith
  data_fits (x ∷ xs) i a r h p k g =
      let q = byte_fits x i a r h p g.0 in
      let rest : Legal s (device (next_column i) a (set r i.column x) h) (map data_in xs) = subst (λ (d : Device). Legal s d (map data_in xs)) (byte_taken x i a r h p q) g.1 in
      let long : length (set r i.column x) ≡ length r = length-set r i.column x in
      let more = data_fits xs (next_column i) a (set r i.column x) h p (omega (arith, long)) rest in
      omega (arith, long, more)

  row_small : Valid s.geometry → (row : ℕ) → row / s.geometry.pages < s.geometry.blocks → row < row_count s.geometry
  row_small v row h = (div-lt_iff_lt-mul {k = s.geometry.pages} {x = row} {y = s.geometry.blocks} (omega (arith, v))).0 h

  module _ (d : Device) (row : ℕ) (block_below : row / s.geometry.pages < s.geometry.blocks) where
    -- an erase
    module _ (taken : (exec s (run s d (erase_address row)) (command 208)).interface.illegal ≡ 0) where
      erase_valid : Valid s.geometry
      unfolding is_confirm
      erase_valid = (confirms s (run s d (erase_address row)) (confirm_tested (run s d (erase_address row)) 208 refl taken)).0.is_valid

      erase_below : row < row_count s.geometry
      erase_below = row_small erase_valid row block_below

      erase_ready : d.interface.phase ≤ 2
      unfolding run exec commanded is_confirm plain_command
      erase_ready =
          let legal : Legal s d (erase_address row) = legal_run s d (erase_address row) (legal_start s (run s d (erase_address row)) (command 208 ∷ []) taken) in
          begun-ready 5 2 d.interface legal.0

      erase_address_fact : run s d (erase_address row) ≡ with_interface (full_address (row * 65536) (beginning 5 2 d.interface)) d
      unfolding run
      erase_address_fact =
          ap (λ (x : Device). run s x (row_cycles row)) (begin_erase s d erase_ready)
          ∙ three_bytes s d row d.interface (omega (arith, erase_below, row_count_most s.geometry erase_valid))
          (subst (λ (a : ℕ). address_fits s.geometry a ≡ true) (zero-add (row * 65536))
          (address_holds s.geometry 0 row erase_valid (omega (arith, page_size_least s.geometry erase_valid)) erase_below))

      pub erase_row : row_at (run s d (erase_address row)).interface ≡ row
      erase_row =
          ap (λ (x : Device). row_at x.interface) erase_address_fact
          ∙ ap (λ (a : ℕ). a / 65536) (sym (zero-add (row * 65536)))
          ∙ row_is 0 row (omega arith)

    -- a program
    module _ (bytes : List ℕ) (taken : (exec s (run s d (program_data row bytes)) (command 16)).interface.illegal ≡ 0) where
      abbrev filled : Device
      filled = run s d (program_data row bytes)

      fitting : Fitting s.geometry (length filled.array) (length filled.register) (length filled.history)
      unfolding is_confirm
      fitting = (confirms s filled (confirm_tested filled 16 refl taken)).0

      program_below : row < row_count s.geometry
      program_below = row_small fitting.is_valid row block_below

      legal : Legal s d (program_data row bytes)
      unfolding run
      legal = legal_run s d (program_data row bytes) (legal_start s filled (command 16 ∷ []) taken)

      program_ready : d.interface.phase ≤ 2
      unfolding exec commanded is_confirm plain_command
      program_ready = begun-ready 4 0 d.interface legal.0

      latched : Interface
      latched = full_address (0 + row * 65536) (beginning 4 0 d.interface)

      at_zero : latched.column ≡ 0
      unfolding latched
      at_zero = column_is 0 row (omega arith)

      program_address : run s d (command 128 ∷ address_cycles 0 row) ≡ device latched d.array d.register d.history
      unfolding run latched
      program_address =
          ap (λ (x : Device). run s x (address_cycles 0 row)) (begin_program s d program_ready)
          ∙ five_bytes s d 4 0 row d.interface refl (omega arith) (omega (arith, program_below, row_count_most s.geometry fitting.is_valid))
          (address_holds s.geometry 0 row fitting.is_valid (omega (arith, page_size_least s.geometry fitting.is_valid)) program_below)

      data_legal : Legal s (device latched d.array d.register d.history) (map data_in bytes)
      data_legal =
          subst (λ (x : Device). Legal s x (map data_in bytes)) program_address
          (legal_rest s d (command 128 ∷ address_cycles 0 row) (map data_in bytes) legal)

      program_data_fact : filled ≡ device (at_column (latched.column + length bytes) latched) d.array (sets d.register latched.column bytes) d.history
      unfolding latched
      program_data_fact =
          run_append s d (command 128 ∷ address_cycles 0 row) (map data_in bytes)
          ∙ ap (λ (x : Device). run s x (map data_in bytes)) program_address
          ∙ data_taken_fact s bytes latched d.array d.register d.history refl
          (data_fits bytes latched d.array d.register d.history refl (omega (arith, at_zero)) data_legal)

      register_long : length d.register ≡ page_size s.geometry
      register_long = sym (run_lengths s d (program_data row bytes)).register ∙ fitting.register_long

      bytes_long : length bytes ≡ page_size s.geometry
      bytes_long = omega (arith, at_zero, ap (λ (x : Device). x.interface.column) program_data_fact, whole_page filled taken)

      pub program_row : row_at filled.interface ≡ row
      unfolding latched
      program_row = ap (λ (x : Device). row_at x.interface) program_data_fact ∙ row_is 0 row (omega arith)

      pub program_bytes : filled.register ≡ bytes
      program_bytes =
          ap (λ (x : Device). x.register) program_data_fact
          ∙ ap (λ (k : ℕ). sets d.register k bytes) at_zero
          ∙ sets-eq bytes d.register 0 (omega (arith, bytes_long, register_long))
          ∙ ap (λ (zs : List ℕ). bytes ++ zs)
          (drop_of_length-le d.register {i = 0 + length bytes} (omega (arith, bytes_long, register_long)))
          ∙ append-nil bytes
