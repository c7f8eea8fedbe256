-- Which confirm, data and status cycles are refused, for every chip. Assumes nothing.
use Prim.Native.Nat.{ℕ, ◌≤◌, ◌<◌}
use mathlib.Core.Bool.{true}
use mathlib.Core.List.{List}
use mathlib.Core.Path.{◌≡◌}
use borrow.Author.Tests.{eq-eqb, ne_eqb, le-ltb}
use borrow.Table.Steps.{cases}
use lib.Dec.{eqb}
use lib.ListN.{length}
use Rattle.geometry.specs.Sizes.{block_size, row_count}
use Rattle.chip_array.specs.Device.{Device, Setting, Fitting, illegal_cycle, row_at}
use Rattle.chip.specs.Chip.{is_confirm, confirmable, commanded, data_taken, data_given, parameter_given, status_read}
use Rattle.chip.proofs.ConfirmableLaws.{confirms}

-- 30h, 10h and D0h where array, register, history or mask has another length than the geometry asks, or the row is none of the chip
pub confirm_unfit : (code : ℕ) (s : Setting) (d : Device) → is_confirm code ≡ true
    → (Fitting s.geometry (length d.array) (length d.register) (length d.history) × ((length s.mask ≡ block_size s.geometry) × (row_at d.interface < row_count s.geometry)) → ⊥)
    → commanded code s d ≡ illegal_cycle d
unfolding commanded
confirm_unfit code s d c n = cases (confirmable s d) (λ t. absurd (n (confirms s d t))) (λ t. rw (c, t))

module _ (d : Device) where
  -- data in anywhere but after 80h and its address, and past the last column
  pub data_in_elsewhere : (byte : ℕ) → (d.interface.phase ≡ 6 → ⊥) → data_taken byte d ≡ illegal_cycle d
  unfolding data_taken
  data_in_elsewhere byte n = rw (ne_eqb _ _ n)

  pub data_in_past : (byte : ℕ) → length d.register ≤ d.interface.column → data_taken byte d ≡ illegal_cycle d
  unfolding data_taken
  data_in_past byte h = rw (le-ltb _ _ h) (cases (eqb d.interface.phase 6) (λ a. rw a) (λ a. rw a))

  -- data out anywhere but after 00h with a page in the register, and past the last column
  pub data_out_elsewhere : (d.interface.phase ≡ 2 → ⊥) → data_given d ≡ illegal_cycle d
  unfolding data_given
  data_out_elsewhere n = rw (ne_eqb _ _ n)

  pub data_out_past : length d.register ≤ d.interface.column → data_given d ≡ illegal_cycle d
  unfolding data_given
  data_out_past h =
      rw (le-ltb _ _ h)
      (cases (eqb d.interface.phase 2) (λ a. rw a (cases (eqb d.interface.operation 4) (λ b. rw b) (λ b. rw b))) (λ a. rw a))

  -- the page register while the parameter page is put out, and the parameter page anywhere else and past its last byte
  pub data_out_parameters : d.interface.operation ≡ 4 → data_given d ≡ illegal_cycle d
  unfolding data_given
  data_out_parameters h = rw (eq-eqb _ _ h) (cases (eqb d.interface.phase 2) (λ a. rw a) (λ a. rw a))

  pub parameter_out_elsewhere : (page : List ℕ) → (d.interface.phase ≡ 2 → ⊥) → parameter_given page d ≡ illegal_cycle d
  unfolding parameter_given
  parameter_out_elsewhere page n = rw (ne_eqb _ _ n) (cases (eqb d.interface.operation 4) (λ a. rw a) (λ a. rw a))

  pub parameter_out_other : (page : List ℕ) → (d.interface.operation ≡ 4 → ⊥) → parameter_given page d ≡ illegal_cycle d
  unfolding parameter_given
  parameter_out_other page n = rw (ne_eqb _ _ n)

  pub parameter_out_past : (page : List ℕ) → length page ≤ d.interface.column → parameter_given page d ≡ illegal_cycle d
  unfolding parameter_given
  parameter_out_past page h =
      rw (le-ltb _ _ h)
      (cases (eqb d.interface.operation 4) (λ a. rw a (cases (eqb d.interface.phase 2) (λ b. rw b) (λ b. rw b))) (λ a. rw a))

-- a status read without 70h
pub status_elsewhere : (s : Setting) (d : Device) → (d.interface.phase ≡ 1 → ⊥) → (d.interface.phase ≡ 8 → ⊥) → status_read s.geometry d ≡ illegal_cycle d
unfolding status_read
status_elsewhere s d a b = rw (ne_eqb _ _ a, ne_eqb _ _ b)
