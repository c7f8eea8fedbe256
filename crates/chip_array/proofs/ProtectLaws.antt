-- With the write-protect line low neither 10h nor D0h starts anything, for every chip: array and history stay, and no fate word is taken.
-- Assumes nothing.
use mathlib.Core.Bool.{Bool, true, false, cond}
use mathlib.Core.Path.{◌≡◌, refl}
use borrow.Author.Tests.{ne_eqb}
use lib.Dec.{eqb, leb}
use lib.ListN.{get_or}
use Rattle.geometry.specs.Sizes.{page_size}
use Rattle.chip_interface.specs.declared.Interface.{Interface}
use Rattle.chip_interface.specs.Interface.{refused, unstarted}
use Rattle.chip_array.specs.Device.{Device, Setting, with_interface, illegal_cycle, block_at, page_at, program_started, erase_started}

pub record Unmoved (d e : Device) : Type 0 where
  pub array : e.array ≡ d.array
  pub history : e.history ≡ d.history
  pub fate : e.interface.fate ≡ d.interface.fate

-- it holds of both arms of a test
arms : (d : Device) (b : Bool) (x y : Device) → Unmoved d x → Unmoved d y → Unmoved d (cond b x y)
arms d true x y p q = p
arms d false x y p q = q

unmoved : (d : Device) (i : Interface) → i.fate ≡ d.interface.fate → Unmoved d (with_interface i d)
unmoved d i same = record { array = refl; history = refl; fate = same }

module _ (s : Setting) (d : Device) (low : d.interface.protected ≡ 0 → ⊥) where
  refuses : Unmoved d (illegal_cycle d)
  refuses = unmoved d (refused d.interface) refl

  pub program_low : Unmoved d (program_started s d)
  unfolding program_started
  program_low =
      rw (ne_eqb _ _ low)
      (arms d (eqb d.interface.phase 6) _ _
      (arms d (eqb d.interface.first 0) _ _
      (arms d (eqb d.interface.column (page_size s.geometry)) _ _
      (arms d (leb (get_or d.history (block_at s.geometry d.interface) 0) (page_at s.geometry d.interface)) _ _ (unmoved d (unstarted 2 d.interface) refl) refuses) refuses) refuses) refuses)

  pub erase_low : Unmoved d (erase_started s d)
  unfolding erase_started
  erase_low =
      rw (ne_eqb _ _ low)
      (arms d (eqb d.interface.phase 5) _ _ (arms d (eqb d.interface.count 5) _ _ (unmoved d (unstarted 3 d.interface) refl) refuses) refuses)
