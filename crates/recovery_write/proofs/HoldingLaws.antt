-- A chip of one call, with the array that another call left: where a fill that goes on would have begun in this call.
-- Assumes nothing.
use Prim.Native.Nat.{ℕ}
use mathlib.Core.List.{List, []}
use mathlib.Core.Path.{◌≡◌, refl}
use lib.ListN.{length}
use Rattle.geometry.specs.Sizes.{chip_size}
use Rattle.chip_array.specs.Device.{Setting}
use Rattle.bus.specs.Line.{Line, uncut_line}
use Rattle.bus_polling.specs.Outcomes.{is_failed, is_illegal, is_cut_off, is_silent, is_protected}
use Rattle.bus_polling.specs.declared.Outcome.TheVariants.{Passed}
use Rattle.operations.specs.Ends.{Called}
use Rattle.operations.specs.Trace.{ArrayOperation}
use Rattle.progress.specs.Progress.{Progress, progress}
use Rattle.damage.specs.Run.{Sound}
use Rattle.bools.proofs.BoolLaws.{clash}

-- the chip of this call with another array
abbrev pub holding : Line → List ℕ → Line
holding l array = uncut_line (record { interface = l.chip.interface; array = array; register = l.chip.register; history = l.chip.history }) l.left

-- nothing has been sent in this call, and these operations before it
abbrev pub standing : Line → List ℕ → List ArrayOperation → Progress
standing l array before = progress (holding l array) Passed [] before

pub holding_called : (s : Setting) (l : Line) → Called s l → (array : List ℕ) → length array ≡ chip_size s.geometry → Called s (holding l array)
holding_called s l called array e =
    record { is_valid = called.is_valid; array_long = e; register_long = called.register_long; history_long = called.history_long; mask_long = called.mask_long; ready = called.ready; legal = called.legal; uncut = refl }

pub standing_sound : (s : Setting) (l : Line) → Called s l → (array : List ℕ) → length array ≡ chip_size s.geometry → (before : List ArrayOperation) → Sound s (standing l array before)
unfolding is_illegal is_cut_off is_silent is_failed is_protected
standing_sound s l called array e before =
    record { legal = called.legal; known = refl; unprotected = refl; used_up = λ e. clash e refl; silent_by = λ e. clash e refl; failed_by_fact = λ e. clash e refl; called = λ y. holding_called s l called array e }
