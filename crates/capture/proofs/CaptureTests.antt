-- Cycles of small operations, computed. Assumes nothing.
use Prim.Native.Nat.{ℕ, zero, suc}
use mathlib.Core.List.{List, [], ◌∷◌}
use mathlib.Core.Path.{◌≡◌, refl}
use Rattle.chip.specs.Chip.{Cycle}
use Rattle.bus_sequences.specs.Cycles.{reset_cycles, status_cycles}
use Rattle.std.proofs.Common.{Option, Some, None}
use Rattle.capture.specs.declared.Captured.{Captured}
use Rattle.capture.specs.declared.Captured.TheVariants.{Command, Address, DataIn, DataOut, Status}
use Rattle.capture.specs.Capture.{cycle_at, program_capture, erase_capture, fetch_capture, read_capture}

-- n cycles of a list from the i-th on
unfoldable from : List Cycle → ℕ → ℕ → List (Option Captured)
from cs i zero = []
from cs i (suc n) = cycle_at cs i ∷ from cs (suc i) n

reset : from reset_cycles 0 4 ≡ Some (Command 255) ∷ Some (Command 112) ∷ Some Status ∷ None ∷ []
unfolding from cycle_at
reset = refl

status_read_lem : from status_cycles 0 3 ≡ Some (Command 112) ∷ Some Status ∷ None ∷ []
unfolding from cycle_at
status_read_lem = refl

-- block 1 of the small chip, ready at once
erase : from (erase_capture 4 1) 0 8 ≡ Some (Command 96) ∷ Some (Address 4) ∷ Some (Address 0) ∷ Some (Address 0) ∷ Some (Command 208) ∷ Some (Command 112) ∷ Some Status ∷ None ∷ []
unfolding from cycle_at
erase = refl

-- two bytes into the last row of the largest part
program : from (program_capture 262143 (165 ∷ 90 ∷ []) 1) 0 12 ≡ Some (Command 128) ∷ Some (Address 0) ∷ Some (Address 0) ∷ Some (Address 255) ∷ Some (Address 255) ∷ Some (Address 3) ∷ Some (DataIn 165) ∷ Some (DataIn 90) ∷ Some (Command 16) ∷ Some (Command 112) ∷ Some Status ∷ None ∷ []
unfolding from cycle_at
program = refl

-- column 2048 of row 9, busy once, two bytes moved
read : from (read_capture 9 2048 2 2) 0 14 ≡ Some (Command 0) ∷ Some (Address 0) ∷ Some (Address 8) ∷ Some (Address 9) ∷ Some (Address 0) ∷ Some (Address 0) ∷ Some (Command 48) ∷ Some (Command 112) ∷ Some Status ∷ Some Status ∷ Some (Command 0) ∷ Some DataOut ∷ Some DataOut ∷ None ∷ []
unfolding from cycle_at
read = refl

-- a read that is still busy after 256 status reads moves nothing
silent : from (fetch_capture 9 0 256) 262 3 ≡ Some Status ∷ Some Status ∷ None ∷ []
unfolding from cycle_at
silent = refl
