-- Demand 2 over lists: the cycles that a further call sends.
use Rattle.std.specs.Prelude.{ℕ, List, [], ◌⊎◌, ◌≡◌, length}
use Rattle.geometry.specs.declared.Geometry.{Geometry}
use Rattle.chip_array.specs.Device.{Device, Setting, setting}
use Rattle.chip.specs.Chip.{Cycle}
use Rattle.request.specs.Call.{result_of, call_line}
use Rattle.identify.specs.Identify.{unknown}
use Rattle.damage.specs.Replay.{Replayed}
use Rattle.recovery.specs.Calls.{Lent, Call, to_mount, to_read, to_write, to_erase, to_identify, to_open, to_advance, Callable, Store, setting_of, chip_of, run_of, cycles_of}

abbrev pub lent_for : Call → Lent
lent_for (to_mount depth a) = a
lent_for (to_read a logical page buffer) = a
lent_for (to_write a logical page bytes) = a
lent_for (to_erase a logical) = a
lent_for (to_identify a parameters logical) = a
lent_for (to_open a logical page bytes) = a
lent_for (to_advance a most) = a

-- the chip is asked for its size without a geometry
abbrev pub setting_for : Geometry → Call → Setting
setting_for g (to_mount depth a) = setting_of g a
setting_for g (to_read a logical page buffer) = setting_of g a
setting_for g (to_write a logical page bytes) = setting_of g a
setting_for g (to_erase a logical) = setting_of g a
setting_for g (to_identify a parameters logical) = setting unknown a.mask a.fates
setting_for g (to_open a logical page bytes) = setting_of g a
setting_for g (to_advance a most) = setting_of g a

-- the chip on which a call begins
abbrev pub chip_for : Call → Store → Device
chip_for c y = (call_line (chip_of (lent_for c) y.chip) (lent_for c).allowed).chip

-- a request on chip d that may send n cycles, leaves this chip and says how many it sent: it sends none and leaves the chip as it came, or
-- each cycle is legal where it is sent and all of them, one after the other, lead to the chip that is left; there are as many as it says
pub record Sends (s : Setting) (d : Device) (n : ℕ) (cycles : List Cycle) (left : Device) (sent : ℕ) : Type 0 where
  pub leads : ((cycles ≡ []) × (left ≡ d)) ⊎ Replayed s (call_line d n).chip left cycles
  pub counted : sent ≡ length cycles

abbrev pub CallSends : Geometry → Store → Call → Type 0
CallSends g y c =
    Sends (setting_for g c) (chip_of (lent_for c) y.chip) (lent_for c).allowed (cycles_of g c y) (result_of (run_of g c y)).chip (result_of (run_of g c y)).sent

abbrev pub SendsLegally : Geometry → Store → Type 0
SendsLegally g y = (c : Call) → Callable c y → CallSends g y c
