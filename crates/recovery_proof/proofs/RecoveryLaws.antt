-- Demand 3: after every list of calls and losses of power a mount recovers the book, reads give it, and bad blocks are spared. Assumes nothing
-- but the laws named.
use Prim.Native.Nat.{ℕ}
use mathlib.Core.List.{List, [], ◌∷◌}
use mathlib.Core.Logic.{inr}
use mathlib.Core.Path.{refl}
use lib.ListN.{length}
use Rattle.geometry.specs.declared.Geometry.{Geometry}
use Rattle.chip_array.proofs.DeviceLaws.{fits}
use Rattle.operations.proofs.CallLaws.{fitting_holds}
use Rattle.open_write.specs.Open.{OpenState}
use Rattle.recovery.specs.Calls.{Call, to_mount, to_read, to_write, to_erase, to_identify, to_open, to_advance, Callable, Event, called, power_lost, Possible, AllPossible, Store, step, unpowered, happens, after, begun}
use Rattle.recovery.specs.Recovery.{Always, Recovers, ReadsRight, Spares}
use Rattle.recovery_proof.specs.Invariant.{Inv}
use Rattle.recovery_proof.proofs.InvariantLaws.{still_inv}
use Rattle.recovery_proof.proofs.StartLaws.{start_inv}
use Rattle.recovery_proof.proofs.MountSteps.{mount_step}
use Rattle.recovery_proof.proofs.ReadSteps.{read_step, read_gives_shown, read_keeps_buffer}
use Rattle.recovery_proof.proofs.ChangeSteps.{write_step, write_spared, erase_step, erase_spared}
use Rattle.recovery_proof.proofs.IdentifySteps.{identify_step, identify_spared}
use Rattle.recovery_proof.proofs.OpenSteps.{open_step, open_spared}
use Rattle.recovery_proof.proofs.AdvanceSteps.{advance_step, advance_spared}
use Rattle.recovery_proof.proofs.ReadOnlyLaws.{mount_spared, read_spared}
use Rattle.recovery_proof.proofs.MountReads.{inv_recovered}

-- one call
pub step_inv : (g : Geometry) (c : Call) (y : Store) → Callable c y → Inv g y → Inv g (step g c y)
step_inv g (to_mount depth a) y t i = mount_step g y i depth a
step_inv g (to_read a logical page buffer) y t i = read_step g y i a logical page buffer
step_inv g (to_write a logical page bytes) y t i = write_step g y i a t.0.0 logical page bytes t.0.1
step_inv g (to_erase a logical) y t i = erase_step g y i a t.0 logical
step_inv g (to_identify a parameters logical) y t i = identify_step g y a parameters logical i
step_inv g (to_open a logical page bytes) y t i = open_step g y i a t.0.0 logical page bytes t.0.1
step_inv g (to_advance a most) y t i = advance_step g y i a t.0 most t.1

-- power lost: what stands in the place of the state does not count as mounted, and the sizes are as they were
unpowered_inv : (g : Geometry) (x : OpenState) (register : List ℕ) (y : Store) → Possible g (power_lost x register) y → Inv g y → Inv g (unpowered x register y)
unfolding unpowered
unpowered_inv g x register y t i =
    let f = fits g (length y.chip.array) (length y.chip.register) (length y.chip.history) i.fits in
    still_inv g y i (unpowered x register y) (fitting_holds g _ _ _ f.is_valid f.array_long t.2 f.history_long) t.1 refl refl refl (inr (inr t.0))

pub event_inv : (g : Geometry) (e : Event) (y : Store) → Possible g e y → Inv g y → Inv g (happens g e y)
event_inv g (called c) y t i = step_inv g c y t i
event_inv g (power_lost x register) y t i = unpowered_inv g x register y t i

pub after_inv : (g : Geometry) (es : List Event) (y : Store) → AllPossible g es y → Inv g y → Inv g (after g es y)
unfolding after AllPossible
after_inv g [] y t i = i
after_inv g (e ∷ es) y t i = after_inv g es (happens g e y) t.1 (event_inv g e y t.0 i)

-- the invariant holds always
pub always : Always Inv
always g a d x mask_bytes array_bytes kept z es t = after_inv g es (begun g a d x) t (start_inv g a d x mask_bytes array_bytes kept z)

-- so it is enough for what is said of a store
pub by_inv : (P : Geometry → Store → Type 0) → ((g : Geometry) (y : Store) → Inv g y → P g y) → Always P
by_inv P f g a d x mask_bytes array_bytes kept z es t = f g (after g es (begun g a d x)) (always g a d x mask_bytes array_bytes kept z es t)

pub recovers : Always Recovers
recovers = by_inv Recovers inv_recovered

pub reads_by : (g : Geometry) (y : Store) → Inv g y → ReadsRight g y
reads_by g y i a logical page buffer =
    record {
      gives = read_gives_shown g y i a logical page buffer;
      keeps = read_keeps_buffer g y i a logical page buffer;
    }

pub read_right : Always ReadsRight
read_right = by_inv ReadsRight reads_by

pub spared_by : (g : Geometry) (y : Store) → Inv g y → Spares g y
spared_by g y i (to_mount depth a) t = mount_spared g y a depth
spared_by g y i (to_read a logical page buffer) t = read_spared g y a logical page buffer
spared_by g y i (to_write a logical page bytes) t = write_spared g y i a t.0.0 logical page bytes t.0.1
spared_by g y i (to_erase a logical) t = erase_spared g y i a t.0 logical
spared_by g y i (to_identify a parameters logical) t = identify_spared g y a parameters logical
spared_by g y i (to_open a logical page bytes) t = open_spared g y i a t.0.0 logical page bytes t.0.1
spared_by g y i (to_advance a most) t = advance_spared g y i a t.0 most t.1

pub spares : Always Spares
spares = by_inv Spares spared_by
