-- Demand 3 from a chip as it is found: one that this store can leave, or one of a store that knows kinds 44h and 54h alone. Assumes nothing but the laws
-- named.
use mathlib.Core.Bool.{true, false}
use mathlib.Core.Logic.{inr}
use mathlib.Core.Path.{◌≡◌, refl, sym, ap}
use lib.ListN.{length}
use Rattle.geometry.specs.declared.Geometry.{Geometry}
use Rattle.chip_array.specs.Device.{Device, lengths_fit}
use Rattle.copies.specs.Current.{current_table}
use Rattle.open_write.specs.Open.{OpenState, kept_bytes, mounted_open}
use Rattle.mount.specs.Mount.{block_of}
use Rattle.mount_laws.proofs.StateLaws.{right_table_fact}
use Rattle.recovery_stored.specs.Stored.{Stored}
use Rattle.recovery.specs.Book.{Book}
use Rattle.recovery.specs.Calls.{Store}
use Rattle.recovery.specs.Recovery.{Recovers, ReadsRight, Spares}
use Rattle.recovery_proof.specs.Invariant.{Inv}
use Rattle.recovery_proof.specs.Answers.{ComesBack}
use Rattle.recovery_proof.proofs.InvariantLaws.{due_quiet}
use Rattle.recovery_proof.proofs.RecoveryLaws.{after_inv, reads_by, spared_by}
use Rattle.recovery_proof.proofs.MountReads.{inv_recovered}
use Rattle.recovery_proof.proofs.AnswerLaws.{comes_by}
use Rattle.recovery_update.specs.Found.{found_on, AlwaysFrom, AlwaysUpdated}
use Rattle.recovery_update.proofs.OlderLaws.{older_stored}

-- the invariant holds of a chip as it is found
found_inv : (g : Geometry) (d : Device) (x : OpenState) → Stored g d.array → lengths_fit g d ≡ true → mounted_open g x ≡ false → length x.page ≡ kept_bytes → Inv g (found_on g d x)
found_inv g d x s fits unmounted kept =
    record {
      fits = fits;
      kept = kept;
      marks = λ b h. refl;
      stored = s;
      table = block_of (current_table g d.array);
      table_is = (right_table_fact g d.array s.mounts).is_current;
      reads = λ l p h k. sym (ap (λ (b : Book). b l p) (due_quiet g d.array (found_on g d x).account refl));
      is = inr (inr unmounted);
    }

module _ (P : Geometry → Store → Type 0) (by : (g : Geometry) (y : Store) → Inv g y → P g y) where
  from_inv : AlwaysFrom P
  from_inv g d x s fits unmounted kept es t = by g _ (after_inv g es (found_on g d x) t (found_inv g d x s fits unmounted kept))

  updated_inv : AlwaysUpdated P
  updated_inv kinds g d x s fits unmounted kept es t = from_inv g d x (older_stored kinds g d.array s.0 s.1) fits unmounted kept es t

pub recovers_from : AlwaysFrom Recovers
recovers_from = from_inv Recovers inv_recovered

pub read_right-from : AlwaysFrom ReadsRight
read_right-from = from_inv ReadsRight reads_by

pub spares_from : AlwaysFrom Spares
spares_from = from_inv Spares spared_by

pub comes_back_from : AlwaysFrom ComesBack
comes_back_from = from_inv ComesBack comes_by

-- an updated box
pub recovers_updated : AlwaysUpdated Recovers
recovers_updated = updated_inv Recovers inv_recovered

pub read_right_updated : AlwaysUpdated ReadsRight
read_right_updated = updated_inv ReadsRight reads_by

pub spares_updated : AlwaysUpdated Spares
spares_updated = updated_inv Spares spared_by

pub comes_back_updated : AlwaysUpdated ComesBack
comes_back_updated = updated_inv ComesBack comes_by
