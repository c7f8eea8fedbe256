-- After every list on a chip of bytes each write and erase that is not refused ends as on any chip. Assumes nothing.
use Prim.Native.Nat.{ℕ}
use mathlib.Core.Bool.{true}
use mathlib.Core.List.{List, [], ◌∷◌}
use mathlib.Core.Logic.{⊎_elim}
use mathlib.Core.Path.{◌≡◌, refl, sym, ap, subst, ◌∙◌}
use borrow.Author.Tests.{eq-eqb}
use lib.ListN.{length}
use Rattle.geometry.specs.declared.Geometry.{Geometry}
use Rattle.cells.specs.Bytes.{Bytes}
use Rattle.chip_array.specs.Device.{Device, Setting}
use Rattle.chip.specs.Chip.{Cycle}
use Rattle.chip_laws.proofs.ByteLaws.{run_bytes}
use Rattle.request.specs.Call.{call_line, sized_for, result_of}
use Rattle.mount_laws.proofs.StateLaws.{map_long}
use Rattle.format_laws.proofs.FormattingLaws.{format_ends}
use Rattle.open_write.specs.Open.{OpenState, kept_bytes, is_opened}
use Rattle.open_write.specs.Requests.{open_write_request, open_erase_request}
use Rattle.write_laws.specs.Changing.{InRange}
use Rattle.write_laws.proofs.ChangingLaws.{write_ends, erase_ends}
use Rattle.recovery_stored.proofs.KnowsLaws.{knows_bits}
use Rattle.recovery.specs.Calls.{Lent, Call, to_mount, to_read, to_write, to_erase, to_identify, to_open, to_advance, Callable, Event, called, power_lost, Possible, AllPossible, Store, state_of, setting_of, format_on, step, unpowered, happens, after, begun, chip_of}
use Rattle.recovery_proof.specs.Invariant.{Up, Inv}
use Rattle.recovery.specs.Recovery.{Always}
use Rattle.recovery_proof.specs.Sent.{Sends}
use Rattle.recovery_proof.specs.Protected.{Unbarred}
use Rattle.recovery_proof.specs.Told.{WritesTold, ErasesTold}
use Rattle.recovery_proof.proofs.IdentifySteps.{array_kept}
use Rattle.recovery_proof.proofs.InvariantLaws.{is_up}
use Rattle.recovery_proof.proofs.OpenLaws.{admits}
use Rattle.recovery_proof.proofs.ChangeSteps.{shut_so}
use Rattle.recovery_proof.proofs.StartLaws.{fits, begun_is, start_inv}
use Rattle.recovery_proof.proofs.SentLaws.{calls_sent}
use Rattle.recovery_proof.proofs.RecoveryLaws.{always, event_inv}

-- the array stays bytes: cycles change it as programs and erases do
pub sent_bytes : (s : Setting) → Bytes s.mask → (d : Device) (n : ℕ) (cs : List Cycle) (left : Device) (sent : ℕ) → Sends s d n cs left sent → Bytes d.array → Bytes left.array
sent_bytes s mask_bytes d n cs left sent w h =
    ⊎_elim
    (λ e. subst (λ (x : Device). Bytes x.array) (sym e.1) h)
    (λ r. subst (λ (x : Device). Bytes x.array) r.leads (run_bytes s mask_bytes (call_line d n).chip cs h))
    w.leads

step_bytes : (g : Geometry) (c : Call) (y : Store) → Callable c y → Inv g y → Bytes y.chip.array → Bytes (step g c y).chip.array
unfolding step
step_bytes g (to_mount depth a) y t i h =
    sent_bytes (setting_of g a) t.0 _ _ _ _ _ (calls_sent g y i (to_mount depth a) t) h
step_bytes g (to_read a logical page buffer) y t i h =
    sent_bytes (setting_of g a) t.0 _ _ _ _ _ (calls_sent g y i (to_read a logical page buffer) t) h
step_bytes g (to_write a logical page bytes) y t i h =
    sent_bytes (setting_of g a) t.0.0 _ _ _ _ _ (calls_sent g y i (to_write a logical page bytes) t) h
step_bytes g (to_erase a logical) y t i h =
    sent_bytes (setting_of g a) t.0 _ _ _ _ _ (calls_sent g y i (to_erase a logical) t) h
step_bytes g (to_identify a parameters logical) y t i h = subst Bytes (sym (array_kept g y a parameters logical)) h
step_bytes g (to_open a logical page bytes) y t i h =
    sent_bytes (setting_of g a) t.0.0 _ _ _ _ _ (calls_sent g y i (to_open a logical page bytes) t) h
step_bytes g (to_advance a most) y t i h =
    sent_bytes (setting_of g a) t.0 _ _ _ _ _ (calls_sent g y i (to_advance a most) t) h

pub event_bytes : (g : Geometry) (e : Event) (y : Store) → Possible g e y → Inv g y → Bytes y.chip.array → Bytes (happens g e y).chip.array
unfolding unpowered
event_bytes g (called c) y t i h = step_bytes g c y t i h
event_bytes g (power_lost x register) y t i h = h

after_bytes : (g : Geometry) (es : List Event) (y : Store) → AllPossible g es y → Inv g y → Bytes y.chip.array → Bytes (after g es y).chip.array
unfolding after AllPossible
after_bytes g [] y t i h = h
after_bytes g (e ∷ es) y t i h = after_bytes g es (happens g e y) t.1 (event_inv g e y t.0 i) (event_bytes g e y t.0 i h)

pub begun_bytes : (g : Geometry) (a : Lent) (d : Device) (x : OpenState) → Bytes a.mask → Bytes d.array → length x.page ≡ kept_bytes → (format_on g a d x).answer ≡ 0 → Bytes (begun g a d x).chip.array
begun_bytes g a d x mask_bytes h kept z =
    let s = setting_of g a in
    let e = chip_of a d in
    let t : sized_for s e ≡ true = fits g a d x mask_bytes h kept z in
    subst (λ (y : Store). Bytes y.chip.array) (sym (begun_is g a d x mask_bytes h kept z))
    (subst (λ (y : Device). Bytes y.array) (format_ends s e a.allowed mask_bytes h t x.state).replayed.leads (run_bytes s mask_bytes (call_line e a.allowed).chip _ h))

-- a mounted store is as the types of the code have it
pub ranged : (g : Geometry) (y : Store) → Up g y → Bytes y.chip.array → (a : Lent) → Bytes a.mask → InRange (setting_of g a) (chip_of a y.chip) y.state
ranged g y u h a mask_bytes =
    let bits = knows_bits g y.chip.array y.state u.agrees.stored u.agrees.knows in
    record {
      array_bytes = h;
      mask_bytes = mask_bytes;
      invalid_long = bits.long;
      invalid_bytes = bits.bytes;
      map_long = ap length u.agrees.knows.map_is ∙ map_long g y.chip.array y.state.table;
    }

pub of_bytes : (P : Geometry → Store → Type 0) → ((g : Geometry) (y : Store) → Inv g y → Bytes y.chip.array → P g y) → Always P
of_bytes P f g a d x mask_bytes h kept z es t =
    f g (after g es (begun g a d x)) (always g a d x mask_bytes h kept z es t)
    (after_bytes g es (begun g a d x) t (start_inv g a d x mask_bytes h kept z) (begun_bytes g a d x mask_bytes h kept z))

-- a store that no write is open on
up_unbarred : (g : Geometry) (a : Lent) (y : Store) → Inv g y → Unbarred g a y → Up g y
up_unbarred g a y i o =
    let x = admits g (sized_for (setting_of g a) (chip_of a y.chip)) (state_of y) (is_opened (state_of y)) o in
    is_up g y i x.is_mounted (shut_so y x.unbarred)

pub writes_told : Always WritesTold
unfolding result_of open_write_request
writes_told =
    of_bytes WritesTold
    (λ g y i h a logical page bytes m b o z.
    let s = setting_of g a in
    let u = up_unbarred g a y i o in
    (rw (eq-eqb _ 0 o) refl, write_ends s (chip_of a y.chip) a.allowed y.state (ranged g y u h a m) u.ready logical page bytes z b))

pub erases-told : Always ErasesTold
unfolding result_of open_erase_request
erases-told =
    of_bytes ErasesTold
    (λ g y i h a logical m o z.
    let s = setting_of g a in
    let u = up_unbarred g a y i o in
    (rw (eq-eqb _ 0 o) refl, erase_ends s (chip_of a y.chip) a.allowed y.state (ranged g y u h a m) u.ready logical z))
