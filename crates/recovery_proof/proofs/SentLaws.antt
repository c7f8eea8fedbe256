-- Demand 2 over lists: each cycle of every further call is legal where it is sent, and they lead to the chip that is left. Assumes
-- nothing but the laws named.
use Prim.Native.Nat.{ℕ}
use mathlib.Core.List.{List}
use mathlib.Core.Bool.{false}
use mathlib.Core.Logic.{inl, inr, ⊎_elim}
use mathlib.Core.Path.{refl}
use borrow.Table.Steps.{cases}
use borrow.Author.Tests.{eqb-true, eqb-false}
use lib.Dec.{eqb}
use lib.ListN.{length, get_or}
use Rattle.geometry.specs.declared.Geometry.{Geometry}
use Rattle.chip_array.specs.Device.{Setting}
use Rattle.state.specs.State.{none}
use Rattle.request.specs.Call.{sized_for, result_of, sent_in}
use Rattle.request_refusals.specs.Refusals.{refusal_of}
use Rattle.request_refusals.proofs.RefusalLaws.{Accepted, accepts}
use Rattle.scan_summary.specs.declared.Depth.{Depth}
use Rattle.mount.specs.Mount.{mount_request}
use Rattle.mount_laws.proofs.MountingLaws.{mount_ends}
use Rattle.read.specs.Reading.{copy_request, read_request}
use Rattle.read.proofs.SentLaws.{read_sent}
use Rattle.request_laws.proofs.PageReadLaws.{read_replayed}
use Rattle.open_write.specs.Requests.{open_refusal, open_read_request, open_mount_request, open_identify_request}
use Rattle.identify.proofs.SentLaws.{identify_sent}
use Rattle.recovery.specs.Calls.{Lent, to_mount, to_read, to_write, to_erase, to_identify, to_open, to_advance, Store, state_of, setting_of, chip_of}
use Rattle.recovery.specs.Recovery.{Always}
use Rattle.recovery_proof.specs.Sent.{CallSends, SendsLegally}
use Rattle.recovery_proof.specs.Invariant.{Inv}
use Rattle.recovery_proof.proofs.InvariantLaws.{is_mounted}
use Rattle.recovery_proof.proofs.OpenLaws.{admits}
use Rattle.recovery_proof.proofs.ChangeSteps.{write_sent, erase_sent}
use Rattle.recovery_proof.proofs.OpenSteps.{open_sent}
use Rattle.recovery_proof.proofs.AdvanceSteps.{advance_sent}
use Rattle.recovery_proof.proofs.RecoveryLaws.{by_inv}

module _ (g : Geometry) (y : Store) (a : Lent) where
  abbrev s : Setting
  s = setting_of g a

  mount_sends : (depth : Depth) → CallSends g y (to_mount depth a)
  unfolding result_of sent_in open_mount_request mount_request
  mount_sends depth =
      cases (sized_for s (chip_of a y.chip))
      (λ t.
      let m = mount_ends depth s (chip_of a y.chip) a.allowed t y.state in
      record { leads = inr (rw t (rw t at m).replayed); counted = rw t (rw t at m).sent_is })
      (λ f. rw f (record { leads = inl (refl, refl); counted = refl }))

  module _ (i : Inv g y) (logical page : ℕ) (buffer : List ℕ) where
    read_sends_lem : CallSends g y (to_read a logical page buffer)
    unfolding result_of sent_in open_read_request read_request copy_request
    read_sends_lem =
        let d = chip_of a y.chip in
        cases (eqb (open_refusal g (sized_for s d) (state_of y) false) 0)
        (λ o.
        let ready = ⊎_elim (λ u. u.ready) (λ w. w.ready) (is_mounted g y i (admits g (sized_for s d) (state_of y) false (eqb-true _ _ o)).is_mounted) in
        cases (eqb (refusal_of s d y.state logical page buffer) 0)
        (λ z. cases (eqb (get_or y.state.map logical 0) none)
        (λ u. rw (o, z, u) (record { leads = inl (refl, refl); counted = refl }))
        (λ u.
        let acc : Accepted g (sized_for s d) y.state logical page (length buffer) =
        accepts g (sized_for s d) y.state logical page (length buffer) (eqb-true _ _ z) in
        let q = read_replayed s d a.allowed y.state logical page buffer acc ready (eqb-false _ _ u) in
        let n = read_sent s d a.allowed y.state logical page buffer acc (eqb-false _ _ u) in
        record { leads = inr (rw (o, z, u) (rw (z, u) at q)); counted = rw (o, z, u) (rw (z, u) at n) }))
        (λ z. rw (o, z) (record { leads = inl (refl, refl); counted = refl })))
        (λ o. rw o (record { leads = inl (refl, refl); counted = refl }))

  identify_sends : (parameters : List ℕ) (logical : ℕ) → CallSends g y (to_identify a parameters logical)
  unfolding result_of sent_in open_identify_request
  identify_sends parameters logical =
      let q = identify_sent a.mask a.fates (chip_of a y.chip) a.allowed y.state parameters logical in
      cases (eqb (length parameters) 768)
      (λ u. record { leads = inr (record { leads = q.leads (eqb-true _ _ u); each_legal = q.each_legal; same_lengths = record { array = q.same_lengths.array; register = q.same_lengths.register; history = q.same_lengths.history } }); counted = q.sent_is })
      (λ u. record { leads = inl (q.none_sent_fact (eqb-false _ _ u)); counted = q.sent_is })

pub calls_sent : (g : Geometry) (y : Store) → Inv g y → SendsLegally g y
calls_sent g y i (to_mount depth a) t = mount_sends g y a depth
calls_sent g y i (to_read a logical page buffer) t = read_sends_lem g y a i logical page buffer
calls_sent g y i (to_write a logical page bytes) t = write_sent g y i a t.0.0 logical page bytes t.0.1
calls_sent g y i (to_erase a logical) t = erase_sent g y i a t.0 logical
calls_sent g y i (to_identify a parameters logical) t = identify_sends g y a parameters logical
calls_sent g y i (to_open a logical page bytes) t = open_sent g y i a t.0.0 logical page bytes t.0.1
calls_sent g y i (to_advance a most) t = advance_sent g y i a t.0 most t.1

pub sends_legally : Always SendsLegally
sends_legally = by_inv SendsLegally calls_sent
