-- How calls after every list are answered, so that no premise of the laws of lists is empty. Assumes nothing but the laws named.
use mathlib.Core.Bool.{true}
use mathlib.Core.Path.{◌≡◌, ◌∙◌}
use Rattle.geometry.specs.declared.Geometry.{Geometry}
use Rattle.bools.proofs.BoolLaws.{clash}
use Rattle.mount_laws.proofs.MountingLaws.{mount_unsized, mount_heard}
use Rattle.request.specs.Call.{result_of}
use Rattle.open_write.specs.Open.{mounted_open}
use Rattle.open_write.specs.Requests.{open_mount_request}
use Rattle.recovery.specs.Calls.{Call, to_mount, to_read, to_write, to_erase, to_identify, to_open, to_advance, Callable, Store, state_of, setting_of, answer_of, step, chip_of}
use Rattle.recovery.specs.Recovery.{Always}
use Rattle.recovery_proof.specs.Answers.{RightlyCalled, ComesBack, ReadsAnswered, WritesAnswered, ErasesAnswered, OpensAnswered, AdvancesAnswered}
use Rattle.recovery_proof.specs.Acknowledged.{OfMounted, DoneReads}
use Rattle.recovery_proof.specs.Invariant.{Inv}
use Rattle.recovery_proof.proofs.InvariantLaws.{fit_sizes}
use Rattle.recovery_proof.proofs.MountSteps.{mount_mounted}
use Rattle.recovery_proof.proofs.ReadSteps.{read_mounted, reads_back, read_told}
use Rattle.recovery_proof.proofs.IdentifySteps.{identify_mounted}
use Rattle.recovery_proof.proofs.ChangeSteps.{write_answers, write_mounted, erase_answers, erase_mounted}
use Rattle.recovery_proof.proofs.OpenSteps.{open_answers, opening_mounted}
use Rattle.recovery_proof.proofs.AdvanceSteps.{advance_answers, advance_mounted}
use Rattle.recovery_proof.proofs.RecoveryLaws.{step_inv, by_inv}

pub rightly_called : Always RightlyCalled
unfolding result_of open_mount_request
rightly_called =
    by_inv RightlyCalled
    (λ g y i depth a long z.
    let s = setting_of g a in
    clash (fit_sizes s (chip_of a y.chip) i.fits long) ((mount_unsized depth s (chip_of a y.chip) a.allowed y.state).0 z))

pub comes_by : (g : Geometry) (y : Store) → Inv g y → ComesBack g y
unfolding result_of open_mount_request
comes_by g y i depth a long fast h =
    let s = setting_of g a in
    mount_heard depth s (chip_of a y.chip) a.allowed y.state (fit_sizes s (chip_of a y.chip) i.fits long) fast h ∙ i.stored.mounts

pub comes_back : Always ComesBack
comes_back = by_inv ComesBack comes_by

pub reads-answered : Always ReadsAnswered
reads-answered = by_inv ReadsAnswered read_told

pub writes_answered : Always WritesAnswered
writes_answered =
    by_inv WritesAnswered
    (λ g y i a logical page bytes m b. write_answers g y i a m logical page bytes b)

pub erases-answered : Always ErasesAnswered
erases-answered =
    by_inv ErasesAnswered (λ g y i a logical m. erase_answers g y i a m logical)

pub opens_answered : Always OpensAnswered
opens_answered =
    by_inv OpensAnswered (λ g y i a logical page bytes m b. open_answers g y i a m logical page bytes b)

pub advances-answered : Always AdvancesAnswered
advances-answered = by_inv AdvancesAnswered (λ g y i a most t. advance_answers g y i a t.0 most t.1)

-- a call answered 0 leaves a state that counts as mounted, or left it so
done_mounted : (g : Geometry) (y : Store) → Inv g y → (c : Call) → Callable c y → OfMounted g c y → answer_of g c y ≡ 0 → mounted_open g (state_of (step g c y)) ≡ true
unfolding result_of open_mount_request
done_mounted g y i (to_mount depth a) t m z = mount_mounted g y i depth a z
done_mounted g y i (to_read a logical page buffer) t m z = read_mounted g y i a logical page buffer z
done_mounted g y i (to_write a logical page bytes) t m z = write_mounted g y i a t.0.0 logical page bytes t.0.1 z
done_mounted g y i (to_erase a logical) t m z = erase_mounted g y i a t.0 logical z
done_mounted g y i (to_identify a parameters logical) t m z = identify_mounted g y a parameters logical m z
done_mounted g y i (to_open a logical page bytes) t m z = opening_mounted g y i a t.0.0 logical page bytes t.0.1 z
done_mounted g y i (to_advance a most) t m z = advance_mounted g y i a t.0 most t.1 z

pub done_reads : Always DoneReads
done_reads =
    by_inv DoneReads
    (λ g y i c t m z. reads_back g (step g c y) (step_inv g c y t i) (done_mounted g y i c t m z))
