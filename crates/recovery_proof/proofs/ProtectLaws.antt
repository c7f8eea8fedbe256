-- After every list a write, an erase or an opening with the write-protect line low is answered 13 and changes nothing. Assumes nothing but the laws
-- named.
use Prim.Native.Nat.{◌≤◌}
use mathlib.Core.List.{[]}
use mathlib.Core.Path.{◌≡◌, refl, ap, subst, sym, ◌∙◌}
use borrow.Author.Tests.{eq-eqb, ne_eqb, le-ltb}
use lib.ListN.{length}
use Rattle.geometry.specs.declared.Geometry.{Geometry}
use Rattle.chip_array.specs.Device.{Device, Setting}
use Rattle.bus_polling.specs.Outcomes.{is_passed, is_protected}
use Rattle.bus_polling.specs.declared.Outcome.TheVariants.{Passed, Protected}
use Rattle.operations.specs.Ends.{Called}
use Rattle.progress.specs.Progress.{Progress, progress}
use Rattle.progress.proofs.StatusLaws.{StatusLeft, status_leaves, status_started}
use Rattle.request.specs.Call.{sized_for, call_line, status_answer, status_state}
use Rattle.request.proofs.CallLaws.{sizes}
use Rattle.fill_tables.specs.Tables.{Tabled, tabled, end_of_run}
use Rattle.fill_tables.proofs.StatusLaws.{after-stopped}
use Rattle.write_changes.specs.Changes.{Update, change_run, change_first, change_call}
use Rattle.open_write.specs.Open.{is_opened}
use Rattle.open_write.specs.Requests.{stops}
use Rattle.recovery_write.specs.Changed.{update_of}
use Rattle.recovery.specs.Book.{Change, write, erase}
use Rattle.recovery.specs.Calls.{Lent, Call, to_write, to_erase, Store, store, state_of, setting_of, chip_of, answer_of, failed_after, step}
use Rattle.recovery.specs.Recovery.{Always}
use Rattle.recovery_proof.specs.Invariant.{Inv}
use Rattle.recovery_proof.specs.Protected.{Untaken, TurnedAway, Unbarred, ProtectedWrites, ProtectedErases, ProtectedOpens}
use Rattle.recovery_proof.proofs.InvariantLaws.{is_up, failed_none}
use Rattle.recovery_proof.proofs.OpenLaws.{Admitted, admits}
use Rattle.recovery_proof.proofs.ChangeSteps.{fed_protected, shut_so, after_change, write_goes, erase_goes}
use Rattle.recovery_proof.proofs.OpenSteps.{opening_protected}
use Rattle.recovery_proof.proofs.RecoveryLaws.{by_inv}

-- a request that is not refused, on a ready chip whose line is low, with two cycles allowed
module _ (g : Geometry) (y : Store) (i : Inv g y) (a : Lent) (low : a.protected ≡ 0 → ⊥) (enough : 2 ≤ a.allowed) (o : Unbarred g a y) where
  abbrev s : Setting
  s = setting_of g a

  abbrev d : Device
  d = chip_of a y.chip

  abbrev first : Progress
  first = progress (call_line d a.allowed) Passed [] []

  abbrev p : Progress
  p = change_first s d a.allowed

  adm : Admitted g (sized_for s d) (state_of y) (is_opened (state_of y))
  adm = admits g (sized_for s d) (state_of y) (is_opened (state_of y)) o

  called : Called s (call_line d a.allowed)
  called =
      let z = sizes g (length d.array) (length d.register) (length d.history) (length a.mask) adm.sizes_fit in
      record {
        is_valid = z.chip_fits.is_valid;
        array_long = z.chip_fits.array_long;
        register_long = z.chip_fits.register_long;
        history_long = z.chip_fits.history_long;
        mask_long = z.mask_long;
        ready = (is_up g y i adm.is_mounted (shut_so y adm.unbarred)).ready;
        legal = refl;
        uncut = refl;
      }

  left : StatusLeft s first p
  unfolding is_passed
  left = status_leaves s first refl called

  none_started : p.started ≡ []
  unfolding is_passed
  none_started = status_started s first refl called

  shown : p.outcome ≡ Protected
  shown = left.outcome_is ∙ rw (le-ltb a.allowed 2 enough, ne_eqb a.protected 0 low)

  run_is : (u : Update) → change_call s d a.allowed y.state u ≡ tabled p 13 y.state
  unfolding is_passed is_protected status_answer status_state
  run_is u =
      after-stopped y.state p (change_run s y.state u p) (ap is_passed shown)
      ∙ λ j. tabled p (status_answer (shown j)) (status_state (shown j) y.state)

  -- a store with the chip after the status read
  abbrev left_as : Store
  left_as = store (state_of y) p.line.chip y.account y.marked y.failed

  as_left : Untaken y left_as
  as_left =
      record { same_state = refl; same_array = left.same_array; same_register = left.same_register; same_history = left.same_history; same_account = refl; same_marked = refl; same_failed = refl }

  -- a write or an erase comes to it
  comes_to : (c : Change) → let run = change_call s d a.allowed y.state (update_of y.state c) in
      (run.answer ≡ 13) × (after_change (stops run.answer) g y c (end_of_run a.allowed run) run.progress.started ≡ left_as)
  unfolding stops
  comes_to c =
      let same = run_is (update_of y.state c) in (
        ap (λ (k : Tabled). k.answer) same,
        ap (λ (k : Tabled). after_change (stops k.answer) g y c (end_of_run a.allowed k) k.progress.started) same
            ∙ (λ j. store (state_of y) p.line.chip (fed_protected g c 13 p.started y.account refl j) y.marked ((ap (failed_after y.failed) none_started ∙ failed_none y.failed) j)),
      )

  turned_away : (call : Call) (c : Change) → let run = change_call s d a.allowed y.state (update_of y.state c) in
      (answer_of g call y ≡ run.answer) × (step g call y ≡ after_change (stops run.answer) g y c (end_of_run a.allowed run) run.progress.started) → TurnedAway g y call
  turned_away call c e = (e.0 ∙ (comes_to c).0, subst (Untaken y) (sym (e.1 ∙ (comes_to c).1)) as_left)

write-untaken : (g : Geometry) (y : Store) → Inv g y → ProtectedWrites g y
write-untaken g y i a logical page bytes low enough o z =
    turned_away g y i a low enough o (to_write a logical page bytes) (write logical page bytes) (write_goes g y a logical page bytes (eq-eqb _ 0 o) (eq-eqb _ 0 z))

erase_untaken : (g : Geometry) (y : Store) → Inv g y → ProtectedErases g y
erase_untaken g y i a logical low enough o z =
    turned_away g y i a low enough o (to_erase a logical) (erase logical) (erase_goes g y a logical (eq-eqb _ 0 o) (eq-eqb _ 0 z))

open_untaken : (g : Geometry) (y : Store) → Inv g y → ProtectedOpens g y
open_untaken g y i a logical page bytes m b low enough o z =
    let e = opening_protected g y i a m logical page bytes b (eq-eqb _ 0 o) (eq-eqb _ 0 z) (shown g y i a low enough o) in
    (e.0, subst (Untaken y) (sym e.1) (as_left g y i a low enough o))

pub protected_writes : Always ProtectedWrites
protected_writes = by_inv ProtectedWrites write-untaken

pub protected_erases : Always ProtectedErases
protected_erases = by_inv ProtectedErases erase_untaken

pub protected_opens : Always ProtectedOpens
protected_opens = by_inv ProtectedOpens open_untaken
