-- The cycles of writes and erases, and that they keep all sizes, on any chip, from any state and however they end. Assumes nothing.
use Prim.Native.Nat.{ℕ}
use mathlib.Core.List.{List, []}
use mathlib.Core.Path.{◌≡◌, refl, subst, ◌∙◌}
use native.Mathlib.Omega.{arith}
use borrow.Table.Steps.{cases}
use lib.Dec.{eqb}
use lib.ListN.{length}
use Rattle.chip_array.specs.Device.{Device, Setting}
use Rattle.chip_laws.specs.Lengths.{SameLengths}
use Rattle.chip_laws.proofs.LengthLaws.{run_lengths}
use Rattle.bus_polling.specs.declared.Outcome.TheVariants.{Passed}
use Rattle.progress.specs.Progress.{progress}
use Rattle.progress.proofs.CountLaws.{allowance_kept}
use Rattle.progress.proofs.StatusLaws.{status_counts}
use Rattle.state.specs.declared.State.{State}
use Rattle.request.specs.Call.{sized_for, call_line, result_of}
use Rattle.request_refusals.specs.Refusals.{refusal_of}
use Rattle.write_changes.specs.Changes.{Update, change_call, changing, write_request, writing, erase_refusal, erase_request, erasing_logical}
use Rattle.write_changes.proofs.KeepLaws.{call_keeps}
use Rattle.damage.proofs.ReplayLaws.{Leads, leads_first, leads_status, leads_kept, lengths_sized}

same : (d : Device) → SameLengths d d
same d = record { array = refl; register = refl; history = refl }

module _ (s : Setting) (d : Device) (n : ℕ) (st : State) where
  -- the cycles lead to the chip that is left, and are counted
  pub change_leads : (u : Update) → Leads s (call_line d n).chip (change_call s d n st u).progress
  change_leads u =
      call_keeps s (Leads s (call_line d n).chip) (leads_kept s (call_line d n).chip) d n st u (leads_status s (call_line d n).chip (progress (call_line d n) Passed [] []) (leads_first s (call_line d n)))

  pub change_counts : (u : Update) → (changing s d n st u).sent ≡ length (change_call s d n st u).progress.cycles
  change_counts u =
      omega (arith, call_keeps s _ (allowance_kept s n) d n st u (status_counts s (progress (call_line d n) Passed [] []) ∙ omega arith))

  pub change_lengths : (u : Update) → SameLengths d (changing s d n st u).chip
  change_lengths u =
      let run = change_call s d n st u in
      let l = subst (SameLengths (call_line d n).chip) (change_leads u) (run_lengths s (call_line d n).chip run.progress.cycles) in
      record { array = l.array; register = l.register; history = l.history }

  write_lengths : (logical page : ℕ) (bytes : List ℕ) → SameLengths d (writing s d n st logical page bytes).chip
  unfolding result_of write_request
  write_lengths logical page bytes =
      cases (eqb (refusal_of s d st logical page bytes) 0) (λ t. rw t (change_lengths _)) (λ f. rw f (same d))

  erase_lengths : (logical : ℕ) → SameLengths d (erasing_logical s d n st logical).chip
  unfolding result_of erase_request
  erase_lengths logical =
      cases (eqb (erase_refusal s d st logical) 0) (λ t. rw t (change_lengths _)) (λ f. rw f (same d))

  pub write_sized : (logical page : ℕ) (bytes : List ℕ) → sized_for s (writing s d n st logical page bytes).chip ≡ sized_for s d
  write_sized logical page bytes = lengths_sized s (write_lengths logical page bytes)

  pub erase_sized : (logical : ℕ) → sized_for s (erasing_logical s d n st logical).chip ≡ sized_for s d
  erase_sized logical = lengths_sized s (erase_lengths logical)
