-- After the pages that a formatting reads no failure is kept on the chip, so its status read shows none. Assumes nothing.
use Prim.Native.Nat.{ℕ, zero, suc}
use mathlib.Core.Bool.{true, false, false≢true}
use mathlib.Core.List.{[], ◌∷◌}
use mathlib.Core.Path.{◌≡◌, refl, ap, ◌∙◌}
use borrow.Author.Tests.{eqb-true}
use borrow.Table.Steps.{cases}
use lib.Dec.{eqb, leb, ltb}
use lib.ListN.{length, replicate}
use Rattle.bools.proofs.BoolLaws.{clash}
use Rattle.chip_interface.specs.Interface.{plain_command, status_mode, read_mode}
use Rattle.chip_array.specs.Device.{Device, Setting}
use Rattle.chip.specs.Chip.{Cycle, exec, commanded, is_confirm, data_given, outputs_register}
use Rattle.chip.specs.Chip.Cycle.{command, data_out}
use Rattle.bus.specs.Line.{Line, admits, send, send_all}
use Rattle.bus.proofs.LineLaws.{send_on, send_off, send_all_append}
use Rattle.bus_polling.specs.Outcomes.{is_passed}
use Rattle.bus_polling.specs.Polling.{outcome_of}
use Rattle.bus_polling.specs.declared.Outcome.TheVariants.{Passed}
use Rattle.bus_sequences.specs.Cycles.{page_read, page_line, read_cycles, read_outcome}
use Rattle.operations.proofs.ResetLaws.{reset_leaves}
use Rattle.progress.specs.Progress.{Progress, progress, read_on, reset_on}
use Rattle.request.specs.Call.{call_line}
use Rattle.request.proofs.ResetLaws.{reset_enough}
use Rattle.scan_summary.specs.declared.Depth.TheVariants.{Full}
use Rattle.scan.proofs.KeepLaws.{blocks_reads}
use Rattle.format_laws.specs.Formatting.{reads_done}

-- an operation that passed left no failure
passed_unfailed : (l : Line) → is_passed (outcome_of l) ≡ true → l.chip.interface.failed ≡ 0
unfolding outcome_of is_passed
passed_unfailed l t =
    cases (eqb l.chip.interface.failed 0)
    (λ z. eqb-true _ _ z)
    (λ z.
    absurd
    (cases (eqb l.cut 0)
    (λ a. cases (eqb l.chip.interface.illegal 0)
    (λ b. cases (eqb l.chip.interface.phase 8) (λ c. false≢true (rw (a, b, c) at t)) (λ c. false≢true (rw (a, b, c, z) at t)))
    (λ b. false≢true (rw (a, b) at t)))
    (λ a. false≢true (rw a at t))))

-- 70h, 00h and data output leave whether an operation failed
module _ (s : Setting) where
  pub shown_failed : (d : Device) → (exec s d (command 112)).interface.failed ≡ d.interface.failed
  unfolding exec commanded is_confirm plain_command status_mode
  shown_failed d =
      cases (leb d.interface.phase 2)
      (λ a. rw a)
      (λ a. cases (eqb d.interface.phase 7) (λ b. rw (a, b)) (λ b. cases (eqb d.interface.phase 8) (λ c. rw (a, b, c)) (λ c. rw (a, b, c))))

  output_failed : (d : Device) → (exec s d (command 0)).interface.failed ≡ d.interface.failed
  unfolding exec commanded is_confirm plain_command read_mode
  output_failed d =
      cases (leb d.interface.phase 2) (λ a. cases (eqb d.interface.loaded 1) (λ b. rw (a, b)) (λ b. rw (a, b))) (λ a. rw a)

  given_failed : (d : Device) → (exec s d data_out).interface.failed ≡ d.interface.failed
  unfolding exec data_given
  given_failed d =
      cases (outputs_register d.interface)
      (λ a. cases (ltb d.interface.column (length d.register)) (λ b. rw (a, b)) (λ b. rw (a, b)))
      (λ a. rw a)

  sent_failed : (c : Cycle) → ((d : Device) → (exec s d c).interface.failed ≡ d.interface.failed) → (l : Line) → (send s l c).chip.interface.failed ≡ l.chip.interface.failed
  sent_failed c keeps l =
      cases (admits l)
      (λ t. ap (λ (x : Line). x.chip.interface.failed) (send_on s l c t) ∙ keeps l.chip)
      (λ f. ap (λ (x : Line). x.chip.interface.failed) (send_off s l c f))

  outputs_failed : (n : ℕ) (l : Line) → (send_all s l (replicate n data_out)).chip.interface.failed ≡ l.chip.interface.failed
  unfolding send_all
  outputs_failed zero l = refl
  outputs_failed (suc n) l = outputs_failed n (send s l data_out) ∙ sent_failed data_out given_failed l

  -- a read that passed
  read_unfailed : (row column n : ℕ) (p : Progress) → is_passed (read_on s row column n p).outcome ≡ true → (read_on s row column n p).line.chip.interface.failed ≡ 0
  unfolding read_on read_outcome read_cycles send_all
  read_unfailed row column n p y =
      let l = p.line in
      cases (is_passed p.outcome)
      (λ t.
      cases (is_passed (outcome_of (page_line s l row column)))
      (λ u.
      rw (t, u)
      (ap (λ (x : Line). x.chip.interface.failed) (send_all_append s l (page_read s l row column) (command 0 ∷ replicate n data_out))
      ∙ outputs_failed n (send s (page_line s l row column) (command 0))
      ∙ sent_failed (command 0) output_failed (page_line s l row column)
      ∙ passed_unfailed (page_line s l row column) u))
      (λ u. clash (rw (t, u) at y) u))
      (λ t. clash (rw t at y) t)

  -- a reset, and every page after it
  reset_unfailed : (d : Device) (n : ℕ) → is_passed (reset_on s (progress (call_line d n) Passed [] [])).outcome ≡ true → (reset_on s (progress (call_line d n) Passed [] [])).line.chip.interface.failed ≡ 0
  unfolding reset_on is_passed
  reset_unfailed d n t =
      ap (λ (x : Line). x.chip.interface.failed) (reset_leaves s (call_line d n) refl refl (reset_enough s d n t))

  pub reads-unfailed : (d : Device) (n : ℕ) → is_passed (reads_done s d n).outcome ≡ true → (reads_done s d n).line.chip.interface.failed ≡ 0
  reads-unfailed d n =
      blocks_reads Full s (λ p. is_passed p.outcome ≡ true → p.line.chip.interface.failed ≡ 0) (λ row column k p h. read_unfailed row column k p) s.geometry.blocks (reset_on s (progress (call_line d n) Passed [] [])) (reset_unfailed d n)
