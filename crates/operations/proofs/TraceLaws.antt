-- The array operation in a trace: there exactly where the allowance reaches the confirm cycle, with the array it found.
use Prim.Native.Nat.{ℕ, ◌+◌, ◌-◌, ◌/◌, ◌%◌}
use mathlib.Core.Bool.{true, cond}
use mathlib.Core.List.{List, [], ◌∷◌, ◌++◌}
use mathlib.Core.Path.{◌≡◌, refl, sym, ap, ◌∙◌}
use native.Mathlib.Nat.{le_refl}
use native.Mathlib.Omega.{arith}
use borrow.Author.Tests.{leb-true, leb-false}
use borrow.Table.Steps.{cases}
use lib.Dec.{leb}
use lib.ListN.{length, length-append}
use lib.Seq.{take_all}
use Rattle.chip_array.specs.Device.{Device, Setting}
use Rattle.chip.specs.Chip.{Cycle}
use Rattle.chip.specs.Chip.Cycle.{command}
use Rattle.bus.specs.Line.{Line, run, send_all, uncut_line, goes_on, Legal}
use Rattle.bus.proofs.LineLaws.{run_uncut, run_cut, goes}
use Rattle.bus.proofs.LegalLaws.{legal_run, legal_first, legal_start}
use Rattle.bus_polling.specs.Polling.{outcome_of}
use Rattle.bus_sequences.specs.Cycles.{confirmed_cycles}
use Rattle.operations.specs.Ends.{End, ends_as, end_of, confirmed_end}
use Rattle.operations.specs.Trace.{started_by, told_by}
use Rattle.operations.proofs.ConfirmLaws.{run_confirm}
use Rattle.operations.proofs.EndLaws.{Effect, effect_ends}

module _ (s : Setting) (d : Device) (first : List Cycle) (code op : ℕ) (d₂ d₄ : Device) (a₂ h₂ : List ℕ) (e : Effect s d first (command code) op d₂ d₄ a₂ h₂) (row : ℕ) (bytes : List ℕ) where
  steps : List Cycle
  steps = first ++ (command code ∷ [])

  end_legal : (run s d steps).interface.illegal ≡ 0
  unfolding steps
  end_legal =
      ap (λ (x : Device). x.interface.illegal) (run_confirm s d first (command code) d₂ d₄ e.confirmed) ∙ e.confirmed.legal

  steps_legal : Legal s d (first ++ (command code ∷ []))
  unfolding steps
  steps_legal = legal_run s d steps end_legal

  start_legal : d.interface.illegal ≡ 0
  start_legal = legal_start s d steps end_legal

  length_steps : length steps ≡ length first + 1
  unfolding steps
  length_steps = length-append first (command code ∷ [])

  pub effect_starts : (n : ℕ) → told_by op (send_all s (uncut_line d n) (confirmed_cycles s (uncut_line d n) first code)) ≡ outcome_of (send_all s (uncut_line d n) (confirmed_cycles s (uncut_line d n) first code)) → started_by s (uncut_line d n) first code op row bytes ≡ cond (leb n (length first)) [] (record { kind = op; block = row / s.geometry.pages; page = row % s.geometry.pages; bytes = bytes; before = d.array; answer = ends_as s (uncut_line d n) op (length first) } ∷ [])
  unfolding started_by steps goes_on end_of confirmed_end
  effect_starts n told =
      cases (leb n (length first))
      (λ t. rw (t, run_cut s d n steps start_legal steps_legal (rw length_steps (omega (arith, leb-true n (length first) t)))))
      (λ t.
      let h = leb-false n (length first) t in
      let reach : goes_on (send_all s (uncut_line d n) (first ++ (command code ∷ []))) ≡ true =
      ap goes_on (run_uncut s d n steps start_legal steps_legal (rw length_steps (omega arith)))
      ∙ goes (uncut_line (run s d steps) (n - length steps)) (record { uncut = refl; legal = end_legal }) in
      let found : (send_all s (uncut_line d n) first).chip.array ≡ d.array =
      ap (λ (x : Line). x.chip.array) (run_uncut s d n first start_legal (legal_first s d first (command code ∷ []) steps_legal) (omega arith))
      ∙ ap (λ (cs : List Cycle). (run s d cs).array) (sym (take_all (length first) first (le_refl (length first))))
      ∙ (e.quiet (length first)).array in
      let answer_is = told ∙ ap (λ (x : End). x.outcome) (effect_ends s d first (command code) op d₂ d₄ a₂ h₂ e n) in
      rw (t, reach)
      (λ i. record {
        kind = op;
        block = row / s.geometry.pages;
        page = row % s.geometry.pages;
        bytes = bytes;
        before = found i;
        answer = answer_is i;
      }
      ∷ []))
