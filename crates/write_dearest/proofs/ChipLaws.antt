-- An acknowledged write or erase on any chip: where its fills begin, and the numbers that they took. Assumes nothing.
use Prim.Native.Nat.{ℕ, ◌+◌, ◌-◌, ◌≤◌, ◌<◌}
use mathlib.Core.Bool.{true, false, cond}
use mathlib.Core.List.{[]}
use mathlib.Core.Path.{◌≡◌, refl, sym, ap, ◌∙◌}
use native.Mathlib.Omega.{arith}
use borrow.Table.Steps.{cases}
use borrow.Author.Tests.{eqb-true, eqb-false, leb-true, leb-false}
use lib.Dec.{eqb, leb}
use Rattle.bools.proofs.BoolLaws.{clash}
use Rattle.chip_array.specs.Device.{Device, Setting}
use Rattle.bus.specs.Line.{uncut_line}
use Rattle.bus_polling.specs.Outcomes.{is_passed, is_protected}
use Rattle.bus_polling.specs.declared.Outcome.TheVariants.{Passed}
use Rattle.bus_sequences.specs.Cycles.{status_cycles}
use Rattle.operations.specs.Ends.{Called}
use Rattle.state_choose.specs.Choose.{chosen}
use Rattle.state_choose.proofs.ChooseLaws.{by_choice}
use Rattle.state.specs.State.{next_number, number_end, numbers_left, held_bits, mounted}
use Rattle.state.specs.declared.State.{State}
use Rattle.request.specs.Call.{Result, sized_for, call_line, status_answer}
use Rattle.request.proofs.CallLaws.{stop_least}
use Rattle.progress.specs.Progress.{Progress, progress, line_of}
use Rattle.fill_tables.specs.Tables.{Tabled}
use Rattle.fill_tables.proofs.StatusLaws.{after_passed, after-stopped}
use Rattle.damage.specs.Run.{failed_count}
use Rattle.write_changes.specs.Changes.{Update, copies_filled, change_run, change_first, change_call, changing}
use Rattle.write_changes.proofs.LoopLaws.{chosen_permitted, none_permitted}
use Rattle.write_laws.specs.Changing.{InRange}
use Rattle.write_laws.specs.Unready.{Waiting, Completing, InCommand, completed_by, BusyChange}
use Rattle.write_laws.proofs.MeantLaws as meant
use Rattle.write_laws.proofs.ChangingLaws.{whole, shown_range, shown_started, shown_called, line_high}
use Rattle.write_laws.proofs.ChangeLaws.{by_chip, below_last, first_called, first_range}
use Rattle.write_laws.proofs.FirstLaws.{completing_line}
use Rattle.write_laws.proofs.UnreadyLaws.{change_unready, change_busy, change_completing}
use Rattle.write_dearest.proofs.CostLaws.{status_spends}

-- the fills begin at first after no more than two cycles; they took a number for each data fill and, if any failed, for each table fill
pub record Filling (s : Setting) (n : ℕ) (st : State) (u : Update) (t : Tabled) (first : Progress) : Type 0 where
  pub run_is : t ≡ change_run s st u first
  pub status_cycles_fact : n ≤ first.line.left + 2
  pub numbers : next_number t.state
      ≡ next_number st + (failed_count t.progress.started s.geometry.blocks + 1 + cond (copies_filled s (held_bits st s.geometry.logical) u (numbers_left st) false st first).failed 1 0)

-- from a chip that takes the next command
module _ (s : Setting) (n : ℕ) (st : State) (u : Update) (is_mounted : mounted st s.geometry.blocks s.geometry.logical ≡ true) (proper : meant.Proper s.geometry (held_bits st s.geometry.logical) u) where
  pub begins_at : (first : Progress) (t : Tabled) → InRange s first.line.chip st → is_passed first.outcome ≡ true → first.started ≡ [] → Called s first.line → line_of first ≡ 0
      → n ≤ first.line.left + 2 → t ≡ change_run s st u first → t.answer ≡ 0 → Filling s n st u t first
  begins_at first t ranged passed none_started called high two e z =
      let w = whole s first st u ranged passed none_started called is_mounted proper high in
      let x = w.done (sym (ap (λ (y : Tabled). y.answer) e) ∙ z) in
      record {
        run_is = e;
        status_cycles_fact = two;
        numbers = omega (arith, x.numbers, ap (λ (y : Tabled). next_number y.state) e, ap (λ (y : Tabled). failed_count y.progress.started s.geometry.blocks) e);
      }

-- the request from the chip handed in
module _ (s : Setting) (d : Device) (n : ℕ) (st : State) (u : Update) (ranged : InRange s d st) (sized : sized_for s d ≡ true) (is_mounted : mounted st s.geometry.blocks s.geometry.logical ≡ true)
    (proper : meant.Proper s.geometry (held_bits st s.geometry.logical) u) (acknowledged : (changing s d n st u).answer ≡ 0) where
  abbrev shown : Progress
  shown = change_first s d n

  abbrev ran : Tabled
  ran = change_call s d n st u

  abbrev Place : Type 0
  Place = (first : Progress) × Filling s n st u ran first

  -- the status read has passed
  status_passed : is_passed shown.outcome ≡ true
  unfolding status_answer
  status_passed =
      cases (is_passed shown.outcome)
      (λ t. t)
      (λ f.
      let e = sym (ap (λ (t : Tabled). t.answer) (after-stopped st shown (change_run s st u shown) f)) ∙ acknowledged in
      absurd (cases (is_protected shown.outcome) (λ t. omega (arith, rw t at e)) (λ t. omega (arith, rw t at e, stop_least shown.outcome))))

  of_ready : d.interface.phase ≤ 2 → Place
  unfolding is_passed
  of_ready is_ready =
      let two : n ≤ shown.line.left + 2 = status_spends s (progress (call_line d n) Passed [] []) in (
        shown,
        begins_at s n st u is_mounted proper shown ran (shown_range s d n st u ranged is_ready sized is_mounted proper status_passed) status_passed
            (shown_started s d n st u ranged is_ready sized is_mounted proper) (shown_called s d n st u ranged is_ready sized is_mounted proper status_passed)
            (line_high s d n st u ranged is_ready sized is_mounted proper status_passed) two (after_passed st shown (change_run s st u shown) status_passed) acknowledged,
      )

  other_than : (k : ℕ) → 0 < k → (changing s d n st u).answer ≡ k → ⊥
  other_than k some e = omega (arith, acknowledged, e, some)

  of_command : InCommand d → ⊥
  of_command within =
      let x = change_unready s d st u within n in
      cases (eqb n 0)
      (λ z. other_than 11 (omega arith) (x.cut_first (eqb-true n 0 z)).answer_is)
      (λ z. other_than 255 (omega arith) (x.refused_first (omega (arith, eqb-false n 0 z))).answer_is)

  -- none, one, or two and more cycles
  by_few : {P : Type 0} → (n ≡ 0 → P) → (n ≡ 1 → P) → (2 ≤ n → P) → P
  by_few none one more =
      cases (eqb n 0)
      (λ z. none (eqb-true n 0 z))
      (λ z. cases (eqb n 1) (λ y. one (eqb-true n 1 y)) (λ y. more (omega (arith, eqb-false n 0 z, eqb-false n 1 y))))

  -- a busy chip refuses 60h, if the request comes to it
  module _ (waiting : Waiting d) where
    busy : BusyChange s d n st u (changing s d n st u)
    busy = change_busy s d st u waiting sized (below_last s d n st u sized is_mounted) n

    of_high : 2 ≤ n → d.interface.protected ≡ 0 → next_number st < number_end → ⊥
    of_high h high fits =
        let held = held_bits st s.geometry.logical in
        let below = below_last s d n st u sized is_mounted in
        by_choice (chosen st.marked st.invalid held s.geometry.blocks st.last)
        (λ e.
        let none = none_permitted st.marked st.invalid held s.geometry.blocks st.last below e in
        other_than 8 (omega arith) ((busy.shown_so h high).worn_first fits (λ b l w. clash w (none b l))).answer_is)
        (λ b e.
        let found = chosen_permitted st.marked st.invalid held s.geometry.blocks st.last below b e in
        cases (eqb n 2)
        (λ z. other_than 11 (omega arith) (busy.cut_third (eqb-true n 2 z) high fits b found.0 found.1).answer_is)
        (λ z. other_than 255 (omega arith) (busy.refused_third (omega (arith, h, eqb-false n 2 z)) high fits b found.0 found.1).answer_is))

    of_waiting : ⊥
    of_waiting =
        by_few
        (λ z. other_than 11 (omega arith) (busy.cut_first z).answer_is)
        (λ z. other_than 11 (omega arith) (busy.cut_second z).answer_is)
        (λ h.
        cases (eqb d.interface.protected 0)
        (λ t.
        let high = eqb-true d.interface.protected 0 t in
        cases (leb number_end (next_number st))
        (λ y. other_than 9 (omega arith) ((busy.shown_so h high).spent_first (leb-true number_end (next_number st) y)).answer_is)
        (λ y. of_high h high (leb-false number_end (next_number st) y)))
        (λ t. other_than 13 (omega arith) (busy.protected_so h (eqb-false d.interface.protected 0 t)).answer_is))

  -- a status read that completes what was under way
  of_completing : Completing d → Place
  unfolding is_passed
  of_completing last =
      let x = change_completing s d st u last n in
      by_few
      (λ z. absurd (other_than 11 (omega arith) (x.cut_first z).answer_is))
      (λ z. absurd (other_than 11 (omega arith) (x.cut_second z).answer_is))
      (λ h.
      cases (eqb (completed_by s d).interface.illegal 0)
      (λ e.
      let legal = eqb-true (completed_by s d).interface.illegal 0 e in
      cases (eqb d.interface.protected 0)
      (λ t.
      let high = eqb-true d.interface.protected 0 t in
      let first = progress (uncut_line (completed_by s d) (n - 2)) Passed status_cycles [] in (
        first,
        begins_at s n st u is_mounted proper first ran (first_range s d n st u sized is_mounted last legal ranged) refl refl (first_called s d n st u sized is_mounted last legal ranged) (completing_line s d last ∙ high)
            (omega (arith, h)) (x.goes_on h legal high) acknowledged,
      ))
      (λ t. absurd (other_than 13 (omega arith) (ap (λ (y : Result). y.answer) (x.protected_so h legal (eqb-false d.interface.protected 0 t))))))
      (λ e. absurd (other_than 255 (omega arith) (x.refused_second h (eqb-false (completed_by s d).interface.illegal 0 e)).answer_is)))

  pub fills_begin : Place
  fills_begin = by_chip d of_ready (λ within. absurd (of_command within)) (λ waiting. absurd (of_waiting waiting)) of_completing
