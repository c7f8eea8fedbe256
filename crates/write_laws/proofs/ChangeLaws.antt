-- Writes and erases of any chip, from where they are not refused: where they are spent or worn, when the answer 255 comes, and that
-- the largest allowance cuts nothing. Assumes nothing.
use Prim.Native.Nat.{ℕ, ◌-◌, ◌≤◌, ◌<◌}
use mathlib.Core.Bool.{true}
use mathlib.Core.List.{[]}
use mathlib.Core.Logic.{◌↔◌, inl, inr, ⊎_elim}
use mathlib.Core.Path.{◌≡◌, refl, sym, ap, subst, ◌∙◌}
use native.Mathlib.Omega.{arith}
use borrow.Table.Steps.{cases}
use borrow.Author.Tests.{eqb-true, eqb-false, leb-true, leb-false}
use lib.Dec.{eqb, leb}
use lib.ListN.{length}
use Rattle.bools.proofs.BoolLaws.{clash}
use Rattle.cells.specs.Bytes.{Bytes}
use Rattle.chip_array.specs.Device.{Device, Setting}
use Rattle.bus.specs.Line.{run, uncut_line}
use Rattle.chip_laws.specs.Lengths.{SameLengths}
use Rattle.chip_laws.proofs.LengthLaws.{run_lengths}
use Rattle.chip_laws.proofs.ByteLaws.{run_bytes}
use Rattle.bus_polling.specs.Outcomes.{is_passed}
use Rattle.bus_polling.specs.declared.Outcome.TheVariants.{Passed}
use Rattle.bus_sequences.specs.Cycles.{status_cycles}
use Rattle.operations.specs.Ends.{Called}
use Rattle.state_choose.specs.Choose.{chosen}
use Rattle.state_choose.proofs.ChooseLaws.{by_choice}
use Rattle.state.specs.State.{next_number, number_end, held_bits, mounted}
use Rattle.state.specs.declared.State.{State}
use Rattle.state.proofs.MountedLaws.{mounted_facts}
use Rattle.request.specs.Call.{Result, sized_for, call_line}
use Rattle.request.proofs.CallLaws.{sizes}
use Rattle.progress.specs.Progress.{Progress, progress}
use Rattle.fill_tables.specs.Tables.{Tabled}
use Rattle.request_laws.specs.Unready.{Unready}
use Rattle.write_changes.specs.Changes.{Update, changing, change_run}
use Rattle.write_changes.proofs.LoopLaws.{chosen_permitted, none_permitted}
use Rattle.write_laws.specs.Changing.{InRange, ChangeAnswer, is_done, is_worn, is_spent, is_silent_fact, is_cut, is_protected_fact, change_most}
use Rattle.write_laws.specs.Unready.{Busy, Waiting, Completing, InCommand, Shows, completed_by, ShownChange, BusyChange, CompletingChange, RefusedChange, in_command, while_busy, not_completed, AnyChangeAnswer, of_accepted, is_refused}
use Rattle.write_laws.proofs.MeantLaws as meant
use Rattle.write_laws.proofs.AnswerLaws.{call_told}
use Rattle.write_laws.proofs.ChangingLaws.{sized-valid, change_ends, change_fits, whole}
use Rattle.write_laws.proofs.FirstLaws.{finished_ready, read_completing, completing_line}
use Rattle.write_laws.proofs.UnreadyLaws.{ready_shown, change_unready, change_busy, change_completing}

-- these are all the chips
pub by_chip : {P : Type 0} (d : Device) → (d.interface.phase ≤ 2 → P) → (InCommand d → P) → (Waiting d → P) → (Completing d → P) → P
by_chip {P = P} d ready within waiting last =
    cases (leb d.interface.phase 2)
    (λ t. ready (leb-true d.interface.phase 2 t))
    (λ f.
    cases (eqb d.interface.phase 7)
    (λ t. busy (inl (eqb-true d.interface.phase 7 t)))
    (λ x.
    cases (eqb d.interface.phase 8)
    (λ t. busy (inr (eqb-true d.interface.phase 8 t)))
    (λ y. within (leb-false d.interface.phase 2 f, ⊎_elim (eqb-false d.interface.phase 7 x) (eqb-false d.interface.phase 8 y)))))
  where
    busy : Busy d → P
    busy b =
        cases (eqb d.interface.busy 0) (λ t. last (b, eqb-true d.interface.busy 0 t)) (λ t. waiting (b, eqb-false d.interface.busy 0 t))

-- a cycle is refused only on a chip that is not ready
pub refused_unready : (s : Setting) (d : Device) (n : ℕ) (st : State) → RefusedChange s d n st → Unready d
refused_unready s d n st (in_command h k) = h.0
refused_unready s d n st (while_busy h high k fits b below may) = ⊎_elim (λ e. omega (arith, e)) (λ e. omega (arith, e)) h.0
refused_unready s d n st (not_completed h k e) = ⊎_elim (λ e. omega (arith, e)) (λ e. omega (arith, e)) h.0

-- a request that is not refused before a cycle
module _ (s : Setting) (d : Device) (n : ℕ) (st : State) (u : Update) (sized : sized_for s d ≡ true) (is_mounted : mounted st s.geometry.blocks s.geometry.logical ≡ true) where
  abbrev r : Result
  r = changing s d n st u

  pub below_last : st.last < s.geometry.blocks
  below_last = (mounted_facts st s.geometry.blocks s.geometry.logical (sized-valid s d sized).blocks_most is_mounted).last_below

  pub change_shown : Shows d → 2 ≤ n → d.interface.protected ≡ 0 → ShownChange s d n st u r
  change_shown shows h high =
      ⊎_elim
      (λ ready. ready_shown s d st u ready n h high below_last)
      (λ waiting. (change_busy s d st u waiting sized below_last n).shown_so h high)
      shows

  pub change_answers : AnyChangeAnswer r.answer
  change_answers =
      ⊎_elim of_accepted (λ e. subst AnyChangeAnswer (sym e) is_refused) (call_told s d n st u below_last)

  -- what the fills find of a chip whose status read has completed an operation
  module _ (last : Completing d) (legal : (completed_by s d).interface.illegal ≡ 0) (ranged : InRange s d st) where
    abbrev first : Progress
    first = progress (uncut_line (completed_by s d) (n - 2)) Passed status_cycles []

    same_lengths : SameLengths d (completed_by s d)
    unfolding run
    same_lengths =
        let x = subst (SameLengths (call_line d n).chip) (read_completing s d last) (run_lengths s (call_line d n).chip status_cycles) in
        record { array = x.array; register = x.register; history = x.history }

    pub first_called : Called s first.line
    first_called =
        let z = sizes s.geometry (length d.array) (length d.register) (length d.history) (length s.mask) sized in
        record {
          is_valid = z.chip_fits.is_valid;
          array_long = same_lengths.array ∙ z.chip_fits.array_long;
          register_long = same_lengths.register ∙ z.chip_fits.register_long;
          history_long = same_lengths.history ∙ z.chip_fits.history_long;
          mask_long = z.mask_long;
          ready = finished_ready s.geometry _ legal;
          legal = legal;
          uncut = refl;
        }

    pub first_range : InRange s (completed_by s d) st
    unfolding run
    first_range =
        record {
          array_bytes = subst (λ (x : Device). Bytes x.array) (read_completing s d last) (run_bytes s ranged.mask_bytes (call_line d n).chip status_cycles ranged.array_bytes);
          mask_bytes = ranged.mask_bytes;
          invalid_long = ranged.invalid_long;
          invalid_bytes = ranged.invalid_bytes;
          map_long = ranged.map_long;
        }

  module _ (ranged : InRange s d st) (proper : meant.Proper s.geometry (held_bits st s.geometry.logical) u) where
    -- an answer of a request of which no cycle was refused, cut only by an allowance that it could send
    record Uncut (k : ℕ) : Type 0 where
      most : k ≤ 13
      cut_by : k ≡ 11 → n ≤ change_most s.geometry

    uncut : (k : ℕ) → k ≤ 13 → (k ≡ 11 → ⊥) → Uncut k
    uncut k h x = record { most = h; cut_by = λ z. absurd (x z) }

    cut_early : n ≤ 2 → Uncut 11
    cut_early h = record { most = omega arith; cut_by = λ z. omega (arith, h) }

    answer_most : (k : ℕ) → ChangeAnswer k → k ≤ 13
    answer_most k is_done = omega arith
    answer_most k is_worn = omega arith
    answer_most k is_spent = omega arith
    answer_most k is_silent_fact = omega arith
    answer_most k is_cut = omega arith
    answer_most k is_protected_fact = omega arith

    of_ready : d.interface.phase ≤ 2 → Uncut r.answer
    of_ready ready =
        let c = change_ends s d n st u ranged ready sized is_mounted proper in
        record { most = answer_most r.answer c.answers; cut_by = λ z. omega (arith, c.cut_at z, c.sent-most) }

    of_completing : (last : Completing d) (legal : (completed_by s d).interface.illegal ≡ 0) → 2 ≤ n → d.interface.protected ≡ 0 → Uncut r.answer
    unfolding is_passed
    of_completing last legal h high =
        let w = whole s (first last legal ranged) st u (first_range last legal ranged) refl refl (first_called last legal ranged) is_mounted proper (completing_line s d last ∙ high) in
        let e : r.answer ≡ (change_run s st u (first last legal ranged)).answer = ap (λ (t : Tabled). t.answer) ((change_completing s d st u last n).goes_on h legal high) in
        record { most = omega (arith, e, w.at_most); cut_by = λ z. omega (arith, w.used_up (sym e ∙ z), w.spent) }

    -- the answers by the chip and the allowance
    by_change : (P : ℕ → Type 0) → ((k : ℕ) → Uncut k → P k) → (RefusedChange s d n st → P 255) → P r.answer
    by_change P goes refused =
        by_chip d
        (λ ready. goes r.answer (of_ready ready))
        (λ within.
        let x = change_unready s d st u within n in
        cases (eqb n 0)
        (λ z. told 11 (x.cut_first (eqb-true n 0 z)).answer_is (goes 11 (cut_early (omega (arith, eqb-true n 0 z)))))
        (λ z.
        let some : 1 ≤ n = omega (arith, eqb-false n 0 z) in
        told 255 (x.refused_first some).answer_is (refused (in_command within some))))
        (λ waiting. of_waiting waiting (change_busy s d st u waiting sized below_last n))
        (λ last. of_last last (change_completing s d st u last n))
      where
        told : (k : ℕ) → r.answer ≡ k → P k → P r.answer
        told k e x = subst P (sym e) x

        -- none, one or two cycles, or more
        by_few : (n ≡ 0 → P r.answer) → (n ≡ 1 → P r.answer) → (2 ≤ n → P r.answer) → P r.answer
        by_few none one more =
            cases (eqb n 0)
            (λ z. none (eqb-true n 0 z))
            (λ z. cases (eqb n 1) (λ y. one (eqb-true n 1 y)) (λ y. more (omega (arith, eqb-false n 0 z, eqb-false n 1 y))))

        of_waiting : Waiting d → BusyChange s d n st u r → P r.answer
        of_waiting waiting x =
            by_few
            (λ z. told 11 (x.cut_first z).answer_is (goes 11 (cut_early (omega (arith, z)))))
            (λ z. told 11 (x.cut_second z).answer_is (goes 11 (cut_early (omega (arith, z)))))
            (λ h.
            cases (eqb d.interface.protected 0)
            (λ t.
            let high = eqb-true d.interface.protected 0 t in
            cases (leb number_end (next_number st))
            (λ y. told 9 ((x.shown_so h high).spent_first (leb-true number_end (next_number st) y)).answer_is (goes 9 (uncut 9 (omega arith) (λ z. omega (arith, z)))))
            (λ y.
            let fits = leb-false number_end (next_number st) y in
            let held = held_bits st s.geometry.logical in
            by_choice (chosen st.marked st.invalid held s.geometry.blocks st.last)
            (λ e.
            let none = none_permitted st.marked st.invalid held s.geometry.blocks st.last below_last e in
            told 8 ((x.shown_so h high).worn_first fits (λ b l w. clash w (none b l))).answer_is (goes 8 (uncut 8 (omega arith) (λ z. omega (arith, z)))))
            (λ b e.
            let found = chosen_permitted st.marked st.invalid held s.geometry.blocks st.last below_last b e in
            cases (eqb n 2)
            (λ z. told 11 (x.cut_third (eqb-true n 2 z) high fits b found.0 found.1).answer_is (goes 11 (cut_early (omega (arith, eqb-true n 2 z)))))
            (λ z.
            let more : 3 ≤ n = omega (arith, h, eqb-false n 2 z) in
            told 255 (x.refused_third more high fits b found.0 found.1).answer_is (refused (while_busy waiting high more fits b found.0 found.1))))))
            (λ t. told 13 (x.protected_so h (eqb-false d.interface.protected 0 t)).answer_is (goes 13 (uncut 13 (omega arith) (λ z. omega (arith, z))))))

        of_last : Completing d → CompletingChange s d n st u r → P r.answer
        of_last last x =
            by_few
            (λ z. told 11 (x.cut_first z).answer_is (goes 11 (cut_early (omega (arith, z)))))
            (λ z. told 11 (x.cut_second z).answer_is (goes 11 (cut_early (omega (arith, z)))))
            (λ h.
            cases (eqb (completed_by s d).interface.illegal 0)
            (λ e.
            let legal = eqb-true (completed_by s d).interface.illegal 0 e in
            cases (eqb d.interface.protected 0)
            (λ t. goes r.answer (of_completing last legal h (eqb-true d.interface.protected 0 t)))
            (λ t. told 13 (ap (λ (y : Result). y.answer) (x.protected_so h legal (eqb-false d.interface.protected 0 t))) (goes 13 (uncut 13 (omega arith) (λ z. omega (arith, z))))))
            (λ e.
            let illegal = eqb-false (completed_by s d).interface.illegal 0 e in
            told 255 (x.refused_second h illegal).answer_is (refused (not_completed last h illegal))))

    refused_255 : RefusedChange s d n st → r.answer ≡ 255
    refused_255 (in_command h k) = ((change_unready s d st u h n).refused_first k).answer_is
    refused_255 (while_busy h high k fits b below may) = ((change_busy s d st u h sized below_last n).refused_third k high fits b below may).answer_is
    refused_255 (not_completed h k e) = ((change_completing s d st u h n).refused_second k e).answer_is

    pub change_255 : (r.answer ≡ 255) ↔ RefusedChange s d n st
    change_255 = (by_change (λ k. k ≡ 255 → RefusedChange s d n st) (λ k x z. absurd (omega (arith, z, x.most))) (λ x z. x), refused_255)

    pub change_uncut : n ≡ 4294967295 → r.answer ≡ 11 → ⊥
    change_uncut e =
        by_change (λ k. k ≡ 11 → ⊥)
        (λ k x z. omega (arith, e, x.cut_by z, change_fits s.geometry (sized-valid s d sized)))
        (λ x z. omega (arith, z))
