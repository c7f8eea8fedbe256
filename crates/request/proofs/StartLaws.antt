-- A request that resets the chip: refused, stopped at its reset, or on its way. One law for all such requests. Assumes nothing.
use Prim.Native.Nat.{ℕ, ◌≤◌}
use mathlib.Core.Bool.{true, false}
use mathlib.Core.List.{List, []}
use mathlib.Core.Path.{◌≡◌, refl, sym, ap, ◌∙◌}
use native.Mathlib.Omega.{arith}
use borrow.Table.Steps.{cases}
use Rattle.bools.proofs.BoolLaws.{clash}
use Rattle.chip_array.specs.Device.{Device, Setting, device}
use Rattle.chip.specs.Chip.{Cycle}
use Rattle.bus.specs.Line.{Line, sent}
use Rattle.bus_polling.specs.Outcomes.{is_passed}
use Rattle.bus_polling.specs.Polling.{ended_as}
use Rattle.bus_polling.specs.declared.Outcome.TheVariants.{Passed}
use Rattle.bus_polling.proofs.OutcomeLaws.{is_passed_lem}
use Rattle.bus_sequences.specs.Cycles.{reset_cycles}
use Rattle.operations.specs.Ends.{Called}
use Rattle.operations.specs.Trace.{ArrayOperation}
use Rattle.progress.specs.Progress.{Progress, progress, reset_on}
use Rattle.state.specs.State.{blank}
use Rattle.state.specs.declared.State.{State}
use Rattle.request.specs.Call.{Result, result_with, sized_for, call_line, answer_for, stop_answer, end_at}
use Rattle.request.specs.Start.{start_line, start_run, start_answer, started, Started}
use Rattle.request.proofs.CallLaws.{answer_passed, answer_least}
use Rattle.request.proofs.ResetLaws.{reset_left, reset_called}

-- a request ends at the operation that did not pass
abbrev pub Stops : ℕ → (Progress → Result) → Type 0
Stops n rest = (p : Progress) → is_passed p.outcome ≡ false → rest p ≡ end_at n (stop_answer p.outcome) (blank 2) p.line

-- from what the code does
module _ (s : Setting) (d : Device) (n : ℕ) where
  pub start_refused : (answer : ℕ) (l : Line) → sized_for s d ≡ false → answer ≡ 1 → l.chip.array ≡ d.array → l.chip.register ≡ d.register → l.chip.history ≡ d.history → Started s d n answer l
  unfolding start_answer
  start_refused answer l f e a r h =
      record { answer_is = e ∙ rw f; line_is = λ t. clash t f; same_array = λ z. a; same_register = λ z. r; same_history = λ z. h }

  pub start_sized : (answer : ℕ) (l : Line) → sized_for s d ≡ true → l ≡ start_line s d n → answer ≡ answer_for (ended_as l) → Started s d n answer l
  unfolding start_answer
  start_sized answer l t e q =
      let never : answer ≡ 1 → ⊥ = λ z. answer_least (ended_as l) (sym q ∙ z) in
      record {
        answer_is = q ∙ ap (λ (x : Line). answer_for (ended_as x)) e ∙ rw t;
        line_is = λ u. e;
        same_array = λ z. absurd (never z);
        same_register = λ z. absurd (never z);
        same_history = λ z. absurd (never z);
      }

module _ (s : Setting) (d : Device) (n answer : ℕ) (l : Line) (r : Started s d n answer l) where
  refused_so : answer ≡ 1 → sized_for s d ≡ false
  unfolding start_answer
  refused_so z =
      cases (sized_for s d)
      (λ t. absurd (answer_least (ended_as (start_line s d n)) (rw t at (sym r.answer_is ∙ z))))
      (λ f. f)

  sized_so : (answer ≡ 1 → ⊥) → sized_for s d ≡ true
  unfolding start_answer
  sized_so x = cases (sized_for s d) (λ t. t) (λ f. absurd (x (r.answer_is ∙ rw f)))

  answer_so : sized_for s d ≡ true → answer ≡ answer_for (ended_as (start_line s d n))
  unfolding start_answer
  answer_so t = r.answer_is ∙ rw t

  run_is : start_run s d n ≡ progress (start_line s d n) (ended_as (start_line s d n)) (sent s (call_line d n) reset_cycles) []
  unfolding reset_on is_passed
  run_is = refl

  -- the chip is ready for the next operation, and no more cycles are left than were allowed
  passed_so : answer ≡ 0 → is_passed (ended_as (start_line s d n)) ≡ true
  passed_so z = answer_passed (ended_as (start_line s d n)) (sym (answer_so (sized_so (λ o. omega (arith, o, z)))) ∙ z)

  pub start_called : answer ≡ 0 → Called s l
  start_called z =
      let t = sized_so (λ o. omega (arith, o, z)) in
      reset_called s d n t l (ended_as l) (r.line_is t) refl (ap (λ (x : Line). is_passed (ended_as x)) (r.line_is t) ∙ passed_so z)

  pub start_left : (answer ≡ 1 → ⊥) → l.left ≤ n
  start_left x =
      let t = sized_so x in
      reset_left s d n t l (ended_as l) (r.line_is t) refl

  module _ (state : State) (rest : Progress → Result) where
    pub refused_is : answer ≡ 1 → result_with answer state (device d.interface l.chip.array l.chip.register l.chip.history) 0 ≡ started s d n state rest
    refused_is z =
        let same : result_with answer state (device d.interface l.chip.array l.chip.register l.chip.history) 0 ≡ result_with 1 state d 0 =
        λ i. result_with (z i) state (device d.interface (r.same_array z i) (r.same_register z i) (r.same_history z i)) 0 in
        same ∙ rw (refused_so z)

    pub stopped_is : Stops n rest → (answer ≡ 1 → ⊥) → (answer ≡ 0 → ⊥) → (st : State) → st ≡ blank 2 → end_at n answer st l ≡ started s d n state rest
    stopped_is stops x y st e =
        let t = sized_so x in
        let o = ended_as (start_line s d n) in
        let f : is_passed o ≡ false = cases (is_passed o) (λ u. absurd (y (answer_so t ∙ rw u))) (λ u. u) in
        let answered : answer ≡ stop_answer o = answer_so t ∙ rw f in
        let all : end_at n answer st l ≡ end_at n (stop_answer o) (blank 2) (start_line s d n) = λ i. end_at n (answered i) (e i) (r.line_is t i) in
        all ∙ sym (stops (start_run s d n) (ap (λ (p : Progress). is_passed p.outcome) run_is ∙ f) ∙ ap (λ (p : Progress). end_at n (stop_answer p.outcome) (blank 2) p.line) run_is) ∙ rw t

    pub goes_on : answer ≡ 0 → (q : Result) → ((cs : List Cycle) (os : List ArrayOperation) → q ≡ rest (progress l Passed cs os)) → q ≡ started s d n state rest
    goes_on z q f =
        let t = sized_so (λ o. omega (arith, o, z)) in
        let ends = is_passed_lem (ended_as (start_line s d n)) (passed_so z) in
        let same : progress l Passed (sent s (call_line d n) reset_cycles) [] ≡ start_run s d n =
        (λ i. progress (r.line_is t i) (sym ends i) (sent s (call_line d n) reset_cycles) []) ∙ sym run_is in
        f (sent s (call_line d n) reset_cycles) [] ∙ ap rest same ∙ rw t
