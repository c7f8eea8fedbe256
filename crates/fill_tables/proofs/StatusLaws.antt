-- What follows the status read of a request: where it stops, and where it goes on. Assumes nothing.
use Prim.Native.Nat.{ℕ}
use mathlib.Core.Bool.{true, false}
use mathlib.Core.List.{List, ◌++◌}
use mathlib.Core.Path.{◌≡◌, sym, ap, ◌∙◌}
use Rattle.chip_array.specs.Device.{Setting}
use Rattle.chip.specs.Chip.{Cycle}
use Rattle.bus.specs.Line.{Line, send_all, sent}
use Rattle.bus_polling.specs.Outcomes.{is_passed}
use Rattle.bus_polling.specs.declared.Outcome.{Outcome}
use Rattle.bus_polling.specs.declared.Outcome.TheVariants.{Passed}
use Rattle.bus_polling.proofs.OutcomeLaws.{is_passed_lem}
use Rattle.bus_sequences.specs.Cycles.{status_cycles}
use Rattle.operations.specs.Ends.{status_end}
use Rattle.operations.specs.Trace.{ArrayOperation}
use Rattle.state.specs.declared.State.{State}
use Rattle.request.specs.Call.{Result, end_at, status_answer, status_state}
use Rattle.progress.specs.Progress.{Progress, progress, status_on}
use Rattle.fill_tables.specs.Tables.{Tabled, tabled, end_of_run, after_status}

pub after_passed : (state : State) (p : Progress) (rest : Tabled) → is_passed p.outcome ≡ true → after_status state p rest ≡ rest
unfolding after_status
after_passed state p rest t = rw t

pub after-stopped : (state : State) (p : Progress) (rest : Tabled) → is_passed p.outcome ≡ false
    → after_status state p rest ≡ tabled p (status_answer p.outcome) (status_state p.outcome state)
unfolding after_status
after-stopped state p rest f = rw f

-- a status read from line l to line m with outcome o, in a request of n cycles with this state
module _ (s : Setting) (n : ℕ) (state : State) (l m : Line) (o : Outcome) (e : m ≡ send_all s l status_cycles) (q : o ≡ status_end m) where
  shown : (cs : List Cycle) (os : List ArrayOperation) → progress m o (cs ++ sent s l status_cycles) os ≡ status_on s (progress l Passed cs os)
  unfolding status_on is_passed
  shown cs os = λ i. progress (e i) ((q ∙ ap status_end e) i) (cs ++ sent s l status_cycles) os

  pub status_stops : (a : ℕ) (st : State) → is_passed o ≡ false → a ≡ status_answer o → st ≡ status_state o state → (cs : List Cycle) (os : List ArrayOperation) (rest : Tabled)
      → end_at n a st m ≡ end_of_run n (after_status state (status_on s (progress l Passed cs os)) rest)
  status_stops a st f h k cs os rest =
      (λ i. end_at n (h i) (k i) m)
      ∙ ap (end_of_run n) (sym (after-stopped state (progress m o (cs ++ sent s l status_cycles) os) rest f))
      ∙ ap (λ (p : Progress). end_of_run n (after_status state p rest)) (shown cs os)

  pub status_goes : (rest : Progress → Tabled) (r : Result) → is_passed o ≡ true → ((cs : List Cycle) (os : List ArrayOperation) → r ≡ end_of_run n (rest (progress m Passed cs os)))
      → (cs : List Cycle) (os : List ArrayOperation) → r ≡ end_of_run n (after_status state (status_on s (progress l Passed cs os)) (rest (status_on s (progress l Passed cs os))))
  status_goes rest r t f cs os =
      let p = progress m o (cs ++ sent s l status_cycles) os in
      f (cs ++ sent s l status_cycles) os
      ∙ ap (λ (x : Outcome). end_of_run n (rest (progress m x (cs ++ sent s l status_cycles) os))) (sym (is_passed_lem o t))
      ∙ ap (end_of_run n) (sym (after_passed state p (rest p) t))
      ∙ ap (λ (x : Progress). end_of_run n (after_status state x (rest x))) (shown cs os)
