-- A formatting from its page reads on: where it stops, and what the first round hands to the table fills. Assumes nothing.
use Prim.Native.Nat.{ℕ, ◌≤◌, max}
use mathlib.Core.Bool.{true, false, cond}
use mathlib.Core.List.{List, []}
use mathlib.Core.Path.{◌≡◌, refl, sym, ap, subst, ◌∙◌}
use native.Mathlib.Nat.{add-zero}
use native.Mathlib.Omega.{arith}
use borrow.Table.Steps.{cases}
use Rattle.chip_array.specs.Device.{Device, Setting}
use Rattle.chip.specs.Chip.{Cycle}
use Rattle.bus.specs.Line.{Line, send_all}
use Rattle.bus.proofs.LineLaws.{sent_counts}
use Rattle.bus_polling.specs.Outcomes.{is_passed}
use Rattle.bus_polling.specs.declared.Outcome.{Outcome}
use Rattle.bus_polling.specs.declared.Outcome.TheVariants.{Passed}
use Rattle.bus_sequences.specs.Cycles.{status_cycles}
use Rattle.operations.specs.Ends.{Called, status_end}
use Rattle.operations.specs.Trace.{ArrayOperation}
use Rattle.state.specs.State.{blank}
use Rattle.state.specs.declared.State.{State}
use Rattle.request.specs.Call.{Result, sized_for, end_at, stop_answer, result_of}
use Rattle.request.specs.Start.{started}
use Rattle.progress.specs.Progress.{Progress, progress, status_on}
use Rattle.progress.proofs.StatusLaws.{status_leaves}
use Rattle.progress.proofs.CountLaws.{allowance_kept}
use Rattle.bus_polling.proofs.OutcomeLaws.{is_passed_lem, passed_answered}
use Rattle.request.proofs.StartLaws.{Stops}
use Rattle.scan.proofs.ChipLaws.{blocks_stopped}
use Rattle.scan.proofs.KeepLaws.{blocks_keep}
use Rattle.format_erase.proofs.KeepLaws.{round_keeps}
use Rattle.scan.specs.Scan.{blocks_read}
use Rattle.scan_summary.specs.declared.Depth.TheVariants.{Full}
use Rattle.format_scan.specs.Survey.{surveyed, union_to, passed_over, SurveyDone}
use Rattle.format_scan.specs.declared.Survey.{Survey}
use Rattle.format_erase.specs.declared.Numbers.{Numbers}
use Rattle.format_erase.specs.Round.{Round, erased_to, RoundDone}
use Rattle.fill_tables.specs.Tables.{Tabled, end_of_run}
use Rattle.format.specs.Format.{stopped, tables_run, round_run, status_run, reads_run, format_request, formatting}

pub reads-left : (s : Setting) (l m : Line) (o : Outcome) (v : Survey) → SurveyDone s l m o v → m.left ≤ l.left
reads-left s l m o v d =
    omega (arith, blocks_keep Full s _ (allowance_kept s _) s.geometry.blocks (progress l Passed [] []) refl, ap (λ (x : Line). x.left) (d.line_is [] []))

pub round-left : (s : Setting) (marked : List ℕ) (l m : Line) (o : Outcome) (invalid : List ℕ) (numbers : Numbers) → RoundDone s marked l m o invalid numbers → m.left ≤ l.left
round-left s marked l m o invalid numbers d =
    omega (arith, round_keeps s _ (allowance_kept s _) marked s.geometry.blocks (progress l Passed [] []) refl, ap (λ (x : Line). x.left) (d.line_is [] []))

-- the end after an operation that did not pass
pub stop_is : (n : ℕ) (p : Progress) (m : Line) (o : Outcome) (a : ℕ) (st : State) → m ≡ p.line → o ≡ p.outcome → a ≡ stop_answer o → st ≡ blank 2 → end_at n a st m ≡ end_of_run n (stopped p)
stop_is n p m o a st e q h k = λ i. end_at n ((h ∙ ap stop_answer q) i) (k i) (e i)

module _ (s : Setting) (n : ℕ) (l m : Line) (o : Outcome) (v : Survey) (d : SurveyDone s l m o v) where
  pub reads_stop : (state : State) → is_passed o ≡ false → (a : ℕ) (st : State) → a ≡ stop_answer o → st ≡ blank 2 → (cs : List Cycle) (os : List ArrayOperation) → end_at n a st m ≡ end_of_run n (reads_run s state (progress l Passed cs os))
  unfolding reads_run
  reads_stop state f a st h k cs os =
      let q = blocks_read Full s s.geometry.blocks (progress l Passed cs os) in
      let stops : is_passed q.outcome ≡ false = sym (ap is_passed (d.outcome_is cs os)) ∙ f in
      rw stops (stop_is n q m o a st (d.line_is cs os) (d.outcome_is cs os) h k)

  module _ (t : is_passed o ≡ true) where
    -- where the reads came to
    goes : (cs : List Cycle) (os : List ArrayOperation) → progress m Passed (blocks_read Full s s.geometry.blocks (progress l Passed cs os)).cycles (blocks_read Full s s.geometry.blocks (progress l Passed cs os)).started ≡ blocks_read Full s s.geometry.blocks (progress l Passed cs os)
    goes cs os =
        let q = blocks_read Full s s.geometry.blocks (progress l Passed cs os) in
        λ i. record { line = d.line_is cs os i; outcome = (sym (is_passed_lem o t) ∙ d.outcome_is cs os) i; cycles = q.cycles; started = q.started }

    found_is : (cs : List Cycle) (os : List ArrayOperation) → v ≡ surveyed s.geometry (blocks_read Full s s.geometry.blocks (progress l Passed cs os)).line.chip.array
    found_is cs os =
        d.survey_is t ∙ ap (surveyed s.geometry) (sym d.same_array) ∙ ap (λ (x : Line). surveyed s.geometry x.chip.array) (d.line_is cs os)

    -- what follows the page reads, from line m on
    pub reads_goes : (state : State) (r : Result) → ((cs : List Cycle) (os : List ArrayOperation) → r ≡ end_of_run n (status_run s state v (progress m Passed cs os))) → (cs : List Cycle) (os : List ArrayOperation) → r ≡ end_of_run n (reads_run s state (progress l Passed cs os))
    unfolding reads_run
    reads_goes state r f cs os =
        let q = blocks_read Full s s.geometry.blocks (progress l Passed cs os) in
        let passed : is_passed q.outcome ≡ true = sym (ap is_passed (d.outcome_is cs os)) ∙ t in
        f q.cycles q.started
        ∙ ap (λ (x : Progress). end_of_run n (status_run s state v x)) (goes cs os)
        ∙ ap (λ (x : Survey). end_of_run n (status_run s state x q)) (found_is cs os)
        ∙ rw passed

-- the status read
pub status_left : (s : Setting) (l m : Line) → m ≡ send_all s l status_cycles → m.left ≤ l.left
status_left s l m e = omega (arith, sent_counts s l status_cycles, ap (λ (x : Line). x.left) e)

pub status_called : (s : Setting) (l m : Line) (o : Outcome) → m ≡ send_all s l status_cycles → o ≡ status_end m → is_passed o ≡ true → Called s l → Called s m
unfolding status_on is_passed
status_called s l m o e q t c =
    subst (Called s) (sym e)
    ((status_leaves s (progress l Passed [] []) refl c).next_called (passed_answered (status_end (send_all s l status_cycles)) (sym (ap is_passed (q ∙ ap status_end e)) ∙ t)))

module _ (s : Setting) (n : ℕ) (v : Survey) (skip : List ℕ) (over : skip ≡ passed_over s.geometry v) (l m : Line) (o : Outcome) (failed : List ℕ) (numbers : Numbers) (d : RoundDone s skip l m o failed numbers) where
  abbrev rounds : List Cycle → List ArrayOperation → Round
  rounds cs os = erased_to s skip s.geometry.blocks (progress l Passed cs os)

  -- the bitmap as it was made
  same_round : (cs : List Cycle) (os : List ArrayOperation) → rounds cs os ≡ erased_to s (passed_over s.geometry v) s.geometry.blocks (progress l Passed cs os)
  same_round cs os = ap (λ (x : List ℕ). erased_to s x s.geometry.blocks (progress l Passed cs os)) over

  pub round_stop : is_passed o ≡ false → (a : ℕ) (st : State) → a ≡ stop_answer o → st ≡ blank 2 → (cs : List Cycle) (os : List ArrayOperation) → end_at n a st m ≡ end_of_run n (round_run s v (progress l Passed cs os))
  unfolding round_run
  round_stop f a st h k cs os =
      let q = (rounds cs os).progress in
      let stops : is_passed q.outcome ≡ false = sym (ap is_passed (d.outcome_is cs os)) ∙ f in
      stop_is n q m o a st (d.line_is cs os) (d.outcome_is cs os) h k ∙ ap (λ (x : Round). end_of_run n (stopped x.progress)) (same_round cs os) ∙ rw (sym (ap (λ (x : Round). is_passed x.progress.outcome) (same_round cs os)) ∙ stops)

  pub round_goes_on : is_passed o ≡ true → (invalid : List ℕ) → invalid ≡ union_to v.carried failed s.geometry.blocks → (k : ℕ) → k ≡ max v.greatest numbers.greatest → (r : Result)
      → ((cs : List Cycle) (os : List ArrayOperation) → r ≡ end_of_run n (tables_run s v.marked invalid k v.old (progress m Passed cs os))) → (cs : List Cycle) (os : List ArrayOperation) → r ≡ end_of_run n (round_run s v (progress l Passed cs os))
  unfolding round_run
  round_goes_on t invalid u k h r f cs os =
      let e = rounds cs os in
      let q = e.progress in
      let passed : is_passed q.outcome ≡ true = sym (ap is_passed (d.outcome_is cs os)) ∙ t in
      let same : progress m Passed q.cycles q.started ≡ q = λ i. record { line = d.line_is cs os i; outcome = (sym (is_passed_lem o t) ∙ d.outcome_is cs os) i; cycles = q.cycles; started = q.started } in
      let union : invalid ≡ union_to v.carried e.invalid s.geometry.blocks = u ∙ ap (λ (x : List ℕ). union_to v.carried x s.geometry.blocks) (d.invalid_is t cs os) in
      let greatest : k ≡ max v.greatest e.numbers.greatest = h ∙ ap (λ (x : Numbers). max v.greatest x.greatest) (d.numbers_are t cs os) in
      let after : Round → Tabled = λ x. tables_run s v.marked (union_to v.carried x.invalid s.geometry.blocks) (max v.greatest x.numbers.greatest) v.old x.progress in
      f q.cycles q.started
      ∙ (λ i. end_of_run n (tables_run s v.marked (union i) (greatest i) v.old (same i)))
      ∙ ap (λ (x : Round). end_of_run n (after x)) (same_round cs os)
      ∙ rw (sym (ap (λ (x : Round). is_passed x.progress.outcome) (same_round cs os)) ∙ passed)

-- a formatting ends at the operation that did not pass
pub format_stops : (s : Setting) (n : ℕ) (state : State) → Stops n (λ p. end_of_run n (reads_run s state p))
unfolding reads_run blocks_read
format_stops s n state p f =
    let same : blocks_read Full s s.geometry.blocks p ≡ p = sym (ap (λ (x : ℕ). blocks_read Full s x p) (add-zero s.geometry.blocks)) ∙ blocks_stopped Full s 0 p f s.geometry.blocks in
    ap (λ (q : Progress). end_of_run n (cond (is_passed q.outcome) (status_run s state (surveyed s.geometry q.line.chip.array) q) (stopped q))) same ∙ rw f

-- the request, told by how every request that resets the chip begins
pub format_started : (s : Setting) (d : Device) (n : ℕ) (state : State) → started s d n state (λ p. end_of_run n (reads_run s state p)) ≡ formatting s d n state
unfolding result_of format_request
format_started s d n state = cases (sized_for s d) (λ t. rw t) (λ f. rw f)
