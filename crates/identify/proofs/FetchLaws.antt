-- The call on its way: stopped at its reset, or on with the parameter page, whose bytes it gets where that passed. Assumes nothing.
use Prim.Native.Nat.{ℕ, ◌≤◌}
use mathlib.Core.Bool.{true, false}
use mathlib.Core.List.{List}
use mathlib.Core.Path.{◌≡◌, refl, sym, ap, subst, ◌∙◌}
use native.Mathlib.Omega.{arith}
use lib.ListN.{length}
use lib.Seq.{take_all}
use borrow.Author.Tests.{eq-eqb}
use Rattle.cells.specs.Cells.{over}
use Rattle.cells.proofs.CellLaws.{over-all}
use Rattle.chip_array.specs.Device.{Device, Setting, setting}
use Rattle.bus.specs.Line.{Line, send_all}
use Rattle.bus.proofs.LineLaws.{sent_counts}
use Rattle.bus_polling.specs.Outcomes.{is_passed}
use Rattle.bus_polling.specs.Polling.{ended_as}
use Rattle.bus_polling.specs.declared.Outcome.{Outcome}
use Rattle.bus_sequences.specs.Cycles.{reset_cycles}
use Rattle.operations.proofs.ResetLaws.{reset_leaves}
use Rattle.progress.specs.Progress.{reset_on}
use Rattle.parameter_read.specs.Cycles.{parameter_cycles, parameter_outcome, parameter_outputs}
use Rattle.parameter_read.specs.Ends.{CanTell}
use Rattle.parameter_read.proofs.ParameterLaws.{parameters_bytes}
use Rattle.parameters.specs.declared.Sizes.{Sizes}
use Rattle.parameters.specs.Page.{Told, told}
use Rattle.state.specs.State.{blank}
use Rattle.state.specs.declared.State.{State}
use Rattle.request.specs.Call.{call_line, stop_answer, end_at, result_of}
use Rattle.request.specs.Start.{start_line}
use Rattle.request.proofs.ResetLaws.{reset_enough}
use Rattle.identify.specs.Identify.{identified, no_sizes, unknown, parameters_on, identify_run, identify_end, identify_request, identifying}

-- the same cycles, told by other names of the setting and of the number of bytes
module _ (s : Setting) (m : Line) (page : List ℕ) {z : Setting} {k : ℕ} (e : z ≡ s) (h : k ≡ 768) where
  pub cycles_as : {x : Line} → x ≡ send_all z m (parameter_cycles z m page k) → x ≡ send_all s m (parameter_cycles s m page 768)
  cycles_as f = f ∙ (λ i. send_all (e i) m (parameter_cycles (e i) m page (h i)))

  pub outcome_as : {o : Outcome} → o ≡ parameter_outcome z m page k → o ≡ parameter_outcome s m page 768
  outcome_as f = f ∙ (λ i. parameter_outcome (e i) m page (h i))

  pub bytes_as : {xs : List ℕ} (before : List ℕ) → xs ≡ over (parameter_outputs z m page k) before → xs ≡ over (parameter_outputs s m page 768) before
  bytes_as before f = f ∙ (λ i. over (parameter_outputs (e i) m page (h i)) before)

module _ (s : Setting) (d : Device) (n : ℕ) (page : List ℕ) where
  -- a reset that did not pass is all, and one that did is followed by the page
  pub run_stops : (m : Line) (o : Outcome) → m ≡ start_line s d n → o ≡ ended_as m → is_passed o ≡ false → (m ≡ (identify_run s d n page).line) × (o ≡ (identify_run s d n page).outcome)
  unfolding parameters_on reset_on is_passed
  run_stops m o e q f =
      let ended : o ≡ ended_as (start_line s d n) = q ∙ ap ended_as e in
      let stopped : is_passed (ended_as (start_line s d n)) ≡ false = ap is_passed (sym ended) ∙ f in
      (e ∙ rw stopped, ended ∙ rw stopped)

  pub run_goes : (m k : Line) (o : Outcome) → m ≡ start_line s d n → is_passed (ended_as m) ≡ true → k ≡ send_all s m (parameter_cycles s m page 768) → o ≡ parameter_outcome s m page 768 → (k ≡ (identify_run s d n page).line) × (o ≡ (identify_run s d n page).outcome)
  unfolding parameters_on reset_on is_passed
  run_goes m k o e t f q =
      let passed : is_passed (ended_as (start_line s d n)) ≡ true = ap (λ (x : Line). is_passed (ended_as x)) (sym e) ∙ t in
      (f ∙ ap (λ (x : Line). send_all s x (parameter_cycles s x page 768)) e ∙ rw passed, q ∙ ap (λ (x : Line). parameter_outcome s x page 768) e ∙ rw passed)

  -- no more cycles are left than were allowed
  pub start_left : (m : Line) → m ≡ start_line s d n → m.left ≤ n
  start_left m e = omega (arith, sent_counts s (call_line d n) reset_cycles, ap (λ (x : Line). x.left) e)

  pub page_left : (m k : Line) → m ≡ start_line s d n → k ≡ send_all s m (parameter_cycles s m page 768) → k.left ≤ n
  page_left m k e f =
      omega (arith, start_left m e, sent_counts s m (parameter_cycles s m page 768), ap (λ (x : Line). x.left) f)

  -- after a reset that passed the page can be read
  pub start_tells : length page ≡ 768 → (m : Line) → m ≡ start_line s d n → is_passed (ended_as m) ≡ true → CanTell m page 768
  start_tells h m e t =
      subst (λ (x : Line). CanTell x page 768)
      (sym (e ∙ reset_leaves s (call_line d n) refl refl (reset_enough s d n (ap (λ (x : Line). is_passed (ended_as x)) (sym e) ∙ t))))
      (record { ready = omega arith; legal = refl; uncut = refl; within = omega (arith, h) })

  -- and where that passed the bytes are the page
  pub page_read_lem : length page ≡ 768 → (m : Line) → m ≡ start_line s d n → is_passed (ended_as m) ≡ true → (o : Outcome) → o ≡ parameter_outcome s m page 768 → is_passed o ≡ true → (bytes before : List ℕ) → length before ≡ 768 → bytes ≡ over (parameter_outputs s m page 768) before → bytes ≡ page
  page_read_lem h m e t o q u bytes before b f =
      let whole : parameter_outputs s m page 768 ≡ page =
      parameters_bytes s m page 768 (start_tells h m e t) (ap is_passed (sym q) ∙ u) ∙ take_all 768 page (omega (arith, h)) in
      f ∙ ap (λ (x : List ℕ). over x before) whole ∙ over-all page before (b ∙ sym h)

-- the end of a call whose page has the right length
module _ (mask fates : List ℕ) (d : Device) (n : ℕ) (state : State) (page : List ℕ) (logical : ℕ) (h : length page ≡ 768) (l : Line) (o : Outcome) (e : l ≡ (identify_run (setting unknown mask fates) d n page).line) (q : o ≡ (identify_run (setting unknown mask fates) d n page).outcome) where
  pub ends-stopped : is_passed o ≡ false → (a : ℕ) (st : State) (z : Sizes) → a ≡ stop_answer o → st ≡ blank 2 → z ≡ no_sizes → identified (end_at n a st l) z ≡ identifying mask fates d n state page logical
  unfolding result_of identify_request identify_end
  ends-stopped f a st z u v w =
      (λ i. identified (end_at n ((u ∙ ap stop_answer q) i) (v i) (e i)) (w i)) ∙ rw (eq-eqb (length page) 768 h, ap is_passed (sym q) ∙ f)

  pub ends_told : is_passed o ≡ true → (t : Told) → t ≡ told page logical → identified (end_at n t.answer state l) t.sizes ≡ identifying mask fates d n state page logical
  unfolding result_of identify_request identify_end
  ends_told u t v =
      (λ i. identified (end_at n (v i).answer state (e i)) (v i).sizes) ∙ rw (eq-eqb (length page) 768 h, ap is_passed (sym q) ∙ u)
