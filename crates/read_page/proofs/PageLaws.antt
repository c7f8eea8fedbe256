-- How the code ends the read of a page of a block, told by the definition. Assumes nothing.
use Prim.Native.Nat.{ℕ, ◌≤◌}
use mathlib.Core.Bool.{true, false}
use mathlib.Core.List.{List, []}
use mathlib.Core.Path.{◌≡◌, refl, sym, ap, ◌∙◌}
use native.Mathlib.Omega.{arith}
use Rattle.geometry.specs.Sizes.{row_of}
use Rattle.chip_array.specs.Device.{Device, Setting}
use Rattle.bus.specs.Line.{Line, send_all}
use Rattle.bus.proofs.LineLaws.{sent_counts}
use Rattle.bus_polling.specs.Outcomes.{is_passed}
use Rattle.bus_polling.specs.declared.Outcome.{Outcome}
use Rattle.bus_polling.specs.declared.Outcome.TheVariants.{Passed}
use Rattle.bus_sequences.specs.Cycles.{read_cycles, read_outcome}
use Rattle.progress.specs.Progress.{progress}
use Rattle.progress.proofs.ReadOnLaws.{read_line, read_outcome_fact}
use Rattle.state.specs.State.{blank}
use Rattle.state.specs.declared.State.{State}
use Rattle.request.specs.Call.{Result, call_line, stop_answer, end_at, answer_for, state_for}
use Rattle.read_page.specs.Fetching.{read_result, fetched, page_progress, reading_block}

-- the trace of a page's read ends where the read of its row does
module _ (s : Setting) (d : Device) (n block page : ℕ) where
  passes_first : is_passed Passed ≡ true
  unfolding is_passed
  passes_first = refl

  pub page_line_fact : (page_progress s d n block page).line ≡ send_all s (call_line d n) (read_cycles s (call_line d n) (row_of s.geometry block page) 0 s.geometry.main)
  page_line_fact = read_line s (row_of s.geometry block page) 0 s.geometry.main (progress (call_line d n) Passed [] []) (call_line d n) refl passes_first

  pub page_outcome : (page_progress s d n block page).outcome ≡ read_outcome s (call_line d n) (row_of s.geometry block page) 0 s.geometry.main
  page_outcome = read_outcome_fact s (row_of s.geometry block page) 0 s.geometry.main (progress (call_line d n) Passed [] []) (call_line d n) refl passes_first

-- a page of a block was read
module _ (s : Setting) (d : Device) (n : ℕ) (state : State) (block form page : ℕ) (buffer : List ℕ) (l m : Line) (o : Outcome) (row : ℕ) (bytes : List ℕ) (begun : l ≡ call_line d n) (row_is : row ≡ row_of s.geometry block page)
    (reached : m ≡ send_all s l (read_cycles s l row 0 s.geometry.main)) (ended : o ≡ read_outcome s l row 0 s.geometry.main) (left_in : bytes ≡ fetched s l row form page buffer) where
  line_is : m ≡ (page_progress s d n block page).line
  line_is =
      reached
      ∙ ap (λ (x : Line). send_all s x (read_cycles s x row 0 s.geometry.main)) begun
      ∙ ap (λ (x : ℕ). send_all s (call_line d n) (read_cycles s (call_line d n) x 0 s.geometry.main)) row_is
      ∙ sym (page_line_fact s d n block page)

  outcome_is : o ≡ (page_progress s d n block page).outcome
  outcome_is =
      ended
      ∙ ap (λ (x : Line). read_outcome s x row 0 s.geometry.main) begun
      ∙ ap (λ (x : ℕ). read_outcome s (call_line d n) x 0 s.geometry.main) row_is
      ∙ sym (page_outcome s d n block page)

  bytes_are : bytes ≡ fetched s (call_line d n) (row_of s.geometry block page) form page buffer
  bytes_are =
      left_in
      ∙ ap (λ (x : Line). fetched s x row form page buffer) begun
      ∙ ap (λ (x : ℕ). fetched s (call_line d n) x form page buffer) row_is

  pub left_most : m.left ≤ n
  left_most =
      omega (
        arith,
        ap (λ (x : Line). x.left) reached,
        sent_counts s l (read_cycles s l row 0 s.geometry.main),
        ap (λ (x : Line). x.left) begun,
      )

  ends_so : {r : Result} → r ≡ end_at n (answer_for o) (state_for o state) m → read_result r bytes ≡ reading_block s d n state block form page buffer
  unfolding reading_block
  ends_so e =
      ap (λ (x : Result). read_result x bytes)
      (e
      ∙ ap (end_at n (answer_for o) (state_for o state)) line_is
      ∙ ap (λ (x : Outcome). end_at n (answer_for x) (state_for x state) (page_progress s d n block page).line) outcome_is)
      ∙ ap (read_result (end_at n (answer_for (page_progress s d n block page).outcome) (state_for (page_progress s d n block page).outcome state) (page_progress s d n block page).line)) bytes_are

  pub ends_passed : {r : Result} → is_passed o ≡ true → r ≡ end_at n 0 state m → read_result r bytes ≡ reading_block s d n state block form page buffer
  ends_passed t e = ends_so (e ∙ sym (rw t))

  pub ends-stopped : {r : Result} (answer : ℕ) (stopped : State) → is_passed o ≡ false → answer ≡ stop_answer o → stopped ≡ blank 2 → r ≡ end_at n answer stopped m
      → read_result r bytes ≡ reading_block s d n state block form page buffer
  ends-stopped answer stopped f a b e =
      ends_so (e ∙ ap (λ (x : ℕ). end_at n x stopped m) a ∙ ap (λ (x : State). end_at n (stop_answer o) x m) b ∙ sym (rw f))
