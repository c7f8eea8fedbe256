-- Parts of a request: one after the other, and what erases and programs come to. Assumes nothing.
use Prim.Native.Nat.{ℕ, ◌+◌, ◌≤◌, ◌<◌}
use mathlib.Core.Bool.{true, false, false≢true}
use mathlib.Core.List.{List}
use mathlib.Core.Path.{◌≡◌, refl, sym, ap, ◌∙◌}
use native.Mathlib.Omega.{arith}
use borrow.Table.Steps.{cases}
use borrow.Author.Tests.{leb-true, leb-false}
use lib.Dec.{leb}
use lib.ListN.{get_or, set}
use lib.Seq.{get_or-set_same}
use Rattle.geometry.specs.Sizes.{row_of}
use Rattle.chip_interface.specs.Interface.{output_phase}
use Rattle.chip_array.specs.Device.{Setting}
use Rattle.chip.specs.Chip.{Cycle}
use Rattle.bus.specs.Line.{Line, send_all}
use Rattle.bus_polling.specs.Outcomes.{is_passed, answered}
use Rattle.bus_polling.specs.Polling.{outcome_of, answer_of}
use Rattle.bus_polling.specs.declared.Outcome.{Outcome}
use Rattle.bus_polling.specs.declared.Outcome.TheVariants.{Passed}
use Rattle.bus_sequences.specs.Cycles.{erase_cycles, program_cycles}
use Rattle.operations.specs.Ends.{Called, Lent, MayErase, MayProgram, CanErase, CanProgram, End, end_of, erase_end, program_end}
use Rattle.operations.specs.Trace.{ArrayOperation}
use Rattle.progress.specs.Progress.{Progress, progress}
use Rattle.bus_polling.proofs.OutcomeLaws.{is_passed_lem, passed_answered}
use Rattle.bus.proofs.WordLaws.{all_line}
use Rattle.bus_polling.proofs.PollLaws.{answer_answered, passed_high}
use Rattle.operations.proofs.UnreadyLaws.{lent_called, erase_unanswered}
use Rattle.progress.specs.Steps.{erase_on, program_on, ComesTo}
use Rattle.progress.proofs.StepLaws.{erase_end_fact, erase_outcome, erase_called, program_end_fact, program_outcome, program_called, erase_on_line, erase_on_outcome, program_on_line, program_on_outcome, whole_effect}

-- nothing is sent
pub comes_still : {s : Setting} {l : Line} → Called s l → ComesTo s (λ p. p) l l Passed
comes_still called = record { line_is = λ cs os. refl; outcome_is = λ cs os. refl; next_called = λ t. called }

pub comes_as : {s : Setting} {f g : Progress → Progress} {l m : Line} {o : Outcome} → ((p : Progress) → f p ≡ g p) → ComesTo s f l m o → ComesTo s g l m o
comes_as {s} {f} {g} {l} e r =
    record {
      line_is = λ cs os. r.line_is cs os ∙ ap (λ (x : Progress). x.line) (e (progress l Passed cs os));
      outcome_is = λ cs os. r.outcome_is cs os ∙ ap (λ (x : Progress). x.outcome) (e (progress l Passed cs os));
      next_called = r.next_called;
    }

-- a second part after the first
module _ (s : Setting) (f g : Progress → Progress) (l m : Line) (o : Outcome) (r : ComesTo s f l m o) where
  made : (cs : List Cycle) (os : List ArrayOperation) → progress m o (f (progress l Passed cs os)).cycles (f (progress l Passed cs os)).started ≡ f (progress l Passed cs os)
  made cs os = λ i. progress (r.line_is cs os i) (r.outcome_is cs os i) (f (progress l Passed cs os)).cycles (f (progress l Passed cs os)).started

  -- the first passed
  pub comes_on : is_passed o ≡ true → (m' : Line) (o' : Outcome) → ComesTo s g m m' o' → ComesTo s (λ p. g (f p)) l m' o'
  comes_on t m' o' q =
      let same : (cs : List Cycle) (os : List ArrayOperation) → progress m Passed (f (progress l Passed cs os)).cycles (f (progress l Passed cs os)).started ≡ f (progress l Passed cs os) =
      λ cs os. ap (λ (x : Outcome). progress m x (f (progress l Passed cs os)).cycles (f (progress l Passed cs os)).started) (sym (is_passed_lem o t)) ∙ made cs os in
      record {
        line_is = λ cs os. q.line_is _ _ ∙ ap (λ (x : Progress). (g x).line) (same cs os);
        outcome_is = λ cs os. q.outcome_is _ _ ∙ ap (λ (x : Progress). (g x).outcome) (same cs os);
        next_called = q.next_called;
      }

  -- it did not
  pub comes_no_further : is_passed o ≡ false → ((p : Progress) → is_passed p.outcome ≡ false → g p ≡ p) → ComesTo s (λ p. g (f p)) l m o
  comes_no_further u still =
      let same : (cs : List Cycle) (os : List ArrayOperation) → f (progress l Passed cs os) ≡ g (f (progress l Passed cs os)) =
      λ cs os. sym (still (f (progress l Passed cs os)) (sym (ap is_passed (r.outcome_is cs os)) ∙ u)) in
      record {
        line_is = λ cs os. r.line_is cs os ∙ ap (λ (x : Progress). x.line) (same cs os);
        outcome_is = λ cs os. r.outcome_is cs os ∙ ap (λ (x : Progress). x.outcome) (same cs os);
        next_called = r.next_called;
      }

-- an erase on a chip that may not be ready: where it is not, the erase is not answered
module _ (s : Setting) (l : Line) (block : ℕ) (lent : Lent s l) (below : block < s.geometry.blocks) (m : Line) (o : Outcome) (e : m ≡ send_all s l (erase_cycles s l (row_of s.geometry block 0))) (q : o ≡ answer_of m) where
  may_erase : answered o ≡ true → MayErase s l block
  may_erase t =
      cases (leb l.chip.interface.phase output_phase)
      (λ r. record { called = lent_called lent (leb-true l.chip.interface.phase output_phase r); block_below = below })
      (λ r.
      let unready = erase_unanswered s l lent (leb-false l.chip.interface.phase output_phase r) (row_of s.geometry block 0) in
      let told : answered o ≡ answered (outcome_of m) = ap answered q ∙ answer_answered m in
      absurd (false≢true (sym unready ∙ sym (ap (λ (x : Line). answered (outcome_of x)) e) ∙ sym told ∙ t)))

  pub erase_comes : ComesTo s (erase_on s block) l m o
  unfolding is_passed
  erase_comes =
      record {
        line_is = λ cs os. e ∙ sym (erase_on_line s block (progress l Passed cs os) l refl refl);
        outcome_is = λ cs os. q ∙ ap answer_of e ∙ sym (erase_on_outcome s block (progress l Passed cs os) l refl refl);
        next_called = λ t. erase_called s l block (may_erase t) m o e q t;
      }

  -- it passed: the block's pages may be programmed from page 0 on
  pub erase_order : is_passed o ≡ true → get_or m.chip.history block 0 ≤ 0
  unfolding end_of erase_end
  erase_order t =
      let high = sym (ap (λ (x : Line). x.chip.interface.protected) e ∙ all_line s l _) ∙ passed_high m (sym (ap is_passed q) ∙ t) in
      let can : CanErase s l block = record { may = may_erase (passed_answered o t); high = high } in
      let ends = erase_end_fact s l block can m o e q in
      let passed = sym (ap is_passed (erase_outcome s l block can m o e q)) ∙ t in
      let history : m.chip.history ≡ set l.chip.history block 0 = ap (λ (x : End). x.history) ends ∙ (whole_effect s l 3 4 _ _ _ _ passed).1 in
      let zero_is = get_or-set_same l.chip.history block 0 0 (omega (arith, below, lent.history_long)) in
      omega (arith, ap (λ (x : List ℕ). get_or x block 0) history, zero_is)

-- a program leaves line m and outcome o
module _ (s : Setting) (l : Line) (block page : ℕ) (bytes : List ℕ) (may : MayProgram s l block page bytes) (m : Line) (o : Outcome)
    (e : m ≡ send_all s l (program_cycles s l (row_of s.geometry block page) bytes)) (q : o ≡ answer_of m) where
  pub program_comes : ComesTo s (program_on s block page bytes) l m o
  unfolding is_passed
  program_comes =
      record {
        line_is = λ cs os. e ∙ sym (program_on_line s block (progress l Passed cs os) l refl refl page bytes);
        outcome_is = λ cs os. q ∙ ap answer_of e ∙ sym (program_on_outcome s block (progress l Passed cs os) l refl refl page bytes);
        next_called = program_called s l block page bytes may m o e q;
      }

  -- it passed: the next page may be programmed
  pub program_order : is_passed o ≡ true → get_or m.chip.history block 0 ≤ page + 1
  unfolding end_of program_end
  program_order t =
      let high = sym (ap (λ (x : Line). x.chip.interface.protected) e ∙ all_line s l _) ∙ passed_high m (sym (ap is_passed q) ∙ t) in
      let can : CanProgram s l block page bytes = record { may = may; high = high } in
      let ends = program_end_fact s l block page bytes can m o e q in
      let passed = sym (ap is_passed (program_outcome s l block page bytes can m o e q)) ∙ t in
      let history : m.chip.history ≡ set l.chip.history block (page + 1) = ap (λ (x : End). x.history) ends ∙ (whole_effect s l 2 _ _ _ _ _ passed).1 in
      let set_is = get_or-set_same l.chip.history block (page + 1) 0 (omega (arith, may.block_below, may.called.history_long)) in
      omega (arith, ap (λ (x : List ℕ). get_or x block 0) history, set_is)
