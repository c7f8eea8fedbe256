-- What an erase and a program leave for whoever does not look at their cycles, and what they add to a request on its way. Assumes nothing.
use Prim.Native.Nat.{ℕ}
use mathlib.Core.Bool.{true, false, false≢true}
use mathlib.Core.List.{List}
use mathlib.Core.Path.{◌≡◌, sym, ap, subst, ◌∙◌}
use native.Mathlib.Omega.{arith}
use borrow.Table.Steps.{cases}
use borrow.Author.Tests.{lt-leb, ltb-false}
use lib.Dec.{eqb, leb, ltb}
use Rattle.geometry.specs.Sizes.{row_of}
use Rattle.chip_interface.specs.Interface.{busy_of, failed_for}
use Rattle.chip_array.specs.Device.{Setting}
use Rattle.bus.specs.Line.{Line, send_all}
use Rattle.bus_polling.specs.Outcomes.{is_passed, answered}
use Rattle.bus_polling.specs.Polling.{answer_of}
use Rattle.bus_polling.specs.declared.Outcome.{Outcome}
use Rattle.bus_sequences.specs.Cycles.{erase_cycles, program_cycles}
use Rattle.operations.specs.Ends.{Called, MayErase, MayProgram, CanErase, CanProgram, end_of, erase_end, program_end, confirmed_end, passes, ends_as, total_for, word_for}
use Rattle.operations.proofs.EraseLaws.{erase_ends, erase_answer, erase_next}
use Rattle.operations.proofs.ProgramLaws.{program_ends, program_answer, program_next}
use Rattle.progress.specs.Progress.{Progress}
use Rattle.progress.specs.Steps.{erase_on, program_on}

-- line m and outcome o after an erase
module _ (s : Setting) (l : Line) (block : ℕ) (can : CanErase s l block) (m : Line) (o : Outcome) (e : m ≡ send_all s l (erase_cycles s l (row_of s.geometry block 0))) (q : o ≡ answer_of m) where
  pub erase_end_fact : end_of m ≡ erase_end s l block
  erase_end_fact = ap end_of e ∙ erase_ends s l block can

  pub erase_outcome : o ≡ (erase_end s l block).outcome
  erase_outcome = q ∙ ap answer_of e ∙ erase_answer s l block can

-- whatever the write-protect line
module _ (s : Setting) (l : Line) (block : ℕ) (may : MayErase s l block) (m : Line) (o : Outcome) (e : m ≡ send_all s l (erase_cycles s l (row_of s.geometry block 0))) (q : o ≡ answer_of m) where
  pub erase_called : answered o ≡ true → Called s m
  erase_called t = subst (Called s) (sym e) (erase_next s l block may (sym (ap answered (q ∙ ap answer_of e)) ∙ t))

-- after a program
module _ (s : Setting) (l : Line) (block page : ℕ) (bytes : List ℕ) (can : CanProgram s l block page bytes) (m : Line) (o : Outcome)
    (e : m ≡ send_all s l (program_cycles s l (row_of s.geometry block page) bytes)) (q : o ≡ answer_of m) where
  pub program_end_fact : end_of m ≡ program_end s l block page bytes
  program_end_fact = ap end_of e ∙ program_ends s l block page bytes can

  pub program_outcome : o ≡ (program_end s l block page bytes).outcome
  program_outcome = q ∙ ap answer_of e ∙ program_answer s l block page bytes can

-- whatever the write-protect line
module _ (s : Setting) (l : Line) (block page : ℕ) (bytes : List ℕ) (may : MayProgram s l block page bytes) (m : Line) (o : Outcome)
    (e : m ≡ send_all s l (program_cycles s l (row_of s.geometry block page) bytes)) (q : o ≡ answer_of m) where
  pub program_called : answered o ≡ true → Called s m
  program_called t = subst (Called s) (sym e) (program_next s l block page bytes may (sym (ap answered (q ∙ ap answer_of e)) ∙ t))

-- a step that is due, in a request that has reached line m
module _ (s : Setting) (block : ℕ) (p : Progress) (m : Line) (e : p.line ≡ m) (t : is_passed p.outcome ≡ true) where
  pub erase_on_line : (erase_on s block p).line ≡ send_all s m (erase_cycles s m (row_of s.geometry block 0))
  unfolding erase_on
  erase_on_line = rw t (ap (λ (x : Line). send_all s x (erase_cycles s x (row_of s.geometry block 0))) e)

  pub erase_on_outcome : (erase_on s block p).outcome ≡ answer_of (send_all s m (erase_cycles s m (row_of s.geometry block 0)))
  unfolding erase_on
  erase_on_outcome = rw t (ap (λ (x : Line). answer_of (send_all s x (erase_cycles s x (row_of s.geometry block 0)))) e)

  pub program_on_line : (page : ℕ) (bytes : List ℕ) → (program_on s block page bytes p).line ≡ send_all s m (program_cycles s m (row_of s.geometry block page) bytes)
  unfolding program_on
  program_on_line page bytes = rw t (ap (λ (x : Line). send_all s x (program_cycles s x (row_of s.geometry block page) bytes)) e)

  pub program_on_outcome : (page : ℕ) (bytes : List ℕ) → (program_on s block page bytes p).outcome ≡ answer_of (send_all s m (program_cycles s m (row_of s.geometry block page) bytes))
  unfolding program_on
  program_on_outcome page bytes = rw t (ap (λ (x : Line). answer_of (send_all s x (program_cycles s x (row_of s.geometry block page) bytes))) e)

-- one that is not
pub erase_stopped : (s : Setting) (block : ℕ) (p : Progress) → is_passed p.outcome ≡ false → erase_on s block p ≡ p
unfolding erase_on
erase_stopped s block p f = rw f

pub program_stopped : (s : Setting) (block page : ℕ) (bytes : List ℕ) (p : Progress) → is_passed p.outcome ≡ false → program_on s block page bytes p ≡ p
unfolding program_on
program_stopped s block page bytes p f = rw f

-- an operation that passed took its whole effect
module _ (s : Setting) (l : Line) (op m : ℕ) (a₁ h₁ a₂ h₂ : List ℕ) where
  passes_when : is_passed (ends_as s l op m) ≡ true → (passes s l op m ≡ true) × (leb l.left m ≡ false)
  unfolding is_passed
  passes_when t =
      cases (ltb l.left (total_for s l.chip m))
      (λ u. absurd (false≢true (sym (rw u) ∙ t)))
      (λ u.
      cases (ltb (busy_of (word_for s l.chip)) 256)
      (λ w.
      cases (eqb (failed_for op (word_for s l.chip)) 0)
      (λ x. (rw (u, w, x), lt-leb l.left m (omega (arith, ltb-false l.left (total_for s l.chip m) u))))
      (λ x. absurd (false≢true (sym (rw (u, w, x)) ∙ t))))
      (λ w. absurd (false≢true (sym (rw (u, w)) ∙ t))))

  pub whole_effect : is_passed (confirmed_end s l op m a₁ h₁ a₂ h₂).outcome ≡ true → ((confirmed_end s l op m a₁ h₁ a₂ h₂).array ≡ a₂) × ((confirmed_end s l op m a₁ h₁ a₂ h₂).history ≡ h₂)
  unfolding confirmed_end
  whole_effect t =
      let w = passes_when t in
      (rw (w.0, w.1), rw (w.0, w.1))
