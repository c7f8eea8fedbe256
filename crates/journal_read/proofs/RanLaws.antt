-- Reads one after the other, and none after one that did not pass. Assumes nothing.
use Prim.Native.Nat.{ℕ, zero, suc, ◌+◌}
use mathlib.Core.Bool.{false}
use mathlib.Core.List.{List}
use mathlib.Core.Path.{◌≡◌, refl, ap, ◌∙◌}
use native.Mathlib.Nat.{zero-add}
use native.Mathlib.Omega.{arith}
use borrow.Table.Steps.{cases}
use lib.Dec.{eqb}
use Rattle.chip_array.specs.Device.{Setting}
use Rattle.chip.specs.Chip.{Cycle}
use Rattle.bus.specs.Line.{Line}
use Rattle.bus_polling.specs.Outcomes.{is_passed}
use Rattle.bus_polling.specs.declared.Outcome.{Outcome}
use Rattle.bus_polling.specs.declared.Outcome.TheVariants.{Passed}
use Rattle.operations.specs.Ends.{Lent}
use Rattle.operations.specs.Trace.{ArrayOperation}
use Rattle.state.specs.State.{none}
use Rattle.progress.specs.Progress.{Progress, progress}
use Rattle.progress.proofs.ReadOnLaws.{read_stopped}
use Rattle.journal.specs.Records.{Pages}
use Rattle.journal.specs.Takings.{targets, replaced_by}
use Rattle.journal_read.specs.Reads.{block_of, part_on, pages_on, amount_on, amounts_on}
use Rattle.journal_read.specs.Found.{Ran}

-- nothing is read
pub ran-none : {s : Setting} {l : Line} → Lent s l → Ran s (λ p. p) l l Passed
ran-none lent =
    record { line_is = λ cs os. refl; outcome_is = λ cs os. refl; same_array = refl; same_history = refl; left_most = omega arith; next = λ _. lent }

-- all passed: the next operation may come
pub ran-lent : {s : Setting} {f : Progress → Progress} {l m : Line} → Ran s f l m Passed → Lent s m
unfolding is_passed
ran-lent r = r.next refl

-- more is read, after all before passed
pub ran_then : (s : Setting) (f h : Progress → Progress) (l m m' : Line) (o : Outcome) → Ran s f l m Passed → Ran s h m m' o → Ran s (λ p. h (f p)) l m' o
ran_then s f h l m m' o a b =
    let same : (cs : List Cycle) (os : List ArrayOperation) → progress m Passed (f (progress l Passed cs os)).cycles (f (progress l Passed cs os)).started ≡ f (progress l Passed cs os) =
    λ cs os. λ i. progress (a.line_is cs os i) (a.outcome_is cs os i) (f (progress l Passed cs os)).cycles (f (progress l Passed cs os)).started in
    record {
      line_is = λ cs os. b.line_is _ _ ∙ ap (λ (x : Progress). (h x).line) (same cs os);
      outcome_is = λ cs os. b.outcome_is _ _ ∙ ap (λ (x : Progress). (h x).outcome) (same cs os);
      same_array = b.same_array ∙ a.same_array;
      same_history = b.same_history ∙ a.same_history;
      left_most = omega (arith, a.left_most, b.left_most);
      next = b.next;
    }

-- the same reads, told otherwise
pub ran_as : (s : Setting) (f h : Progress → Progress) (l m : Line) (o : Outcome) → ((cs : List Cycle) (os : List ArrayOperation) → f (progress l Passed cs os) ≡ h (progress l Passed cs os)) → Ran s f l m o → Ran s h l m o
ran_as s f h l m o e a =
    record {
      line_is = λ cs os. a.line_is cs os ∙ ap (λ (x : Progress). x.line) (e cs os);
      outcome_is = λ cs os. a.outcome_is cs os ∙ ap (λ (x : Progress). x.outcome) (e cs os);
      same_array = a.same_array;
      same_history = a.same_history;
      left_most = a.left_most;
      next = a.next;
    }

-- after a read that did not pass nothing more is read
pub part-stopped : (s : Setting) (map : List ℕ) (k n : ℕ) (p : Progress) → is_passed p.outcome ≡ false → part_on s map k n p ≡ p
unfolding part_on
part-stopped s map k n p f =
    cases (eqb (block_of s.geometry map k) none) (λ t. rw t) (λ t. rw t (read_stopped s _ 0 n p f))

pub pages_stopped : (s : Setting) (map : List ℕ) (n : ℕ) (p : Progress) → is_passed (pages_on s map n p).outcome ≡ false → (k : ℕ) → pages_on s map (k + n) p ≡ pages_on s map n p
unfolding pages_on
pages_stopped s map n p f zero = ap (λ (x : ℕ). pages_on s map x p) (zero-add n)
pages_stopped s map n p f (suc k) =
    let less = pages_stopped s map n p f k in
    let e : suc k + n ≡ suc (k + n) = omega arith in
    ap (λ (x : ℕ). pages_on s map x p) e
    ∙ part-stopped s map (k + n) s.geometry.main (pages_on s map (k + n) p) (ap (λ (x : Progress). is_passed x.outcome) less ∙ f)
    ∙ less

amount_stopped : (s : Setting) (map : List ℕ) (pages : Pages) (e k : ℕ) (p : Progress) → is_passed p.outcome ≡ false → amount_on s map pages e k p ≡ p
unfolding amount_on
amount_stopped s map pages e k p f =
    cases (replaced_by (targets pages) e (suc k)) (λ t. rw t) (λ t. rw t (part-stopped s map k 9 p f))

pub amounts-stopped : (s : Setting) (map : List ℕ) (pages : Pages) (e n : ℕ) (p : Progress) → is_passed (amounts_on s map pages e n p).outcome ≡ false → (k : ℕ) → amounts_on s map pages e (k + n) p ≡ amounts_on s map pages e n p
unfolding amounts_on
amounts-stopped s map pages e n p f zero = ap (λ (x : ℕ). amounts_on s map pages e x p) (zero-add n)
amounts-stopped s map pages e n p f (suc k) =
    let less = amounts-stopped s map pages e n p f k in
    let next : suc k + n ≡ suc (k + n) = omega arith in
    ap (λ (x : ℕ). amounts_on s map pages e x p) next
    ∙ amount_stopped s map pages e (k + n) (amounts_on s map pages e (k + n) p) (ap (λ (x : Progress). is_passed x.outcome) less ∙ f)
    ∙ less

pub amounts-still : (s : Setting) (map : List ℕ) (pages : Pages) (e n : ℕ) (p : Progress) → is_passed p.outcome ≡ false → amounts_on s map pages e n p ≡ p
unfolding amounts_on
amounts-still s map pages e zero p f = refl
amounts-still s map pages e (suc n) p f =
    let less = amounts-still s map pages e n p f in
    amount_stopped s map pages e n (amounts_on s map pages e n p) (ap (λ (x : Progress). is_passed x.outcome) less ∙ f) ∙ less
