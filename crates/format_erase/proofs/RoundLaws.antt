-- The first round of erases on its way: one block after the other. Assumes nothing.
use Prim.Native.Nat.{ℕ, zero, suc, ◌+◌, ◌-◌, ◌≤◌, ◌<◌}
use mathlib.Core.Bool.{Bool, true, false, cond, false≢true}
use mathlib.Core.List.{List}
use mathlib.Core.Path.{◌≡◌, refl, sym, ap, ap₂, subst, ◌∙◌}
use native.Mathlib.Nat.{zero-add}
use native.Mathlib.Numerals.{add-one}
use native.Mathlib.Omega.{arith}
use mir.Val.{bool_byte}
use lib.Dec.{eqb}
use lib.ListN.{replicate}
use Rattle.geometry.specs.Sizes.{row_of}
use Rattle.bitmaps.specs.Bitmap.{bit_at, with_bit}
use Rattle.chip_array.specs.Device.{Setting}
use Rattle.chip.specs.Chip.{Cycle}
use Rattle.bus.specs.Line.{Line, line, send_all}
use Rattle.bus.specs.declared.Bus.{Bus}
use Rattle.bus_polling.specs.Outcomes.{is_passed, is_failed, answered}
use Rattle.bus_polling.specs.Polling.{answer_of}
use Rattle.bus_polling.specs.declared.Outcome.{Outcome}
use Rattle.bus_polling.specs.declared.Outcome.TheVariants.{Passed, Failed}
use Rattle.bus_sequences.specs.Cycles.{erase_cycles}
use Rattle.operations.specs.Ends.{Called, MayErase}
use Rattle.operations.specs.Trace.{ArrayOperation}
use Rattle.copies.specs.Blocks.{block_in, any_to, greatest_to}
use Rattle.scan_summary.specs.declared.Summary.{Summary}
use Rattle.scan_summary.specs.Summary.{summed}
use Rattle.scan_summary.proofs.BlockLaws.{summed_any, summed_greatest}
use Rattle.progress.specs.Progress.{Progress, progress}
use Rattle.scan_block.specs.Pages.{pages_read}
use Rattle.bus_polling.proofs.OutcomeLaws.{is_passed_lem, passed_answered}
use Rattle.progress.proofs.ReadOnLaws.{same_progress}
use Rattle.progress.specs.Steps.{erase_on}
use Rattle.progress.proofs.StepLaws.{erase_called, erase_on_line, erase_on_outcome}
use Rattle.format_erase.specs.declared.BlockErased.{BlockErased}
use Rattle.format_erase.specs.declared.Numbers.{Numbers}
use Rattle.format_erase.specs.Round.{after_erase, block_erased, failed_at, no_numbers, numbers_of, joined, numbers_at, erased_to, AfterDone, BlockDone, RoundDone}

-- after an erase that did not fail
pub after-unfailed : (s : Setting) (from : Bus) (array register history : List ℕ) (block : ℕ) (o : Outcome) {r : BlockErased} → is_failed o ≡ false
    → (answered o ≡ true → Called s (line from array register history)) → r ≡ record { bus = from; outcome = o; failed = 0; numbers = no_numbers }
    → AfterDone s (line from array register history) (line r.bus array register history) o r.outcome block r.failed r.numbers
unfolding after_erase
after-unfailed s from array register history block o f called e =
    subst (λ (x : BlockErased). AfterDone s (line from array register history) (line x.bus array register history) o x.outcome block x.failed x.numbers) (sym e)
    (record {
      line_is = λ cs os. rw f;
      outcome_is = λ cs os. rw f;
      next = λ t. called (passed_answered o t);
      failed_is = rw f;
      numbers_are = λ t. rw f;
    })

-- a test as a number
pub flag_is : (b : Bool) → bool_byte b ≡ cond b 1 0
flag_is true = refl
flag_is false = refl

-- after one that failed: the scan of the block leaves line m and outcome o
pub after_failed : (s : Setting) (l : Line) (block : ℕ) → Called s l → (m : Line) (o : Outcome) (summary : Summary)
    → ((cs : List Cycle) (os : List ArrayOperation) → m ≡ (pages_read s block s.geometry.pages (progress l Passed cs os)).line)
    → ((cs : List Cycle) (os : List ArrayOperation) → o ≡ (pages_read s block s.geometry.pages (progress l Passed cs os)).outcome)
    → (is_passed o ≡ true → Called s m) → (is_passed o ≡ true → summary ≡ summed s.geometry (block_in s.geometry l.chip.array block) s.geometry.pages)
    → AfterDone s l m Failed o block 1 (record { any = cond summary.any 1 0; greatest = summary.greatest })
unfolding after_erase is_failed
after_failed s l block called m o summary line_is outcome_is next summary_is =
    let row = block_in s.geometry l.chip.array block in
    let two : 2 ≤ s.geometry.pages = omega (arith, called.is_valid.pages_least) in
    let any_is : is_passed o ≡ true → cond summary.any 1 0 ≡ cond (any_to s.geometry row s.geometry.pages) 1 0 = λ t. ap (λ (x : Summary). cond x.any 1 0) (summary_is t) ∙ ap (λ (b : Bool). cond b 1 0) (summed_any s.geometry row two) in
    let greatest_is : is_passed o ≡ true → summary.greatest ≡ greatest_to s.geometry row s.geometry.pages = λ t. ap (λ (x : Summary). x.greatest) (summary_is t) ∙ summed_greatest s.geometry row two in
    record {
      line_is = line_is;
      outcome_is = outcome_is;
      next = next;
      failed_is = refl;
      numbers_are = λ t i. record { any = any_is t i; greatest = greatest_is t i };
    }

-- told of the outcome itself
pub after_same : {s : Setting} {l m : Line} {o end : Outcome} {block failed : ℕ} {numbers : Numbers} → o ≡ Failed → AfterDone s l m Failed end block failed numbers → AfterDone s l m o end block failed numbers
after_same {s} {l} {m} {o} {end} {block} {failed} {numbers} e d =
    subst (λ (x : Outcome). AfterDone s l m x end block failed numbers) (sym e) d

-- a block with a factory mark
pub block_marked : (s : Setting) (marked : List ℕ) (from : Bus) (array register history : List ℕ) (block : ℕ) {r : BlockErased} → bit_at marked block ≡ true
    → Called s (line from array register history) → r ≡ record { bus = from; outcome = Passed; failed = 0; numbers = no_numbers }
    → BlockDone s marked (line from array register history) (line r.bus array register history) r.outcome block r.failed r.numbers
unfolding is_passed block_erased failed_at numbers_at
block_marked s marked from array register history block t called e =
    subst (λ (x : BlockErased). BlockDone s marked (line from array register history) (line x.bus array register history) x.outcome block x.failed x.numbers) (sym e)
    (record {
      line_is = λ cs os. rw t;
      outcome_is = λ cs os. rw t;
      next = λ p. called;
      failed_is = λ cs os. rw t;
      numbers_are = λ p cs os. rw t;
    })

-- a block whose erase leaves line m and outcome o
module _ (s : Setting) (marked : List ℕ) (l : Line) (block : ℕ) (clear : bit_at marked block ≡ false) (may : MayErase s l block) (m : Line) (o : Outcome) (row : ℕ) (row_is : row ≡ row_of s.geometry block 0) (reached : m ≡ send_all s l (erase_cycles s l row)) (q : o ≡ answer_of m) where
  e : m ≡ send_all s l (erase_cycles s l (row_of s.geometry block 0))
  e = reached ∙ ap (λ (x : ℕ). send_all s l (erase_cycles s l x)) row_is

  pub answered_called : answered o ≡ true → Called s m
  answered_called t = erase_called s l block may m o e q t

  erased_is : (cs : List Cycle) (os : List ArrayOperation) → progress m o (erase_on s block (progress l Passed cs os)).cycles (erase_on s block (progress l Passed cs os)).started ≡ erase_on s block (progress l Passed cs os)
  unfolding is_passed
  erased_is cs os =
      let p = progress l Passed cs os in
      let line_on : m ≡ (erase_on s block p).line = e ∙ sym (erase_on_line s block p l refl refl) in
      let outcome-on : o ≡ (erase_on s block p).outcome = q ∙ ap answer_of e ∙ sym (erase_on_outcome s block p l refl refl) in
      λ i. progress (line_on i) (outcome-on i) (erase_on s block p).cycles (erase_on s block p).started

  pub block_done : {m' : Line} {o' : Outcome} {failed : ℕ} {numbers : Numbers} → AfterDone s m m' o o' block failed numbers → BlockDone s marked l m' o' block failed numbers
  unfolding is_passed block_erased failed_at numbers_at
  block_done d =
      record {
        line_is = λ cs os. d.line_is _ _ ∙ ap (λ (x : Progress). (after_erase s block x).line) (erased_is cs os) ∙ rw clear;
        outcome_is = λ cs os. d.outcome_is _ _ ∙ ap (λ (x : Progress). (after_erase s block x).outcome) (erased_is cs os) ∙ rw clear;
        next = d.next;
        failed_is = λ cs os. d.failed_is ∙ ap (λ (x : Progress). cond (is_failed x.outcome) 1 0) (erased_is cs os) ∙ rw clear;
        numbers_are = λ t cs os.
            d.numbers_are t
            ∙ ap (λ (x : Progress). cond (is_failed x.outcome) (numbers_of s.geometry (block_in s.geometry x.line.chip.array block)) no_numbers) (erased_is cs os)
            ∙ rw clear;
      }

-- once a block has not passed nothing more is sent
block_stopped : (s : Setting) (marked : List ℕ) (b : ℕ) (p : Progress) → is_passed p.outcome ≡ false → block_erased s marked b p ≡ p
unfolding block_erased
block_stopped s marked b p f = rw f

pub round-stopped : (s : Setting) (marked : List ℕ) (n : ℕ) (p : Progress) → is_passed (erased_to s marked n p).progress.outcome ≡ false → (k : ℕ) → (erased_to s marked (k + n) p).progress ≡ (erased_to s marked n p).progress
unfolding erased_to
round-stopped s marked n p f zero = ap (λ (x : ℕ). (erased_to s marked x p).progress) (zero-add n)
round-stopped s marked n p f (suc k) =
    let less = round-stopped s marked n p f k in
    let at : suc k + n ≡ suc (k + n) = omega arith in
    ap (λ (x : ℕ). (erased_to s marked x p).progress) at
    ∙ block_stopped s marked (k + n) (erased_to s marked (k + n) p).progress (ap (λ (x : Progress). is_passed x.outcome) less ∙ f)
    ∙ less

-- after the first n blocks
pub record Rounding (s : Setting) (marked : List ℕ) (l m : Line) (n : ℕ) (invalid : List ℕ) (numbers : Numbers) : Type 0 where
  pub reached : (cs : List Cycle) (os : List ArrayOperation) → m ≡ (erased_to s marked n (progress l Passed cs os)).progress.line
  pub passing : (cs : List Cycle) (os : List ArrayOperation) → Passed ≡ (erased_to s marked n (progress l Passed cs os)).progress.outcome
  pub called : Called s m
  pub invalid_is : (cs : List Cycle) (os : List ArrayOperation) → invalid ≡ (erased_to s marked n (progress l Passed cs os)).invalid
  pub numbers_are : (cs : List Cycle) (os : List ArrayOperation) → numbers ≡ (erased_to s marked n (progress l Passed cs os)).numbers

pub round_begins : (s : Setting) (marked : List ℕ) (l : Line) {numbers : Numbers} → Called s l → numbers ≡ no_numbers → Rounding s marked l l 0 (replicate 512 0) numbers
unfolding erased_to
round_begins s marked l called e =
    subst (λ (x : Numbers). Rounding s marked l l 0 (replicate 512 0) x) (sym e)
    (record { reached = λ cs os. refl; passing = λ cs os. refl; called = called; invalid_is = λ cs os. refl; numbers_are = λ cs os. refl })

module _ (s : Setting) (marked : List ℕ) (l m : Line) (n : ℕ) (invalid : List ℕ) (numbers : Numbers) (below : n < s.geometry.blocks) (r : Rounding s marked l m n invalid numbers)
    (m' : Line) (o : Outcome) (failed : ℕ) (more : Numbers) (d : BlockDone s marked m m' o n failed more) where
  at : (cs : List Cycle) (os : List ArrayOperation) → progress m Passed (erased_to s marked n (progress l Passed cs os)).progress.cycles (erased_to s marked n (progress l Passed cs os)).progress.started ≡ (erased_to s marked n (progress l Passed cs os)).progress
  at cs os = same_progress (erased_to s marked n (progress l Passed cs os)).progress m (r.reached cs os) (r.passing cs os)

  line_next : (cs : List Cycle) (os : List ArrayOperation) → m' ≡ (erased_to s marked (suc n) (progress l Passed cs os)).progress.line
  unfolding erased_to
  line_next cs os = d.line_is _ _ ∙ ap (λ (x : Progress). (block_erased s marked n x).line) (at cs os)

  outcome_next : (cs : List Cycle) (os : List ArrayOperation) → o ≡ (erased_to s marked (suc n) (progress l Passed cs os)).progress.outcome
  unfolding erased_to
  outcome_next cs os = d.outcome_is _ _ ∙ ap (λ (x : Progress). (block_erased s marked n x).outcome) (at cs os)

  -- block n stops the round: silent or cut
  pub round_stops : is_passed o ≡ false → (bits : List ℕ) (some : Numbers) → RoundDone s marked l m' o bits some
  round_stops f bits some =
      let k : s.geometry.blocks - suc n + suc n ≡ s.geometry.blocks = omega arith in
      let all : (cs : List Cycle) (os : List ArrayOperation) → (erased_to s marked s.geometry.blocks (progress l Passed cs os)).progress ≡ (erased_to s marked (suc n) (progress l Passed cs os)).progress =
      λ cs os. ap (λ (x : ℕ). (erased_to s marked x (progress l Passed cs os)).progress) (sym k) ∙ round-stopped s marked (suc n) (progress l Passed cs os) (sym (ap is_passed (outcome_next cs os)) ∙ f) (s.geometry.blocks - suc n) in
      record {
        line_is = λ cs os. line_next cs os ∙ sym (ap (λ (x : Progress). x.line) (all cs os));
        outcome_is = λ cs os. outcome_next cs os ∙ sym (ap (λ (x : Progress). x.outcome) (all cs os));
        next = λ t. absurd (false≢true (sym f ∙ t));
        invalid_is = λ t. absurd (false≢true (sym f ∙ t));
        numbers_are = λ t. absurd (false≢true (sym f ∙ t));
      }

  flag : (b : Bool) (x y : List ℕ) → cond (eqb (cond b 1 0) 0) x y ≡ cond b y x
  flag true x y = refl
  flag false x y = refl

  pub round_goes : is_passed o ≡ true → {next : List ℕ} {most : Numbers} → next ≡ cond (eqb failed 0) invalid (with_bit invalid n) → most ≡ joined numbers more → Rounding s marked l m' (n + 1) next most
  unfolding erased_to
  round_goes t {next} {most} f h =
      subst (λ (k : ℕ). Rounding s marked l m' k next most) (sym (add-one n))
      (record {
        reached = line_next;
        passing = λ cs os. sym (is_passed_lem o t) ∙ outcome_next cs os;
        called = d.next t;
        invalid_is = λ cs os.
            let p = (erased_to s marked n (progress l Passed cs os)).progress in
            let flag_is : failed ≡ cond (failed_at s marked n p) 1 0 = d.failed_is _ _ ∙ ap (λ (x : Progress). cond (failed_at s marked n x) 1 0) (at cs os) in
            f ∙ rw (flag_is, r.invalid_is cs os) (flag (failed_at s marked n p) _ _);
        numbers_are = λ cs os.
            let p = (erased_to s marked n (progress l Passed cs os)).progress in
            let more-are : more ≡ numbers_at s marked n p = d.numbers_are t _ _ ∙ ap (numbers_at s marked n) (at cs os) in
            h ∙ ap₂ joined (r.numbers_are cs os) more-are;
      })

pub round-ends : (s : Setting) (marked : List ℕ) (l m : Line) (n : ℕ) (invalid : List ℕ) (numbers : Numbers) → n ≡ s.geometry.blocks → Rounding s marked l m n invalid numbers → RoundDone s marked l m Passed invalid numbers
round-ends s marked l m n invalid numbers e r₀ =
    let r = subst (λ (k : ℕ). Rounding s marked l m k invalid numbers) e r₀ in
    record { line_is = r.reached; outcome_is = r.passing; next = λ t. r.called; invalid_is = λ t. r.invalid_is; numbers_are = λ t. r.numbers_are }
