-- The first round of erases: the blocks that failed, and the numbers on what is left of them.
use Rattle.std.specs.Prelude.{ℕ, zero, suc, Bool, true, false, cond, List, ◌≡◌, eqb, ltb, replicate}
use Rattle.geometry.specs.declared.Geometry.{Geometry}
use Rattle.bitmaps.specs.Bitmap.{bit_at, with_bit}
use Rattle.chip_array.specs.Device.{Setting}
use Rattle.bus_polling.specs.Outcomes.{is_passed, is_failed}
use Rattle.bus_polling.specs.declared.Outcome.{Outcome}
use Rattle.bus_polling.specs.declared.Outcome.TheVariants.{Passed}
use Rattle.chip.specs.Chip.{Cycle}
use Rattle.bus.specs.Line.{Line}
use Rattle.operations.specs.Ends.{Called}
use Rattle.operations.specs.Trace.{ArrayOperation}
use Rattle.copies.specs.Blocks.{block_in, any_to, greatest_to}
use Rattle.progress.specs.Progress.{Progress, progress}
use Rattle.scan_block.specs.Pages.{pages_read}
use Rattle.progress.specs.Steps.{erase_on, resumed}
use Rattle.format_erase.specs.declared.Numbers.{Numbers}

-- after an erase that failed every page of its block is read whole
unfoldable pub after_erase : Setting → ℕ → Progress → Progress
after_erase s b q = cond (is_failed q.outcome) (pages_read s b s.geometry.pages (resumed q)) q

-- a block is erased, unless it bears a factory mark, if all before it passed
unfoldable pub block_erased : Setting → List ℕ → ℕ → Progress → Progress
block_erased s marked b p = cond (is_passed p.outcome) (cond (bit_at marked b) p (after_erase s b (erase_on s b p))) p

-- its erase failed
unfoldable pub failed_at : Setting → List ℕ → ℕ → Progress → Bool
failed_at s marked b p = cond (bit_at marked b) false (is_failed (erase_on s b p).outcome)

-- the greatest number on whole pages, and whether there is one
abbrev pub no_numbers : Numbers
no_numbers = record { any = 0; greatest = 0 }

abbrev pub numbers_of : Geometry → List ℕ → Numbers
numbers_of g block =
    record { any = cond (any_to g block g.pages) 1 0; greatest = greatest_to g block g.pages }

-- of two
unfoldable pub joined : Numbers → Numbers → Numbers
joined a b =
    cond (eqb b.any 0) a (cond (eqb a.any 0) b (cond (ltb a.greatest b.greatest) b a))

-- of a block whose erase failed; none of any other
unfoldable pub numbers_at : Setting → List ℕ → ℕ → Progress → Numbers
numbers_at s marked b p =
    cond (failed_at s marked b p) (numbers_of s.geometry (block_in s.geometry (erase_on s b p).line.chip.array b)) no_numbers

-- the first round of erases: the blocks that failed, and the numbers on what is left of them
pub record Round : Type 0 where
  pub progress : Progress
  pub invalid : List ℕ
  pub numbers : Numbers

abbrev pub round : Progress → List ℕ → Numbers → Round
round p invalid numbers = record { progress = p; invalid = invalid; numbers = numbers }

-- the first n blocks
unfoldable pub erased_to : Setting → List ℕ → ℕ → Progress → Round
erased_to s marked zero p = round p (replicate 512 0) no_numbers
erased_to s marked (suc n) p =
    let r = erased_to s marked n p in
    round (block_erased s marked n r.progress)
    (cond (failed_at s marked n r.progress) (with_bit r.invalid n) r.invalid)
    (joined r.numbers (numbers_at s marked n r.progress))

-- a block after its erase, which left line l and outcome o
pub record AfterDone (s : Setting) (l m : Line) (o end : Outcome) (block failed : ℕ) (numbers : Numbers) : Type 0 where
  pub line_is : (cs : List Cycle) (os : List ArrayOperation) → m ≡ (after_erase s block (progress l o cs os)).line
  pub outcome_is : (cs : List Cycle) (os : List ArrayOperation) → end ≡ (after_erase s block (progress l o cs os)).outcome
  pub next : is_passed end ≡ true → Called s m
  pub failed_is : failed ≡ cond (is_failed o) 1 0
  pub numbers_are : is_passed end ≡ true → numbers ≡ cond (is_failed o) (numbers_of s.geometry (block_in s.geometry l.chip.array block)) no_numbers

-- one block of the first round
pub record BlockDone (s : Setting) (marked : List ℕ) (l m : Line) (o : Outcome) (block failed : ℕ) (numbers : Numbers) : Type 0 where
  pub line_is : (cs : List Cycle) (os : List ArrayOperation) → m ≡ (block_erased s marked block (progress l Passed cs os)).line
  pub outcome_is : (cs : List Cycle) (os : List ArrayOperation) → o ≡ (block_erased s marked block (progress l Passed cs os)).outcome
  pub next : is_passed o ≡ true → Called s m
  pub failed_is : (cs : List Cycle) (os : List ArrayOperation) → failed ≡ cond (failed_at s marked block (progress l Passed cs os)) 1 0
  pub numbers_are : is_passed o ≡ true → (cs : List Cycle) (os : List ArrayOperation) → numbers ≡ numbers_at s marked block (progress l Passed cs os)

-- the first round
pub record RoundDone (s : Setting) (marked : List ℕ) (l m : Line) (o : Outcome) (invalid : List ℕ) (numbers : Numbers) : Type 0 where
  pub line_is : (cs : List Cycle) (os : List ArrayOperation) → m ≡ (erased_to s marked s.geometry.blocks (progress l Passed cs os)).progress.line
  pub outcome_is : (cs : List Cycle) (os : List ArrayOperation) → o ≡ (erased_to s marked s.geometry.blocks (progress l Passed cs os)).progress.outcome
  pub next : is_passed o ≡ true → Called s m
  pub invalid_is : is_passed o ≡ true → (cs : List Cycle) (os : List ArrayOperation) → invalid ≡ (erased_to s marked s.geometry.blocks (progress l Passed cs os)).invalid
  pub numbers_are : is_passed o ≡ true → (cs : List Cycle) (os : List ArrayOperation) → numbers ≡ (erased_to s marked s.geometry.blocks (progress l Passed cs os)).numbers
