-- A request leaves the word of the write-protect line as it came. Assumes nothing.
use Prim.Native.Nat.{ℕ}
use mathlib.Core.List.{List}
use mathlib.Core.Path.{◌≡◌, ◌∙◌}
use borrow.Table.Steps.{cases}
use Rattle.geometry.specs.Sizes.{row_of}
use Rattle.chip_array.specs.Device.{Setting}
use Rattle.bus.proofs.WordLaws.{all_line}
use Rattle.bus_polling.specs.Outcomes.{is_passed}
use Rattle.bus_sequences.specs.Cycles.{reset_cycles, read_cycles, erase_cycles, program_cycles}
use Rattle.progress.specs.Progress.{Progress, line_of, read_on, reset_on}
use Rattle.progress.specs.Steps.{erase_on, program_on}
use Rattle.progress.specs.Kept.{Kept}

module _ (s : Setting) where
  reset_keeps : (p : Progress) → line_of (reset_on s p) ≡ line_of p
  unfolding reset_on
  reset_keeps p = cases (is_passed p.outcome) (λ t. rw t (all_line s p.line reset_cycles)) (λ t. rw t)

  pub read_keeps : (row column n : ℕ) (p : Progress) → line_of (read_on s row column n p) ≡ line_of p
  unfolding read_on
  read_keeps row column n p =
      cases (is_passed p.outcome) (λ t. rw t (all_line s p.line (read_cycles s p.line row column n))) (λ t. rw t)

  pub erase_keeps : (block : ℕ) (p : Progress) → line_of (erase_on s block p) ≡ line_of p
  unfolding erase_on
  erase_keeps block p =
      cases (is_passed p.outcome) (λ t. rw t (all_line s p.line (erase_cycles s p.line (row_of s.geometry block 0)))) (λ t. rw t)

  pub program_keeps : (block page : ℕ) (bytes : List ℕ) (p : Progress) → line_of (program_on s block page bytes p) ≡ line_of p
  unfolding program_on
  program_keeps block page bytes p =
      cases (is_passed p.outcome)
      (λ t. rw t (all_line s p.line (program_cycles s p.line (row_of s.geometry block page) bytes)))
      (λ t. rw t)

  -- every operation keeps it
  pub line_kept : (k : ℕ) → Kept s (λ p. line_of p ≡ k)
  line_kept k =
      record {
        reset = λ p e. reset_keeps p ∙ e;
        read = λ row column n p e. read_keeps row column n p ∙ e;
        erase = λ block p e. erase_keeps block p ∙ e;
        program = λ block page bytes p e. program_keeps block page bytes p ∙ e;
        resume = λ p f e. e;
      }
