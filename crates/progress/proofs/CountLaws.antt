-- The cycles of a request on its way: those in its trace and those still allowed are as many as were allowed. Assumes nothing.
use Prim.Native.Nat.{ℕ, ◌+◌}
use mathlib.Core.List.{List, ◌++◌}
use mathlib.Core.Path.{◌≡◌, ◌∙◌}
use native.Mathlib.Omega.{arith}
use borrow.Table.Steps.{cases}
use lib.ListN.{length, length-append}
use Rattle.geometry.specs.Sizes.{row_of}
use Rattle.chip_array.specs.Device.{Setting}
use Rattle.chip.specs.Chip.{Cycle}
use Rattle.bus.specs.Line.{Line, send_all, sent}
use Rattle.bus.proofs.LineLaws.{sent_counts}
use Rattle.bus_polling.specs.Outcomes.{is_passed}
use Rattle.bus_sequences.specs.Cycles.{reset_cycles, read_cycles, erase_cycles, program_cycles}
use Rattle.progress.specs.Progress.{Progress, read_on, reset_on}
use Rattle.progress.specs.Steps.{erase_on, program_on}
use Rattle.progress.specs.Kept.{Kept}

-- cycles sent and cycles left
abbrev pub allowance : Progress → ℕ
allowance p = length p.cycles + p.line.left

-- a run of cycles after those sent before
sent_more : (s : Setting) (l : Line) (before cs : List Cycle) → length (before ++ sent s l cs) + (send_all s l cs).left ≡ length before + l.left
sent_more s l before cs = omega (arith, length-append before (sent s l cs), sent_counts s l cs)

module _ (s : Setting) where
  reset_counts : (p : Progress) → allowance (reset_on s p) ≡ allowance p
  unfolding reset_on
  reset_counts p =
      cases (is_passed p.outcome)
      (λ t. rw t (sent_more s p.line p.cycles reset_cycles))
      (λ t. rw t)

  read_counts : (row column n : ℕ) (p : Progress) → allowance (read_on s row column n p) ≡ allowance p
  unfolding read_on
  read_counts row column n p =
      cases (is_passed p.outcome)
      (λ t. rw t (sent_more s p.line p.cycles (read_cycles s p.line row column n)))
      (λ t. rw t)

  erase_counts : (block : ℕ) (p : Progress) → allowance (erase_on s block p) ≡ allowance p
  unfolding erase_on
  erase_counts block p =
      cases (is_passed p.outcome)
      (λ t. rw t (sent_more s p.line p.cycles (erase_cycles s p.line (row_of s.geometry block 0))))
      (λ t. rw t)

  program_counts : (block page : ℕ) (bytes : List ℕ) (p : Progress) → allowance (program_on s block page bytes p) ≡ allowance p
  unfolding program_on
  program_counts block page bytes p =
      cases (is_passed p.outcome)
      (λ t. rw t (sent_more s p.line p.cycles (program_cycles s p.line (row_of s.geometry block page) bytes)))
      (λ t. rw t)

  -- every operation keeps the number of cycles allowed
  pub allowance_kept : (k : ℕ) → Kept s (λ p. allowance p ≡ k)
  allowance_kept k =
      record {
        reset = λ p e. reset_counts p ∙ e;
        read = λ row column n p e. read_counts row column n p ∙ e;
        erase = λ block p e. erase_counts block p ∙ e;
        program = λ block page bytes p e. program_counts block page bytes p ∙ e;
        resume = λ p f e. e;
      }
