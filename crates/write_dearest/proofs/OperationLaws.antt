-- The fate words that an operation takes and the cycles that it sends, where its word has 255 busy reads. Assumes nothing.
use Prim.Native.Nat.{ℕ, ◌+◌, ◌-◌, ◌≤◌, ◌<◌}
use mathlib.Core.Bool.{true, cond}
use mathlib.Core.List.{List}
use mathlib.Core.Path.{◌≡◌, refl, ap, ◌∙◌}
use native.Mathlib.Omega.{arith}
use borrow.Author.Tests.{lt-ltb, le-ltb, lt-leb}
use lib.Dec.{eqb, leb}
use lib.ListN.{length}
use Rattle.chip_interface.specs.Interface.{next_fate, failed_for}
use Rattle.chip_array.specs.Device.{Setting}
use Rattle.bus.specs.Line.{Line}
use Rattle.bus_polling.specs.Outcomes.{is_passed}
use Rattle.bus_polling.specs.declared.Outcome.TheVariants.{Passed, Failed}
use Rattle.operations.specs.Ends.{Called, CanRead, CanProgram, End, end_of, ends_as, total_for, confirmed_end, erase_end, program_end, end_of_read, read_end}
use Rattle.operations.proofs.EraseLaws.{erase_ends}
use Rattle.operations.proofs.ProgramLaws.{program_ends}
use Rattle.operations.proofs.ReadLaws.{read_ends}
use Rattle.progress.specs.Progress.{Progress, line_of, read_on}
use Rattle.progress.specs.Steps.{erase_on, program_on}
use Rattle.progress.proofs.ReadOnLaws.{read_line, read_outcome_fact}
use Rattle.progress.proofs.StepLaws.{erase_on_line, program_on_line}
use Rattle.damage.specs.Run.{read_most, erase_most}
use Rattle.damage.proofs.EraseLaws.{erase_outcome_is}
use Rattle.damage.proofs.ProgramLaws.{program_outcome_is}
use Rattle.write_dearest.specs.Exactly.{Exactly, SlowWord}

module _ (s : Setting) (l : Line) (w : ℕ) (slow : SlowWord s l.chip.interface.fate w) where
  taken_one : next_fate s.fates l.chip.interface.fate ≡ l.chip.interface.fate + 1
  unfolding next_fate
  taken_one = rw (lt-ltb l.chip.interface.fate (length s.fates) slow.within)

  -- a program or an erase with m cycles before its confirm cycle
  module _ (op m : ℕ) (enough : m + 258 ≤ l.left) where
    ends_so : ends_as s l op m ≡ cond (eqb (failed_for op w) 0) Passed Failed
    ends_so = rw (slow.word_is, slow.busy, le-ltb l.left (m + 2 + 256) (omega (arith, enough)))

    left_so : l.left - total_for s l.chip m + (m + 258) ≡ l.left
    left_so = rw (slow.word_is, slow.busy) (omega (arith, enough))

    fate_so : cond (leb l.left m) l.chip.interface.fate (next_fate s.fates l.chip.interface.fate) ≡ l.chip.interface.fate + 1
    fate_so = rw (lt-leb l.left m (omega (arith, enough))) taken_one

  -- a read of n bytes
  module _ (n : ℕ) (enough : read_most n ≤ l.left) where
    read_passes : (read_end s l n).outcome ≡ Passed
    unfolding read_end
    read_passes = rw (slow.word_is, slow.busy, le-ltb l.left (6 + 2 + 256 + (1 + n)) (omega (arith, enough)))

    read_left : (read_end s l n).left + read_most n ≡ l.left
    unfolding read_end
    read_left = rw (slow.word_is, slow.busy) (omega (arith, enough))

    read_fate : (read_end s l n).fate ≡ l.chip.interface.fate + 1
    unfolding read_end
    read_fate = rw (lt-leb l.left 6 (omega (arith, enough))) taken_one

module _ (s : Setting) (p : Progress) (t : is_passed p.outcome ≡ true) (w : ℕ) (slow : SlowWord s p.line.chip.interface.fate w) where
  module _ (block : ℕ) (below : block < s.geometry.blocks) (called : Called s p.line) (high : line_of p ≡ 0) (enough : erase_most ≤ p.line.left) where
    erase_end_is : end_of (erase_on s block p).line ≡ erase_end s p.line block
    erase_end_is =
        ap end_of (erase_on_line s block p p.line refl t)
        ∙ erase_ends s p.line block (record { may = record { called = called; block_below = below }; high = high })

    pub erase_exactly : Exactly p (erase_on s block p) 1 erase_most
    unfolding end_of erase_end confirmed_end
    erase_exactly =
        record {
          words_taken = ap (λ (e : End). e.fate) erase_end_is ∙ fate_so s p.line w slow 3 4 enough;
          cycles_sent = ap (λ (e : End). e.left + erase_most) erase_end_is ∙ left_so s p.line w slow 3 4 enough;
        }

    pub erase_ends_as : (erase_on s block p).outcome ≡ cond (eqb (failed_for 3 w) 0) Passed Failed
    unfolding erase_end confirmed_end
    erase_ends_as = erase_outcome_is s p block below t called high ∙ ends_so s p.line w slow 3 4 enough

  module _ (block page : ℕ) (bytes : List ℕ) (can : CanProgram s p.line block page bytes) (enough : 264 + length bytes ≤ p.line.left) where
    program_end_is : end_of (program_on s block page bytes p).line ≡ program_end s p.line block page bytes
    program_end_is = ap end_of (program_on_line s block p p.line refl t page bytes) ∙ program_ends s p.line block page bytes can

    pub program_exactly : Exactly p (program_on s block page bytes p) 1 (264 + length bytes)
    unfolding end_of program_end confirmed_end
    program_exactly =
        record {
          words_taken = ap (λ (e : End). e.fate) program_end_is ∙ fate_so s p.line w slow 2 (6 + length bytes) (omega (arith, enough));
          cycles_sent = omega (arith, ap (λ (e : End). e.left) program_end_is, left_so s p.line w slow 2 (6 + length bytes) (omega (arith, enough)));
        }

    pub program_ends_as : (program_on s block page bytes p).outcome ≡ cond (eqb (failed_for 2 w) 0) Passed Failed
    unfolding program_end confirmed_end
    program_ends_as = program_outcome_is s p block page bytes t can ∙ ends_so s p.line w slow 2 (6 + length bytes) (omega (arith, enough))

  module _ (row column n : ℕ) (can : CanRead s p.line row column n) (enough : read_most n ≤ p.line.left) where
    abbrev next : Progress
    next = read_on s row column n p

    pub read_exactly : Exactly p next 1 (read_most n)
    unfolding end_of_read
    read_exactly =
        let ends = read_ends s p.line row column n can in
        let line_is = read_line s row column n p p.line refl t in
        record {
          words_taken = ap (λ (x : Line). x.chip.interface.fate) line_is ∙ ap (λ (e : End). e.fate) ends ∙ read_fate s p.line w slow n enough;
          cycles_sent = ap (λ (x : Line). x.left + read_most n) line_is ∙ ap (λ (e : End). e.left + read_most n) ends ∙ read_left s p.line w slow n enough;
        }

    pub read_ends_as : next.outcome ≡ Passed
    unfolding end_of_read
    read_ends_as =
        read_outcome_fact s row column n p p.line refl t ∙ ap (λ (e : End). e.outcome) (read_ends s p.line row column n can) ∙ read_passes s p.line w slow n enough
