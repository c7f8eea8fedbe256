-- What a program leaves of a request's blocks and pages. Assumes nothing.
use Prim.Native.Nat.{ℕ, ◌+◌, ◌-◌, ◌≤◌, ◌<◌}
use mathlib.Core.Bool.{true, false, cond}
use mathlib.Core.List.{List, ◌++◌}
use mathlib.Core.Logic.{◌⊎◌, inl, inr, ⊎_elim}
use mathlib.Core.Path.{◌≡◌, refl, sym, ap, subst, ◌∙◌}
use native.Mathlib.Omega.{arith}
use borrow.Table.Steps.{cases}
use lib.Dec.{eqb, leb}
use lib.ListN.{length, get_or, set}
use lib.Seq.{get_or-set_same}
use Rattle.geometry.specs.Sizes.{page_size, row_of}
use Rattle.cells.specs.Cells.{programmed, weakened}
use Rattle.cells.proofs.CellLaws.{length-programmed}
use Rattle.chip_array.specs.Device.{Setting}
use Rattle.bus.specs.Line.{Line, send_all}
use Rattle.bus_polling.specs.Outcomes.{is_passed, answered, is_failed, is_illegal, is_cut_off, is_silent, is_protected}
use Rattle.bus_polling.specs.declared.Outcome.{Outcome}
use Rattle.bus_sequences.specs.Cycles.{program_cycles}
use Rattle.operations.specs.Ends.{Called, CanProgram, End, end_of, program_end, confirmed_end, total_for, with_row, row_bytes_of}
use Rattle.operations.proofs.ProgramLaws.{program_ends, program_answer, program_legal, program_next, program_starts_lem}
use Rattle.operations.specs.Trace.{ArrayOperation, program_starts}
use Rattle.copies.specs.Blocks.{block_in, page_in}
use Rattle.progress.specs.Progress.{Progress}
use Rattle.progress.specs.Steps.{program_on}
use Rattle.progress.proofs.StepLaws.{program_on_line, program_on_outcome, whole_effect}
use Rattle.damage.specs.Run.{failed_in, FailedMore, Sound, Programmed, OthersSame, page_on}
use Rattle.damage.proofs.FateLaws.{ends_slow, ends_failing}
use Rattle.damage.proofs.TraceLaws.{failed_append, failed_one, cut-unfailed}
use Rattle.damage.proofs.PlaceLaws.{page-place, page_there, page_elsewhere, page_other_block, page-long}
use Rattle.damage.proofs.EraseLaws.{part_effect, ends_known, ends_unprotected, ends_used_up, total-most}

module _ (s : Setting) (p : Progress) (block page : ℕ) (bytes : List ℕ) (t : is_passed p.outcome ≡ true) (can : CanProgram s p.line block page bytes) where
  abbrev next : Progress
  next = program_on s block page bytes p

  abbrev array : List ℕ
  array = p.line.chip.array

  line_is : next.line ≡ send_all s p.line (program_cycles s p.line (row_of s.geometry block page) bytes)
  line_is = program_on_line s block p p.line refl t page bytes

  end_is : end_of next.line ≡ program_end s p.line block page bytes
  end_is = ap end_of line_is ∙ program_ends s p.line block page bytes can

  pub program_outcome_is : next.outcome ≡ (program_end s p.line block page bytes).outcome
  program_outcome_is = program_on_outcome s block p p.line refl t page bytes ∙ program_answer s p.line block page bytes can

  array_is : next.line.chip.array ≡ (program_end s p.line block page bytes).array
  unfolding end_of
  array_is = ap (λ (e : End). e.array) end_is

  history_is : next.line.chip.history ≡ (program_end s p.line block page bytes).history
  unfolding end_of
  history_is = ap (λ (e : End). e.history) end_is

  -- cut before its confirm cycle it changes nothing
  pub program_unsent : leb p.line.left (6 + length bytes) ≡ true → next.line.chip.array ≡ array
  unfolding program_end confirmed_end
  program_unsent cut = array_is ∙ rw cut

  left_is : next.line.left ≡ p.line.left - total_for s p.line.chip (6 + length bytes)
  unfolding end_of program_end confirmed_end
  left_is = ap (λ (e : End). e.left) end_is

  sound : Sound s next
  unfolding program_end confirmed_end
  sound =
      record {
        known = ap is_illegal program_outcome_is ∙ ends_known s p.line 2 (6 + length bytes);
        unprotected = ap is_protected program_outcome_is ∙ ends_unprotected s p.line 2 (6 + length bytes);
        used_up = λ c. left_is ∙ ends_used_up s p.line 2 (6 + length bytes) (sym (ap is_cut_off program_outcome_is) ∙ c);
        silent_by = λ z. ends_slow s p.line 2 (6 + length bytes) (sym (ap is_silent program_outcome_is) ∙ z);
        failed_by_fact = λ z. ends_failing s p.line 2 (6 + length bytes) (sym (ap is_failed program_outcome_is) ∙ z);
        legal = ap (λ (x : Line). x.chip.interface.illegal) line_is ∙ program_legal s p.line block page bytes can.may;
        called = λ a. subst (Called s) (sym line_is) (program_next s p.line block page bytes can.may (sym (ap answered (program_on_outcome s block p p.line refl t page bytes)) ∙ a));
      }

  pub program_started_fact : next.started ≡ p.started ++ program_starts s p.line (row_of s.geometry block page) bytes
  unfolding program_on
  program_started_fact = rw t

  failures : FailedMore p next block
  unfolding program_end confirmed_end
  failures b =
      ap (failed_in b) (program_started_fact ∙ ap (λ (x : List ArrayOperation). p.started ++ x) (program_starts_lem s p.line block page bytes can))
      ∙ failed_append b p.started _
      ∙ ap (cond (failed_in b p.started) true)
      (failed_one b _ (leb p.line.left (6 + length bytes)) (cut-unfailed s p.line 2 (6 + length bytes)) ∙ ap (λ (o : Outcome). cond (eqb block b) (is_failed o) false) (sym program_outcome_is))

  abbrev old : List ℕ
  old = page_on s p block page

  old_is : row_bytes_of s (row_of s.geometry block page) array ≡ old
  old_is = sym (page-place s.geometry can.may.called.is_valid array block page can.may.page_below)

  -- the page's bytes are replaced
  module _ (ys : List ℕ) (long : length ys ≡ page_size s.geometry) (e : next.line.chip.array ≡ with_row s (row_of s.geometry block page) ys array) where
    replaced : page_on s next block page ≡ ys
    replaced = ap (λ (a : List ℕ). page_in s.geometry (block_in s.geometry a block) page) e ∙ page_there s.geometry can.may.called.is_valid array can.may.called.array_long block can.may.block_below page can.may.page_below ys long

    pages_kept : (i : ℕ) → i < s.geometry.pages → (i ≡ page → ⊥) → page_on s next block i ≡ page_on s p block i
    pages_kept i h x =
        ap (λ (a : List ℕ). page_in s.geometry (block_in s.geometry a block) i) e ∙ page_elsewhere s.geometry can.may.called.is_valid array can.may.called.array_long block can.may.block_below page can.may.page_below ys long i h x

    blocks_kept : OthersSame s p next block
    blocks_kept b h x =
        ap (λ (a : List ℕ). block_in s.geometry a b) e ∙ page_other_block s.geometry can.may.called.is_valid array can.may.called.array_long block can.may.block_below page can.may.page_below ys long b x

  made_long : (ds : List ℕ) → length (programmed old ds) ≡ page_size s.geometry
  made_long ds = length-programmed old ds ∙ page-long s.geometry can.may.called.is_valid array can.may.called.array_long block can.may.block_below page can.may.page_below

  made_of : (ds a : List ℕ) → a ≡ with_row s (row_of s.geometry block page) (programmed (row_bytes_of s (row_of s.geometry block page) array) ds) array → a ≡ with_row s (row_of s.geometry block page) (programmed old ds) array
  made_of ds a e = e ∙ ap (λ (x : List ℕ). with_row s (row_of s.geometry block page) (programmed x ds) array) old_is

  module _ (passed : is_passed next.outcome ≡ true) where
    effect : (next.line.chip.array ≡ with_row s (row_of s.geometry block page) (programmed old bytes) array) × (next.line.chip.history ≡ set p.line.chip.history block (page + 1))
    unfolding program_end
    effect =
        let both = whole_effect s p.line 2 (6 + length bytes) _ _ _ _ (sym (ap is_passed program_outcome_is) ∙ passed) in
        (made_of bytes next.line.chip.array (array_is ∙ both.0), history_is ∙ both.1)

    order_next : get_or next.line.chip.history block 0 ≤ page + 1
    order_next =
        let set_is = get_or-set_same p.line.chip.history block (page + 1) 0 (omega (arith, can.may.block_below, can.may.called.history_long)) in
        omega (arith, ap (λ (x : List ℕ). get_or x block 0) effect.1, set_is)

  effect_part : is_passed next.outcome ≡ false → (next.line.chip.array ≡ array) ⊎ (next.line.chip.array ≡ with_row s (row_of s.geometry block page) (programmed old (weakened bytes s.mask)) array)
  unfolding program_end
  effect_part f =
      ⊎_elim (λ e. inl (array_is ∙ e)) (λ e. inr (made_of (weakened bytes s.mask) next.line.chip.array (array_is ∙ e)))
      (part_effect s p.line 2 (6 + length bytes) _ _ _ _ (sym (ap is_passed program_outcome_is) ∙ f))

  pub program_leaves : Programmed s p next block page bytes
  program_leaves =
      let half : List ℕ = weakened bytes s.mask in
      record {
        sound = sound;
        others = cases (is_passed next.outcome)
            (λ y. blocks_kept (programmed old bytes) (made_long bytes) (effect y).0)
            (λ f. ⊎_elim (λ e b h x. ap (λ (a : List ℕ). block_in s.geometry a b) e) (λ e. blocks_kept (programmed old half) (made_long half) e) (effect_part f));
        other_pages = cases (is_passed next.outcome)
            (λ y. pages_kept (programmed old bytes) (made_long bytes) (effect y).0)
            (λ f. ⊎_elim (λ e i h x. ap (λ (a : List ℕ). page_in s.geometry (block_in s.geometry a block) i) e) (λ e. pages_kept (programmed old half) (made_long half) e) (effect_part f));
        whole = λ y. replaced (programmed old bytes) (made_long bytes) (effect y).0;
        partly = λ f.
            ⊎_elim (λ e. inl (ap (λ (a : List ℕ). page_in s.geometry (block_in s.geometry a block) page) e)) (λ e. inr (replaced (programmed old half) (made_long half) e)) (effect_part f);
        in_order = order_next;
        spent = omega (arith, left_is, total-most s p.line (6 + length bytes), can.may.bytes_long);
        failures = failures;
      }
