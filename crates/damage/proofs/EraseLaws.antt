-- What an erase leaves of a request's blocks. Assumes nothing.
use Prim.Native.Nat.{ℕ, ◌+◌, ◌-◌, ◌≤◌, ◌<◌}
use mathlib.Core.Bool.{true, false, cond, false≢true}
use mathlib.Core.List.{List, ◌++◌}
use mathlib.Core.Logic.{◌⊎◌, inl, inr, ⊎_elim}
use mathlib.Core.Path.{◌≡◌, refl, sym, ap, subst, ◌∙◌}
use native.Mathlib.Omega.{arith}
use borrow.Table.Steps.{cases}
use borrow.Author.Tests.{ltb-true}
use lib.Dec.{eqb, leb, ltb}
use lib.ListN.{length, get_or, set, replicate, length-replicate}
use lib.Seq.{get_or-set_same}
use Rattle.geometry.specs.Sizes.{block_size, row_of}
use Rattle.cells.specs.Cells.{raised}
use Rattle.cells.proofs.CellLaws.{length-raised}
use Rattle.chip_interface.specs.Interface.{busy_of, failed_for}
use Rattle.chip_array.specs.Device.{Setting}
use Rattle.bus.specs.Line.{Line, send_all}
use Rattle.bus_polling.specs.Outcomes.{is_passed, answered, is_failed, is_illegal, is_cut_off, is_silent, is_protected}
use Rattle.bus_polling.specs.declared.Outcome.{Outcome}
use Rattle.bus_sequences.specs.Cycles.{erase_cycles}
use Rattle.operations.specs.Ends.{Called, CanErase, End, end_of, erase_end, confirmed_end, passes, ends_as, total_for, word_for, polls_for, with_block_bytes}
use Rattle.operations.proofs.EraseLaws.{erase_ends, erase_answer, erase_legal, erase_next, erase_starts_lem}
use Rattle.operations.specs.Trace.{ArrayOperation, erase_starts}
use Rattle.copies.specs.Blocks.{block_in}
use Rattle.progress.specs.Progress.{Progress, line_of}
use Rattle.progress.specs.Steps.{erase_on}
use Rattle.progress.proofs.StepLaws.{erase_on_line, erase_on_outcome, whole_effect}
use Rattle.damage.specs.Run.{failed_in, FailedMore, Sound, Erased, OthersSame, block_on}
use Rattle.damage.proofs.FateLaws.{ends_slow, ends_failing}
use Rattle.damage.proofs.TraceLaws.{failed_append, failed_one, cut-unfailed}
use Rattle.damage.proofs.PlaceLaws.{block_there, block_elsewhere, block_long}

-- an operation that passes ends so
passes_passed : (s : Setting) (l : Line) (op m : ℕ) → passes s l op m ≡ true → is_passed (ends_as s l op m) ≡ true
unfolding is_passed
passes_passed s l op m t =
    cases (ltb l.left (total_for s l.chip m))
    (λ u. absurd (false≢true (sym (rw u) ∙ t)))
    (λ u.
    cases (ltb (busy_of (word_for s l.chip)) 256)
    (λ w. let x : eqb (failed_for op (word_for s l.chip)) 0 ≡ true = sym (rw (u, w)) ∙ t in rw (u, w, x))
    (λ w. absurd (false≢true (sym (rw (u, w)) ∙ t))))

polls-most : (k : ℕ) → polls_for k ≤ 256
polls-most k = cases (ltb k 256) (λ t. rw t (omega (arith, ltb-true k 256 t))) (λ t. rw t (omega arith))

pub total-most : (s : Setting) (l : Line) (m : ℕ) → total_for s l.chip m ≤ m + 258
total-most s l m = omega (arith, polls-most (busy_of (word_for s l.chip)))

pub ends_known : (s : Setting) (l : Line) (op m : ℕ) → is_illegal (ends_as s l op m) ≡ false
unfolding is_illegal
ends_known s l op m =
    cases (ltb l.left (total_for s l.chip m))
    (λ t. rw t)
    (λ t.
    cases (ltb (busy_of (word_for s l.chip)) 256)
    (λ u. cases (eqb (failed_for op (word_for s l.chip)) 0) (λ w. rw (t, u, w)) (λ w. rw (t, u, w)))
    (λ u. rw (t, u)))

pub ends_unprotected : (s : Setting) (l : Line) (op m : ℕ) → is_protected (ends_as s l op m) ≡ false
unfolding is_protected
ends_unprotected s l op m =
    cases (ltb l.left (total_for s l.chip m))
    (λ t. rw t)
    (λ t.
    cases (ltb (busy_of (word_for s l.chip)) 256)
    (λ u. cases (eqb (failed_for op (word_for s l.chip)) 0) (λ w. rw (t, u, w)) (λ w. rw (t, u, w)))
    (λ u. rw (t, u)))

-- one that is cut leaves no cycle
pub ends_used_up : (s : Setting) (l : Line) (op m : ℕ) → is_cut_off (ends_as s l op m) ≡ true → l.left - total_for s l.chip m ≡ 0
unfolding is_cut_off
ends_used_up s l op m c =
    cases (ltb l.left (total_for s l.chip m))
    (λ t. omega (arith, ltb-true l.left (total_for s l.chip m) t))
    (λ t.
    cases (ltb (busy_of (word_for s l.chip)) 256)
    (λ u.
    cases (eqb (failed_for op (word_for s l.chip)) 0) (λ w. absurd (false≢true (sym (rw (t, u, w)) ∙ c))) (λ w. absurd (false≢true (sym (rw (t, u, w)) ∙ c))))
    (λ u. absurd (false≢true (sym (rw (t, u)) ∙ c))))

-- an operation that did not pass left all as it was, or took effect as the mask says
pub part_effect : (s : Setting) (l : Line) (op m : ℕ) (a₁ h₁ a₂ h₂ : List ℕ) → is_passed (confirmed_end s l op m a₁ h₁ a₂ h₂).outcome ≡ false
    → ((confirmed_end s l op m a₁ h₁ a₂ h₂).array ≡ l.chip.array) ⊎ ((confirmed_end s l op m a₁ h₁ a₂ h₂).array ≡ a₁)
unfolding confirmed_end
part_effect s l op m a₁ h₁ a₂ h₂ f =
    cases (leb l.left m)
    (λ t. inl (rw t))
    (λ t. cases (passes s l op m) (λ u. absurd (false≢true (sym f ∙ passes_passed s l op m u))) (λ u. inr (rw (t, u))))

module _ (s : Setting) (p : Progress) (block : ℕ) (below : block < s.geometry.blocks) (t : is_passed p.outcome ≡ true) (called : Called s p.line) (high : line_of p ≡ 0) where
  abbrev next : Progress
  next = erase_on s block p

  can : CanErase s p.line block
  can = record { may = record { called = called; block_below = below }; high = high }

  line_is : next.line ≡ send_all s p.line (erase_cycles s p.line (row_of s.geometry block 0))
  line_is = erase_on_line s block p p.line refl t

  end_is : end_of next.line ≡ erase_end s p.line block
  end_is = ap end_of line_is ∙ erase_ends s p.line block can

  pub erase_outcome_is : next.outcome ≡ (erase_end s p.line block).outcome
  erase_outcome_is = erase_on_outcome s block p p.line refl t ∙ erase_answer s p.line block can

  array_is : next.line.chip.array ≡ (erase_end s p.line block).array
  unfolding end_of
  array_is = ap (λ (e : End). e.array) end_is

  history_is : next.line.chip.history ≡ (erase_end s p.line block).history
  unfolding end_of
  history_is = ap (λ (e : End). e.history) end_is

  left_is : next.line.left ≡ p.line.left - total_for s p.line.chip 4
  unfolding end_of erase_end confirmed_end
  left_is = ap (λ (e : End). e.left) end_is

  sound : Sound s next
  unfolding erase_end confirmed_end
  sound =
      record {
        known = ap is_illegal erase_outcome_is ∙ ends_known s p.line 3 4;
        unprotected = ap is_protected erase_outcome_is ∙ ends_unprotected s p.line 3 4;
        used_up = λ c. left_is ∙ ends_used_up s p.line 3 4 (sym (ap is_cut_off erase_outcome_is) ∙ c);
        silent_by = λ z. ends_slow s p.line 3 4 (sym (ap is_silent erase_outcome_is) ∙ z);
        failed_by_fact = λ z. ends_failing s p.line 3 4 (sym (ap is_failed erase_outcome_is) ∙ z);
        legal = ap (λ (x : Line). x.chip.interface.illegal) line_is ∙ erase_legal s p.line block can.may;
        called = λ a. subst (Called s) (sym line_is) (erase_next s p.line block can.may (sym (ap answered (erase_on_outcome s block p p.line refl t)) ∙ a));
      }

  pub erase_started_fact : next.started ≡ p.started ++ erase_starts s p.line (row_of s.geometry block 0)
  unfolding erase_on
  erase_started_fact = rw t

  failures : FailedMore p next block
  unfolding erase_end confirmed_end
  failures b =
      ap (failed_in b) (erase_started_fact ∙ ap (λ (x : List ArrayOperation). p.started ++ x) (erase_starts_lem s p.line block can))
      ∙ failed_append b p.started _
      ∙ ap (cond (failed_in b p.started) true)
      (failed_one b _ (leb p.line.left 4) (cut-unfailed s p.line 3 4) ∙ ap (λ (o : Outcome). cond (eqb block b) (is_failed o) false) (sym erase_outcome_is))

  -- the block's bytes are replaced
  module _ (ys : List ℕ) (long : length ys ≡ block_size s.geometry) (e : next.line.chip.array ≡ with_block_bytes s block ys p.line.chip.array) where
    replaced : block_on s next block ≡ ys
    replaced = ap (λ (a : List ℕ). block_in s.geometry a block) e ∙ block_there s.geometry called.is_valid p.line.chip.array called.array_long block below ys long

    kept : OthersSame s p next block
    kept b h x = ap (λ (a : List ℕ). block_in s.geometry a b) e ∙ block_elsewhere s.geometry called.is_valid p.line.chip.array called.array_long block below b ys x long

  abbrev old : List ℕ
  old = block_on s p block

  part_long : length (raised old s.mask) ≡ block_size s.geometry
  part_long = length-raised old s.mask ∙ block_long s.geometry called.is_valid p.line.chip.array called.array_long block below

  module _ (passed : is_passed next.outcome ≡ true) where
    effect : (next.line.chip.array ≡ with_block_bytes s block (replicate (block_size s.geometry) 255) p.line.chip.array) × (next.line.chip.history ≡ set p.line.chip.history block 0)
    unfolding erase_end
    effect =
        let both = whole_effect s p.line 3 4 _ _ _ _ (sym (ap is_passed erase_outcome_is) ∙ passed) in
        (array_is ∙ both.0, history_is ∙ both.1)

    erased_order : get_or next.line.chip.history block 0 ≤ 0
    erased_order =
        let zero_is = get_or-set_same p.line.chip.history block 0 0 (omega (arith, below, called.history_long)) in
        omega (arith, ap (λ (x : List ℕ). get_or x block 0) effect.1, zero_is)

  effect_part : is_passed next.outcome ≡ false → (next.line.chip.array ≡ p.line.chip.array) ⊎ (next.line.chip.array ≡ with_block_bytes s block (raised old s.mask) p.line.chip.array)
  unfolding erase_end
  effect_part f =
      ⊎_elim (λ e. inl (array_is ∙ e)) (λ e. inr (array_is ∙ e)) (part_effect s p.line 3 4 _ _ _ _ (sym (ap is_passed erase_outcome_is) ∙ f))

  pub erase_leaves : Erased s p next block
  erase_leaves =
      let all : List ℕ = replicate (block_size s.geometry) 255 in
      let all-long : length all ≡ block_size s.geometry = length-replicate {A = ℕ} (block_size s.geometry) 255 in
      record {
        sound = sound;
        others = cases (is_passed next.outcome)
            (λ y. kept all all-long (effect y).0)
            (λ f. ⊎_elim (λ e b h x. ap (λ (a : List ℕ). block_in s.geometry a b) e) (λ e. kept (raised old s.mask) part_long e) (effect_part f));
        whole = λ y. replaced all all-long (effect y).0;
        partly = λ f. ⊎_elim (λ e. inl (ap (λ (a : List ℕ). block_in s.geometry a block) e)) (λ e. inr (replaced (raised old s.mask) part_long e)) (effect_part f);
        in_order = erased_order;
        spent = omega (arith, left_is, total-most s p.line 4);
        failures = failures;
      }
