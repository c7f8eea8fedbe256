-- An erase, a program and a read that two calls perform on chips that are alike: they end alike, if neither is cut. Assumes nothing.
use Prim.Native.Nat.{ℕ, ◌+◌, ◌≤◌, ◌<◌}
use mathlib.Core.Bool.{true, false}
use mathlib.Core.List.{List}
use mathlib.Core.Path.{◌≡◌, refl, sym, ap, ap₂, subst, ◌∙◌}
use native.Mathlib.Omega.{arith}
use borrow.Table.Steps.{cases}
use lib.Dec.{ltb}
use lib.ListN.{length, get_or, set, replicate}
use Rattle.geometry.specs.declared.Geometry.{Geometry}
use Rattle.geometry.specs.Sizes.{page_size, block_size, row_count, row_of}
use Rattle.cells.specs.Cells.{programmed, weakened, raised}
use Rattle.chip_interface.specs.Interface.{busy_of}
use Rattle.chip_array.specs.Device.{Setting, setting}
use Rattle.bus.specs.Line.{Line}
use Rattle.bus_polling.specs.Outcomes.{is_passed, is_cut_off, answered}
use Rattle.bus_polling.specs.Polling.{answer_of}
use Rattle.operations.specs.Ends.{Called, CanErase, CanProgram, CanRead, End, end_of, end_of_read, erase_end, program_end, read_end, confirmed_end, read_total, word_for, row_bytes_of, with_row, block_bytes_of, with_block_bytes}
use Rattle.operations.proofs.EraseLaws.{erase_answer}
use Rattle.operations.proofs.ProgramLaws.{program_answer}
use Rattle.operations.proofs.ReadLaws.{read_ends, read_next}
use Rattle.progress.specs.Progress.{Progress, line_of, read_on}
use Rattle.progress.specs.Steps.{erase_on, program_on}
use Rattle.progress.proofs.StepLaws as step
use Rattle.progress.proofs.ReadOnLaws.{read_line, read_outcome_fact}
use Rattle.progress.proofs.WordLaws as word
use Rattle.bools.proofs.BoolLaws.{clash}
use Rattle.fill_portions.proofs.EndLaws.{SameWords, Ends, confirmed_alike, read_alike, ends_same, read_same}

-- two calls on ready chips with the line high, which hold the same, with the same mask and the same fate words from where they are; pages in the
-- register, interface and allowance may differ
pub record Alike (g : Geometry) (mask fates fates' : List ℕ) (l l' : Line) : Type 0 where
  pub called : Called (setting g mask fates) l
  pub called' : Called (setting g mask fates') l'
  pub high : l.chip.interface.protected ≡ 0
  pub high' : l'.chip.interface.protected ≡ 0
  pub same_array : l'.chip.array ≡ l.chip.array
  pub same_history : l'.chip.history ≡ l.chip.history
  pub words : SameWords fates l.chip.interface.fate fates' l'.chip.interface.fate

-- what two requests came to from p and p': the same outcome, array and history after as many cycles; alike again if ready was reported
pub record Matched (g : Geometry) (mask fates fates' : List ℕ) (p p' q q' : Progress) : Type 0 where
  pub same_outcome : q'.outcome ≡ q.outcome
  pub same_array : q'.line.chip.array ≡ q.line.chip.array
  pub same_history : q'.line.chip.history ≡ q.line.chip.history
  pub as_many : p'.line.left + q.line.left ≡ p.line.left + q'.line.left
  pub within : q.line.left ≤ p.line.left
  pub within' : q'.line.left ≤ p'.line.left
  pub goes_on : answered q.outcome ≡ true → Alike g mask fates fates' q.line q'.line

-- a request that came to this end
pub record Comes (q : Progress) (e : End) : Type 0 where
  pub outcome_is : q.outcome ≡ e.outcome
  pub array_is : q.line.chip.array ≡ e.array
  pub history_is : q.line.chip.history ≡ e.history
  pub left_is : q.line.left ≡ e.left
  pub fate_is : q.line.chip.interface.fate ≡ e.fate

comes_so : (q : Progress) (e : End) → end_of q.line ≡ e → q.outcome ≡ e.outcome → Comes q e
unfolding end_of
comes_so q e end told =
    record {
      outcome_is = told;
      array_is = ap (λ (x : End). x.array) end;
      history_is = ap (λ (x : End). x.history) end;
      left_is = ap (λ (x : End). x.left) end;
      fate_is = ap (λ (x : End). x.fate) end;
    }

-- a read: it was answered only if it passed
answered_passed : (s : Setting) (l : Line) (n : ℕ) → answered (read_end s l n).outcome ≡ true → is_passed (read_end s l n).outcome ≡ true
unfolding read_end is_passed answered
answered_passed s l n y =
    cases (ltb l.left (read_total s l.chip n))
    (λ t. clash y (rw t))
    (λ t. cases (ltb (busy_of (word_for s l.chip)) 256) (λ u. rw (t, u)) (λ u. clash y (rw (t, u))))

module _ (s : Setting) (p : Progress) (t : is_passed p.outcome ≡ true) (row column n : ℕ) (can : CanRead s p.line row column n) where
  pub read_comes : Comes (read_on s row column n p) (read_end s p.line n)
  unfolding end_of_read
  read_comes =
      let e = read_line s row column n p p.line refl t in
      let end = read_ends s p.line row column n can in
      record {
        outcome_is = read_outcome_fact s row column n p p.line refl t ∙ ap (λ (x : End). x.outcome) end;
        array_is = ap (λ (x : Line). x.chip.array) e ∙ ap (λ (x : End). x.array) end;
        history_is = ap (λ (x : Line). x.chip.history) e ∙ ap (λ (x : End). x.history) end;
        left_is = ap (λ (x : Line). x.left) e ∙ ap (λ (x : End). x.left) end;
        fate_is = ap (λ (x : Line). x.chip.interface.fate) e ∙ ap (λ (x : End). x.fate) end;
      }

  pub read_called : answered (read_on s row column n p).outcome ≡ true → Called s (read_on s row column n p).line
  read_called y =
      subst (Called s) (sym (read_line s row column n p p.line refl t))
      (read_next s p.line row column n can (answered_passed s p.line n (sym (ap answered read_comes.outcome_is) ∙ y)))

module _ (g : Geometry) (mask fates fates' : List ℕ) where
  abbrev s : Setting
  s = setting g mask fates

  abbrev s' : Setting
  s' = setting g mask fates'

  -- nothing is done
  pub matched_still : (p p' : Progress) → p'.outcome ≡ p.outcome → Alike g mask fates fates' p.line p'.line → Matched g mask fates fates' p p' p p'
  matched_still p p' e a =
      record { same_outcome = e; same_array = a.same_array; same_history = a.same_history; as_many = omega arith; within = omega arith; within' = omega arith; goes_on = λ t. a }

  -- one after the other
  pub matched_on : {p p' q q' r r' : Progress} → Matched g mask fates fates' p p' q q' → Matched g mask fates fates' q q' r r' → Matched g mask fates fates' p p' r r'
  matched_on a b =
      record {
        same_outcome = b.same_outcome;
        same_array = b.same_array;
        same_history = b.same_history;
        as_many = omega (arith, a.as_many, b.as_many);
        within = omega (arith, a.within, b.within);
        within' = omega (arith, a.within', b.within');
        goes_on = b.goes_on;
      }

  module _ (p p' : Progress) (t : is_passed p.outcome ≡ true) (t' : is_passed p'.outcome ≡ true) (a : Alike g mask fates fates' p.line p'.line) where
    abbrev l : Line
    l = p.line

    abbrev l' : Line
    l' = p'.line

    -- operations that ended so
    matched_ends : (q q' : Progress) (e e' : End) → Comes q e → Comes q' e' → line_of q ≡ 0 → line_of q' ≡ 0 → (answered q.outcome ≡ true → Called s q.line) → (answered q'.outcome ≡ true → Called s' q'.line)
        → Ends fates fates' l l' e e' → Matched g mask fates fates' p p' q q'
    matched_ends q q' e e' c c' high high' next next' x =
        let same = c'.outcome_is ∙ x.same_outcome ∙ sym c.outcome_is in
        let arrays = c'.array_is ∙ x.same_array ∙ sym c.array_is in
        let histories = c'.history_is ∙ x.same_history ∙ sym c.history_is in
        record {
          same_outcome = same;
          same_array = arrays;
          same_history = histories;
          as_many = omega (arith, c.left_is, c'.left_is, x.as_many);
          within = omega (arith, c.left_is, x.within);
          within' = omega (arith, c'.left_is, x.within');
          goes_on = λ y.
              record {
                called = next y;
                called' = next' (ap answered same ∙ y);
                high = high;
                high' = high';
                same_array = arrays;
                same_history = histories;
                words = subst (λ (i : ℕ). SameWords fates i fates' q'.line.chip.interface.fate) (sym c.fate_is) (subst (λ (j : ℕ). SameWords fates e.fate fates' j) (sym c'.fate_is) x.words);
              };
        }

    module _ (block : ℕ) (below : block < g.blocks) where
      can_erase : CanErase s l block
      can_erase = record { may = record { called = a.called; block_below = below }; high = a.high }

      can_erase' : CanErase s' l' block
      can_erase' = record { may = record { called = a.called'; block_below = below }; high = a.high' }

      same_erase : erase_end s' l' block ≡ confirmed_end s' l' 3 4 (with_block_bytes s block (raised (block_bytes_of s block l.chip.array) mask) l.chip.array) (set l.chip.history block 255) (with_block_bytes s block (replicate (block_size g) 255) l.chip.array) (set l.chip.history block 0)
      unfolding erase_end
      same_erase =
          ap₂ (λ (x h : List ℕ). confirmed_end s' l' 3 4 (with_block_bytes s block (raised (block_bytes_of s block x) mask) x) (set h block 255) (with_block_bytes s block (replicate (block_size g) 255) x) (set h block 0)) a.same_array a.same_history

      erase_ends_alike : is_cut_off (erase_end s l block).outcome ≡ false → is_cut_off (erase_end s' l' block).outcome ≡ false → Ends fates fates' l l' (erase_end s l block) (erase_end s' l' block)
      unfolding erase_end confirmed_end
      erase_ends_alike f f' =
          subst (Ends fates fates' l l' (erase_end s l block)) (sym same_erase) (confirmed_alike g mask fates fates' l l' a.words 3 4 _ _ _ _ f f')

      pub erase_alike : is_cut_off (erase_on s block p).outcome ≡ false → is_cut_off (erase_on s' block p').outcome ≡ false → Matched g mask fates fates' p p' (erase_on s block p) (erase_on s' block p')
      erase_alike f f' =
          let q = erase_on s block p in
          let q' = erase_on s' block p' in
          let e = step.erase_on_line s block p l refl t in
          let e' = step.erase_on_line s' block p' l' refl t' in
          let o : q.outcome ≡ answer_of q.line = step.erase_on_outcome s block p l refl t ∙ ap answer_of (sym e) in
          let o' : q'.outcome ≡ answer_of q'.line = step.erase_on_outcome s' block p' l' refl t' ∙ ap answer_of (sym e') in
          let told = step.erase_outcome s l block can_erase q.line q.outcome e o in
          let told' = step.erase_outcome s' l' block can_erase' q'.line q'.outcome e' o' in
          matched_ends q q' (erase_end s l block) (erase_end s' l' block)
          (comes_so q (erase_end s l block) (step.erase_end_fact s l block can_erase q.line q.outcome e o) told)
          (comes_so q' (erase_end s' l' block) (step.erase_end_fact s' l' block can_erase' q'.line q'.outcome e' o') told')
          (word.erase_keeps s block p ∙ a.high) (word.erase_keeps s' block p' ∙ a.high')
          (step.erase_called s l block can_erase.may q.line q.outcome e o) (step.erase_called s' l' block can_erase'.may q'.line q'.outcome e' o')
          (erase_ends_alike (sym (ap is_cut_off told) ∙ f) (sym (ap is_cut_off told') ∙ f'))

      -- with as many cycles left, cut or not
      pub erase_same : l'.left ≡ l.left → (erase_on s' block p').outcome ≡ (erase_on s block p).outcome
      unfolding erase_end confirmed_end
      erase_same same =
          step.erase_on_outcome s' block p' l' refl t' ∙ erase_answer s' l' block can_erase' ∙ ends_same g mask fates fates' l l' a.words same 3 4
          ∙ sym (step.erase_on_outcome s block p l refl t ∙ erase_answer s l block can_erase)

    module _ (block page : ℕ) (bytes : List ℕ) (below : block < g.blocks) (place : page < g.pages) (order : get_or l.chip.history block 0 ≤ page) (long : length bytes ≡ page_size g) where
      can_program : CanProgram s l block page bytes
      can_program = record { may = record { called = a.called; block_below = below; page_below = place; in_order = order; bytes_long = long }; high = a.high }

      can_program' : CanProgram s' l' block page bytes
      can_program' =
          record {
            may = record { called = a.called'; block_below = below; page_below = place; in_order = subst (λ (h : List ℕ). get_or h block 0 ≤ page) (sym a.same_history) order; bytes_long = long };
            high = a.high';
          }

      abbrev row : ℕ
      row = row_of g block page

      same_program : program_end s' l' block page bytes
          ≡ confirmed_end s' l' 2 (6 + length bytes) (with_row s row (programmed (row_bytes_of s row l.chip.array) (weakened bytes mask)) l.chip.array) (set l.chip.history block (page + 1)) (with_row s row (programmed (row_bytes_of s row l.chip.array) bytes) l.chip.array) (set l.chip.history block (page + 1))
      unfolding program_end
      same_program =
          ap₂ (λ (x h : List ℕ). confirmed_end s' l' 2 (6 + length bytes) (with_row s row (programmed (row_bytes_of s row x) (weakened bytes mask)) x) (set h block (page + 1)) (with_row s row (programmed (row_bytes_of s row x) bytes) x) (set h block (page + 1))) a.same_array a.same_history

      program_ends_alike : is_cut_off (program_end s l block page bytes).outcome ≡ false → is_cut_off (program_end s' l' block page bytes).outcome ≡ false → Ends fates fates' l l' (program_end s l block page bytes) (program_end s' l' block page bytes)
      unfolding program_end confirmed_end
      program_ends_alike f f' =
          subst (Ends fates fates' l l' (program_end s l block page bytes)) (sym same_program) (confirmed_alike g mask fates fates' l l' a.words 2 (6 + length bytes) _ _ _ _ f f')

      pub program_alike : is_cut_off (program_on s block page bytes p).outcome ≡ false → is_cut_off (program_on s' block page bytes p').outcome ≡ false → Matched g mask fates fates' p p' (program_on s block page bytes p) (program_on s' block page bytes p')
      program_alike f f' =
          let q = program_on s block page bytes p in
          let q' = program_on s' block page bytes p' in
          let e = step.program_on_line s block p l refl t page bytes in
          let e' = step.program_on_line s' block p' l' refl t' page bytes in
          let o : q.outcome ≡ answer_of q.line = step.program_on_outcome s block p l refl t page bytes ∙ ap answer_of (sym e) in
          let o' : q'.outcome ≡ answer_of q'.line = step.program_on_outcome s' block p' l' refl t' page bytes ∙ ap answer_of (sym e') in
          let told = step.program_outcome s l block page bytes can_program q.line q.outcome e o in
          let told' = step.program_outcome s' l' block page bytes can_program' q'.line q'.outcome e' o' in
          matched_ends q q' (program_end s l block page bytes) (program_end s' l' block page bytes)
          (comes_so q (program_end s l block page bytes) (step.program_end_fact s l block page bytes can_program q.line q.outcome e o) told)
          (comes_so q' (program_end s' l' block page bytes) (step.program_end_fact s' l' block page bytes can_program' q'.line q'.outcome e' o') told')
          (word.program_keeps s block page bytes p ∙ a.high) (word.program_keeps s' block page bytes p' ∙ a.high')
          (step.program_called s l block page bytes can_program.may q.line q.outcome e o) (step.program_called s' l' block page bytes can_program'.may q'.line q'.outcome e' o')
          (program_ends_alike (sym (ap is_cut_off told) ∙ f) (sym (ap is_cut_off told') ∙ f'))

      pub program_same : l'.left ≡ l.left → (program_on s' block page bytes p').outcome ≡ (program_on s block page bytes p).outcome
      unfolding program_end confirmed_end
      program_same same =
          step.program_on_outcome s' block p' l' refl t' page bytes ∙ program_answer s' l' block page bytes can_program'
          ∙ ends_same g mask fates fates' l l' a.words same 2 (6 + length bytes)
          ∙ sym (step.program_on_outcome s block p l refl t page bytes ∙ program_answer s l block page bytes can_program)

    module _ (row column n : ℕ) (below : row < row_count g) (first : column < page_size g) (room : column + n ≤ page_size g) where
      can_read : CanRead s l row column n
      can_read = record { called = a.called; row_below = below; column_below = first; within = room }

      can_read' : CanRead s' l' row column n
      can_read' = record { called = a.called'; row_below = below; column_below = first; within = room }

      pub read_on_alike : is_cut_off (read_on s row column n p).outcome ≡ false → is_cut_off (read_on s' row column n p').outcome ≡ false → Matched g mask fates fates' p p' (read_on s row column n p) (read_on s' row column n p')
      read_on_alike f f' =
          let c = read_comes s p t row column n can_read in
          let c' = read_comes s' p' t' row column n can_read' in
          matched_ends (read_on s row column n p) (read_on s' row column n p') (read_end s l n) (read_end s' l' n) c c' (word.read_keeps s row column n p ∙ a.high) (word.read_keeps s' row column n p' ∙ a.high')
          (read_called s p t row column n can_read) (read_called s' p' t' row column n can_read')
          (read_alike g mask fates fates' l l' a.words n a.same_array a.same_history (sym (ap is_cut_off c.outcome_is) ∙ f) (sym (ap is_cut_off c'.outcome_is) ∙ f'))

      pub read_on_same : l'.left ≡ l.left → (read_on s' row column n p').outcome ≡ (read_on s row column n p).outcome
      read_on_same same =
          (read_comes s' p' t' row column n can_read').outcome_is ∙ read_same g mask fates fates' l l' a.words same n ∙ sym (read_comes s p t row column n can_read).outcome_is
