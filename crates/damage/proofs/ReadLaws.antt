-- Resets and reads of a request on its way: nothing on the chip changes. Assumes nothing.
use Prim.Native.Nat.{ℕ, zero, suc, ◌+◌, ◌-◌, ◌*◌, ◌/◌, ◌≤◌, ◌<◌}
use mathlib.Core.Bool.{Bool, true, false, cond, false≢true}
use mathlib.Core.List.{List, []}
use mathlib.Core.Path.{◌≡◌, refl, sym, ap, subst, ◌∙◌}
use native.Mathlib.Nat.{suc-mul}
use native.Mathlib.Omega.{arith}
use borrow.Table.Steps.{cases}
use borrow.Author.Tests.{ltb-true}
use lib.Dec.{eqb, leb, ltb}
use Rattle.geometry.specs.Limits.{Valid}
use Rattle.geometry.specs.Sizes.{page_size, row_count, row_of}
use Rattle.geometry.proofs.SizeLaws.{row_below}
use Rattle.chip_array.specs.Device.{Device, Setting}
use Rattle.bus.specs.Line.{Line, send_all}
use Rattle.chip_interface.specs.Interface.{busy_of}
use Rattle.bus_polling.specs.Outcomes.{is_passed, answered, is_read_end, is_cut_off, is_silent}
use Rattle.bus_polling.specs.declared.Outcome.TheVariants.{Passed}
use Rattle.bus_sequences.specs.Cycles.{reset_cycles}
use Rattle.operations.specs.Ends.{Called, CanRead, End, end_of_read, read_end, end_of_reset, reset_end, read_total, word_for}
use Rattle.operations.proofs.ReadLaws.{read_ends, read_legal, read_next, read_starts_lem}
use Rattle.operations.proofs.ResetLaws.{reset_ends, reset_legal}
use Rattle.operations.specs.Trace.{ArrayOperation, read_starts}
use Rattle.progress.specs.Progress.{Progress, progress, read_on, reset_on}
use Rattle.copies.specs.Blocks.{block_in}
use Rattle.copies.specs.Quick.{last_page, ends_whole}
use Rattle.scan_summary.specs.declared.Depth.{Depth}
use Rattle.scan_summary.specs.declared.Depth.TheVariants.{Full, Quick}
use Rattle.scan_block.specs.Pages.{pages_from, pages_read}
use Rattle.scan_block.proofs.ScanLaws.{from_first}
use Rattle.scan_quick.specs.BlockRead.{page_read, ends_read, quick_read, block_read}
use Rattle.scan.specs.Scan.{blocks_read}
use Rattle.progress.proofs.ReadOnLaws.{read_line, read_outcome_fact, read_stopped}
use Rattle.bus_polling.proofs.OutcomeLaws.{is_passed_lem, read_passed, read_known, read_end_unfailed, read_end_unprotected}
use Rattle.request.specs.Call.{sized_for, call_line}
use Rattle.request.proofs.ResetLaws.{reset_called}
use Rattle.damage.specs.Run.{failed_in, NoneFailed, Unchanged, Spent, read_most, scan_most}
use Rattle.damage.proofs.TraceLaws.{failed_append, failed_one, read_unfailed}
use Rattle.bools.proofs.BoolLaws.{and_none, or_none}
use Rattle.damage.proofs.FateLaws.{read_slow}

-- how a read ends, by its fate word and the allowance
ends_as_read : (s : Setting) (l : Line) (n : ℕ) → is_read_end (read_end s l n).outcome ≡ true
unfolding read_end is_read_end
ends_as_read s l n =
    cases (ltb l.left (read_total s l.chip n))
    (λ t. rw t)
    (λ t. cases (ltb (busy_of (word_for s l.chip)) 256) (λ u. rw (t, u)) (λ u. rw (t, u)))

-- one that is cut leaves no cycle
read_used_up : (s : Setting) (l : Line) (n : ℕ) → is_cut_off (read_end s l n).outcome ≡ true → l.left - read_total s l.chip n ≡ 0
unfolding read_end is_cut_off
read_used_up s l n c =
    cases (ltb l.left (read_total s l.chip n))
    (λ t. omega (arith, ltb-true l.left (read_total s l.chip n) t))
    (λ t. cases (ltb (busy_of (word_for s l.chip)) 256) (λ u. absurd (false≢true (sym (rw (t, u)) ∙ c))) (λ u. absurd (false≢true (sym (rw (t, u)) ∙ c))))

reset_used_up : (l : Line) → is_cut_off (reset_end l).outcome ≡ true → l.left - 3 ≡ 0
unfolding reset_end is_cut_off
reset_used_up l c = cases (ltb l.left 3) (λ t. omega (arith, ltb-true l.left 3 t)) (λ t. absurd (false≢true (sym (rw t) ∙ c)))

read_most_lem : (s : Setting) (l : Line) (n : ℕ) → read_total s l.chip n ≤ read_most n
read_most_lem s l n =
    cases (ltb (busy_of (word_for s l.chip)) 256) (λ t. rw t (omega (arith, ltb-true (busy_of (word_for s l.chip)) 256 t))) (λ t. rw t (omega arith))

module _ (s : Setting) (array history : List ℕ) where
  -- one read
  module _ (row column n : ℕ) (row_fits : row < row_count s.geometry) (column_fits : column < page_size s.geometry) (within : column + n ≤ page_size s.geometry) where
    due : (p : Progress) → Unchanged s array history p → is_passed p.outcome ≡ true → Unchanged s array history (read_on s row column n p)
    unfolding end_of_read read_end answered is_passed
    due p u t =
        let l = p.line in
        let called : Called s l = u.sound.called (ap answered (is_passed_lem p.outcome t)) in
        let can : CanRead s l row column n = record { called = called; row_below = row_fits; column_below = column_fits; within = within } in
        let line_is = read_line s row column n p l refl t in
        let ends = read_ends s l row column n can in
        let outcome_is : (read_on s row column n p).outcome ≡ (read_end s l n).outcome = read_outcome_fact s row column n p l refl t ∙ ap (λ (e : End). e.outcome) ends in
        let fine : is_read_end (read_on s row column n p).outcome ≡ true = ap is_read_end outcome_is ∙ ends_as_read s l n in
        record {
          sound = record {
            legal = ap (λ (x : Line). x.chip.interface.illegal) line_is ∙ read_legal s l row column n can;
            known = read_known (read_on s row column n p).outcome fine;
            unprotected = read_end_unprotected (read_on s row column n p).outcome fine;
            used_up = λ c. ap (λ (x : Line). x.left) line_is ∙ ap (λ (e : End). e.left) ends ∙ read_used_up s l n (sym (ap is_cut_off outcome_is) ∙ c);
            silent_by = λ z. read_slow s l n (sym (ap is_silent outcome_is) ∙ z);
            failed_by_fact = λ z. absurd (false≢true (sym (read_end_unfailed (read_on s row column n p).outcome fine) ∙ z));
            called = λ a. subst (Called s) (sym line_is) (read_next s l row column n can (sym (ap is_passed outcome_is) ∙ read_passed (read_on s row column n p).outcome fine a));
          };
          ends = fine;
          same_array = ap (λ (x : Line). x.chip.array) line_is ∙ ap (λ (e : End). e.array) ends ∙ u.same_array;
          same_history = ap (λ (x : Line). x.chip.history) line_is ∙ ap (λ (e : End). e.history) ends ∙ u.same_history;
        }

    pub read_spends : (p : Progress) → Unchanged s array history p → Spent p (read_on s row column n p) (read_most n)
    unfolding end_of_read read_end answered is_passed
    read_spends p u =
        cases (is_passed p.outcome)
        (λ t.
        let l = p.line in
        let can : CanRead s l row column n = record { called = u.sound.called (ap answered (is_passed_lem p.outcome t)); row_below = row_fits; column_below = column_fits; within = within } in
        let left_is : (read_on s row column n p).line.left ≡ l.left - read_total s l.chip n = ap (λ (x : Line). x.left) (read_line s row column n p l refl t) ∙ ap (λ (e : End). e.left) (read_ends s l row column n can) in
        omega (arith, left_is, read_most_lem s l n))
        (λ f. omega (arith, ap (λ (x : Progress). x.line.left) (read_stopped s row column n p f)))

    pub read_calm : (p : Progress) → Unchanged s array history p → NoneFailed p (read_on s row column n p)
    unfolding read_on answered is_passed
    read_calm p u b =
        cases (is_passed p.outcome)
        (λ t.
        let l = p.line in
        let can : CanRead s l row column n = record { called = u.sound.called (ap answered (is_passed_lem p.outcome t)); row_below = row_fits; column_below = column_fits; within = within } in
        rw t
        (failed_append b p.started (read_starts s l row column)
        ∙ ap (λ (x : List ArrayOperation). cond (failed_in b p.started) true (failed_in b x)) (read_starts_lem s l row column n can)
        ∙ ap (cond (failed_in b p.started) true)
        (failed_one b _ (leb l.left 6) (λ x. read_unfailed s l 6) ∙ ap (λ (x : Bool). cond (eqb (row / s.geometry.pages) b) x false) (read_unfailed s l 6) ∙ and_none (eqb (row / s.geometry.pages) b))
        ∙ or_none (failed_in b p.started)))
        (λ f. rw f)

    pub read_unchanged : (p : Progress) → Unchanged s array history p → Unchanged s array history (read_on s row column n p)
    read_unchanged p u =
        cases (is_passed p.outcome)
        (due p u)
        (λ f. subst (Unchanged s array history) (sym (read_stopped s row column n p f)) u)

  -- pages read whole
  module _ (v : Valid s.geometry) where
    module _ (block : ℕ) (b : block < s.geometry.blocks) where
      from_unchanged : (first n : ℕ) → first + n ≤ s.geometry.pages → (p : Progress) → Unchanged s array history p → Unchanged s array history (pages_from s block first n p)
      unfolding pages_from
      from_unchanged first zero h p u = u
      from_unchanged first (suc n) h p u =
          read_unchanged (row_of s.geometry block (first + n)) 0 (page_size s.geometry) (row_below s.geometry v block (first + n) b (omega (arith, h))) (omega (arith, v.main_least)) (omega arith)
          (pages_from s block first n p)
          (from_unchanged first n (omega (arith, h)) p u)

      from_spend : (first n : ℕ) → first + n ≤ s.geometry.pages → (p : Progress) → Unchanged s array history p → Spent p (pages_from s block first n p) (n * read_most (page_size s.geometry))
      unfolding pages_from
      from_spend first zero h p u = omega arith
      from_spend first (suc n) h p u =
          let last =
          read_spends (row_of s.geometry block (first + n)) 0 (page_size s.geometry) (row_below s.geometry v block (first + n) b (omega (arith, h))) (omega (arith, v.main_least)) (omega arith)
          (pages_from s block first n p) (from_unchanged first n (omega (arith, h)) p u) in
          omega (arith, last, from_spend first n (omega (arith, h)) p u, suc-mul n (read_most (page_size s.geometry)))

      -- the first page, the last page and the mark byte of page 1
      ends_unchanged : (p : Progress) → Unchanged s array history p → Unchanged s array history (ends_read s block p)
      unfolding ends_read
      ends_unchanged p u =
          read_unchanged (row_of s.geometry block 1) s.geometry.main 1 (row_below s.geometry v block 1 b (omega (arith, v.pages_least))) (omega (arith, v.spare_least)) (omega (arith, v.spare_least)) _
          (read_unchanged (row_of s.geometry block (last_page s.geometry)) 0 (page_size s.geometry) (row_below s.geometry v block (last_page s.geometry) b (omega (arith, v.pages_least))) (omega (arith, v.main_least)) (omega arith) _
          (read_unchanged (row_of s.geometry block 0) 0 (page_size s.geometry) (row_below s.geometry v block 0 b (omega (arith, v.pages_least))) (omega (arith, v.main_least)) (omega arith) p u))

      ends_spend : (p : Progress) → Unchanged s array history p → Spent p (ends_read s block p) (read_most (page_size s.geometry) + read_most (page_size s.geometry) + read_most 1)
      unfolding ends_read
      ends_spend p u =
          let first_fits = row_below s.geometry v block 0 b (omega (arith, v.pages_least)) in
          let last_Fits = row_below s.geometry v block (last_page s.geometry) b (omega (arith, v.pages_least)) in
          let one = page_read s block 0 p in
          let one_same = read_unchanged (row_of s.geometry block 0) 0 (page_size s.geometry) first_fits (omega (arith, v.main_least)) (omega arith) p u in
          let two = page_read s block (last_page s.geometry) one in
          let two-same = read_unchanged (row_of s.geometry block (last_page s.geometry)) 0 (page_size s.geometry) last_Fits (omega (arith, v.main_least)) (omega arith) one one_same in
          let spent-one = read_spends (row_of s.geometry block 0) 0 (page_size s.geometry) first_fits (omega (arith, v.main_least)) (omega arith) p u in
          let spent-two = read_spends (row_of s.geometry block (last_page s.geometry)) 0 (page_size s.geometry) last_Fits (omega (arith, v.main_least)) (omega arith) one one_same in
          let spent-mark = read_spends (row_of s.geometry block 1) s.geometry.main 1 (row_below s.geometry v block 1 b (omega (arith, v.pages_least))) (omega (arith, v.spare_least)) (omega (arith, v.spare_least)) two two-same in
          omega (arith, spent-one, spent-two, spent-mark)

      quick_unchanged : (p : Progress) → Unchanged s array history p → Unchanged s array history (quick_read s block p)
      unfolding quick_read
      quick_unchanged p u =
          cases (ends_whole s.geometry (block_in s.geometry p.line.chip.array block))
          (λ t. rw t (from_unchanged 1 (s.geometry.pages - 2) (omega (arith, v.pages_least)) (ends_read s block p) (ends_unchanged p u)))
          (λ t. rw t (ends_unchanged p u))

      -- pages 1 to the last but one, and the two ends
      all_pages : (r : ℕ) → (s.geometry.pages - 2) * r + r + r ≡ s.geometry.pages * r
      all_pages r =
          let k = s.geometry.pages - 2 in
          let e : suc (suc k) ≡ s.geometry.pages = omega (arith, v.pages_least) in
          omega (arith, suc-mul k r, suc-mul (suc k) r, ap (λ (x : ℕ). x * r) e)

      quick_spend : (p : Progress) → Unchanged s array history p → Spent p (quick_read s block p) (scan_most Quick s.geometry)
      unfolding quick_read scan_most
      quick_spend p u =
          let ends = ends_spend p u in
          let all = all_pages (read_most (page_size s.geometry)) in
          cases (ends_whole s.geometry (block_in s.geometry p.line.chip.array block))
          (λ t. rw t (omega (arith, ends, all, from_spend 1 (s.geometry.pages - 2) (omega (arith, v.pages_least)) (ends_read s block p) (ends_unchanged p u))))
          (λ t. rw t (omega (arith, ends, all)))

      pub pages_unchanged : (n : ℕ) → n ≤ s.geometry.pages → (p : Progress) → Unchanged s array history p → Unchanged s array history (pages_read s block n p)
      pages_unchanged n h p u = subst (Unchanged s array history) (from_first s block n p) (from_unchanged 0 n (omega (arith, h)) p u)

      pub pages_spend : (n : ℕ) → n ≤ s.geometry.pages → (p : Progress) → Unchanged s array history p → Spent p (pages_read s block n p) (n * read_most (page_size s.geometry))
      pages_spend n h p u =
          subst (λ (q : Progress). Spent p q (n * read_most (page_size s.geometry))) (from_first s block n p) (from_spend 0 n (omega (arith, h)) p u)

      pub pages_calm : (n : ℕ) → n ≤ s.geometry.pages → (p : Progress) → Unchanged s array history p → NoneFailed p (pages_read s block n p)
      unfolding pages_read
      pages_calm zero h p u c = refl
      pages_calm (suc n) h p u c =
          read_calm (row_of s.geometry block n) 0 (page_size s.geometry) (row_below s.geometry v block n b (omega (arith, h))) (omega (arith, v.main_least)) (omega arith)
          (pages_read s block n p) (pages_unchanged n (omega (arith, h)) p u) c
          ∙ pages_calm n (omega (arith, h)) p u c

      -- a block at either depth
      block_unchanged : (depth : Depth) (p : Progress) → Unchanged s array history p → Unchanged s array history (block_read depth s block p)
      unfolding block_read
      block_unchanged Full p u = pages_unchanged s.geometry.pages (omega arith) p u
      block_unchanged Quick p u = quick_unchanged p u

      block_spend : (depth : Depth) (p : Progress) → Unchanged s array history p → Spent p (block_read depth s block p) (scan_most depth s.geometry)
      unfolding block_read scan_most
      block_spend Full p u = pages_spend s.geometry.pages (omega arith) p u
      block_spend Quick p u = quick_spend p u

    pub blocks_unchanged : (depth : Depth) (n : ℕ) → n ≤ s.geometry.blocks → (p : Progress) → Unchanged s array history p → Unchanged s array history (blocks_read depth s n p)
    unfolding blocks_read
    blocks_unchanged depth zero h p u = u
    blocks_unchanged depth (suc n) h p u =
        block_unchanged n (omega (arith, h)) depth (blocks_read depth s n p) (blocks_unchanged depth n (omega (arith, h)) p u)

    pub blocks_spend : (depth : Depth) (n : ℕ) → n ≤ s.geometry.blocks → (p : Progress) → Unchanged s array history p → Spent p (blocks_read depth s n p) (n * scan_most depth s.geometry)
    unfolding blocks_read
    blocks_spend depth zero h p u = omega arith
    blocks_spend depth (suc n) h p u =
        let last = block_spend n (omega (arith, h)) depth (blocks_read depth s n p) (blocks_unchanged depth n (omega (arith, h)) p u) in
        omega (arith, last, blocks_spend depth n (omega (arith, h)) p u, suc-mul n (scan_most depth s.geometry))

-- the reset with which a call begins
module _ (s : Setting) (d : Device) (n : ℕ) (t : sized_for s d ≡ true) where
  abbrev begun : Progress
  begun = reset_on s (progress (call_line d n) Passed [] [])

  line_is : begun.line ≡ send_all s (call_line d n) reset_cycles
  unfolding reset_on is_passed
  line_is = refl

  ends_as : is_read_end (reset_end (call_line d n)).outcome ≡ true
  unfolding reset_end is_read_end
  ends_as = cases (ltb n 3) (λ u. rw u) (λ u. rw u)

  reset_heard : is_silent (reset_end (call_line d n)).outcome ≡ false
  unfolding reset_end is_silent
  reset_heard = cases (ltb n 3) (λ u. rw u) (λ u. rw u)

  pub reset_spends : n ≤ begun.line.left + 3
  unfolding end_of_reset reset_end reset_on is_passed
  reset_spends = omega (arith, ap (λ (e : End). e.left) (reset_ends s (call_line d n) refl refl))

  pub reset_unchanged : Unchanged s d.array d.history begun
  unfolding end_of_reset reset_end reset_on is_passed
  reset_unchanged =
      let ends = reset_ends s (call_line d n) refl refl in
      let outcome_is : begun.outcome ≡ (reset_end (call_line d n)).outcome = ap (λ (e : End). e.outcome) ends in
      let fine : is_read_end begun.outcome ≡ true = ap is_read_end outcome_is ∙ ends_as in
      record {
        sound = record {
          legal = reset_legal s (call_line d n) refl refl;
          known = read_known begun.outcome fine;
          unprotected = read_end_unprotected begun.outcome fine;
          used_up = λ c. ap (λ (e : End). e.left) ends ∙ reset_used_up (call_line d n) (sym (ap is_cut_off outcome_is) ∙ c);
          silent_by = λ z. absurd (false≢true (sym (ap is_silent outcome_is ∙ reset_heard) ∙ z));
          failed_by_fact = λ z. absurd (false≢true (sym (read_end_unfailed begun.outcome fine) ∙ z));
          called = λ a. reset_called s d n t begun.line begun.outcome line_is refl (read_passed begun.outcome fine a);
        };
        ends = fine;
        same_array = ap (λ (e : End). e.array) ends;
        same_history = ap (λ (e : End). e.history) ends;
      }
