-- What a fill leaves of a request's blocks: the pages that were meant, or those with bits raised. Assumes nothing.
use Prim.Native.Nat.{ℕ, zero, suc, ◌+◌, ◌*◌, ◌≤◌, ◌<◌}
use mathlib.Core.Bool.{Bool, true, false, cond, false≢true}
use mathlib.Core.List.{List, [], ◌∷◌}
use mathlib.Core.Logic.{inl, inr, ⊎_elim}
use mathlib.Core.Path.{◌≡◌, refl, sym, ap, subst, ◌∙◌}
use native.Mathlib.Nat.{mod-eq_of_lt, suc-mul}
use native.Mathlib.Numerals.{add-one}
use native.Mathlib.Omega.{arith}
use borrow.Table.Steps.{cases}
use borrow.Author.Tests.{eqb-true, eqb-false, ltb-true, ltb-false}
use lib.Bits.{and_mask}
use lib.Dec.{eqb, ltb}
use lib.ListN.{length, get_or, replicate}
use Rattle.geometry.specs.declared.Geometry.{Geometry}
use Rattle.geometry.specs.Sizes.{page_size, row_of}
use Rattle.geometry.proofs.SizeLaws.{row_below}
use Rattle.cells.specs.Bytes.{Bytes}
use Rattle.cells.specs.Cells.{programmed, weakened}
use Rattle.cells.proofs.CellLaws.{programmed-erased}
use Rattle.chip_array.specs.Device.{Setting}
use Rattle.bus_polling.specs.Outcomes.{is_passed, is_failed}
use Rattle.operations.specs.Ends.{Called}
use Rattle.pages.specs.Over.{Over, none, more}
use Rattle.pages.proofs.OverLaws.{over_refl, programmed-over}
use Rattle.copies.specs.Blocks.{block_in, page_in, main_in, formed}
use Rattle.progress.specs.Progress.{Progress, line_of, read_on}
use Rattle.fill.specs.Fill.{Copy, Source, copy_page, main_of, main_read, page_filled, pages_filled, filled, given, kept}
use Rattle.progress.specs.Steps.{erase_on, program_on}
use Rattle.bus_polling.proofs.OutcomeLaws.{passed_answered, passed_unfailed, read_end_unfailed, passed_read_end}
use Rattle.progress.proofs.StepLaws.{program_stopped}
use Rattle.progress.proofs.WordLaws.{read_keeps, erase_keeps, program_keeps}
use Rattle.fill.proofs.FillLaws.{fill_stopped}
use Rattle.damage.specs.Run.{NoneFailed, Unchanged, OthersSame, Programmed, Provides, from_caller, from_copy, Meant, Filled, page_on, Spent, read_most, program_most, page_most, erase_most, fill_most, table_fill_most, source_most}
use Rattle.damage.proofs.TraceLaws.{unfailed-none, none-unfailed}
use Rattle.damage.proofs.PlaceLaws.{page-erased}
use Rattle.damage.proofs.ReadLaws.{read_unchanged, read_spends, read_calm}
use Rattle.damage.proofs.EraseLaws.{erase_leaves}
use Rattle.damage.proofs.ProgramLaws.{program_leaves}

one_more : (n : ℕ) → 1 + n ≡ suc n
one_more n = omega arith

-- bytes FFh are over any bytes
pub over-erased : (ds : List ℕ) → Bytes ds → Over ds (replicate (length ds) 255)
over-erased [] b = none
over-erased (d ∷ ds) b = more (and_mask d 8 ∙ mod-eq_of_lt (b 0)) (b 0) (omega arith) (over-erased ds (λ i. b (suc i)))

-- no source costs more cycles than a kept page
pub source_most_lem : (g : Geometry) (from : Source) → source_most g from ≤ page_most g
unfolding source_most
source_most_lem g (given main) = omega arith
source_most_lem g (kept old form) = omega arith

module _ (s : Setting) (p : Progress) (block : ℕ) (below : block < s.geometry.blocks) (c : Copy) (source : ℕ → Source) (pages : ℕ → List ℕ)
    (meant : Meant s p.line.chip.array block c source pages) (mask_bytes : Bytes s.mask) (high : line_of p ≡ 0) where
  -- more cycles may be allowed
  weaker : {q : Progress} {n k j : ℕ} → k ≤ j → Filled s p q block pages n k → Filled s p q block pages n j
  weaker h r = record { sound = r.sound; others = r.others; done = r.done; ahead = r.ahead; in_order = r.in_order; damaged = r.damaged; spent = omega (arith, r.spent, h); same_line = r.same_line; failures = r.failures }

  over_blank : (i : ℕ) → i < s.geometry.pages → Over (pages i) (replicate (page_size s.geometry) 255)
  over_blank i h = subst (λ (n : ℕ). Over (pages i) (replicate n 255)) (meant.long i h) (over-erased (pages i) (meant.bytes i h))

  -- pages that are as they should be, and pages that are erased, are over what was meant
  pub all_over : (q : Progress) (n : ℕ) → ((i : ℕ) → i < n → page_on s q block i ≡ pages i) → ((i : ℕ) → n ≤ i → i < s.geometry.pages → page_on s q block i ≡ replicate (page_size s.geometry) 255)
      → (i : ℕ) → i < s.geometry.pages → Over (pages i) (page_on s q block i)
  all_over q n done ahead i h =
      cases (ltb i n)
      (λ t. subst (Over (pages i)) (sym (done i (ltb-true i n t))) (over_refl (pages i) (meant.bytes i h)))
      (λ t. subst (Over (pages i)) (sym (ahead i (ltb-false i n t) h)) (over_blank i h))

  -- the program of page n, from q, which has the block as it is after the first n pages
  module _ (q : Progress) (n : ℕ) (page_below : n < s.geometry.pages) (k : ℕ) (r : Filled s p q block pages n k) (t : is_passed q.outcome ≡ true) where
    abbrev next : Progress
    next = program_on s block n (pages n) q

    left : Programmed s q next block n (pages n)
    left =
        program_leaves s q block n (pages n) t
        (record {
          may = record { called = r.sound.called (passed_answered q.outcome t); block_below = below; page_below = page_below; in_order = r.in_order t; bytes_long = meant.long n page_below };
          high = r.same_line ∙ high;
        })

    others_next : OthersSame s p next block
    others_next b h x = left.others b h x ∙ r.others b h x

    here : page_on s q block n ≡ replicate (length (pages n)) 255
    here = r.ahead t n (omega arith) page_below ∙ ap (λ (k : ℕ). replicate k 255) (sym (meant.long n page_below))

    page_done : is_passed next.outcome ≡ true → page_on s next block n ≡ pages n
    page_done y = left.whole y ∙ ap (λ (x : List ℕ). programmed x (pages n)) here ∙ programmed-erased (pages n) (meant.bytes n page_below)

    done_next : is_passed next.outcome ≡ true → (i : ℕ) → i < suc n → page_on s next block i ≡ pages i
    done_next y i h =
        cases (eqb i n)
        (λ e. subst (λ (k : ℕ). page_on s next block k ≡ pages k) (sym (eqb-true i n e)) (page_done y))
        (λ e. let x = eqb-false i n e in left.other_pages i (omega (arith, h, page_below)) x ∙ r.done t i (omega (arith, h, x)))

    ahead_next : (i : ℕ) → suc n ≤ i → i < s.geometry.pages → page_on s next block i ≡ replicate (page_size s.geometry) 255
    ahead_next i h l = left.other_pages i l (λ e. omega (arith, e, h)) ∙ r.ahead t i (omega (arith, h)) l

    -- page n, where its program did not pass
    page_over : is_passed next.outcome ≡ false → Over (pages n) (page_on s next block n)
    page_over f =
        ⊎_elim
        (λ e. subst (Over (pages n)) (sym (e ∙ r.ahead t n (omega arith) page_below)) (over_blank n page_below))
        (λ e. subst (Over (pages n)) (sym (e ∙ ap (λ (x : List ℕ). programmed x (weakened (pages n) s.mask)) here)) (programmed-over (pages n) s.mask (meant.bytes n page_below) mask_bytes))
        (left.partly f)

    pub damage_next : is_passed next.outcome ≡ false → (i : ℕ) → i < s.geometry.pages → Over (pages i) (page_on s next block i)
    damage_next f i h =
        cases (eqb i n)
        (λ e. subst (λ (k : ℕ). Over (pages k) (page_on s next block k)) (sym (eqb-true i n e)) (page_over f))
        (λ e. subst (Over (pages i)) (sym (left.other_pages i h (eqb-false i n e))) (all_over q n (r.done t) (r.ahead t) i h))

    pub program_next : Filled s p next block pages (suc n) (k + program_most s.geometry)
    program_next =
        record {
          sound = left.sound;
          others = others_next;
          done = done_next;
          ahead = λ y. ahead_next;
          in_order = λ y. subst (λ (k : ℕ). get_or next.line.chip.history block 0 ≤ k) (add-one n) (left.in_order y);
          damaged = λ f. inr (inr (damage_next f));
          spent = omega (arith, r.spent, left.spent);
          same_line = program_keeps s block n (pages n) q ∙ r.same_line;
          failures = λ b.
              left.failures b ∙ ap (λ (x : Bool). cond x true (cond (eqb block b) (is_failed next.outcome) false)) (unfailed-none p q block (passed_unfailed q.outcome t) r.failures b);
        }

  -- a read in between changes nothing
  module _ (q : Progress) (n k : ℕ) (r : Filled s p q block pages n k) (t : is_passed q.outcome ≡ true) (q' : Progress) (u : Unchanged s q.line.chip.array q.line.chip.history q') (j : ℕ) (few : Spent q q' j) (calm : NoneFailed q q') (level : line_of q' ≡ line_of q) where
    same_page : (i : ℕ) → page_on s q' block i ≡ page_on s q block i
    same_page i = ap (λ (a : List ℕ). page_in s.geometry (block_in s.geometry a block) i) u.same_array

    after_read : Filled s p q' block pages n (k + j)
    after_read =
        record {
          sound = u.sound;
          others = λ b h x. ap (λ (a : List ℕ). block_in s.geometry a b) u.same_array ∙ r.others b h x;
          done = λ y i h. same_page i ∙ r.done t i h;
          ahead = λ y i h l. same_page i ∙ r.ahead t i h l;
          in_order = λ y. subst (λ (x : List ℕ). get_or x block 0 ≤ n) (sym u.same_history) (r.in_order t);
          damaged = λ f. inr (inr (all_over q' n (λ i h. same_page i ∙ r.done t i h) (λ i h l. same_page i ∙ r.ahead t i h l)));
          spent = omega (arith, r.spent, few);
          same_line = level ∙ r.same_line;
          failures = none-unfailed p q' block (read_end_unfailed q'.outcome u.ends) (λ b. calm b ∙ unfailed-none p q block (passed_unfailed q.outcome t) r.failures b);
        }

    after_stop : is_passed q'.outcome ≡ false → Filled s p q' block pages (suc n) (k + j)
    after_stop f =
        record {
          sound = u.sound;
          others = after_read.others;
          done = λ y. absurd (false≢true (sym f ∙ y));
          ahead = λ y. absurd (false≢true (sym f ∙ y));
          in_order = λ y. absurd (false≢true (sym f ∙ y));
          damaged = after_read.damaged;
          spent = after_read.spent;
          same_line = after_read.same_line;
          failures = after_read.failures;
        }

  -- page n, whatever its source
  module _ (q : Progress) (n : ℕ) (page_below : n < s.geometry.pages) (k : ℕ) (r : Filled s p q block pages n k) (t : is_passed q.outcome ≡ true) where
    still_called : Called s q.line
    still_called = r.sound.called (passed_answered q.outcome t)

    -- a page that is kept
    module _ (old : ℕ) (old_below : old < s.geometry.blocks) where
      abbrev fetched : Progress
      fetched = read_on s (row_of s.geometry old n) 0 s.geometry.main q

      so_far : Unchanged s q.line.chip.array q.line.chip.history q
      so_far = record { sound = r.sound; ends = passed_read_end q.outcome t; same_array = refl; same_history = refl }

      pub fetch_unchanged : Unchanged s q.line.chip.array q.line.chip.history fetched
      fetch_unchanged =
          read_unchanged s q.line.chip.array q.line.chip.history (row_of s.geometry old n) 0 s.geometry.main
          (row_below s.geometry still_called.is_valid old n old_below page_below)
          (omega (arith, still_called.is_valid.main_least)) (omega arith) q so_far

      fetch_spends : Spent q fetched (read_most s.geometry.main)
      fetch_spends =
          read_spends s q.line.chip.array q.line.chip.history (row_of s.geometry old n) 0 s.geometry.main
          (row_below s.geometry still_called.is_valid old n old_below page_below)
          (omega (arith, still_called.is_valid.main_least)) (omega arith) q so_far

      fetch_calm : NoneFailed q fetched
      fetch_calm =
          read_calm s q.line.chip.array q.line.chip.history (row_of s.geometry old n) 0 s.geometry.main
          (row_below s.geometry still_called.is_valid old n old_below page_below)
          (omega (arith, still_called.is_valid.main_least)) (omega arith) q so_far

      fetch_level : line_of fetched ≡ line_of q
      fetch_level = read_keeps s (row_of s.geometry old n) 0 s.geometry.main q

      pub fetch_leaves : Filled s p fetched block pages n (k + read_most s.geometry.main)
      fetch_leaves = after_read q n k r t fetched fetch_unchanged (read_most s.geometry.main) fetch_spends fetch_calm fetch_level

      kept_next : (bytes : List ℕ) → bytes ≡ pages n → Filled s p (program_on s block n bytes fetched) block pages (suc n) (k + page_most s.geometry)
      kept_next bytes e =
          cases (is_passed fetched.outcome)
          (λ y.
          subst (λ (x : List ℕ). Filled s p (program_on s block n x fetched) block pages (suc n) (k + page_most s.geometry)) (sym e)
          (weaker (omega arith) (program_next fetched n page_below (k + read_most s.geometry.main) fetch_leaves y)))
          (λ f.
          subst (λ (x : Progress). Filled s p x block pages (suc n) (k + page_most s.geometry)) (sym (program_stopped s block n bytes fetched f))
          (weaker (omega arith) (after_stop q n k r t fetched fetch_unchanged (read_most s.geometry.main) fetch_spends fetch_calm fetch_level f)))

    provided_next : (from : Source) (page : List ℕ) → Provides s.geometry p.line.chip.array block c n from page → page ≡ pages n → Filled s p (page_filled s block c n from q) block pages (suc n) (k + source_most s.geometry from)
    unfolding page_filled main_of main_read source_most
    provided_next from page (from_caller main) e =
        subst (λ (x : List ℕ). Filled s p (program_on s block n x q) block pages (suc n) (k + program_most s.geometry)) (sym e) (program_next q n page_below k r t)
    provided_next from page (from_copy old form old_below x) e =
        kept_next old old_below _ (ap (λ (row : List ℕ). copy_page s.geometry c n (formed form n (main_in s.geometry row n))) (r.others old old_below x) ∙ e)

    pub page_next : Filled s p (page_filled s block c n (source n) q) block pages (suc n) (k + source_most s.geometry (source n))
    page_next = provided_next (source n) (pages n) (meant.provides n page_below) refl

  -- the first n pages, from q right after the erase, where no page sends more than some number of cycles
  pub pages_leave : (each : ℕ) → ((i : ℕ) → i < s.geometry.pages → source_most s.geometry (source i) ≤ each)
      → (q : Progress) → Filled s p q block pages 0 erase_most → (n : ℕ) → n ≤ s.geometry.pages → Filled s p (pages_filled s block c source n q) block pages n (erase_most + n * each)
  unfolding pages_filled
  pages_leave each few q r zero h = weaker (omega arith) r
  pages_leave each few q r (suc n) h =
      let so_far = pages_filled s block c source n q in
      let less = pages_leave each few q r n (omega (arith, h)) in
      let more = suc-mul n each in
      cases (is_passed so_far.outcome)
      (λ t. weaker (omega (arith, more, few n (omega (arith, h)))) (page_next so_far n (omega (arith, h)) (erase_most + n * each) less t))
      (λ f. subst (λ (x : Progress). Filled s p x block pages (suc n) (erase_most + suc n * each)) (sym (still q n f)) (weaker (omega (arith, more)) (stopped so_far n less f)))
    where
      still : (q : Progress) (n : ℕ) → is_passed (pages_filled s block c source n q).outcome ≡ false → pages_filled s block c source (suc n) q ≡ pages_filled s block c source n q
      still q n f = ap (λ (k : ℕ). pages_filled s block c source k q) (sym (one_more n)) ∙ fill_stopped s block c source n q f 1

      stopped : (x : Progress) (n : ℕ) {k : ℕ} → Filled s p x block pages n k → is_passed x.outcome ≡ false → Filled s p x block pages (suc n) k
      stopped x n r f =
          record {
            sound = r.sound;
            others = r.others;
            done = λ y. absurd (false≢true (sym f ∙ y));
            ahead = λ y. absurd (false≢true (sym f ∙ y));
            in_order = λ y. absurd (false≢true (sym f ∙ y));
            damaged = r.damaged;
            spent = r.spent;
            same_line = r.same_line;
            failures = r.failures;
          }

  -- right after the erase
  pub erase_filled : is_passed p.outcome ≡ true → Called s p.line → Filled s p (erase_on s block p) block pages 0 erase_most
  erase_filled t called =
      let e = erase_leaves s p block below t called high in
      record {
        sound = e.sound;
        others = e.others;
        done = λ y i h. absurd (omega (arith, h));
        ahead = λ y i h l. ap (λ (row : List ℕ). page_in s.geometry row i) (e.whole y) ∙ page-erased s.geometry i l;
        in_order = e.in_order;
        damaged = λ f. ⊎_elim inl (λ x. inr (inl x)) (e.partly f);
        spent = e.spent;
        same_line = erase_keeps s block p;
        failures = e.failures;
      }

  -- the whole fill, from p
  fill_each : (each : ℕ) → ((i : ℕ) → i < s.geometry.pages → source_most s.geometry (source i) ≤ each)
      → is_passed p.outcome ≡ true → Called s p.line → Filled s p (filled s block c source p) block pages s.geometry.pages (erase_most + s.geometry.pages * each)
  fill_each each few t called = pages_leave each few (erase_on s block p) (erase_filled t called) s.geometry.pages (omega arith)

  -- whatever its sources
  pub fill_leaves : is_passed p.outcome ≡ true → Called s p.line → Filled s p (filled s block c source p) block pages s.geometry.pages (fill_most s.geometry)
  fill_leaves = fill_each (page_most s.geometry) (λ i h. source_most_lem s.geometry (source i))

  -- of a copy that keeps no page, as a table
  pub fill_given : ((i : ℕ) → i < s.geometry.pages → source_most s.geometry (source i) ≤ program_most s.geometry)
      → is_passed p.outcome ≡ true → Called s p.line → Filled s p (filled s block c source p) block pages s.geometry.pages (table_fill_most s.geometry)
  fill_given = fill_each (program_most s.geometry)
