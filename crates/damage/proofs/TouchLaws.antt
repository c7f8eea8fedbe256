-- The array operations that a fill starts, and the array that each of them finds. Assumes nothing.
use Prim.Native.Nat.{ℕ, zero, suc, ◌+◌, ◌*◌, ◌≤◌, ◌<◌}
use mathlib.Core.Bool.{Bool, true, false, cond}
use mathlib.Core.List.{List, [], ◌∷◌, ◌++◌, append_assoc}
use mathlib.Core.Logic.{◌⊎◌, inl, inr, ⊎_elim}
use mathlib.Core.Path.{◌≡◌, refl, sym, ap, subst, ◌∙◌}
use native.Mathlib.Nat.{add-zero}
use native.Mathlib.Omega.{arith}
use borrow.Table.Steps.{cases}
use borrow.Author.Tests.{eqb-true, eqb-false}
use lib.Dec.{eqb, leb}
use lib.ListN.{length, replicate}
use Rattle.geometry.specs.Sizes.{page_size, row_of}
use Rattle.geometry.proofs.SizeLaws.{row_below}
use Rattle.cells.specs.Bytes.{Bytes}
use Rattle.chip_array.specs.Device.{Setting}
use Rattle.chip_interface.specs.Interface.{read_confirm}
use Rattle.chip.specs.Chip.Cycle.{command}
use Rattle.bus.specs.Line.{Line, send_all, goes_on}
use Rattle.bus_sequences.specs.Cycles.{read_address}
use Rattle.bus_polling.specs.Outcomes.{is_passed, is_failed}
use Rattle.bus_polling.specs.declared.Outcome.{Outcome}
use Rattle.bus_polling.proofs.OutcomeLaws.{passed_answered, passed_unfailed, read_end_unfailed}
use Rattle.operations.specs.Ends.{Called, CanRead, CanProgram, confirmed_end, program_end, erase_end}
use Rattle.operations.specs.Trace.{ArrayOperation, started_by, read_starts, program_starts, erase_starts}
use Rattle.operations.proofs.ReadLaws.{read_starts_lem}
use Rattle.operations.proofs.ProgramLaws.{program_starts_lem}
use Rattle.operations.proofs.EraseLaws.{erase_starts_lem}
use Rattle.pages.specs.Over.{Over}
use Rattle.copies.specs.Blocks.{block_in, page_in, main_in, formed}
use Rattle.progress.specs.Progress.{Progress, line_of, read_on}
use Rattle.progress.specs.Steps.{erase_on, program_on}
use Rattle.progress.proofs.StepLaws.{program_stopped}
use Rattle.fill.specs.Fill.{Copy, Source, copy_page, main_of, main_read, page_filled, pages_filled, filled}
use Rattle.fill.proofs.FillLaws.{page-stopped, fill_stopped}
use Rattle.damage.specs.Run.{failed_in, Unchanged, Provides, from_caller, from_copy, Meant, Filled, Programmed, page_on, read_most, page_most, erase_most}
use Rattle.damage.specs.Touched.{Each, Some, first, Steady, Programs, Touch, TouchedBy, Since, Touched}
use Rattle.damage.proofs.TraceLaws.{failed_append, failed_one, cut-unfailed, read_unfailed, none_failed, steady_append, steady_one, steady_unfailed}
use Rattle.damage.proofs.EraseLaws.{erase_leaves, erase_started_fact, erase_outcome_is}
use Rattle.damage.proofs.ProgramLaws.{program_leaves, program_started_fact, program_unsent, program_outcome_is}
use Rattle.damage.proofs.FillLaws.{source_most_lem, all_over, damage_next, program_next, fetch_unchanged, fetch_leaves, pages_leave, erase_filled}
use Rattle.damage.proofs.EachLaws.{each_append, each_map, each_one, some_append_left, some_append_right}
use Rattle.bools.proofs.BoolLaws.{and_none}

abbrev pub Unfailed : ArrayOperation → Type 0
Unfailed o = is_failed o.answer ≡ false

-- a fill whose erase has passed, on its way from p to q: the operations that it started
pub record Underway (s : Setting) (p q : Progress) (block : ℕ) (pages : ℕ → List ℕ) : Type 0 where
  pub adds : List ArrayOperation
  pub started_is : q.started ≡ p.started ++ adds
  pub each : Each (TouchedBy s.geometry p.line.chip.array block pages) adds
  pub since : Since s q block pages adds
  pub steady : Steady adds
  pub failures : (b : ℕ) → failed_in b adds ≡ cond (eqb block b) (is_failed q.outcome) false
  pub unfailed : is_passed q.outcome ≡ true → Each Unfailed adds

-- a read starts none but reads
pub reads_only : (s : Setting) (l : Line) (row column : ℕ) → Each (λ o. o.kind ≡ 1) (read_starts s l row column)
unfolding started_by Each
reads_only s l row column =
    cases (goes_on (send_all s l (read_address row column ++ (command read_confirm ∷ [])))) (λ t. rw t (refl, tt)) (λ t. rw t tt)

-- a request that has started nothing but reads, and reads on
abbrev pub Reads : Progress → Type 0
Reads p = Each (λ o. o.kind ≡ 1) p.started

pub read_reads : (s : Setting) (row column n : ℕ) (p : Progress) → Reads p → Reads (read_on s row column n p)
unfolding read_on
read_reads s row column n p h =
    cases (is_passed p.outcome)
    (λ t. rw t (each_append (λ o. o.kind ≡ 1) p.started (read_starts s p.line row column) h (reads_only s p.line row column)))
    (λ t. rw t h)

-- none of which fails
pub reads-unfailed : (s : Setting) (l : Line) (row column n : ℕ) → CanRead s l row column n → Each (λ o. is_failed o.answer ≡ false) (read_starts s l row column)
reads-unfailed s l row column n can = subst (Each Unfailed) (sym (read_starts_lem s l row column n can)) (each_one Unfailed (leb l.left 6) _ (read_unfailed s l 6))

pub read_started_lem : (s : Setting) (row column n : ℕ) (q : Progress) → is_passed q.outcome ≡ true → (read_on s row column n q).started ≡ q.started ++ read_starts s q.line row column
unfolding read_on
read_started_lem s row column n q t = rw t

module _ (s : Setting) (p : Progress) (block : ℕ) (below : block < s.geometry.blocks) (c : Copy) (source : ℕ → Source) (pages : ℕ → List ℕ)
    (meant : Meant s p.line.chip.array block c source pages) (mask_bytes : Bytes s.mask) (high : line_of p ≡ 0) (called : Called s p.line) where
  abbrev Touching : ArrayOperation → Type 0
  Touching = TouchedBy s.geometry p.line.chip.array block pages

  -- the program of page n, from q, which has the block as it is after the first n pages
  module _ (q : Progress) (n : ℕ) (page_below : n < s.geometry.pages) (k : ℕ) (r : Filled s p q block pages n k) (t : is_passed q.outcome ≡ true) (x : Underway s p q block pages) where
    abbrev next : Progress
    next = program_on s block n (pages n) q

    can : CanProgram s q.line block n (pages n)
    can =
        record {
          may = record { called = r.sound.called (passed_answered q.outcome t); block_below = below; page_below = page_below; in_order = r.in_order t; bytes_long = meant.long n page_below };
          high = r.same_line ∙ high;
        }

    left : Programmed s q next block n (pages n)
    left = program_leaves s q block n (pages n) t can

    -- the operation that it starts
    abbrev own : ArrayOperation
    own = record { kind = 2; block = block; page = n; bytes = pages n; before = q.line.chip.array; answer = (program_end s q.line block n (pages n)).outcome }

    abbrev ops : List ArrayOperation
    ops = program_starts s q.line (row_of s.geometry block n) (pages n)

    blank : page_on s q block n ≡ replicate (page_size s.geometry) 255
    blank = r.ahead t n (omega arith) page_below

    touch : Touch s.geometry p.line.chip.array block pages own
    touch =
        record {
          block_is = refl;
          long = can.may.called.array_long ∙ sym called.array_long;
          others = r.others;
          here = inr (record { over = all_over s p block below c source pages meant mask_bytes high q n (r.done t) (r.ahead t); page = n; page_below = page_below; blank = blank });
          program = λ e. (page_below, refl);
        }

    starts : ops ≡ cond (leb q.line.left (6 + length (pages n))) [] (own ∷ [])
    starts = program_starts_lem s q.line block n (pages n) can

    ops_each : Each Touching ops
    ops_each = subst (Each Touching) (sym starts) (each_one Touching (leb q.line.left (6 + length (pages n))) own (inr touch))

    -- it fails as the program does
    ops_failed : (b : ℕ) → failed_in b ops ≡ cond (eqb block b) (is_failed next.outcome) false
    unfolding program_end confirmed_end
    ops_failed b =
        ap (failed_in b) starts ∙ failed_one b own (leb q.line.left (6 + length (pages n))) (cut-unfailed s q.line 2 (6 + length (pages n)))
        ∙ ap (λ (o : Outcome). cond (eqb block b) (is_failed o) false) (sym (program_outcome_is s q block n (pages n) t can))

    ops_unfailed : is_passed next.outcome ≡ true → Each Unfailed ops
    ops_unfailed y =
        subst (Each Unfailed) (sym starts)
        (each_one Unfailed (leb q.line.left (6 + length (pages n))) own (sym (ap is_failed (program_outcome_is s q block n (pages n) t can)) ∙ passed_unfailed next.outcome y))

    over_next : (i : ℕ) → i < s.geometry.pages → Over (pages i) (page_on s next block i)
    over_next =
        let after = program_next s p block below c source pages meant mask_bytes high q n page_below k r t in
        cases (is_passed next.outcome)
        (λ y. all_over s p block below c source pages meant mask_bytes high next (suc n) (after.done y) (after.ahead y))
        (λ f. damage_next s p block below c source pages meant mask_bytes high q n page_below k r t f)

    -- page n: its program was started, or nothing changed
    sent_here : Some (Programs block n (pages n)) ops ⊎ (page_on s next block n ≡ replicate (page_size s.geometry) 255)
    sent_here =
        cases (leb q.line.left (6 + length (pages n)))
        (λ cut. inr (ap (λ (a : List ℕ). page_in s.geometry (block_in s.geometry a block) n) (program_unsent s q block n (pages n) t can cut) ∙ blank))
        (λ sent.
        let one : ops ≡ own ∷ [] = starts ∙ rw sent in
        inl (subst (Some (Programs block n (pages n))) (sym one) (first (record { kind_is = refl; block_is = refl; page_is = refl; bytes_are = refl }))))

    sent_next : (i : ℕ) → i < s.geometry.pages → Some (Programs block i (pages i)) (x.adds ++ ops) ⊎ (page_on s next block i ≡ replicate (page_size s.geometry) 255)
    sent_next i h =
        cases (eqb i n)
        (λ e.
        subst (λ (j : ℕ). Some (Programs block j (pages j)) (x.adds ++ ops) ⊎ (page_on s next block j ≡ replicate (page_size s.geometry) 255)) (sym (eqb-true i n e))
        (⊎_elim (λ y. inl (some_append_right x.adds y)) inr sent_here))
        (λ e. ⊎_elim (λ y. inl (some_append_left ops y)) (λ y. inr (left.other_pages i h (eqb-false i n e) ∙ y)) (x.since.sent i h))

    program_touches : Underway s p next block pages
    program_touches =
        record {
          adds = x.adds ++ ops;
          started_is = program_started_fact s q block n (pages n) t can ∙ ap (λ (os : List ArrayOperation). os ++ ops) x.started_is ∙ append_assoc p.started x.adds ops;
          each = each_append Touching x.adds ops x.each ops_each;
          since = record { over = over_next; sent = sent_next };
          steady = steady_append x.adds ops (x.unfailed t) (subst Steady (sym starts) (steady_one (leb q.line.left (6 + length (pages n))) own));
          failures = λ b. failed_append b x.adds ops ∙ ap (λ (d : Bool). cond d true (failed_in b ops)) (none_failed b x.adds (x.unfailed t)) ∙ ops_failed b;
          unfailed = λ y. each_append Unfailed x.adds ops (x.unfailed t) (ops_unfailed y);
        }

  -- a read in between
  module _ (q : Progress) (t : is_passed q.outcome ≡ true) (x : Underway s p q block pages) (row column m : ℕ) where
    abbrev fetched : Progress
    fetched = read_on s row column m q

    abbrev reads : List ArrayOperation
    reads = read_starts s q.line row column

    read_touches : CanRead s q.line row column m → Unchanged s q.line.chip.array q.line.chip.history fetched → Underway s p fetched block pages
    read_touches can u =
        let same = u.same_array in
        let none : Each Unfailed (x.adds ++ reads) = each_append Unfailed x.adds reads (x.unfailed t) (reads-unfailed s q.line row column m can) in
        record {
          adds = x.adds ++ reads;
          started_is = read_started_lem s row column m q t ∙ ap (λ (os : List ArrayOperation). os ++ reads) x.started_is ∙ append_assoc p.started x.adds reads;
          each = each_append Touching x.adds reads x.each (each_map (λ o. o.kind ≡ 1) Touching (λ o e. inl e) reads (reads_only s q.line row column));
          since = record {
            over = λ i h. subst (λ (a : List ℕ). Over (pages i) (page_in s.geometry (block_in s.geometry a block) i)) (sym same) (x.since.over i h);
            sent = λ i h. ⊎_elim (λ y. inl (some_append_left reads y)) (λ y. inr (ap (λ (a : List ℕ). page_in s.geometry (block_in s.geometry a block) i) same ∙ y)) (x.since.sent i h);
          };
          steady = steady_unfailed (x.adds ++ reads) none;
          failures = λ b. none_failed b (x.adds ++ reads) none ∙ sym (ap (λ (d : Bool). cond (eqb block b) d false) (read_end_unfailed fetched.outcome u.ends) ∙ and_none (eqb block b));
          unfailed = λ y. none;
        }

  -- page n, whatever its source
  module _ (q : Progress) (n : ℕ) (page_below : n < s.geometry.pages) (k : ℕ) (r : Filled s p q block pages n k) (t : is_passed q.outcome ≡ true) (x : Underway s p q block pages) where
    module _ (old : ℕ) (old_below : old < s.geometry.blocks) where
      abbrev fetch : Progress
      fetch = read_on s (row_of s.geometry old n) 0 s.geometry.main q

      can_fetch : CanRead s q.line (row_of s.geometry old n) 0 s.geometry.main
      can_fetch =
          let still = r.sound.called (passed_answered q.outcome t) in
          record { called = still; row_below = row_below s.geometry still.is_valid old n old_below page_below; column_below = omega (arith, still.is_valid.main_least); within = omega arith }

      fetch_touches : Underway s p fetch block pages
      fetch_touches = read_touches q t x (row_of s.geometry old n) 0 s.geometry.main can_fetch (fetch_unchanged s p block below c source pages meant mask_bytes high q n page_below k r t old old_below)

      kept_touches : (bytes : List ℕ) → bytes ≡ pages n → Underway s p (program_on s block n bytes fetch) block pages
      kept_touches bytes e =
          cases (is_passed fetch.outcome)
          (λ y.
          subst (λ (z : List ℕ). Underway s p (program_on s block n z fetch) block pages) (sym e)
          (program_touches fetch n page_below (k + read_most s.geometry.main) (fetch_leaves s p block below c source pages meant mask_bytes high q n page_below k r t old old_below) y fetch_touches))
          (λ f. subst (λ (z : Progress). Underway s p z block pages) (sym (program_stopped s block n bytes fetch f)) fetch_touches)

    pub provided_touches : (from : Source) (page : List ℕ) → Provides s.geometry p.line.chip.array block c n from page → page ≡ pages n → Underway s p (page_filled s block c n from q) block pages
    unfolding page_filled main_of main_read
    provided_touches from page (from_caller main) e =
        subst (λ (z : List ℕ). Underway s p (program_on s block n z q) block pages) (sym e) (program_touches q n page_below k r t x)
    provided_touches from page (from_copy old form old_below other) e =
        kept_touches old old_below _ (ap (λ (row : List ℕ). copy_page s.geometry c n (formed form n (main_in s.geometry row n))) (r.others old old_below other) ∙ e)

  -- the first n pages
  pages_touch : (q : Progress) → Filled s p q block pages 0 erase_most → Underway s p q block pages → (n : ℕ) → n ≤ s.geometry.pages → Underway s p (pages_filled s block c source n q) block pages
  unfolding pages_filled
  pages_touch q r x zero h = x
  pages_touch q r x (suc n) h =
      let so_far = pages_filled s block c source n q in
      let less = pages_touch q r x n (omega (arith, h)) in
      let at_n = pages_leave s p block below c source pages meant mask_bytes high (page_most s.geometry) (λ i l. source_most_lem s.geometry (source i)) q r n (omega (arith, h)) in
      cases (is_passed so_far.outcome)
      (λ t. provided_touches so_far n (omega (arith, h)) (erase_most + n * page_most s.geometry) at_n t less (source n) (pages n) (meant.provides n (omega (arith, h))) refl)
      (λ f. subst (λ (z : Progress). Underway s p z block pages) (sym (page-stopped s block c n (source n) so_far f)) less)

  -- the erase, from p
  module _ (t : is_passed p.outcome ≡ true) where
    abbrev erased : Progress
    erased = erase_on s block p

    abbrev begun : List ArrayOperation
    begun = erase_starts s p.line (row_of s.geometry block 0)

    abbrev erasing : ArrayOperation
    erasing = record { kind = 3; block = block; page = 0; bytes = []; before = p.line.chip.array; answer = (erase_end s p.line block).outcome }

    begun_is : begun ≡ cond (leb p.line.left 4) [] (erasing ∷ [])
    begun_is = erase_starts_lem s p.line block (record { may = record { called = called; block_below = below }; high = high })

    erase_touch : Touch s.geometry p.line.chip.array block pages erasing
    erase_touch = record { block_is = refl; long = refl; others = λ b h e. refl; here = inl refl; program = λ e. absurd (omega (arith, e)) }

    begun_each : Each Touching begun
    begun_each = subst (Each Touching) (sym begun_is) (each_one Touching (leb p.line.left 4) erasing (inr erase_touch))

    begun_steady : Steady begun
    begun_steady = subst Steady (sym begun_is) (steady_one (leb p.line.left 4) erasing)

    begun_failed : (b : ℕ) → failed_in b begun ≡ cond (eqb block b) (is_failed erased.outcome) false
    unfolding erase_end confirmed_end
    begun_failed b =
        ap (failed_in b) begun_is ∙ failed_one b erasing (leb p.line.left 4) (cut-unfailed s p.line 3 4)
        ∙ ap (λ (o : Outcome). cond (eqb block b) (is_failed o) false) (sym (erase_outcome_is s p block below t called high))

    begun_unfailed : is_passed erased.outcome ≡ true → Each Unfailed begun
    begun_unfailed y =
        subst (Each Unfailed) (sym begun_is)
        (each_one Unfailed (leb p.line.left 4) erasing (sym (ap is_failed (erase_outcome_is s p block below t called high)) ∙ passed_unfailed erased.outcome y))

    no_program : Each (λ o. o.kind ≡ 2 → ⊥) begun
    no_program = subst (Each (λ o. o.kind ≡ 2 → ⊥)) (sym begun_is) (each_one (λ o. o.kind ≡ 2 → ⊥) (leb p.line.left 4) erasing (λ e. omega (arith, e)))

    pub after_erase_fact : is_passed erased.outcome ≡ true → Underway s p erased block pages
    after_erase_fact y =
        let r = erase_filled s p block below c source pages meant mask_bytes high t called in
        record {
          adds = begun;
          started_is = erase_started_fact s p block below t called high;
          each = begun_each;
          since = record {
            over = all_over s p block below c source pages meant mask_bytes high erased 0 (r.done y) (r.ahead y);
            sent = λ i h. inr (r.ahead y i (omega arith) h);
          };
          steady = begun_steady;
          failures = begun_failed;
          unfailed = begun_unfailed;
        }

    pub erase_unpassed : is_passed erased.outcome ≡ false → Touched s p erased block pages
    erase_unpassed f =
        record {
          adds = begun;
          started_is = erase_started_fact s p block below t called high;
          each = begun_each;
          here = inl (record { unpassed = f; block_was = (erase_leaves s p block below t called high).partly f; no_program = no_program });
          steady = begun_steady;
          failures = begun_failed;
        }

    -- an erase that passed has begun the fill; one that did not is the whole of it
    pub erase_begins : ((is_passed erased.outcome ≡ true) × Underway s p erased block pages) ⊎ ((is_passed erased.outcome ≡ false) × Touched s p erased block pages)
    erase_begins = cases (is_passed erased.outcome) (λ y. inl (y, after_erase_fact y)) (λ f. inr (f, erase_unpassed f))

    touches : Touched s p (filled s block c source p) block pages
    unfolding pages_filled
    touches =
        cases (is_passed erased.outcome)
        (λ y.
        let x = pages_touch erased (erase_filled s p block below c source pages meant mask_bytes high t called) (after_erase_fact y) s.geometry.pages (omega arith) in
        record { adds = x.adds; started_is = x.started_is; each = x.each; here = inr x.since; steady = x.steady; failures = x.failures })
        (λ f. subst (λ (z : Progress). Touched s p z block pages) (sym (still f)) (erase_unpassed f))
      where
        still : is_passed erased.outcome ≡ false → filled s block c source p ≡ erased
        still f = ap (λ (k : ℕ). pages_filled s block c source k erased) (sym (add-zero s.geometry.pages)) ∙ fill_stopped s block c source 0 erased f s.geometry.pages

-- the operations of a whole fill, from p
pub fill_touches : (s : Setting) (p : Progress) (block : ℕ) → block < s.geometry.blocks → (c : Copy) (source : ℕ → Source) (pages : ℕ → List ℕ)
    → Meant s p.line.chip.array block c source pages → Bytes s.mask → line_of p ≡ 0 → is_passed p.outcome ≡ true → Called s p.line → Touched s p (filled s block c source p) block pages
fill_touches s p block below c source pages meant mask_bytes high t called = touches s p block below c source pages meant mask_bytes high called t
