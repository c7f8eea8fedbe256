-- The quick scan of a block: where it ends, and what it tells of the block. Assumes nothing.
use Prim.Native.Nat.{ℕ, zero, suc, ◌+◌, ◌-◌, ◌≤◌}
use mathlib.Core.Bool.{Bool, true, false, cond, false≢true}
use mathlib.Core.List.{List}
use mathlib.Core.Path.{◌≡◌, refl, sym, ap, ap₂, subst, ◌∙◌}
use native.Mathlib.Nat.{add-zero}
use native.Mathlib.Omega.{arith}
use borrow.Table.Steps.{cases}
use Rattle.geometry.specs.declared.Geometry.{Geometry}
use Rattle.cells.specs.Part.{put}
use Rattle.chip_array.specs.Device.{Setting}
use Rattle.bus.specs.Line.{Line}
use Rattle.bus_polling.specs.Outcomes.{is_passed}
use Rattle.bus_polling.specs.declared.Outcome.{Outcome}
use Rattle.bus_polling.specs.declared.Outcome.TheVariants.{Passed}
use Rattle.chip.specs.Chip.{Cycle}
use Rattle.operations.specs.Ends.{Called}
use Rattle.operations.specs.Trace.{ArrayOperation}
use Rattle.pages.specs.Layout.{whole}
use Rattle.copies.specs.Blocks.{block_in, page_in, main_in, mark_byte, whole_in, is_complete}
use Rattle.copies.specs.Quick.{last_page, ends_whole}
use Rattle.copies.specs.Table.{bitmap_of, layout_to, own_count, right_page, right_to, right_with}
use Rattle.copies.proofs.QuickLaws.{complete_ends}
use Rattle.scan_summary.specs.Depth.{summary_by}
use Rattle.scan_summary.specs.Quick.{marking, ends_summed, middle_summed, quick_summed}
use Rattle.scan_summary.specs.Summary.{blank_summary, stepped, summed}
use Rattle.scan_summary.specs.declared.Depth.{Depth}
use Rattle.scan_summary.specs.declared.Depth.TheVariants.{Full, Quick}
use Rattle.scan_summary.specs.declared.Summary.{Summary}
use Rattle.scan_summary.proofs.VisitLaws.{all_to, visited, any_order}
use Rattle.progress.specs.Progress.{Progress, progress}
use Rattle.progress.proofs.ReadOnLaws.{read_stopped}
use Rattle.scan_block.specs.Gathered.{Gathered, gathered, gathered_from, Ran, PagesScanned}
use Rattle.scan_block.specs.Mark.{MarkRead}
use Rattle.scan_block.specs.Pages.{pages_from, pages_read}
use Rattle.scan_block.proofs.ScanLaws.{none_read, bits_first, bits_later}
use Rattle.copies.proofs.CarriedLaws.{layout_one, layout_next}
use Rattle.scan_quick.specs.BlockRead.{page_read, mark_read, ends_read, quick_read, block_read, MarkScanned, BlockScanned}
use Rattle.scan_quick.proofs.RanLaws.{ran_then, ran_same, passed_before, one_page}

-- one page alone
module _ (g : Geometry) (block : List ℕ) where
  one_summary : (first : ℕ) (x : Gathered) → (gathered_from g block first 1 x).summary ≡ stepped g.main first (page_in g block first) x.summary
  unfolding gathered_from
  one_summary first x = ap (λ (i : ℕ). stepped g.main i (page_in g block i) x.summary) (add-zero first)

  one_right : (first : ℕ) (x : Gathered) → (gathered_from g block first 1 x).right ≡ right_with g first (page_in g block first) x.right
  unfolding gathered_from
  one_right first x = ap (λ (i : ℕ). right_with g i (page_in g block i) x.right) (add-zero first)

  one_buffer : (first : ℕ) (x : Gathered) → (gathered_from g block first 1 x).page ≡ page_in g block first
  unfolding gathered_from
  one_buffer first x = ap (page_in g block) (add-zero first)

  -- pages 1 to n after the ends
  middle_summary : (n : ℕ) (x : Gathered) → x.summary ≡ ends_summed g block → (gathered_from g block 1 n x).summary ≡ middle_summed g block n
  unfolding gathered_from middle_summed
  middle_summary zero x e = e
  middle_summary (suc n) x e =
      let k : 1 + n ≡ suc n = omega arith in
      ap₂ (λ (i : ℕ) (s : Summary). stepped g.main i (page_in g block i) s) k (middle_summary n x e)

  -- the test for a table
  abbrev test : ℕ → Bool
  test i = right_page g i (page_in g block i)

  -- and for the number of logical blocks named in page 0
  abbrev own : ℕ → Bool
  own i = right_page (own_count g block) i (page_in g block i)

  abbrev layout_by : ℕ → ℕ → ℕ
  layout_by last n = cond (visited test last n) 1 (cond (visited own last n) 2 0)

  right_all : (n : ℕ) → right_to g block n ≡ all_to test n
  unfolding right_to all_to
  right_all zero = refl
  right_all (suc n) = ap (λ (b : Bool). cond (test n) b false) (right_all n)

  own_all : (n : ℕ) → right_to (own_count g block) block n ≡ all_to own n
  unfolding right_to all_to
  own_all zero = refl
  own_all (suc n) = ap (λ (b : Bool). cond (own n) b false) (own_all n)

  middle_right : (last n : ℕ) (x : Gathered) → x.right ≡ layout_by last 0 → (gathered_from g block 1 n x).right ≡ layout_by last n
  unfolding gathered_from visited
  middle_right last zero x e = e
  middle_right last (suc n) x e =
      let k : 1 + n ≡ suc n = omega arith in
      ap₂ (λ (i r : ℕ). right_with g i (page_in g block i) r) k (middle_right last n x e) ∙ layout_one g block (suc n) (λ z. omega (arith, z)) (visited test last n) (visited own last n)

  all_right : 3 ≤ g.pages → (x : Gathered) → x.right ≡ layout_by (last_page g) 0 → (gathered_from g block 1 (g.pages - 2) x).right ≡ layout_to g block g.pages
  all_right three x e =
      middle_right (last_page g) (g.pages - 2) x e
      ∙ ap₂ (λ (b c : Bool). cond b 1 (cond c 2 0)) (any_order test g.pages three ∙ sym (right_all g.pages)) (any_order own g.pages three ∙ sym (own_all g.pages))

-- a scan that has not passed reads no mark byte
mark_stopped : (s : Setting) (block : ℕ) (p : Progress) → is_passed p.outcome ≡ false → mark_read s block p ≡ p
mark_stopped s block p f = read_stopped s _ _ 1 p f

pub mark_none : (s : Setting) (l : Line) (o : Outcome) (block : ℕ) (x : Summary) (right : ℕ) → is_passed o ≡ false → MarkScanned s l l o o block x x right right
mark_none s l o block x right f =
    record {
      ran = record {
        line_is = λ cs os. sym (ap (λ (p : Progress). p.line) (mark_stopped s block (progress l o cs os) f));
        outcome_is = λ cs os. sym (ap (λ (p : Progress). p.outcome) (mark_stopped s block (progress l o cs os) f));
        same_array = refl;
        same_history = refl;
        next = λ t. absurd (false≢true (sym f ∙ t));
      };
      summary_is = λ t. absurd (false≢true (sym f ∙ t));
      same_right = refl;
    }

pub mark_scanned : (s : Setting) (l m : Line) (o e : Outcome) (block byte : ℕ) (x y : Summary) (right : ℕ) → o ≡ Passed → MarkRead s l m e block 1 byte → y ≡ marking byte x → MarkScanned s l m o e block x y right right
mark_scanned s l m o e block byte x y right w d z =
    subst (λ (k : Outcome). MarkScanned s l m k e block x y right right) (sym w)
    (record {
      ran = record { line_is = d.line_is; outcome_is = d.outcome_is; same_array = d.same_array; same_history = d.same_history; next = d.next };
      summary_is = λ t. z ∙ ap (λ (k : ℕ). marking k x) (d.byte_is t);
      same_right = refl;
    })

-- the first page, the last page and the mark byte of page 1 were read
module _ (s : Setting) (block : ℕ) (three : 3 ≤ s.geometry.pages) (l m₁ m₂ m₃ : Line) (o₁ o₂ o₃ : Outcome) (before first last : List ℕ) (x₁ x₂ x₃ : Summary) (r₁ r₂ r₃ : ℕ) (b₁ b₂ : List ℕ) (buffer : List ℕ) (x₀ : Summary) (blank : x₀ ≡ blank_summary)
    (a : PagesScanned s l m₁ Passed o₁ block 0 1 (gathered x₀ 1 before buffer) (gathered x₁ r₁ b₁ first))
    (b : PagesScanned s m₁ m₂ o₁ o₂ block (last_page s.geometry) 1 (gathered x₁ r₁ b₁ first) (gathered x₂ r₂ b₂ last))
    (c : MarkScanned s m₂ m₃ o₂ o₃ block x₂ x₃ r₂ r₃) where
  abbrev g : Geometry
  g = s.geometry

  abbrev row : List ℕ
  row = block_in g l.chip.array block

  ends_ran : Ran s (ends_read s block) l m₃ Passed o₃
  unfolding ends_read
  ends_ran =
      let one = ran_same s (pages_from s block 0 1) (page_read s block 0) l m₁ Passed o₁ (λ p e. one_page s block 0 p) a.ran in
      let two = ran_same s (pages_from s block (last_page g) 1) (page_read s block (last_page g)) m₁ m₂ o₁ o₂ (λ p e. one_page s block (last_page g) p) b.ran in
      ran_then s (λ p. page_read s block (last_page g) (page_read s block 0 p)) (mark_read s block) l m₂ m₃ Passed o₂ o₃
      (ran_then s (page_read s block 0) (page_read s block (last_page g)) l m₁ m₂ Passed o₁ o₂ one two) c.ran

  two_passed : is_passed o₃ ≡ true → is_passed o₂ ≡ true
  two_passed = passed_before s (mark_read s block) (mark_stopped s block) m₂ m₃ o₂ o₃ c.ran

  one_passed : is_passed o₂ ≡ true → is_passed o₁ ≡ true
  one_passed = passed_before s (pages_from s block (last_page g) 1) (none_read s block (last_page g) 1) m₁ m₂ o₁ o₂ b.ran

  -- both pages are those of the block
  first_gives : is_passed o₁ ≡ true → gathered x₁ r₁ b₁ first ≡ gathered_from g row 0 1 (gathered x₀ 1 before buffer)
  first_gives t = a.gives t

  last_gives : is_passed o₂ ≡ true → gathered x₂ r₂ b₂ last ≡ gathered_from g row (last_page g) 1 (gathered x₁ r₁ b₁ first)
  last_gives t =
      b.gives t ∙ ap (λ (y : List ℕ). gathered_from g (block_in g y block) (last_page g) 1 (gathered x₁ r₁ b₁ first)) a.ran.same_array

  first_whole : is_passed o₃ ≡ true → whole g.main first ≡ whole_in g row 0
  first_whole t = ap (λ (y : Gathered). whole g.main y.page) (first_gives (one_passed (two_passed t))) ∙ ap (whole g.main) (one_buffer g row 0 (gathered x₀ 1 before buffer))

  last_whole : is_passed o₃ ≡ true → whole g.main last ≡ whole_in g row (last_page g)
  last_whole t = ap (λ (y : Gathered). whole g.main y.page) (last_gives (two_passed t)) ∙ ap (whole g.main) (one_buffer g row (last_page g) (gathered x₁ r₁ b₁ first))

  ends_summary : is_passed o₃ ≡ true → x₃ ≡ ends_summed g row
  unfolding ends_summed
  ends_summary t =
      let u = two_passed t in
      let one : x₁ ≡ stepped g.main 0 (page_in g row 0) blank_summary = ap (λ (y : Gathered). y.summary) (first_gives (one_passed u)) ∙ one_summary g row 0 (gathered x₀ 1 before buffer) ∙ ap (stepped g.main 0 (page_in g row 0)) blank in
      let two : x₂ ≡ stepped g.main (last_page g) (page_in g row (last_page g)) x₁ = ap (λ (y : Gathered). y.summary) (last_gives u) ∙ one_summary g row (last_page g) (gathered x₁ r₁ b₁ first) in
      c.summary_is t
      ∙ ap₂ (λ (y : List ℕ) (z : Summary). marking (mark_byte g (block_in g y block) 1) z) (b.ran.same_array ∙ a.ran.same_array) (two ∙ ap (stepped g.main (last_page g) (page_in g row (last_page g))) one)

  ends_right : is_passed o₃ ≡ true → r₃ ≡ layout_by g row (last_page g) 0
  unfolding visited right_to
  ends_right t =
      let u = two_passed t in
      let one : r₁ ≡ cond (cond (test g row 0) true false) 1 (cond (cond (own g row 0) true false) 2 0) =
      ap (λ (y : Gathered). y.right) (first_gives (one_passed u)) ∙ one_right g row 0 (gathered x₀ 1 before buffer) ∙ layout_next g row 0 in
      c.same_right
      ∙ ap (λ (y : Gathered). y.right) (last_gives u)
      ∙ one_right g row (last_page g) (gathered x₁ r₁ b₁ first)
      ∙ ap (right_with g (last_page g) (page_in g row (last_page g))) one
      ∙ layout_one g row (last_page g) (λ z. omega (arith, z, three)) (cond (test g row 0) true false) (cond (own g row 0) true false)

  ends_bits : is_passed o₃ ≡ true → b₂ ≡ put 0 (bitmap_of g.blocks (main_in g row 0)) before
  ends_bits t =
      let u = two_passed t in
      ap (λ (y : Gathered). y.bits) (last_gives u)
      ∙ bits_later g row (last_page g) 1 (gathered x₁ r₁ b₁ first) (omega (arith, three))
      ∙ ap (λ (y : Gathered). y.bits) (first_gives (one_passed u))
      ∙ bits_first g row 0 (gathered x₀ 1 before buffer)

  -- what is read where the ends are not both whole, and where they are
  short_is : (is_passed o₃ ≡ true → ends_whole g row ≡ false) → (p : Progress) → p.line ≡ l → (ends_read s block p).outcome ≡ o₃ → ends_read s block p ≡ quick_read s block p
  unfolding quick_read
  short_is w p e q =
      let same : ends_whole g (block_in g p.line.chip.array block) ≡ ends_whole g row = ap (λ (y : Line). ends_whole g (block_in g y.chip.array block)) e in
      cases (is_passed o₃)
      (λ t. rw (same, w t))
      (λ f.
      let none = none_read s block 1 (g.pages - 2) (ends_read s block p) (ap is_passed q ∙ f) in
      cases (ends_whole g row) (λ y. rw (same, y) (sym none)) (λ y. rw (same, y)))

  long_is : (is_passed o₃ ≡ true → ends_whole g row ≡ true) → (p : Progress) → p.line ≡ l → (ends_read s block p).outcome ≡ o₃ → pages_from s block 1 (g.pages - 2) (ends_read s block p) ≡ quick_read s block p
  unfolding quick_read
  long_is w p e q =
      let same : ends_whole g (block_in g p.line.chip.array block) ≡ ends_whole g row = ap (λ (y : Line). ends_whole g (block_in g y.chip.array block)) e in
      cases (is_passed o₃)
      (λ t. rw (same, w t))
      (λ f.
      let none = none_read s block 1 (g.pages - 2) (ends_read s block p) (ap is_passed q ∙ f) in
      cases (ends_whole g row) (λ y. rw (same, y)) (λ y. rw (same, y) none))

  not_whole : ends_whole g row ≡ false → is_complete g row ≡ true → ⊥
  not_whole f t = false≢true (sym f ∙ complete_ends g (omega (arith, three)) row t)

  quick_short : (is_passed o₃ ≡ true → ends_whole g row ≡ false) → BlockScanned Quick s l m₃ o₃ block x₃ r₃ before b₂
  unfolding block_read summary_by quick_summed
  quick_short w =
      record {
        ran = record {
          line_is = λ cs os. ends_ran.line_is cs os ∙ ap (λ (p : Progress). p.line) (short_is w (progress l Passed cs os) refl (sym (ends_ran.outcome_is cs os)));
          outcome_is = λ cs os. ends_ran.outcome_is cs os ∙ ap (λ (p : Progress). p.outcome) (short_is w (progress l Passed cs os) refl (sym (ends_ran.outcome_is cs os)));
          same_array = ends_ran.same_array;
          same_history = ends_ran.same_history;
          next = ends_ran.next;
        };
        summary_is = λ t. ends_summary t ∙ rw (w t);
        right_is = λ t full. absurd (not_whole (w t) full);
        bits_are = ends_bits;
      }

  -- by the bytes in the page buffer after each
  pub quick_first : whole g.main first ≡ false → BlockScanned Quick s l m₃ o₃ block x₃ r₃ before b₂
  unfolding ends_whole
  quick_first f = quick_short (λ t. rw (sym (first_whole t) ∙ f))

  pub quick_last_lem : whole g.main last ≡ false → BlockScanned Quick s l m₃ o₃ block x₃ r₃ before b₂
  unfolding ends_whole
  quick_last_lem f =
      quick_short (λ t. cases (whole_in g row 0) (λ y. rw (y, sym (last_whole t) ∙ f)) (λ y. rw y))

  -- both are whole, and the other pages were read too
  module _ (begins : whole g.main first ≡ true) (ends : whole g.main last ≡ true) (m₄ : Line) (o₄ : Outcome) (x₄ : Summary) (r₄ : ℕ) (b₄ page : List ℕ)
      (d : PagesScanned s m₃ m₄ o₃ o₄ block 1 (g.pages - 2) (gathered x₃ r₃ b₂ last) (gathered x₄ r₄ b₄ page)) where
    w : is_passed o₃ ≡ true → ends_whole g row ≡ true
    unfolding ends_whole
    w t = rw (sym (first_whole t) ∙ begins, sym (last_whole t) ∙ ends)

    all_ran : Ran s (λ p. pages_from s block 1 (g.pages - 2) (ends_read s block p)) l m₄ Passed o₄
    all_ran = ran_then s (ends_read s block) (pages_from s block 1 (g.pages - 2)) l m₃ m₄ Passed o₃ o₄ ends_ran d.ran

    three_passed : is_passed o₄ ≡ true → is_passed o₃ ≡ true
    three_passed = passed_before s (pages_from s block 1 (g.pages - 2)) (none_read s block 1 (g.pages - 2)) m₃ m₄ o₃ o₄ d.ran

    rest_gives : is_passed o₄ ≡ true → gathered x₄ r₄ b₄ page ≡ gathered_from g row 1 (g.pages - 2) (gathered x₃ r₃ b₂ last)
    rest_gives t =
        d.gives t ∙ ap (λ (y : List ℕ). gathered_from g (block_in g y block) 1 (g.pages - 2) (gathered x₃ r₃ b₂ last)) ends_ran.same_array

    pub quick_long : BlockScanned Quick s l m₄ o₄ block x₄ r₄ before b₄
    unfolding block_read summary_by quick_summed
    quick_long =
        record {
          ran = record {
            line_is = λ cs os. all_ran.line_is cs os ∙ ap (λ (p : Progress). p.line) (long_is w (progress l Passed cs os) refl (sym (ends_ran.outcome_is cs os)));
            outcome_is = λ cs os. all_ran.outcome_is cs os ∙ ap (λ (p : Progress). p.outcome) (long_is w (progress l Passed cs os) refl (sym (ends_ran.outcome_is cs os)));
            same_array = all_ran.same_array;
            same_history = all_ran.same_history;
            next = all_ran.next;
          };
          summary_is = λ t.
              let u = three_passed t in
              ap (λ (y : Gathered). y.summary) (rest_gives t) ∙ middle_summary g row (g.pages - 2) (gathered x₃ r₃ b₂ last) (ends_summary u) ∙ rw (w u);
          right_is = λ t full.
              let u = three_passed t in
              ap (λ (y : Gathered). y.right) (rest_gives t) ∙ all_right g row three (gathered x₃ r₃ b₂ last) (ends_right u);
          bits_are = λ t.
              let u = three_passed t in
              ap (λ (y : Gathered). y.bits) (rest_gives t) ∙ bits_later g row 1 (g.pages - 2) (gathered x₃ r₃ b₂ last) (omega arith) ∙ ends_bits u;
        }

-- a block read whole
pub full_scan : (s : Setting) (l m : Line) (e : Outcome) (block : ℕ) (summary : Summary) (right : ℕ) (before bits : List ℕ)
    → ((cs : List Cycle) (os : List ArrayOperation) → m ≡ (pages_read s block s.geometry.pages (progress l Passed cs os)).line)
    → ((cs : List Cycle) (os : List ArrayOperation) → e ≡ (pages_read s block s.geometry.pages (progress l Passed cs os)).outcome)
    → m.chip.array ≡ l.chip.array → m.chip.history ≡ l.chip.history → (is_passed e ≡ true → Called s m)
    → (is_passed e ≡ true → summary ≡ summed s.geometry (block_in s.geometry l.chip.array block) s.geometry.pages)
    → (is_passed e ≡ true → right ≡ layout_to s.geometry (block_in s.geometry l.chip.array block) s.geometry.pages)
    → (is_passed e ≡ true → bits ≡ put 0 (bitmap_of s.geometry.blocks (main_in s.geometry (block_in s.geometry l.chip.array block) 0)) before)
    → BlockScanned Full s l m e block summary right before bits
unfolding block_read summary_by
full_scan s l m e block summary right before bits line_is outcome_is array_is history_is next summary_is right_is bits_are =
    record {
      ran = record { line_is = line_is; outcome_is = outcome_is; same_array = array_is; same_history = history_is; next = next };
      summary_is = summary_is;
      right_is = λ t full. right_is t;
      bits_are = bits_are;
    }

-- at a depth that is known
pub at_depth : {k depth : Depth} {s : Setting} {l m : Line} {e : Outcome} {block : ℕ} {summary : Summary} {right : ℕ} {before bits : List ℕ} → depth ≡ k → BlockScanned k s l m e block summary right before bits → BlockScanned depth s l m e block summary right before bits
at_depth {k} {depth} {s} {l} {m} {e} {block} {summary} {right} {before} {bits} same d =
    subst (λ (x : Depth). BlockScanned x s l m e block summary right before bits) (sym same) d
