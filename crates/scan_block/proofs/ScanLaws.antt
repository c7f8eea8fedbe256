-- The scan of a block's pages on its way: where each page leaves it, and what it tells of the block. Assumes nothing.
use Prim.Native.Nat.{ℕ, zero, suc, ◌+◌, ◌-◌, ◌*◌, ◌≤◌, ◌<◌}
use mathlib.Core.Bool.{true, false, false≢true}
use mathlib.Core.List.{List}
use mathlib.Core.Path.{◌≡◌, refl, sym, ap, ap₂, subst, ◌∙◌}
use native.Mathlib.Nat.{zero-add}
use native.Mathlib.Numerals.{add-one}
use native.Mathlib.Omega.{arith}
use borrow.Author.Tests.{ne_eqb}
use lib.ListN.{length}
use Rattle.geometry.specs.declared.Geometry.{Geometry}
use Rattle.geometry.specs.Sizes.{page_size, row_of}
use Rattle.geometry.proofs.SizeLaws.{row_below, page_size_least}
use Rattle.cells.specs.Cells.{over}
use Rattle.cells.specs.Part.{part, put}
use Rattle.chip_array.specs.Device.{Setting}
use Rattle.chip.specs.Chip.{Cycle}
use Rattle.bus.specs.Line.{Line, send_all}
use Rattle.bus_polling.specs.Outcomes.{is_passed}
use Rattle.bus_sequences.specs.Cycles.{read_cycles, read_outcome, read_outputs}
use Rattle.bus_polling.specs.declared.Outcome.{Outcome}
use Rattle.bus_polling.specs.declared.Outcome.TheVariants.{Passed}
use Rattle.operations.specs.Ends.{Called, CanRead}
use Rattle.operations.specs.Trace.{ArrayOperation}
use Rattle.copies.specs.Blocks.{block_in, page_in, main_in}
use Rattle.scan_summary.specs.Summary.{blank_summary, summed, stepped}
use Rattle.scan_summary.specs.declared.Summary.{Summary}
use Rattle.copies.specs.Table.{bitmap_of, bits_with, layout_to, right_to, right_with}
use Rattle.copies.proofs.PlaceLaws.{row_is_page}
use Rattle.copies.proofs.CarriedLaws.{layout_next}
use Rattle.progress.specs.Progress.{Progress, progress, read_on}
use Rattle.scan_block.specs.Gathered.{Gathered, gathered, gathered_with, gathered_from, PagesScanned}
use Rattle.scan_block.specs.Pages.{pages_from, pages_read}
use Rattle.progress.proofs.ReadOnLaws.{Read, read_leaves, read_line, read_outcome_fact, read_stopped}

-- once a page's read has not passed no further one is read
pub from-stopped : (s : Setting) (block first n : ℕ) (p : Progress) → is_passed (pages_from s block first n p).outcome ≡ false → (k : ℕ) → pages_from s block first (k + n) p ≡ pages_from s block first n p
unfolding pages_from
from-stopped s block first n p f zero = ap (λ (x : ℕ). pages_from s block first x p) (zero-add n)
from-stopped s block first n p f (suc k) =
    let less = from-stopped s block first n p f k in
    let e : suc k + n ≡ suc (k + n) = omega arith in
    ap (λ (x : ℕ). pages_from s block first x p) e
    ∙ read_stopped s _ 0 _ (pages_from s block first (k + n) p) (ap (λ (x : Progress). is_passed x.outcome) less ∙ f)
    ∙ less

pub none_read : (s : Setting) (block first n : ℕ) (p : Progress) → is_passed p.outcome ≡ false → pages_from s block first n p ≡ p
unfolding pages_from
none_read s block first zero p f = refl
none_read s block first (suc n) p f =
    let less = none_read s block first n p f in
    read_stopped s _ 0 _ (pages_from s block first n p) (ap (λ (x : Progress). is_passed x.outcome) less ∙ f) ∙ less

-- from page 0 on
pub from_first : (s : Setting) (block n : ℕ) (p : Progress) → pages_from s block 0 n p ≡ pages_read s block n p
unfolding pages_from pages_read
from_first s block zero p = refl
from_first s block (suc n) p =
    ap₂ (λ (i : ℕ) (x : Progress). read_on s (row_of s.geometry block i) 0 (page_size s.geometry) x) (zero-add n) (from_first s block n p)

-- after the first pages all passed
pub record Middle (s : Setting) (l m : Line) (block first n : ℕ) (from here : Gathered) : Type 0 where
  pub reached : (cs : List Cycle) (os : List ArrayOperation) → m ≡ (pages_from s block first n (progress l Passed cs os)).line
  pub passing : (cs : List Cycle) (os : List ArrayOperation) → Passed ≡ (pages_from s block first n (progress l Passed cs os)).outcome
  pub called : Called s m
  pub same_array : m.chip.array ≡ l.chip.array
  pub same_history : m.chip.history ≡ l.chip.history
  pub gives : here ≡ gathered_from s.geometry (block_in s.geometry l.chip.array block) first n from

pub scan_begins : (s : Setting) (l : Line) (block first : ℕ) (from : Gathered) → Called s l → Middle s l l block first 0 from from
unfolding pages_from gathered_from
scan_begins s l block first from c =
    record { reached = λ cs os. refl; passing = λ cs os. refl; called = c; same_array = refl; same_history = refl; gives = refl }

-- a scan that had not passed reads nothing
pub scan_none : (s : Setting) (l : Line) (o : Outcome) (block first n : ℕ) (from : Gathered) → is_passed o ≡ false → PagesScanned s l l o o block first n from from
scan_none s l o block first n from f =
    record {
      ran = record {
        line_is = λ cs os. sym (ap (λ (x : Progress). x.line) (none_read s block first n (progress l o cs os) f));
        outcome_is = λ cs os. sym (ap (λ (x : Progress). x.outcome) (none_read s block first n (progress l o cs os) f));
        same_array = refl;
        same_history = refl;
        next = λ t. absurd (false≢true (sym f ∙ t));
      };
      gives = λ t. absurd (false≢true (sym f ∙ t));
    }

-- all pages were read
pub scan_ends : (s : Setting) (l m : Line) (o : Outcome) (block first n : ℕ) (from here : Gathered) → o ≡ Passed → Middle s l m block first n from here → PagesScanned s l m o Passed block first n from here
scan_ends s l m o block first n from here w r =
    subst (λ (x : Outcome). PagesScanned s l m x Passed block first n from here) (sym w)
    (record {
      ran = record { line_is = r.reached; outcome_is = r.passing; same_array = r.same_array; same_history = r.same_history; next = λ t. r.called };
      gives = λ t. r.gives;
    })

module _ (s : Setting) (l m : Line) (block first n : ℕ) (from here : Gathered) (block_below : block < s.geometry.blocks) (page_below : first + n < s.geometry.pages) (r : Middle s l m block first n from here) where
  abbrev g : Geometry
  g = s.geometry

  abbrev place : ℕ
  place = first + n

  -- the next page can be read
  can_read : CanRead s m (row_of g block place) 0 (page_size g)
  can_read =
      record {
        called = r.called;
        row_below = row_below g r.called.is_valid block place block_below page_below;
        column_below = omega (arith, page_size_least g r.called.is_valid);
        within = omega arith;
      }

  -- its read leaves line m' and outcome o, and these bytes in the page buffer
  module _ (row : ℕ) (er : row ≡ row_of g block place) (buffer : List ℕ) (en : length buffer ≡ page_size g) (m' : Line) (o : Outcome) (page : List ℕ)
      (f₁ : m' ≡ send_all s m (read_cycles s m row 0 (length buffer))) (f₂ : o ≡ read_outcome s m row 0 (length buffer)) (f₃ : page ≡ over (read_outputs s m row 0 (length buffer)) buffer) where
    e : m' ≡ send_all s m (read_cycles s m (row_of g block place) 0 (page_size g))
    e = f₁ ∙ ap₂ (λ (x y : ℕ). send_all s m (read_cycles s m x 0 y)) er en

    q : o ≡ read_outcome s m (row_of g block place) 0 (page_size g)
    q = f₂ ∙ ap₂ (λ (x y : ℕ). read_outcome s m x 0 y) er en

    d : Read s m m' o (row_of g block place) 0 (page_size g) page
    d =
        read_leaves s m (row_of g block place) 0 (page_size g) can_read m' o buffer page en e q
        (f₃ ∙ ap₂ (λ (x y : ℕ). over (read_outputs s m x 0 y) buffer) er en)

    so_far : (cs : List Cycle) (os : List ArrayOperation) → is_passed (pages_from s block first n (progress l Passed cs os)).outcome ≡ true
    unfolding is_passed
    so_far cs os = sym (ap is_passed (r.passing cs os))

    line_next : (cs : List Cycle) (os : List ArrayOperation) → m' ≡ (pages_from s block first (suc n) (progress l Passed cs os)).line
    unfolding pages_from
    line_next cs os =
        e ∙ sym (read_line s (row_of g block place) 0 (page_size g) (pages_from s block first n (progress l Passed cs os)) m (sym (r.reached cs os)) (so_far cs os))

    outcome_next : (cs : List Cycle) (os : List ArrayOperation) → o ≡ (pages_from s block first (suc n) (progress l Passed cs os)).outcome
    unfolding pages_from
    outcome_next cs os =
        q ∙ sym (read_outcome_fact s (row_of g block place) 0 (page_size g) (pages_from s block first n (progress l Passed cs os)) m (sym (r.reached cs os)) (so_far cs os))

    page_is : is_passed o ≡ true → page ≡ page_in g (block_in g l.chip.array block) place
    page_is t =
        d.bytes_are t
        ∙ ap (part (row_of g block place * page_size g + 0) (page_size g)) r.same_array
        ∙ row_is_page g r.called.is_valid l.chip.array block place page_below

    -- after it passed
    gives_next : is_passed o ≡ true → gathered_with g place page here ≡ gathered_from g (block_in g l.chip.array block) first (suc n) from
    unfolding gathered_from
    gives_next t = ap₂ (gathered_with g place) (page_is t) r.gives

    pub scan_goes : o ≡ Passed → {next : Summary} {flag : ℕ} {kept : List ℕ} → next ≡ stepped g.main place page here.summary → flag ≡ right_with g place page here.right
        → kept ≡ bits_with g place page here.bits → Middle s l m' block first (n + 1) from (gathered next flag kept page)
    unfolding is_passed
    scan_goes w {next} {flag} {kept} f k h =
        let t : is_passed o ≡ true = ap is_passed w in
        let made : gathered next flag kept page ≡ gathered_with g place page here = λ i. gathered (f i) (k i) (h i) page in
        subst (λ (x : ℕ). Middle s l m' block first x from (gathered next flag kept page)) (sym (add-one n))
        (record {
          reached = line_next;
          passing = λ cs os. sym w ∙ outcome_next cs os;
          called = d.next t;
          same_array = d.same_array ∙ r.same_array;
          same_history = d.same_history ∙ r.same_history;
          gives = made ∙ gives_next t;
        })

    -- after it did not
    pub scan_stops : (begun : Outcome) → begun ≡ Passed → is_passed o ≡ false → (count : ℕ) → n < count → (any : Gathered) → PagesScanned s l m' begun o block first count from any
    scan_stops begun w f count more any =
        let k : count - suc n + suc n ≡ count = omega (arith, more) in
        let all : (cs : List Cycle) (os : List ArrayOperation) → pages_from s block first count (progress l Passed cs os) ≡ pages_from s block first (suc n) (progress l Passed cs os) =
        λ cs os.
        ap (λ (x : ℕ). pages_from s block first x (progress l Passed cs os)) (sym k)
        ∙ from-stopped s block first (suc n) (progress l Passed cs os) (sym (ap is_passed (outcome_next cs os)) ∙ f) (count - suc n) in
        subst (λ (x : Outcome). PagesScanned s l m' x o block first count from any) (sym w)
        (record {
          ran = record {
            line_is = λ cs os. line_next cs os ∙ sym (ap (λ (x : Progress). x.line) (all cs os));
            outcome_is = λ cs os. outcome_next cs os ∙ sym (ap (λ (x : Progress). x.outcome) (all cs os));
            same_array = d.same_array ∙ r.same_array;
            same_history = d.same_history ∙ r.same_history;
            next = λ t. absurd (false≢true (sym f ∙ t));
          };
          gives = λ t. absurd (false≢true (sym f ∙ t));
        })

-- what the first n pages tell
module _ (g : Geometry) (block : List ℕ) where
  pub summed_first : (n : ℕ) (x : Gathered) → x.summary ≡ blank_summary → (gathered_from g block 0 n x).summary ≡ summed g block n
  unfolding gathered_from summed
  summed_first zero x e = e
  summed_first (suc n) x e =
      ap₂ (λ (i : ℕ) (s : Summary). stepped g.main i (page_in g block i) s) (zero-add n) (summed_first n x e)

  pub right-first : (n : ℕ) (x : Gathered) → x.right ≡ 1 → (gathered_from g block 0 n x).right ≡ layout_to g block n
  unfolding gathered_from right_to
  right-first zero x e = e
  right-first (suc n) x e =
      ap₂ (λ (i r : ℕ). right_with g i (page_in g block i) r) (zero-add n) (right-first n x e)
      ∙ layout_next g block n

  -- the bitmap is in the buffer after page 0, and no later page changes it
  pub bits_later : (first n : ℕ) (x : Gathered) → 1 ≤ first → (gathered_from g block first n x).bits ≡ x.bits
  unfolding gathered_from bits_with
  bits_later first zero x h = refl
  bits_later first (suc n) x h = rw (ne_eqb (first + n) 0 (λ z. omega (arith, z, h))) (bits_later first n x h)

  pub bits_first : (n : ℕ) (x : Gathered) → (gathered_from g block 0 (suc n) x).bits ≡ put 0 (bitmap_of g.blocks (main_in g block 0)) x.bits
  unfolding gathered_from bits_with
  bits_first zero x = refl
  bits_first (suc n) x =
      ap (λ (i : ℕ). bits_with g i (page_in g block i) (gathered_from g block 0 (suc n) x).bits) (zero-add (suc n))
      ∙ rw (ne_eqb (suc n) 0 (λ z. omega (arith, z))) (bits_first n x)

-- a scan from page 0 on is the scan of the block
module _ (s : Setting) (l m : Line) (e : Outcome) (block : ℕ) (x y : Gathered) (some : 1 ≤ s.geometry.pages) (d : PagesScanned s l m Passed e block 0 s.geometry.pages x y) where
  pub block_line : (cs : List Cycle) (os : List ArrayOperation) → m ≡ (pages_read s block s.geometry.pages (progress l Passed cs os)).line
  block_line cs os = d.ran.line_is cs os ∙ ap (λ (p : Progress). p.line) (from_first s block s.geometry.pages (progress l Passed cs os))

  pub block_outcome : (cs : List Cycle) (os : List ArrayOperation) → e ≡ (pages_read s block s.geometry.pages (progress l Passed cs os)).outcome
  block_outcome cs os =
      d.ran.outcome_is cs os ∙ ap (λ (p : Progress). p.outcome) (from_first s block s.geometry.pages (progress l Passed cs os))

  pub block_summary : x.summary ≡ blank_summary → is_passed e ≡ true → y.summary ≡ summed s.geometry (block_in s.geometry l.chip.array block) s.geometry.pages
  block_summary b t =
      ap (λ (z : Gathered). z.summary) (d.gives t) ∙ summed_first s.geometry (block_in s.geometry l.chip.array block) s.geometry.pages x b

  pub block_right : x.right ≡ 1 → is_passed e ≡ true → y.right ≡ layout_to s.geometry (block_in s.geometry l.chip.array block) s.geometry.pages
  block_right b t =
      ap (λ (z : Gathered). z.right) (d.gives t) ∙ right-first s.geometry (block_in s.geometry l.chip.array block) s.geometry.pages x b

  pub block_bits : is_passed e ≡ true → y.bits ≡ put 0 (bitmap_of s.geometry.blocks (main_in s.geometry (block_in s.geometry l.chip.array block) 0)) x.bits
  block_bits t =
      let n : suc (s.geometry.pages - 1) ≡ s.geometry.pages = omega (arith, some) in
      ap (λ (z : Gathered). z.bits) (d.gives t)
      ∙ ap (λ (k : ℕ). (gathered_from s.geometry (block_in s.geometry l.chip.array block) 0 k x).bits) (sym n)
      ∙ bits_first s.geometry (block_in s.geometry l.chip.array block) (s.geometry.pages - 1) x
