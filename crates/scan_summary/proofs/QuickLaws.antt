-- The pages that a quick mount reads tell of every block whether it is complete and marked, its label and the greatest number read. Assumes nothing.
use Prim.Native.Nat.{ℕ, zero, suc, ◌-◌, ◌≤◌, ◌<◌, max}
use mathlib.Core.Bool.{Bool, true, false, cond, true≢false, false≢true}
use mathlib.Core.List.{List}
use mathlib.Core.Path.{◌≡◌, refl, sym, ap, ◌∙◌}
use native.Mathlib.Omega.{arith}
use borrow.Table.Steps.{cases}
use borrow.Author.Tests.{ne_eqb, le-ltb}
use lib.Dec.{eqb}
use Rattle.geometry.specs.declared.Geometry.{Geometry}
use Rattle.bools.proofs.BoolLaws.{both, unless}
use Rattle.pages.specs.Layout.{label}
use Rattle.copies.specs.Blocks.{mark_byte, is_marked, whole_in, label_in, agrees, complete_to, is_complete, greatest_to}
use Rattle.copies.specs.Quick.{last_page, ends_whole, number_on, quick_has, quick_greatest}
use Rattle.scan_summary.specs.Quick.{marking, ends_summed, middle_summed, quick_summed}
use Rattle.scan_summary.specs.Summary.{blank_summary, marked_by, whole_step, says_complete, says_number}
use Rattle.scan_summary.specs.declared.Summary.{Summary}
use Rattle.scan_summary.proofs.VisitLaws.{all_to, visited, all_each, any_order}
use Rattle.scan_summary.proofs.BlockLaws.{agrees_self, agrees_alike, cond_flag, arms, two_tests, page, page_whole, page_broken, page_mark, no_kind, Labelled}

nest : (a b c : Bool) → cond a (cond b c false) false ≡ cond (cond a b false) c false
nest true b c = refl
nest false b c = refl

either_flag : (a b : Bool) → cond b true (cond a true false) ≡ cond a true b
either_flag true true = refl
either_flag true false = refl
either_flag false true = refl
either_flag false false = refl

module _ (g : Geometry) (block : List ℕ) where
  -- page n is whole and agrees with page 0, and so did those before
  abbrev test : ℕ → Bool
  test n = cond (whole_in g block n) (agrees (label_in g block 0) n (label_in g block n)) false

  abbrev with : ℕ → Bool → Bool
  with n all = cond (test n) all false

  -- what the pages visited tell: all of them are so
  record Visits (all : Bool) (s : Summary) : Type 0 where
    complete_is : s.complete ≡ all
    kind_is : whole_in g block 0 ≡ true → s.kind ≡ (label_in g block 0).kind
    logical_is : whole_in g block 0 ≡ true → s.logical ≡ (label_in g block 0).logical
    number_is : whole_in g block 0 ≡ true → s.number ≡ (label_in g block 0).number
    broken_is : whole_in g block 0 ≡ false → all ≡ false

  visits_first : Visits (with 0 true) (page g block 0 blank_summary)
  unfolding whole_step
  visits_first =
      cases (whole_in g block 0)
      (λ t.
      let e = page_whole g block 0 blank_summary t in
      record {
        complete_is = ap (λ (s : Summary). s.complete) e ∙ rw (t, agrees_self (label_in g block 0)) (cond_flag (eqb (label_in g block 0).page 0));
        kind_is = λ w. ap (λ (s : Summary). s.kind) e;
        logical_is = λ w. ap (λ (s : Summary). s.logical) e;
        number_is = λ w. ap (λ (s : Summary). s.number) e;
        broken_is = λ w. absurd (false≢true (sym w ∙ t));
      })
      (λ t.
      let e = page_broken g block 0 blank_summary t in
      record {
        complete_is = ap (λ (s : Summary). s.complete) e ∙ rw t;
        kind_is = λ w. absurd (false≢true (sym t ∙ w));
        logical_is = λ w. absurd (false≢true (sym t ∙ w));
        number_is = λ w. absurd (false≢true (sym t ∙ w));
        broken_is = λ w. rw t;
      })

  agreed : (n : ℕ) (all : Bool) (s : Summary) → Visits all s → cond (agrees (label s.kind s.logical 0 s.number) n (label_in g block n)) s.complete false ≡ cond (agrees (label_in g block 0) n (label_in g block n)) all false
  agreed n all s r =
      cases (whole_in g block 0)
      (λ w. rw (agrees_alike (label s.kind s.logical 0 s.number) (label_in g block 0) n (label_in g block n) (r.kind_is w) (r.logical_is w) (r.number_is w), r.complete_is))
      (λ w. rw (r.complete_is, r.broken_is w)
      (arms (agrees (label s.kind s.logical 0 s.number) n (label_in g block n)) ∙ sym (arms (agrees (label_in g block 0) n (label_in g block n)))))

  visits_next : (n : ℕ) (all : Bool) (s : Summary) → 1 ≤ n → Visits all s → Visits (with n all) (page g block n s)
  unfolding whole_step
  visits_next n all s h r =
      cases (whole_in g block n)
      (λ t.
      let e = page_whole g block n s t in
      let z = ne_eqb n 0 (λ x. omega (arith, x)) in
      record {
        complete_is = ap (λ (x : Summary). x.complete) e ∙ rw (z, t) (agreed n all s r);
        kind_is = λ w. ap (λ (x : Summary). x.kind) e ∙ rw z (r.kind_is w);
        logical_is = λ w. ap (λ (x : Summary). x.logical) e ∙ rw z (r.logical_is w);
        number_is = λ w. ap (λ (x : Summary). x.number) e ∙ rw z (r.number_is w);
        broken_is = λ w. rw (t, r.broken_is w) (arms (agrees (label_in g block 0) n (label_in g block n)));
      })
      (λ t.
      let e = page_broken g block n s t in
      record {
        complete_is = ap (λ (x : Summary). x.complete) e ∙ rw t;
        kind_is = λ w. ap (λ (x : Summary). x.kind) e ∙ r.kind_is w;
        logical_is = λ w. ap (λ (x : Summary). x.logical) e ∙ r.logical_is w;
        number_is = λ w. ap (λ (x : Summary). x.number) e ∙ r.number_is w;
        broken_is = λ w. rw t;
      })

  -- one page more: whether one was whole, and the greatest number
  page_any : (n : ℕ) (s : Summary) → (page g block n s).any ≡ cond (whole_in g block n) true s.any
  unfolding whole_step
  page_any n s =
      cases (whole_in g block n)
      (λ t. ap (λ (x : Summary). x.any) (page_whole g block n s t) ∙ cases (eqb n 0) (λ z. rw (z, t)) (λ z. rw (z, t)))
      (λ t. ap (λ (x : Summary). x.any) (page_broken g block n s t) ∙ rw t)

  page_greatest : (n : ℕ) (s : Summary) → (page g block n s).greatest ≡ max s.greatest (number_on g block n)
  unfolding whole_step number_on
  page_greatest n s =
      cases (whole_in g block n)
      (λ t. ap (λ (x : Summary). x.greatest) (page_whole g block n s t) ∙ cases (eqb n 0) (λ z. rw (z, t)) (λ z. rw (z, t)))
      (λ t. ap (λ (x : Summary). x.greatest) (page_broken g block n s t) ∙ rw t (omega arith))

  greatest_next : (n : ℕ) → greatest_to g block (suc n) ≡ max (greatest_to g block n) (number_on g block n)
  unfolding greatest_to number_on
  greatest_next n = cases (whole_in g block n) (λ t. rw t) (λ t. rw t (omega arith))

  -- those of a complete block are so
  all_is : (n : ℕ) → complete_to g block n ≡ all_to test n
  unfolding complete_to all_to
  all_is zero = refl
  all_is (suc n) =
      ap (λ (b : Bool). cond (whole_in g block n) (cond (agrees (label_in g block 0) n (label_in g block n)) b false) false) (all_is n)
      ∙ nest (whole_in g block n) (agrees (label_in g block 0) n (label_in g block n)) (all_to test n)

  module _ (three : 3 ≤ g.pages) where
    visits_ends : Visits (visited test (last_page g) 0) (ends_summed g block)
    unfolding ends_summed marking page visited
    visits_ends =
        let r = visits_next (last_page g) (with 0 true) (page g block 0 blank_summary) (omega arith) visits_first in
        record { complete_is = r.complete_is; kind_is = r.kind_is; logical_is = r.logical_is; number_is = r.number_is; broken_is = r.broken_is }

    visits_middle : (n : ℕ) → Visits (visited test (last_page g) n) (middle_summed g block n)
    unfolding middle_summed visited page
    visits_middle zero = visits_ends
    visits_middle (suc n) = visits_next (suc n) (visited test (last_page g) n) (middle_summed g block n) (omega arith) (visits_middle n)

    -- marks: page 0 by its first page, page 1 by its mark byte
    marked_ends : (ends_summed g block).marked ≡ is_marked g block
    unfolding ends_summed marking page is_marked marked_by
    marked_ends =
        ap (λ (m : Bool). cond (eqb (mark_byte g block 1) 255) m true)
        (page_mark g block (last_page g) (page g block 0 blank_summary) ∙ rw (le-ltb (last_page g) 2 (omega arith)) (page_mark g block 0 blank_summary))
        ∙ two_tests (eqb (mark_byte g block 0) 255) (eqb (mark_byte g block 1) 255)

    again : (m : Bool) → is_marked g block ≡ m → cond (eqb (mark_byte g block 1) 255) m true ≡ m
    unfolding is_marked
    again true e = cases (eqb (mark_byte g block 1) 255) (λ t. rw t) (λ t. rw t)
    again false e =
        cases (eqb (mark_byte g block 1) 255)
        (λ t. rw t)
        (λ t. cases (eqb (mark_byte g block 0) 255) (λ u. absurd (true≢false (rw (t, u) at e))) (λ u. absurd (true≢false (rw u at e))))

    marked_middle : (n : ℕ) → (middle_summed g block n).marked ≡ is_marked g block
    unfolding middle_summed page marked_by
    marked_middle zero = marked_ends
    marked_middle (suc zero) =
        page_mark g block 1 (middle_summed g block 0) ∙ ap (λ (m : Bool). cond (eqb (mark_byte g block 1) 255) m true) marked_ends ∙ again (is_marked g block) refl
    marked_middle (suc (suc n)) =
        page_mark g block (suc (suc n)) (middle_summed g block (suc n)) ∙ rw (le-ltb (suc (suc n)) 2 (omega arith)) (marked_middle (suc n))

    pub quick_marked : (quick_summed g block).marked ≡ is_marked g block
    unfolding quick_summed
    quick_marked = cases (ends_whole g block) (λ t. rw t (marked_middle (g.pages - 2))) (λ t. rw t marked_ends)

    -- where the first or the last page is not whole, the block is not complete
    not_ends : ends_whole g block ≡ false → visited test (last_page g) 0 ≡ false
    unfolding ends_whole visited
    not_ends f =
        cases (visited test (last_page g) 0)
        (λ t.
        let p = both (test (last_page g)) (cond (test 0) true false) t in
        let first = (both (whole_in g block 0) _ (both (test 0) true p.1).0).0 in
        absurd (false≢true (sym f ∙ rw first (both (whole_in g block (last_page g)) _ p.0).0)))
        (λ u. u)

    complete_whole : complete_to g block g.pages ≡ true → (i : ℕ) → i < g.pages → whole_in g block i ≡ true
    complete_whole t i h = (both (whole_in g block i) _ (all_each test g.pages (sym (all_is g.pages) ∙ t) i h)).0

    not_complete : ends_whole g block ≡ false → complete_to g block g.pages ≡ false
    unfolding ends_whole
    not_complete f =
        cases (complete_to g block g.pages)
        (λ t. absurd (false≢true (sym f ∙ rw (complete_whole t 0 (omega arith)) (complete_whole t (last_page g) (omega arith)))))
        (λ u. u)

    -- on every block a quick mount judges as a full one
    pub quick_complete : says_complete (quick_summed g block) ≡ is_complete g block
    unfolding quick_summed is_complete
    quick_complete =
        cases (ends_whole g block)
        (λ t. rw (t, marked_middle (g.pages - 2), (visits_middle (g.pages - 2)).complete_is, any_order test g.pages three, ← all_is g.pages))
        (λ t. rw (t, marked_ends, visits_ends.complete_is, not_ends t, not_complete t))

    -- the label of a complete block
    pub quick_label : is_complete g block ≡ true → Labelled g block (quick_summed g block)
    unfolding quick_summed is_complete
    quick_label c =
        let all = (unless (is_marked g block) _ c).1 in
        let w = complete_whole all 0 (omega arith) in
        let r = visits_middle (g.pages - 2) in
        cases (ends_whole g block)
        (λ t. rw t (record { kind_is = r.kind_is w; logical_is = r.logical_is w; number_is = r.number_is w; kind_some = no_kind g block w }))
        (λ t. absurd (false≢true (sym (not_complete t) ∙ all)))

    -- whether a page read is whole
    any_ends : (ends_summed g block).any ≡ cond (whole_in g block 0) true (whole_in g block (last_page g))
    unfolding ends_summed marking page
    any_ends =
        page_any (last_page g) (page g block 0 blank_summary)
        ∙ ap (λ (k : Bool). cond (whole_in g block (last_page g)) true k) (page_any 0 blank_summary)
        ∙ either_flag (whole_in g block 0) (whole_in g block (last_page g))

    any_middle : (n : ℕ) → (ends_summed g block).any ≡ true → (middle_summed g block n).any ≡ true
    unfolding middle_summed page
    any_middle zero e = e
    any_middle (suc n) e =
        page_any (suc n) (middle_summed g block n)
        ∙ cases (whole_in g block (suc n)) (λ t. rw t) (λ t. rw t (any_middle n e))

    whole_any : ends_whole g block ≡ true → cond (whole_in g block 0) true (whole_in g block (last_page g)) ≡ true
    unfolding ends_whole
    whole_any t = rw (both (whole_in g block 0) _ t).0

    any_is : (quick_summed g block).any ≡ cond (whole_in g block 0) true (whole_in g block (last_page g))
    unfolding quick_summed
    any_is =
        cases (ends_whole g block)
        (λ t. rw (t, whole_any t) (any_middle (g.pages - 2) (any_ends ∙ rw (whole_any t))))
        (λ t. rw t any_ends)

    pub quick_has_fact : says_number (quick_summed g block) ≡ quick_has g block
    unfolding quick_has
    quick_has_fact = rw (quick_marked, any_is)

    -- the greatest number on a page read
    greatest_ends : (ends_summed g block).greatest ≡ max (number_on g block 0) (number_on g block (last_page g))
    unfolding ends_summed marking page
    greatest_ends = omega (arith, page_greatest (last_page g) (page g block 0 blank_summary), page_greatest 0 blank_summary)

    greatest_middle : (n : ℕ) → (middle_summed g block n).greatest ≡ max (greatest_to g block (suc n)) (number_on g block (last_page g))
    unfolding middle_summed page greatest_to
    greatest_middle zero = greatest_ends ∙ omega (arith, greatest_next 0)
    greatest_middle (suc n) =
        omega (arith, page_greatest (suc n) (middle_summed g block n), greatest_middle n, greatest_next (suc n))

    greatest_all : (middle_summed g block (g.pages - 2)).greatest ≡ greatest_to g block g.pages
    greatest_all =
        let before : suc (g.pages - 2) ≡ last_page g = omega arith in
        let after : suc (last_page g) ≡ g.pages = omega arith in
        greatest_middle (g.pages - 2)
        ∙ ap (λ (k : ℕ). max (greatest_to g block k) (number_on g block (last_page g))) before
        ∙ sym (greatest_next (last_page g))
        ∙ ap (greatest_to g block) after

    pub quick_greatest_fact : quick_has g block ≡ true → (quick_summed g block).greatest ≡ quick_greatest g block
    unfolding quick_has quick_summed quick_greatest
    quick_greatest_fact t =
        let u = (unless (is_marked g block) _ t).0 in
        cases (ends_whole g block)
        (λ e. rw (e, u) greatest_all)
        (λ e. rw (e, u) greatest_ends)
