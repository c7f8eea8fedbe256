-- The summary of a block's pages says what the definitions say of the block. Assumes nothing.
use Prim.Native.Nat.{ℕ, zero, suc, ◌-◌, max, ◌≤◌}
use mathlib.Core.Bool.{Bool, true, false, cond, false≢true}
use mathlib.Core.List.{List}
use mathlib.Core.Path.{◌≡◌, refl, sym, ap, subst, ◌∙◌}
use native.Mathlib.Omega.{arith}
use borrow.Table.Steps.{cases}
use borrow.Author.Tests.{eq-eqb, ne_eqb, le-ltb}
use lib.Dec.{eqb}
use Rattle.geometry.specs.declared.Geometry.{Geometry}
use Rattle.pages.specs.Layout.{Label, label, label_of, kind_of, number_width}
use Rattle.bools.proofs.BoolLaws.{unless}
use Rattle.pages.proofs.LayoutLaws.{whole_parts, width_zero}
use Rattle.copies.specs.Blocks.{page_in, agrees, whole_in, label_in, complete_to, is_marked, is_complete, mark_byte, any_to, greatest_to, has_number, greatest}
use Rattle.scan_summary.specs.Summary.{blank_summary, broken, summed, stepped, whole_step, marked_by, says_complete, says_number}
use Rattle.scan_summary.specs.declared.Summary.{Summary}

-- a summary of the first n pages, n at least 1
pub record Sums (g : Geometry) (block : List ℕ) (n : ℕ) (s : Summary) : Type 0 where
  pub any_is : s.any ≡ any_to g block n
  pub greatest_is : s.greatest ≡ greatest_to g block n
  pub complete_is : s.complete ≡ complete_to g block n
  pub kind_is : whole_in g block 0 ≡ true → s.kind ≡ (label_in g block 0).kind
  pub logical_is : whole_in g block 0 ≡ true → s.logical ≡ (label_in g block 0).logical
  pub number_is : whole_in g block 0 ≡ true → s.number ≡ (label_in g block 0).number
  pub broken_is : whole_in g block 0 ≡ false → complete_to g block n ≡ false

-- page 0 agrees with itself where it bears its place
pub agrees_self : (l : Label) → agrees l 0 l ≡ eqb l.page 0
unfolding agrees
agrees_self l = rw (eq-eqb l.kind l.kind refl, eq-eqb l.logical l.logical refl, eq-eqb l.number l.number refl)

pub cond_flag : (b : Bool) → b ≡ cond b true false
cond_flag true = refl
cond_flag false = refl

pub arms : (b : Bool) → cond b false false ≡ false
arms true = refl
arms false = refl

pub two_tests : (a b : Bool) → cond b (cond a false true) true ≡ cond a (cond b false true) true
two_tests true b = refl
two_tests false true = refl
two_tests false false = refl

more_than_one : (n : ℕ) → 2 ≤ n → suc (suc (n - 2)) ≡ n
more_than_one n h = omega arith

-- only kind, logical block and number of the first label count
pub agrees_alike : (x y : Label) (n : ℕ) (l : Label) → x.kind ≡ y.kind → x.logical ≡ y.logical → x.number ≡ y.number → agrees x n l ≡ agrees y n l
unfolding agrees
agrees_alike x y n l k b m = rw (k, b, m)

module _ (g : Geometry) (block : List ℕ) where
  -- the label kept is that of page 0, wherever it counts
  agreed : (n : ℕ) (s : Summary) → Sums g block n s → cond (agrees (label s.kind s.logical 0 s.number) n (label_in g block n)) s.complete false ≡ cond (agrees (label_in g block 0) n (label_in g block n)) (complete_to g block n) false
  agreed n s r =
      cases (whole_in g block 0)
      (λ w. rw (agrees_alike (label s.kind s.logical 0 s.number) (label_in g block 0) n (label_in g block n) (r.kind_is w) (r.logical_is w) (r.number_is w), r.complete_is))
      (λ w. rw (r.complete_is, r.broken_is w)
      (arms (agrees (label s.kind s.logical 0 s.number) n (label_in g block n)) ∙ sym (arms (agrees (label_in g block 0) n (label_in g block n)))))

  unfoldable pub page : ℕ → Summary → Summary
  page n s = stepped g.main n (page_in g block n) s

  -- after a whole page n and after one that is not
  pub page_whole : (n : ℕ) (s : Summary) → whole_in g block n ≡ true → page n s ≡ whole_step (marked_by g.main n (page_in g block n) s.marked) n (label_in g block n) s
  unfolding page stepped
  page_whole n s t = rw t

  pub page_broken : (n : ℕ) (s : Summary) → whole_in g block n ≡ false → page n s ≡ broken (marked_by g.main n (page_in g block n) s.marked) s
  unfolding page stepped
  page_broken n s t = rw t

  sums_first : Sums g block 1 (summed g block 1)
  unfolding summed whole_step complete_to any_to greatest_to page
  sums_first =
      cases (whole_in g block 0)
      (λ t.
      let e = page_whole 0 blank_summary t in
      record {
        any_is = ap (λ (s : Summary). s.any) e ∙ rw t;
        greatest_is = ap (λ (s : Summary). s.greatest) e ∙ rw t;
        complete_is = ap (λ (s : Summary). s.complete) e ∙ rw (t, agrees_self (label_in g block 0)) (cond_flag (eqb (label_in g block 0).page 0));
        kind_is = λ w. ap (λ (s : Summary). s.kind) e;
        logical_is = λ w. ap (λ (s : Summary). s.logical) e;
        number_is = λ w. ap (λ (s : Summary). s.number) e;
        broken_is = λ w. absurd (false≢true (sym w ∙ t));
      })
      (λ t.
      let e = page_broken 0 blank_summary t in
      record {
        any_is = ap (λ (s : Summary). s.any) e ∙ rw t;
        greatest_is = ap (λ (s : Summary). s.greatest) e ∙ rw t;
        complete_is = ap (λ (s : Summary). s.complete) e ∙ rw t;
        kind_is = λ w. absurd (false≢true (sym t ∙ w));
        logical_is = λ w. absurd (false≢true (sym t ∙ w));
        number_is = λ w. absurd (false≢true (sym t ∙ w));
        broken_is = λ w. rw t;
      })

  sums_next : (n : ℕ) (s : Summary) → 1 ≤ n → Sums g block n s → Sums g block (suc n) (page n s)
  unfolding whole_step complete_to any_to greatest_to
  sums_next n s h r =
      cases (whole_in g block n)
      (λ t.
      let e = page_whole n s t in
      let z = ne_eqb n 0 (λ x. omega (arith, x)) in
      record {
        any_is = ap (λ (x : Summary). x.any) e ∙ rw (z, t);
        greatest_is = ap (λ (x : Summary). x.greatest) e ∙ rw (z, t) (ap (λ (k : ℕ). max k (label_in g block n).number) r.greatest_is);
        complete_is = ap (λ (x : Summary). x.complete) e ∙ rw (z, t) (agreed n s r);
        kind_is = λ w. ap (λ (x : Summary). x.kind) e ∙ rw z (r.kind_is w);
        logical_is = λ w. ap (λ (x : Summary). x.logical) e ∙ rw z (r.logical_is w);
        number_is = λ w. ap (λ (x : Summary). x.number) e ∙ rw z (r.number_is w);
        broken_is = λ w. rw (t, r.broken_is w) (arms (agrees (label_in g block 0) n (label_in g block n)));
      })
      (λ t.
      let e = page_broken n s t in
      record {
        any_is = ap (λ (x : Summary). x.any) e ∙ rw t r.any_is;
        greatest_is = ap (λ (x : Summary). x.greatest) e ∙ rw t r.greatest_is;
        complete_is = ap (λ (x : Summary). x.complete) e ∙ rw t;
        kind_is = λ w. ap (λ (x : Summary). x.kind) e ∙ r.kind_is w;
        logical_is = λ w. ap (λ (x : Summary). x.logical) e ∙ r.logical_is w;
        number_is = λ w. ap (λ (x : Summary). x.number) e ∙ r.number_is w;
        broken_is = λ w. rw t;
      })

  -- after the first n pages
  pub sums : (n : ℕ) → Sums g block (suc n) (summed g block (suc n))
  unfolding summed page
  sums zero = sums_first
  sums (suc n) = sums_next (suc n) (summed g block (suc n)) (omega arith) (sums n)

  -- marks come from the first two pages
  pub page_mark : (n : ℕ) (s : Summary) → (page n s).marked ≡ marked_by g.main n (page_in g block n) s.marked
  unfolding whole_step
  page_mark n s =
      cases (whole_in g block n)
      (λ t. ap (λ (x : Summary). x.marked) (page_whole n s t)
      ∙ cases (eqb n 0) (λ z. rw z) (λ z. rw z))
      (λ t. ap (λ (x : Summary). x.marked) (page_broken n s t))

  mark_two : (summed g block 2).marked ≡ is_marked g block
  unfolding summed page is_marked marked_by
  mark_two =
      page_mark 1 (summed g block 1)
      ∙ ap (λ (m : Bool). cond (eqb (mark_byte g block 1) 255) m true) (page_mark 0 blank_summary)
      ∙ two_tests (eqb (mark_byte g block 0) 255) (eqb (mark_byte g block 1) 255)

  pub marks : (n : ℕ) → (summed g block (suc (suc n))).marked ≡ is_marked g block
  unfolding summed page marked_by
  marks zero = mark_two
  marks (suc n) =
      page_mark (suc (suc n)) (summed g block (suc (suc n)))
      ∙ rw (le-ltb (suc (suc n)) 2 (omega arith)) (marks n)

  complete_after : (n : ℕ) → says_complete (summed g block (suc (suc n))) ≡ cond (is_marked g block) false (complete_to g block (suc (suc n)))
  complete_after n =
      rw (marks n, (sums (suc n)).complete_is)

  number_after : (n : ℕ) → says_number (summed g block (suc (suc n))) ≡ cond (is_marked g block) false (any_to g block (suc (suc n)))
  number_after n = rw (marks n, (sums (suc n)).any_is)

  -- of all pages, whatever the marks
  pub summed_greatest : 2 ≤ g.pages → (summed g block g.pages).greatest ≡ greatest_to g block g.pages
  summed_greatest h =
      subst (λ (k : ℕ). (summed g block k).greatest ≡ greatest_to g block k) (more_than_one g.pages h) (sums (suc (g.pages - 2))).greatest_is

  pub summed_any : 2 ≤ g.pages → (summed g block g.pages).any ≡ any_to g block g.pages
  summed_any h =
      subst (λ (k : ℕ). (summed g block k).any ≡ any_to g block k) (more_than_one g.pages h) (sums (suc (g.pages - 2))).any_is

  -- a summary of all pages says what the definitions say
  pub says_complete_fact : 2 ≤ g.pages → says_complete (summed g block g.pages) ≡ is_complete g block
  unfolding is_complete
  says_complete_fact h =
      subst (λ (k : ℕ). says_complete (summed g block k) ≡ cond (is_marked g block) false (complete_to g block k)) (more_than_one g.pages h)
      (complete_after (g.pages - 2))

  pub says_number_fact : 2 ≤ g.pages → says_number (summed g block g.pages) ≡ has_number g block
  unfolding has_number
  says_number_fact h =
      subst (λ (k : ℕ). says_number (summed g block k) ≡ cond (is_marked g block) false (any_to g block k)) (more_than_one g.pages h)
      (number_after (g.pages - 2))

  -- the greatest number, where there is one
  pub says_greatest : 2 ≤ g.pages → has_number g block ≡ true → (summed g block g.pages).greatest ≡ greatest g block
  unfolding has_number greatest
  says_greatest h t = summed_greatest h ∙ rw (unless (is_marked g block) _ t).0

  pub says_marked : 2 ≤ g.pages → (summed g block g.pages).marked ≡ is_marked g block
  says_marked h =
      subst (λ (k : ℕ). (summed g block k).marked ≡ is_marked g block) (more_than_one g.pages h) (marks (g.pages - 2))

  -- the summary of a complete block bears the label of its page 0, whose kind is one
  pub record Labelled (s : Summary) : Type 0 where
    pub kind_is : s.kind ≡ (label_in g block 0).kind
    pub logical_is : s.logical ≡ (label_in g block 0).logical
    pub number_is : s.number ≡ (label_in g block 0).number
    pub kind_some : (label_in g block 0).kind ≡ 0 → ⊥

  pub no_kind : whole_in g block 0 ≡ true → (label_in g block 0).kind ≡ 0 → ⊥
  unfolding label_of
  no_kind w e =
      let z : number_width (kind_of g.main (page_in g block 0)) ≡ 0 = ap number_width e ∙ width_zero in
      omega (arith, z, (whole_parts g.main (page_in g block 0) w).width)

  pub complete_label : 2 ≤ g.pages → is_complete g block ≡ true → Labelled (summed g block g.pages)
  unfolding is_complete
  complete_label h c =
      let all = (unless (is_marked g block) _ c).1 in
      let r = subst (λ (k : ℕ). Sums g block k (summed g block k)) (more_than_one g.pages h) (sums (suc (g.pages - 2))) in
      cases (whole_in g block 0)
      (λ w. record { kind_is = r.kind_is w; logical_is = r.logical_is w; number_is = r.number_is w; kind_some = no_kind w })
      (λ w. absurd (false≢true (sym (r.broken_is w) ∙ all)))
