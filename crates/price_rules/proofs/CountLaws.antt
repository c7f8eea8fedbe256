-- Counted rules and the rules themselves: none, exactly one, or two. Assumes nothing.
use Prim.Native.Nat.{ℕ, zero, suc, ◌≤◌, ◌<◌}
use mathlib.Core.Bool.{Bool, true, false, cond}
use mathlib.Core.List.{List}
use mathlib.Core.Path.{◌≡◌, refl, sym, subst, ◌∙◌}
use native.Mathlib.Nat.{add-zero}
use native.Mathlib.Omega.{arith}
use borrow.Table.Steps.{cases}
use borrow.Author.Tests.{eqb-true, eqb-false, leb-true, ltb-false}
use lib.Dec.{eqb, leb}
use lib.ListN.{length, get_or}
use Rattle.bools.proofs.BoolLaws.{both, clash}
use Rattle.price_rules.specs.Rules.{selectable, within, wrong, fault_of, wrong_with, falls, faulted, covering, any_faulted}
use Rattle.price_rules.specs.Meaning.{Right, Gap, One, Two, Wrong}
use Rattle.price_rules.proofs.RuleLaws.{selectable_in, within_in, right_ends, wrong_here, any_at}

-- a chain of tests, each of which must hold, that ends in one that must fail
only : (b x : Bool) → cond b x true ≡ false → (b ≡ true) × (x ≡ false)
only true x h = (refl, h)
only false x h = clash refl h

-- what holds below n and of n holds below n + 1
upto : (P : ℕ → Type 0) (n : ℕ) → ((j : ℕ) → j < n → P j) → P n → (j : ℕ) → j < suc n → P j
upto P n f p j l =
    cases (eqb j n)
    (λ e. subst P (sym (eqb-true j n e)) p)
    (λ e. f j (omega (arith, l, eqb-false j n e)))

pub selectable_so : (s : ℕ) → selectable s ≡ true → (1 ≤ s) × (s ≤ 99)
unfolding selectable
selectable_so s h =
    let x = both (leb 1 s) _ h in
    (leb-true 1 s x.0, leb-true s 99 x.1)

-- one rule: the tests and what they mean
module _ (first last : ℕ) where
  pub within_so : (s : ℕ) → within first last s ≡ true → (first ≤ s) × (s ≤ last)
  unfolding within
  within_so s h =
      let x = both (leb first s) _ h in
      (leb-true first s x.0, leb-true s last x.1)

  pub within_not : (s : ℕ) → within first last s ≡ false → (first ≤ s) × (s ≤ last) → ⊥
  within_not s h x = clash (sym (within_in first last s x.0 x.1)) h

  pub right_so : wrong first last ≡ false → Right first last
  unfolding wrong
  right_so h =
      let x = only (selectable first) _ h in
      let y = only (selectable last) _ x.1 in
      record {
        low = (selectable_so first x.0).0;
        rising = ltb-false last first y.1;
        high = (selectable_so last y.0).1;
      }

  pub right_not : wrong first last ≡ true → Right first last → ⊥
  right_not h r =
      clash h (sym (right_ends first last (sym (selectable_in first r.low (omega (arith, r.rising, r.high)))) (sym (selectable_in last (omega (arith, r.low, r.rising)) r.high)) r.rising))

-- the first n rules
module _ (first last : List ℕ) (s : ℕ) where
  pub record OneAmong (n : ℕ) : Type 0 where
    pub rule : ℕ
    pub there : rule < n
    pub covers : falls first last s rule ≡ true
    pub alone : (j : ℕ) → j < n → falls first last s j ≡ true → j ≡ rule

  pub record TwoAmong (n : ℕ) : Type 0 where
    pub rule : ℕ
    pub other : ℕ
    pub apart : rule < other
    pub there : other < n
    pub covers : falls first last s rule ≡ true
    pub also : falls first last s other ≡ true

  pub data Counted (n : ℕ) : Type 0 where
    none : covering first last s n ≡ 0 → ((j : ℕ) → j < n → falls first last s j ≡ false) → Counted n
    one : covering first last s n ≡ 1 → OneAmong n → Counted n
    two : 2 ≤ covering first last s n → TwoAmong n → Counted n

  -- one rule more, which does not cover s
  kept : (n : ℕ) → falls first last s n ≡ false → Counted n → Counted (suc n)
  unfolding covering
  kept n t (none e f) = none (rw t (add-zero _ ∙ e)) (upto (λ (j : ℕ). falls first last s j ≡ false) n f t)
  kept n t (one e x) =
      one
      (rw t (add-zero _ ∙ e))
      (record {
        rule = x.rule;
        there = omega (arith, x.there);
        covers = x.covers;
        alone = upto (λ (j : ℕ). falls first last s j ≡ true → j ≡ x.rule) n x.alone (λ u. clash u t);
      })
  kept n t (two e x) =
      two
      (rw t (omega (arith, e)))
      (record { rule = x.rule; other = x.other; apart = x.apart; there = omega (arith, x.there); covers = x.covers; also = x.also })

  -- one rule more, which covers s
  more : (n : ℕ) → falls first last s n ≡ true → Counted n → Counted (suc n)
  unfolding covering
  more n t (none e f) =
      one
      (rw (t, e))
      (record {
        rule = n;
        there = omega arith;
        covers = t;
        alone = upto (λ (j : ℕ). falls first last s j ≡ true → j ≡ n) n (λ j l u. clash u (f j l)) (λ u. refl);
      })
  more n t (one e x) =
      two
      (rw (t, e) (omega arith))
      (record { rule = x.rule; other = n; apart = x.there; there = omega arith; covers = x.covers; also = t })
  more n t (two e x) =
      two
      (rw t (omega (arith, e)))
      (record { rule = x.rule; other = x.other; apart = x.apart; there = omega (arith, x.there); covers = x.covers; also = x.also })

  pub counted : (n : ℕ) → Counted n
  unfolding covering
  counted zero = none refl (λ j l. absurd (omega arith))
  counted (suc n) = cases (falls first last s n) (λ t. more n t (counted n)) (λ t. kept n t (counted n))

  -- a rule that is wrong with s at fault
  any_found : (n : ℕ) → n ≤ length first → any_faulted first last s n ≡ true → Wrong first last s
  unfolding any_faulted wrong_with
  any_found zero l h = clash h refl
  any_found (suc n) l h =
      cases (faulted first last s n)
      (λ t.
      let x = both (wrong (get_or first n 0) (get_or last n 0)) _ t in
      record {
        rule = n;
        there = omega (arith, l);
        not_right = right_not (get_or first n 0) (get_or last n 0) x.0;
        fault = eqb-true (fault_of (get_or first n 0)) s x.1;
      })
      (λ t. any_found n (omega (arith, l)) (sym (rw t) ∙ h))

  pub wrong_found : any_faulted first last s (length first) ≡ true → Wrong first last s
  wrong_found h = any_found (length first) (omega arith) h

  pub found_wrong : Wrong first last s → any_faulted first last s (length first) ≡ true
  found_wrong w =
      any_at first last s (length first) w.rule w.there
      (sym (wrong_here (get_or first w.rule 0) (get_or last w.rule 0) s (not_right_so (get_or first w.rule 0) (get_or last w.rule 0) w.not_right) w.fault))
    where
      not_right_so : (f l : ℕ) → (Right f l → ⊥) → wrong f l ≡ true
      not_right_so f l h = cases (wrong f l) (λ t. t) (λ t. absurd (h (right_so f l t)))

  -- the same in terms of the ends
  pub gap_of : ((j : ℕ) → j < length first → falls first last s j ≡ false) → Gap first last s
  gap_of f i l x = within_not (get_or first i 0) (get_or last i 0) s (f i l) x

  pub one_of : OneAmong (length first) → One first last s
  one_of x =
      record {
        rule = x.rule;
        there = x.there;
        covers = within_so (get_or first x.rule 0) (get_or last x.rule 0) s x.covers;
        alone = λ j l y. x.alone j l (sym (within_in (get_or first j 0) (get_or last j 0) s y.0 y.1));
      }

  pub two_of : TwoAmong (length first) → Two first last s
  two_of x =
      record {
        rule = x.rule;
        other = x.other;
        apart = x.apart;
        there = x.there;
        covers = within_so (get_or first x.rule 0) (get_or last x.rule 0) s x.covers;
        also = within_so (get_or first x.other 0) (get_or last x.other 0) s x.also;
      }

  -- none, one and two exclude each other
  pub one_not_two : One first last s → Two first last s → ⊥
  one_not_two o t = omega (arith, t.apart, o.alone t.rule (omega (arith, t.apart, t.there)) t.covers, o.alone t.other t.there t.also)

  pub gap_not_one : Gap first last s → One first last s → ⊥
  gap_not_one g o = g o.rule o.there o.covers

  pub gap_not_two : Gap first last s → Two first last s → ⊥
  gap_not_two g t = g t.other t.there t.also
