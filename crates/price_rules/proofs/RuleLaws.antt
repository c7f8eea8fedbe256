-- Laws of single rules, and of counts over the first rules of a table. Assumes nothing.
use Prim.Native.Nat.{ℕ, zero, suc, ◌+◌, ◌≤◌, ◌<◌}
use mathlib.Core.Bool.{true, false}
use mathlib.Core.List.{List, [], ◌∷◌}
use mathlib.Core.Path.{◌≡◌, sym, ap, ◌∙◌}
use native.Mathlib.Nat.{add-zero}
use native.Mathlib.Numerals.{add-one}
use native.Mathlib.Omega.{arith}
use borrow.Table.Steps.{cases}
use borrow.Author.Tests.{eq-eqb, ne_eqb, eqb-true, eqb-false, le-leb, lt-leb, le-ltb}
use lib.Dec.{eqb}
use lib.ListN.{length, get_or}
use Rattle.std.specs.List.{zip}
use Rattle.bools.proofs.BoolLaws.{clash}
use Rattle.price_rules.specs.Rules.{selectable, within, wrong, fault_of, wrong_with, falls, faulted, covering, any_faulted, price_among}
use Rattle.price_rules.specs.Faults.{found, refusal_at, fault_from}

pub selectable_below : (s : ℕ) → s < 1 → false ≡ selectable s
unfolding selectable
selectable_below s h = rw (lt-leb 1 s h)

pub selectable_in : (s : ℕ) → 1 ≤ s → s ≤ 99 → true ≡ selectable s
unfolding selectable
selectable_in s h k = rw (le-leb 1 s h, le-leb s 99 k)

pub selectable_above : (s : ℕ) → 1 ≤ s → 99 < s → false ≡ selectable s
unfolding selectable
selectable_above s h k = rw (le-leb 1 s h, lt-leb s 99 k)

-- when a selection falls in a rule
module _ (first last s : ℕ) where
  pub within_in : first ≤ s → s ≤ last → true ≡ within first last s
  unfolding within
  within_in h k = rw (le-leb first s h, le-leb s last k)

-- when a rule is wrong, and with which selection at fault
module _ (first last : ℕ) where
  pub right_ends : selectable first ≡ true → selectable last ≡ true → first ≤ last → false ≡ wrong first last
  unfolding wrong
  right_ends h k l = rw (h, k, le-ltb last first l)

  pub wrong_here : (s : ℕ) → wrong first last ≡ true → fault_of first ≡ s → true ≡ wrong_with first last s
  unfolding wrong_with
  wrong_here s h k = rw (h, eq-eqb (fault_of first) s k)

module _ (first last : List ℕ) (s : ℕ) where
  -- one rule more
  pub cover_more : (n : ℕ) → falls first last s n ≡ true → covering first last s (n + 1) ≡ covering first last s n + 1
  unfolding covering
  cover_more n h = rw (add-one, h)

  pub cover_same : (n : ℕ) → falls first last s n ≡ false → covering first last s (n + 1) ≡ covering first last s n
  unfolding covering
  cover_same n h = rw (add-one, h) (add-zero (covering first last s n))

  pub none_more : (n : ℕ) → faulted first last s n ≡ false → any_faulted first last s n ≡ false → any_faulted first last s (n + 1) ≡ false
  unfolding any_faulted
  none_more n h k = rw (add-one, h, k)

  -- a rule that is wrong for s is found among any more
  pub any_at : (n i : ℕ) → i < n → faulted first last s i ≡ true → any_faulted first last s n ≡ true
  unfolding any_faulted
  any_at zero i l h = absurd (omega arith)
  any_at (suc n) i l h =
      cases (faulted first last s n)
      (λ t. rw t)
      (λ t. rw t (any_at n i (other n i l h t) h))
    where
      other : (n i : ℕ) → i < suc n → faulted first last s i ≡ true → faulted first last s n ≡ false → i < n
      other n i l h t =
          cases (eqb i n)
          (λ e. clash h (ap (faulted first last s) (eqb-true i n e) ∙ t))
          (λ e. omega (arith, eqb-false i n e))

  -- how s is refused
  pub refused_wrong : any_faulted first last s (length first) ≡ true → 18 ≡ refusal_at first last s
  unfolding refusal_at
  refused_wrong h = rw h

  pub refused_overlap : any_faulted first last s (length first) ≡ false → 2 ≤ covering first last s (length first) → 18 ≡ refusal_at first last s
  unfolding refusal_at
  refused_overlap h k = rw (h, le-leb 2 (covering first last s (length first)) k)

  pub refused_gap : any_faulted first last s (length first) ≡ false → covering first last s (length first) ≡ 0 → 17 ≡ refusal_at first last s
  unfolding refusal_at
  refused_gap h k = rw (h, k)

  pub refused_not : any_faulted first last s (length first) ≡ false → covering first last s (length first) ≡ 1 → 0 ≡ refusal_at first last s
  unfolding refusal_at
  refused_not h k = rw (h, k)

  -- what a search of s alone gives
  told_refused : (a : ℕ) → (a ≡ 0 → ⊥) → a ≡ refusal_at first last s → found a s ≡ fault_from first last s 1
  unfolding fault_from
  told_refused a n h = rw (sym h, ne_eqb a 0 n)

  pub told_wrong : any_faulted first last s (length first) ≡ true → found 18 s ≡ fault_from first last s 1
  told_wrong h = told_refused 18 (λ e. omega arith) (refused_wrong h)

  pub told_overlap : any_faulted first last s (length first) ≡ false → 2 ≤ covering first last s (length first) → found 18 s ≡ fault_from first last s 1
  told_overlap h k = told_refused 18 (λ e. omega arith) (refused_overlap h k)

  pub told_gap : any_faulted first last s (length first) ≡ false → covering first last s (length first) ≡ 0 → found 17 s ≡ fault_from first last s 1
  told_gap h k = told_refused 17 (λ e. omega arith) (refused_gap h k)

  pub told_not : any_faulted first last s (length first) ≡ false → covering first last s (length first) ≡ 1 → found 0 0 ≡ fault_from first last s 1
  unfolding fault_from
  told_not h k = rw (sym (refused_not h k))

module _ (first last price : List ℕ) (s : ℕ) where
  pub price_here : (n : ℕ) → falls first last s n ≡ true → price_among first last price s (n + 1) ≡ get_or price n 0
  unfolding price_among
  price_here n h = rw (add-one, h)

  pub price_kept : (n : ℕ) → falls first last s n ≡ false → price_among first last price s (n + 1) ≡ price_among first last price s n
  unfolding price_among
  price_kept n h = rw (add-one, h)

-- the parts of a table read side by side: rule n has the n-th of each
pub rule_at : (xs ys zs : List ℕ) (n a b p : ℕ) → n < length (zip (zip xs ys) zs) → ◌≡◌ {A = (ℕ × ℕ) × ℕ} ((a, b), p) (get_or (zip (zip xs ys) zs) n ((a, b), p)) → (a ≡ get_or xs n 0) × (b ≡ get_or ys n 0) × (p ≡ get_or zs n 0)
rule_at [] ys zs n a b p h e = absurd (omega arith)
rule_at (x ∷ xs) [] zs n a b p h e = absurd (omega arith)
rule_at (x ∷ xs) (y ∷ ys) [] n a b p h e = absurd (omega arith)
rule_at (x ∷ xs) (y ∷ ys) (z ∷ zs) zero a b p h e = (ap (λ (r : (ℕ × ℕ) × ℕ). r.0.0) e, ap (λ (r : (ℕ × ℕ) × ℕ). r.0.1) e, ap (λ (r : (ℕ × ℕ) × ℕ). r.1) e)
rule_at (x ∷ xs) (y ∷ ys) (z ∷ zs) (suc n) a b p h e = rule_at xs ys zs n a b p (omega arith) e
