-- Laws of the search for the smallest selection at fault. Assumes nothing.
use Prim.Native.Nat.{ℕ, suc, ◌+◌, ◌-◌, ◌≤◌}
use mathlib.Core.Bool.{true, false}
use mathlib.Core.List.{List}
use mathlib.Core.Path.{◌≡◌, sym, ap, ◌∙◌}
use native.Mathlib.Omega.{arith}
use borrow.Table.Steps.{cases}
use borrow.Author.Tests.{eq-eqb, ne_eqb, eqb-true, eqb-false, leb-true}
use lib.Dec.{eqb, leb}
use lib.ListN.{length}
use Rattle.bools.proofs.BoolLaws.{both}
use Rattle.price_rules.specs.Rules.{selectable, price_among}
use Rattle.price_rules.specs.Meaning.{Shaped}
use Rattle.price_rules.specs.Told.{number_of, refused}
use Rattle.price_rules.specs.declared.Refusal.{Refusal}
use Rattle.price_rules.specs.declared.Refusal.TheVariants.{OutOfRange, Uncovered, Disputed}
use Rattle.price_rules.specs.Faults.{Checked, refusal_at, found, fault_from, shaped, checking, sold, pricing}

-- the search from s up to 99
module _ (first last : List ℕ) (s : ℕ) where
  pub fault_here : s ≤ 99 → (refusal_at first last s ≡ 0 → ⊥) → found (refusal_at first last s) s ≡ fault_from first last s (100 - s)
  unfolding fault_from
  fault_here h k =
      let e : 100 - s ≡ suc (99 - s) = omega arith in
      rw (e, ne_eqb (refusal_at first last s) 0 k)

  pub fault_on : s ≤ 99 → refusal_at first last s ≡ 0 → fault_from first last (s + 1) (100 - (s + 1)) ≡ fault_from first last s (100 - s)
  unfolding fault_from
  fault_on h k =
      let e : 100 - s ≡ suc (100 - (s + 1)) = omega arith in
      rw (e, eq-eqb (refusal_at first last s) 0 k)

  pub fault_over : s ≡ 100 → found 0 0 ≡ fault_from first last s (100 - s)
  unfolding fault_from
  fault_over h =
      let e : 100 - s ≡ 0 = omega arith in
      rw e

-- no refusal has the number 0
number_some : (r : Refusal) → number_of r ≡ 0 → ⊥
number_some OutOfRange e = omega arith
number_some (Uncovered s) e = omega arith
number_some (Disputed s) e = omega arith

-- what the search of s alone says of the search from s up to 99
module _ (first last : List ℕ) (s : ℕ) where
  pub none_at : found 0 0 ≡ fault_from first last s 1 → refusal_at first last s ≡ 0
  unfolding fault_from
  none_at h =
      cases (eqb (refusal_at first last s) 0)
      (λ t. eqb-true (refusal_at first last s) 0 t)
      (λ t. sym (ap (λ (c : Checked). c.answer) (rw t at h)))

  pub fault_at : (r : Refusal) → s ≤ 99 → refused r ≡ fault_from first last s 1 → refused r ≡ fault_from first last s (100 - s)
  unfolding fault_from
  fault_at r l h =
      cases (eqb (refusal_at first last s) 0)
      (λ t. absurd (number_some r (ap (λ (c : Checked). c.answer) (rw t at h))))
      (λ t. rw t at h ∙ fault_here first last s l (eqb-false (refusal_at first last s) 0 t))

pub shaped_facts : (firsts lasts prices : ℕ) → shaped firsts lasts prices ≡ true → Shaped firsts lasts prices
unfolding shaped
shaped_facts firsts lasts prices h =
    let x = both (leb firsts 200) _ h in
    let y = both (eqb lasts firsts) _ x.1 in
    record { few = leb-true firsts 200 x.0; last_each = eqb-true lasts firsts y.0; price_each = eqb-true prices firsts y.1 }

module _ (first last price : List ℕ) where
  pub checked_shaped : shaped (length first) (length last) (length price) ≡ true → fault_from first last 1 99 ≡ checking first last price
  unfolding checking
  checked_shaped h = rw h

  pub checked_unshaped : shaped (length first) (length last) (length price) ≡ false → found 2 0 ≡ checking first last price
  unfolding checking
  checked_unshaped h = rw h

  pub accepted_shaped : (checking first last price).answer ≡ 0 → shaped (length first) (length last) (length price) ≡ true
  unfolding checking
  accepted_shaped h =
      cases (shaped (length first) (length last) (length price))
      (λ t. t)
      (λ t. absurd (two_not_zero (sym (rw t) ∙ h)))
    where
      two_not_zero : ◌≡◌ {A = ℕ} 2 0 → ⊥
      two_not_zero e = omega arith

  -- the price of a selection
  module _ (s : ℕ) where
    pub price_outside : selectable s ≡ false → sold 2 0 ≡ pricing first last price s
    unfolding pricing
    price_outside h = rw h

    pub price_refused : selectable s ≡ true → ((checking first last price).answer ≡ 0 → ⊥) → sold (checking first last price).answer 0 ≡ pricing first last price s
    unfolding pricing
    price_refused h k = rw (h, ne_eqb (checking first last price).answer 0 k)

    pub price_found : selectable s ≡ true → (checking first last price).answer ≡ 0 → sold 0 (price_among first last price s (length first)) ≡ pricing first last price s
    unfolding pricing
    price_found h k = rw (h, eq-eqb (checking first last price).answer 0 k)

    -- the same of what the check returns
    pub price_refused_by : selectable s ≡ true → (r : Refusal) → refused r ≡ checking first last price → sold (number_of r) 0 ≡ pricing first last price s
    price_refused_by h r e =
        let told : number_of r ≡ (checking first last price).answer = ap (λ (c : Checked). c.answer) e in
        ap (λ (k : ℕ). sold k 0) told ∙ price_refused h (λ z. number_some r (told ∙ z))
