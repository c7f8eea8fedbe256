-- What the check of a table answers: each answer exactly under its condition. Assumes nothing.
use Prim.Native.Nat.{ℕ, ◌≤◌, ◌<◌}
use mathlib.Core.Bool.{true}
use mathlib.Core.List.{List}
use mathlib.Core.Logic.{◌↔◌, ⊎_elim}
use mathlib.Core.Path.{◌≡◌, refl, sym, ap, subst, ◌∙◌}
use native.Mathlib.Omega.{arith}
use borrow.Table.Steps.{cases}
use borrow.Author.Tests.{eq-eqb, le-leb, ltb-true, ltb-false}
use lib.Dec.{ltb}
use lib.ListN.{length, get_or}
use Rattle.bools.proofs.BoolLaws.{clash}
use Rattle.price_rules.specs.Rules.{selectable, wrong, fault_of}
use Rattle.price_rules.specs.Faults.{Checked, refusal_at, found, fault_from, shaped, checking}
use Rattle.price_rules.specs.Meaning.{Shaped, Right, Clear, Smallest, Sound, Uncovered, Disputed}
use Rattle.price_rules.proofs.FaultLaws.{shaped_facts, checked_shaped, checked_unshaped}
use Rattle.price_rules.proofs.CountLaws.{selectable_so, right_so, right_not, one_not_two, gap_not_one}
use Rattle.price_rules.proofs.VerdictLaws.{Verdict, clear, gap, in_dispute, verdict, clear_so, gap_so, disputed_so, so_clear}
use Rattle.price_rules.proofs.SearchLaws.{FoundAt, Search, clean, fault, searched}

shaped_so : (firsts lasts prices : ℕ) → Shaped firsts lasts prices → shaped firsts lasts prices ≡ true
unfolding shaped
shaped_so firsts lasts prices h = rw (le-leb firsts 200 h.few, eq-eqb lasts firsts h.last_each, eq-eqb prices firsts h.price_each)

-- the selection at fault in a wrong rule is a selection
pub fault_in : (f : ℕ) → (1 ≤ fault_of f) × (fault_of f ≤ 99)
unfolding fault_of
fault_in f = cases (selectable f) (λ t. rw t (selectable_so f t)) (λ t. rw t (omega arith, omega arith))

-- the check of a table
module _ (first last price : List ℕ) where
  -- where every selection is clear, every rule is right
  all_right : ((s : ℕ) → 1 ≤ s → s ≤ 99 → Clear first last s) → (i : ℕ) → i < length first → Right (get_or first i 0) (get_or last i 0)
  all_right c i l =
      cases (wrong (get_or first i 0) (get_or last i 0))
      (λ t.
      let at = fault_in (get_or first i 0) in
      absurd ((c (fault_of (get_or first i 0)) at.0 at.1).none_wrong (record { rule = i; there = l; not_right = right_not (get_or first i 0) (get_or last i 0) t; fault = refl })))
      (λ t. right_so (get_or first i 0) (get_or last i 0) t)

  -- what each answer means
  pub data Ended : Type 0 where
    unshaped : checking first last price ≡ found 2 0 → (Shaped (length first) (length last) (length price) → ⊥) → Ended
    accepted : checking first last price ≡ found 0 0 → Sound first last price → Ended
    uncovered : (s : ℕ) → checking first last price ≡ found 17 s → Uncovered first last price s → Ended
    disputed : (s : ℕ) → checking first last price ≡ found 18 s → Disputed first last price s → Ended

  smallest : (k : ℕ) → FoundAt first last 1 99 k → Smallest first last k
  smallest k x = record { low = x.from; high = omega (arith, x.within); below = λ r l m. so_clear first last r (x.before r l m) }

  at_fault : Shaped (length first) (length last) (length price) → (k : ℕ) → FoundAt first last 1 99 k → checking first last price ≡ fault_from first last 1 99 → Verdict first last k → Ended
  at_fault h k x e (clear r y) = absurd (x.refused r)
  at_fault h k x e (gap r g w) =
      uncovered k (e ∙ x.is ∙ ap (λ (a : ℕ). found a k) r)
      (record { shape = h; smallest = smallest k x; gap = g; none_wrong = w })
  at_fault h k x e (in_dispute r y) =
      disputed k (e ∙ x.is ∙ ap (λ (a : ℕ). found a k) r)
      (record { shape = h; smallest = smallest k x; why = y })

  by_search : Shaped (length first) (length last) (length price) → checking first last price ≡ fault_from first last 1 99 → Search first last 1 99 → Ended
  by_search h e (clean f c) =
      let all : (s : ℕ) → 1 ≤ s → s ≤ 99 → Clear first last s = λ s l m. so_clear first last s (c s l (omega (arith, m))) in
      accepted (e ∙ f) (record { shape = h; right = all_right all; one = λ s l m. (all s l m).one })
  by_search h e (fault k x) = at_fault h k x e (verdict first last k)

  pub checked : Ended
  checked =
      cases (shaped (length first) (length last) (length price))
      (λ t. by_search (shaped_facts _ _ _ t) (sym (checked_shaped first last price t)) (searched first last 1 99))
      (λ t. unshaped (sym (checked_unshaped first last price t)) (λ h. clash (shaped_so _ _ _ h) t))

  -- a selection at fault with none before it is the one reported
  one_place : (s : ℕ) → Smallest first last s → (refusal_at first last s ≡ 0 → ⊥) → (k : ℕ) → FoundAt first last 1 99 k → k ≡ s
  one_place s y r k x =
      cases (ltb k s)
      (λ t. absurd (x.refused (clear_so first last k (y.below k x.from (ltb-true k s t)))))
      (λ t.
      cases (ltb s k)
      (λ u. absurd (r (x.before s y.low (ltb-true s k u))))
      (λ u. omega (arith, ltb-false k s t, ltb-false s k u)))

  smallest_found : Shaped (length first) (length last) (length price) → (s : ℕ) → Smallest first last s → (refusal_at first last s ≡ 0 → ⊥) → checking first last price ≡ found (refusal_at first last s) s
  smallest_found h s y r = sym (checked_shaped first last price (shaped_so _ _ _ h)) ∙ go (searched first last 1 99)
    where
      go : Search first last 1 99 → fault_from first last 1 99 ≡ found (refusal_at first last s) s
      go (clean f c) = absurd (r (c s y.low (omega (arith, y.high))))
      go (fault k x) = x.is ∙ ap (λ (j : ℕ). found (refusal_at first last j) j) (one_place s y r k x)

  -- the check's answer and selection
  answer : {a k : ℕ} → checking first last price ≡ found a k → (checking first last price).answer ≡ a
  answer e = ap (λ (c : Checked). c.answer) e

  place : {a b k s : ℕ} → checking first last price ≡ found a k → checking first last price ≡ found b s → k ≡ s
  place e f = ap (λ (c : Checked). c.fault) (sym e ∙ f)

  -- accepted exactly where each selection falls in exactly one rule and every rule is right; nothing is then reported
  pub accepted_sound : (checking first last price).answer ≡ 0 → Sound first last price
  accepted_sound h = go checked
    where
      go : Ended → Sound first last price
      go (unshaped e x) = absurd (omega (arith, h, answer e))
      go (accepted e x) = x
      go (uncovered s e x) = absurd (omega (arith, h, answer e))
      go (disputed s e x) = absurd (omega (arith, h, answer e))

  pub sound_accepted : Sound first last price → checking first last price ≡ found 0 0
  sound_accepted y = go checked
    where
      go : Ended → checking first last price ≡ found 0 0
      go (unshaped e x) = absurd (x y.shape)
      go (accepted e x) = e
      go (uncovered s e x) = absurd (gap_not_one first last s x.gap (y.one s x.smallest.low x.smallest.high))
      go (disputed s e x) =
          absurd
          (⊎_elim
          (one_not_two first last s (y.one s x.smallest.low x.smallest.high))
          (λ w. w.not_right (y.right w.rule w.there))
          x.why)

  pub accepted_exactly : ((checking first last price).answer ≡ 0) ↔ Sound first last price
  accepted_exactly = (accepted_sound, λ y. answer (sound_accepted y))

  -- 17 exactly where the selection reported is the smallest at fault and no rule covers it
  pub uncovered_exactly : (s : ℕ) → (checking first last price ≡ found 17 s) ↔ Uncovered first last price s
  uncovered_exactly s = (λ e. go e checked, λ y. back y (gap_so first last s y.gap y.none_wrong))
    where
      go : checking first last price ≡ found 17 s → Ended → Uncovered first last price s
      go h (unshaped e x) = absurd (omega (arith, answer h, answer e))
      go h (accepted e x) = absurd (omega (arith, answer h, answer e))
      go h (uncovered r e x) = subst (λ (k : ℕ). Uncovered first last price k) (place e h) x
      go h (disputed r e x) = absurd (omega (arith, answer h, answer e))

      back : Uncovered first last price s → refusal_at first last s ≡ 17 → checking first last price ≡ found 17 s
      back y e = smallest_found y.shape s y.smallest (λ z. omega (arith, e, z)) ∙ ap (λ (a : ℕ). found a s) e

  -- 18 exactly where it is the smallest at fault, and two rules cover it or a wrong rule has it at fault
  pub disputed_exactly : (s : ℕ) → (checking first last price ≡ found 18 s) ↔ Disputed first last price s
  disputed_exactly s = (λ e. go e checked, λ y. back y (disputed_so first last s y.why))
    where
      go : checking first last price ≡ found 18 s → Ended → Disputed first last price s
      go h (unshaped e x) = absurd (omega (arith, answer h, answer e))
      go h (accepted e x) = absurd (omega (arith, answer h, answer e))
      go h (uncovered r e x) = absurd (omega (arith, answer h, answer e))
      go h (disputed r e x) = subst (λ (k : ℕ). Disputed first last price k) (place e h) x

      back : Disputed first last price s → refusal_at first last s ≡ 18 → checking first last price ≡ found 18 s
      back y e = smallest_found y.shape s y.smallest (λ z. omega (arith, e, z)) ∙ ap (λ (a : ℕ). found a s) e

  -- 2 exactly where there are more than 200 rules or the lengths differ; no selection is then reported
  pub unshaped_exactly : (checking first last price ≡ found 2 0) ↔ (Shaped (length first) (length last) (length price) → ⊥)
  unshaped_exactly = (λ e. go e checked, λ x. back x checked)
    where
      go : checking first last price ≡ found 2 0 → Ended → Shaped (length first) (length last) (length price) → ⊥
      go h (unshaped e x) = x
      go h (accepted e x) = absurd (omega (arith, answer h, answer e))
      go h (uncovered s e x) = absurd (omega (arith, answer h, answer e))
      go h (disputed s e x) = absurd (omega (arith, answer h, answer e))

      back : (Shaped (length first) (length last) (length price) → ⊥) → Ended → checking first last price ≡ found 2 0
      back h (unshaped e x) = e
      back h (accepted e x) = absurd (h x.shape)
      back h (uncovered s e x) = absurd (h x.shape)
      back h (disputed s e x) = absurd (h x.shape)
