-- The price of a selection is that of the one rule it falls in. Assumes nothing.
use Prim.Native.Nat.{ℕ, zero, suc, ◌≤◌, ◌<◌}
use mathlib.Core.Bool.{false}
use mathlib.Core.List.{List}
use mathlib.Core.Logic.{◌⊎◌, ⊎_elim}
use mathlib.Core.Path.{◌≡◌, sym, ap, ◌∙◌}
use native.Mathlib.Omega.{arith}
use borrow.Table.Steps.{cases}
use borrow.Author.Tests.{eqb-true, eqb-false}
use lib.Dec.{eqb}
use lib.ListN.{length, get_or}
use Rattle.bools.proofs.BoolLaws.{clash}
use Rattle.price_rules.specs.Rules.{falls, price_among}
use Rattle.price_rules.specs.Faults.{checking, sold, pricing}
use Rattle.price_rules.specs.Meaning.{One}
use Rattle.price_rules.proofs.RuleLaws.{selectable_below, selectable_in, selectable_above, within_in}
use Rattle.price_rules.proofs.FaultLaws.{price_outside, price_refused, price_found}
use Rattle.price_rules.proofs.CountLaws.{within_so}
use Rattle.price_rules.proofs.CheckLaws.{accepted_sound}

module _ (first last price : List ℕ) (s : ℕ) where
  -- among the first n rules, the one that covers s with them
  price_among_fact : (o : One first last s) (n : ℕ) → n ≤ length first → o.rule < n → price_among first last price s n ≡ get_or price o.rule 0
  unfolding price_among
  price_among_fact o zero l h = absurd (omega (arith, h))
  price_among_fact o (suc n) l h =
      cases (falls first last s n)
      (λ t. rw t (ap (λ (i : ℕ). get_or price i 0) (o.alone n (omega (arith, l)) (within_so (get_or first n 0) (get_or last n 0) s t))))
      (λ t. rw t (price_among_fact o n (omega (arith, l)) (other t)))
    where
      other : falls first last s n ≡ false → o.rule < n
      other t =
          cases (eqb o.rule n)
          (λ e. clash (sym (within_in (get_or first o.rule 0) (get_or last o.rule 0) s o.covers.0 o.covers.1)) (ap (falls first last s) (eqb-true o.rule n e) ∙ t))
          (λ e. omega (arith, h, eqb-false o.rule n e))

  -- an accepted table has exactly one rule for each selection
  pub has_one : (checking first last price).answer ≡ 0 → 1 ≤ s → s ≤ 99 → One first last s
  has_one h l m = (accepted_sound first last price h).one s l m

  -- and the price is that rule's
  pub price_is : (checking first last price).answer ≡ 0 → 1 ≤ s → s ≤ 99 → (o : One first last s) → pricing first last price s ≡ sold 0 (get_or price o.rule 0)
  price_is h l m o =
      sym (price_found first last price s (sym (selectable_in s l m)) h)
      ∙ ap (sold 0) (price_among_fact o (length first) (omega arith) o.there)

  -- a price asked for what is no selection gets 2, whatever the table
  pub price_none : (s ≡ 0) ⊎ (99 < s) → pricing first last price s ≡ sold 2 0
  price_none h = sym (price_outside first last price s (⊎_elim (λ e. sym (selectable_below s (omega (arith, e)))) (λ l. sym (selectable_above s (omega (arith, l)) l)) h))

  -- a refused table gives its refusal and no price
  pub price_refusal : 1 ≤ s → s ≤ 99 → ((checking first last price).answer ≡ 0 → ⊥) → pricing first last price s ≡ sold (checking first last price).answer 0
  price_refusal l m h = sym (price_refused first last price s (sym (selectable_in s l m)) h)
