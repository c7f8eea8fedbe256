-- The search for the smallest selection at fault: none, or the one found and none before it. Assumes nothing.
use Prim.Native.Nat.{ℕ, zero, suc, ◌+◌, ◌≤◌, ◌<◌}
use mathlib.Core.List.{List}
use mathlib.Core.Path.{◌≡◌, refl, ap, ◌∙◌}
use native.Mathlib.Omega.{arith}
use borrow.Table.Steps.{cases}
use borrow.Author.Tests.{eq-eqb, eqb-true, eqb-false}
use lib.Dec.{eqb}
use Rattle.price_rules.specs.Faults.{refusal_at, found, fault_from}

module _ (first last : List ℕ) where
  pub record FoundAt (s n k : ℕ) : Type 0 where
    pub from : s ≤ k
    pub within : k < s + n
    pub refused : refusal_at first last k ≡ 0 → ⊥
    pub is : fault_from first last s n ≡ found (refusal_at first last k) k
    pub before : (j : ℕ) → s ≤ j → j < k → refusal_at first last j ≡ 0

  pub data Search (s n : ℕ) : Type 0 where
    clean : fault_from first last s n ≡ found 0 0 → ((j : ℕ) → s ≤ j → j < s + n → refusal_at first last j ≡ 0) → Search s n
    fault : (k : ℕ) → FoundAt s n k → Search s n

  -- a selection that is not at fault goes before
  first_too : (s : ℕ) → refusal_at first last s ≡ 0 → (k : ℕ) → ((j : ℕ) → s + 1 ≤ j → j < k → refusal_at first last j ≡ 0) → (j : ℕ) → s ≤ j → j < k → refusal_at first last j ≡ 0
  first_too s e k f j l m =
      cases (eqb j s)
      (λ t. ap (refusal_at first last) (eqb-true j s t) ∙ e)
      (λ t. f j (omega (arith, l, eqb-false j s t)) m)

  search_on : (s n : ℕ) → refusal_at first last s ≡ 0 → Search (s + 1) n → Search s (suc n)
  unfolding fault_from
  search_on s n e (clean h f) =
      clean (rw (eq-eqb (refusal_at first last s) 0 e) h) (λ j l m. first_too s e (s + 1 + n) f j l (omega (arith, m)))
  search_on s n e (fault k x) =
      fault k (record {
        from = omega (arith, x.from);
        within = omega (arith, x.within);
        refused = x.refused;
        is = rw (eq-eqb (refusal_at first last s) 0 e) x.is;
        before = first_too s e k x.before;
      })

  pub searched : (s n : ℕ) → Search s n
  unfolding fault_from
  searched s zero = clean refl (λ j l m. absurd (omega (arith, l, m)))
  searched s (suc n) =
      cases (eqb (refusal_at first last s) 0)
      (λ t. search_on s n (eqb-true (refusal_at first last s) 0 t) (searched (s + 1) n))
      (λ t.
      fault s (record {
        from = omega arith;
        within = omega arith;
        refused = eqb-false (refusal_at first last s) 0 t;
        is = rw t;
        before = λ j l m. absurd (omega (arith, l, m));
      }))
