-- Whether a wrong rule covers selections changes no answer: counted over the right rules only, the check is the same. Assumes nothing.
use Prim.Native.Nat.{ℕ, zero, suc, ◌+◌, ◌≤◌}
use mathlib.Core.Bool.{true, false, cond}
use mathlib.Core.List.{List}
use mathlib.Core.Path.{◌≡◌, refl, sym, ap, ◌∙◌}
use native.Mathlib.Omega.{arith}
use borrow.Table.Steps.{cases}
use borrow.Author.Tests.{eqb-true, eqb-false}
use lib.Dec.{eqb, leb}
use lib.ListN.{length, get_or}
use Rattle.bools.proofs.BoolLaws.{clash}
use Rattle.price_rules.specs.Rules.{selectable, within, wrong, fault_of, falls, covering, any_faulted}
use Rattle.price_rules.specs.Faults.{Checked, refusal_at, found, fault_from}
use Rattle.price_rules.proofs.RuleLaws.{wrong_here, any_at, refused_wrong}
use Rattle.price_rules.proofs.CountLaws.{within_so}
use Rattle.price_rules.proofs.CheckLaws.{fault_in}

-- a wrong rule covers no selection below its selection at fault
pub wrong_above : (first last s : ℕ) → 1 ≤ s → within first last s ≡ true → fault_of first ≤ s
unfolding fault_of
wrong_above first last s h t = cases (selectable first) (λ u. rw u (within_so first last s t).0) (λ u. rw u h)

module _ (first last : List ℕ) where
  -- how many of the first n rules are right and cover s
  pub covering_right : ℕ → ℕ → ℕ
  covering_right s zero = 0
  covering_right s (suc n) = covering_right s n + cond (wrong (get_or first n 0) (get_or last n 0)) 0 (cond (falls first last s n) 1 0)

  -- the refusals and the search by that count
  pub refusal_right_fact : ℕ → ℕ
  refusal_right_fact s =
      cond (cond (any_faulted first last s (length first)) true (leb 2 (covering_right s (length first)))) 18
      (cond (eqb (covering_right s (length first)) 0) 17 0)

  pub fault_right : ℕ → ℕ → Checked
  fault_right s zero = found 0 0
  fault_right s (suc n) =
      let more = fault_right (s + 1) n in
      cond (eqb (refusal_right_fact s) 0) more (found (refusal_right_fact s) s)

  -- no selection from 1 to s is at fault in a wrong rule
  NoneTo : ℕ → Type 0
  NoneTo s = (r : ℕ) → 1 ≤ r → r ≤ s → any_faulted first last r (length first) ≡ false

  count_right : (s : ℕ) → 1 ≤ s → NoneTo s → (n : ℕ) → n ≤ length first → covering_right s n ≡ covering first last s n
  unfolding covering_right covering NoneTo
  count_right s h f zero l = refl
  count_right s h f (suc n) l =
      cases (wrong (get_or first n 0) (get_or last n 0))
      (λ t.
      cases (falls first last s n)
      (λ u. clash (wrong_seen t) (f (fault_of (get_or first n 0)) (fault_in (get_or first n 0)).0 (wrong_above (get_or first n 0) (get_or last n 0) s h u)))
      (λ u. rw (t, u, count_right s h f n (omega (arith, l)))))
      (λ t. rw (t, count_right s h f n (omega (arith, l))))
    where
      wrong_seen : wrong (get_or first n 0) (get_or last n 0) ≡ true → any_faulted first last (fault_of (get_or first n 0)) (length first) ≡ true
      wrong_seen t =
          any_at first last (fault_of (get_or first n 0)) (length first) n (omega (arith, l))
          (sym (wrong_here (get_or first n 0) (get_or last n 0) (fault_of (get_or first n 0)) t refl))

  one_more : (s : ℕ) → NoneTo s → any_faulted first last (s + 1) (length first) ≡ false → NoneTo (s + 1)
  unfolding NoneTo
  one_more s f t r l m =
      cases (eqb r (s + 1))
      (λ e. ap (λ (k : ℕ). any_faulted first last k (length first)) (eqb-true r (s + 1) e) ∙ t)
      (λ e. f r l (omega (arith, m, eqb-false r (s + 1) e)))

  -- at the selection after s
  refusal_right : (s : ℕ) → NoneTo s → refusal_right_fact (s + 1) ≡ refusal_at first last (s + 1)
  unfolding refusal_right_fact refusal_at
  refusal_right s f =
      cases (any_faulted first last (s + 1) (length first))
      (λ t. rw t)
      (λ t. rw (count_right (s + 1) (omega arith) (one_more s f t) (length first) (omega arith)))

  none_at : (s : ℕ) → refusal_at first last s ≡ 0 → any_faulted first last s (length first) ≡ false
  none_at s e = cases (any_faulted first last s (length first)) (λ t. absurd (omega (arith, e, refused_wrong first last s t))) (λ t. t)

  search_right : (n s : ℕ) → NoneTo s → fault_right (s + 1) n ≡ fault_from first last (s + 1) n
  unfolding fault_right fault_from
  search_right zero s f = refl
  search_right (suc n) s f =
      cases (eqb (refusal_at first last (s + 1)) 0)
      (λ t. rw (refusal_right s f, t) (search_right n (s + 1) (one_more s f (none_at (s + 1) (eqb-true (refusal_at first last (s + 1)) 0 t)))))
      (λ t. rw (refusal_right s f, t))

  pub wrong_idle : fault_right 1 99 ≡ fault_from first last 1 99
  unfolding NoneTo
  wrong_idle = search_right 99 0 (λ r l m. absurd (omega (arith, l, m)))
