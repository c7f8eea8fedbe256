-- What the definition answers of any four lists: refused or not, and when. Assumes nothing.
use Prim.Native.Nat.{ℕ, suc, ◌*◌, ◌^◌, ◌≤◌, ◌<◌}
use mathlib.Core.Bool.{true, false}
use mathlib.Core.List.{List}
use mathlib.Core.Path.{◌≡◌, refl, sym, ap, ◌∙◌, subst}
use mathlib.Core.Logic.{◌↔◌}
use native.Mathlib.Omega.{arith}
use borrow.Table.Steps.{cases}
use lib.IntN.{sub_ℕ, nat_abs, ◌+ℤ◌}
use lib.ListN.{length, get_or}
use Rattle.reconcile.specs.Sales.{sales, accepted}
use Rattle.reconcile.specs.Totals.{Reconciled, if_agreed, if_missing, totals, refused, reconciled}
use Rattle.reconcile.specs.Balance.{sum}
use Rattle.reconcile.proofs.SaleLaws.{Accepted, accepted_parts, parts_accepted, rises-all, all-rises}
use Rattle.reconcile.proofs.SumLaws.{sales-length, sales-small, sum_bound, difference_bound, agreed-at-most, missing_at-most}
use Rattle.reconcile.proofs.PassLaws.{Narrow}
use Rattle.reconcile.proofs.BalanceLaws.{balance_signed}

module _ (bn ba mn ma : List ℕ) where
  pub box_refused : accepted bn ba ≡ false → refused ≡ reconciled bn ba mn ma
  unfolding reconciled
  box_refused f = rw f

  pub mechanism_refused : accepted bn ba ≡ true → accepted mn ma ≡ false → refused ≡ reconciled bn ba mn ma
  unfolding reconciled
  mechanism_refused t f = rw (t, f)

  pub both_accepted : accepted bn ba ≡ true → accepted mn ma ≡ true → totals (sales bn ba) (sales mn ma) ≡ reconciled bn ba mn ma
  unfolding reconciled
  both_accepted t u = rw (t, u)

-- a list that is neither too long nor without amounts nor falls or repeats a number
pub record Fine (numbers amounts : List ℕ) : Type 0 where
  pub short : length numbers ≤ 65535
  pub paired : length amounts ≡ length numbers
  pub rising : (i : ℕ) → suc i < length numbers → get_or numbers i 0 < get_or numbers (suc i) 0

pub fine_exactly : (numbers amounts : List ℕ) → (accepted numbers amounts ≡ true) ↔ Fine numbers amounts
fine_exactly numbers amounts = (
  λ t.
      let a = accepted_parts numbers amounts t in
      record { short = a.short; paired = a.paired; rising = λ i l. rises-all numbers a.rising i (suc i) (omega arith) l },
  λ f. parts_accepted numbers amounts (record { short = f.short; paired = f.paired; rising = all-rises numbers f.rising }),
)

-- every total is at most 65,535 times the greatest amount, below 2^48: it fits 64 bits, the difference with its sign
pub record Bounded (x : Reconciled) : Type 0 where
  pub agreed_most : x.agreed ≤ 281470681677825
  pub only_box_most : x.only_box ≤ 281470681677825
  pub only_mechanism_most : x.only_mechanism ≤ 281470681677825
  pub difference_most : nat_abs x.difference ≤ 281470681677825

most_is : (65535 * 4294967295 ≡ 281470681677825) × (281470681677825 < 2 ^ 48)
most_is = (refl, omega arith)

zeros_bounded : Bounded refused
zeros_bounded = record { agreed_most = omega arith; only_box_most = omega arith; only_mechanism_most = omega arith; difference_most = omega arith }

totals_bounded : (bn ba mn ma : List ℕ) → Accepted bn ba → Accepted mn ma → Narrow ba → Narrow ma → Bounded (totals (sales bn ba) (sales mn ma))
totals_bounded bn ba mn ma box mechanism f g =
    let box-small = sales-small bn ba f in
    let mechanism-small = sales-small mn ma g in
    let box-long = sales-length bn ba box.paired in
    let mechanism-long = sales-length mn ma mechanism.paired in
    record {
      agreed_most = omega (arith, sum_bound if_agreed agreed-at-most (sales bn ba) (sales mn ma) box-small, box-long, box.short);
      only_box_most = omega (arith, sum_bound if_missing missing_at-most (sales bn ba) (sales mn ma) box-small, box-long, box.short);
      only_mechanism_most = omega (arith, sum_bound if_missing missing_at-most (sales mn ma) (sales bn ba) mechanism-small, mechanism-long, mechanism.short);
      difference_most = omega (arith, difference_bound (sales bn ba) (sales mn ma) box-small mechanism-small, box-long, box.short);
    }

module _ (bn ba mn ma : List ℕ) where
  abbrev result_with : Reconciled
  result_with = reconciled bn ba mn ma

  -- 0 or 2: 0 exactly where both lists are fine, 2 exactly where one is not, and then four zeros
  fine_zero : Fine bn ba × Fine mn ma → result_with.answer ≡ 0
  fine_zero f = ap (λ (x : Reconciled). x.answer) (sym (both_accepted bn ba mn ma ((fine_exactly bn ba).1 f.0) ((fine_exactly mn ma).1 f.1)))

  unfine_refused : ((Fine bn ba × Fine mn ma) → ⊥) → result_with ≡ refused
  unfine_refused f =
      cases (accepted bn ba)
      (λ t.
      cases (accepted mn ma)
      (λ u. absurd (f ((fine_exactly bn ba).0 t, (fine_exactly mn ma).0 u)))
      (λ u. sym (mechanism_refused bn ba mn ma t u)))
      (λ t. sym (box_refused bn ba mn ma t))

  pub zero_exactly : (result_with.answer ≡ 0) ↔ (Fine bn ba × Fine mn ma)
  zero_exactly = (
    λ e.
        cases (accepted bn ba)
        (λ t.
        cases (accepted mn ma)
        (λ u. ((fine_exactly bn ba).0 t, (fine_exactly mn ma).0 u))
        (λ u. absurd (omega (arith, e, ap (λ (x : Reconciled). x.answer) (mechanism_refused bn ba mn ma t u)))))
        (λ t. absurd (omega (arith, e, ap (λ (x : Reconciled). x.answer) (box_refused bn ba mn ma t)))),
    fine_zero,
  )

  pub two_exactly : (result_with.answer ≡ 2) ↔ ((Fine bn ba × Fine mn ma) → ⊥)
  two_exactly = (λ e f. omega (arith, e, fine_zero f), λ f. ap (λ (x : Reconciled). x.answer) (unfine_refused f))

  pub two_zeros : result_with.answer ≡ 2 → result_with ≡ refused
  two_zeros e = unfine_refused (two_exactly.0 e)

  pub bounded : Narrow ba → Narrow ma → Bounded result_with
  bounded f g =
      cases (accepted bn ba)
      (λ t.
      cases (accepted mn ma)
      (λ u. subst Bounded (both_accepted bn ba mn ma t u) (totals_bounded bn ba mn ma (accepted_parts bn ba t) (accepted_parts mn ma u) f g))
      (λ u. subst Bounded (mechanism_refused bn ba mn ma t u) zeros_bounded))
      (λ t. subst Bounded (box_refused bn ba mn ma t) zeros_bounded)

  -- the box's sum minus the mechanism's is the second total minus the third plus the fourth, whenever the answer is 0
  pub balanced : result_with.answer ≡ 0 → sub_ℕ (sum ba) (sum ma) ≡ sub_ℕ result_with.only_box result_with.only_mechanism +ℤ result_with.difference
  balanced e =
      let f = zero_exactly.0 e in
      let t = (fine_exactly bn ba).1 f.0 in
      let u = (fine_exactly mn ma).1 f.1 in
      balance_signed bn ba mn ma (accepted_parts bn ba t) (accepted_parts mn ma u)
      ∙ ap (λ (x : Reconciled). sub_ℕ x.only_box x.only_mechanism +ℤ x.difference) (both_accepted bn ba mn ma t u)
