-- The fourth total at both ends: the longest lists with the greatest amounts against the least. Assumes nothing.
use Prim.Native.Nat.{ℕ, zero, suc, ◌*◌, ◌≤◌}
use mathlib.Core.Bool.{true}
use mathlib.Core.List.{List, [], ◌∷◌}
use mathlib.Core.Path.{◌≡◌, refl, sym, ap, ap₂, ◌∙◌}
use native.Mathlib.Nat.{zero-mul, suc-mul}
use native.Mathlib.Numerals.{add-one}
use native.Mathlib.Omega.{arith}
use borrow.Author.Tests.{lt-ltb}
use lib.IntN.{pos, negsuc, sub_ℕ, ◌+ℤ◌, +ℤ_idl}
use lib.ListN.{length, take, replicate, length-replicate}
use lib.Seq.{take_all}
use Rattle.reconcile.specs.Sales.{Sale, sales, rises}
use Rattle.reconcile.specs.Totals.{if_missing, sum_over, only_in, difference}
use Rattle.reconcile.specs.Balance.{sum}
use Rattle.reconcile.proofs.SaleLaws.{Accepted, rises-all, amount_at}
use Rattle.reconcile.proofs.SumLaws.{sales-length, sum_next}
use Rattle.reconcile.proofs.BalanceLaws.{balance_signed}

-- two lists of the same sales: nothing is missing, and the difference is that of the sums
module _ (numbers amounts others : List ℕ) (one : Accepted numbers amounts) (two : Accepted numbers others) where
  none_missing : (i : ℕ) → i ≤ length numbers → sum_over if_missing (take i (sales numbers amounts)) (sales numbers others) ≡ 0
  unfolding sum_over
  none_missing zero h = refl
  none_missing (suc i) h =
      let there = amount_at numbers others i two.paired (omega arith) (λ k l e. omega (arith, e, rises-all numbers one.rising k i l (omega arith))) in
      let next = sum_next if_missing (sales numbers others) numbers amounts i one.paired (omega arith) in
      rw (← add-one i) (next ∙ rw there (omega (arith, none_missing i (omega arith))))

  pub same_sales : only_in (sales numbers amounts) (sales numbers others) ≡ 0
  same_sales = sym (ap (λ (s : List Sale). only_in s (sales numbers others)) (take_all (length numbers) (sales numbers amounts) (omega (arith, sales-length numbers amounts one.paired)))) ∙ none_missing (length numbers) (omega arith)

pub same_numbers : (numbers amounts others : List ℕ) → Accepted numbers amounts → Accepted numbers others → difference (sales numbers amounts) (sales numbers others) ≡ sub_ℕ (sum amounts) (sum others)
same_numbers numbers amounts others one two =
    sym
    (balance_signed numbers amounts numbers others one two
    ∙ ap₂ (λ (x y : ℕ). sub_ℕ x y +ℤ difference (sales numbers amounts) (sales numbers others)) (same_sales numbers amounts others one two) (same_sales numbers others amounts two one)
    ∙ +ℤ_idl (difference (sales numbers amounts) (sales numbers others)))

-- the numbers from n on, k of them
pub from : ℕ → ℕ → List ℕ
from n zero = []
from n (suc k) = n ∷ from (suc n) k

from-length : (n k : ℕ) → length (from n k) ≡ k
unfolding from
from-length n zero = refl
from-length n (suc k) = ap suc (from-length (suc n) k)

from-rises : (n k : ℕ) → rises (from n k) ≡ true
unfolding from rises
from-rises n zero = refl
from-rises n (suc zero) = refl
from-rises n (suc (suc k)) = rw (lt-ltb n (suc n) (omega arith)) (from-rises (suc n) (suc k))

sum_equal : (k a : ℕ) → sum (replicate k a) ≡ k * a
unfolding sum
sum_equal zero a = sym (zero-mul a)
sum_equal (suc k) a = omega (arith, sum_equal k a, suc-mul k a)

pub accepted_equal : (n k a : ℕ) → k ≤ 65535 → Accepted (from n k) (replicate k a)
accepted_equal n k a h =
    record {
      short = omega (arith, from-length n k);
      paired = length-replicate k a ∙ sym (from-length n k);
      rising = from-rises n k;
    }

-- k sales of one amount each in either list
pub equal_amounts : (n k a b : ℕ) → k ≤ 65535 → difference (sales (from n k) (replicate k a)) (sales (from n k) (replicate k b)) ≡ sub_ℕ (k * a) (k * b)
equal_amounts n k a b h =
    same_numbers (from n k) (replicate k a) (replicate k b) (accepted_equal n k a h) (accepted_equal n k b h)
    ∙ ap₂ sub_ℕ (sum_equal k a) (sum_equal k b)

-- the greatest, the least, and none
pub greatest : difference (sales (from 1 65535) (replicate 65535 4294967295)) (sales (from 1 65535) (replicate 65535 0)) ≡ pos 281470681677825
greatest = equal_amounts 1 65535 4294967295 0 (omega arith)

pub least : difference (sales (from 1 65535) (replicate 65535 0)) (sales (from 1 65535) (replicate 65535 4294967295)) ≡ negsuc 281470681677824
least = equal_amounts 1 65535 0 4294967295 (omega arith)

pub level : difference (sales (from 1 65535) (replicate 65535 4294967295)) (sales (from 1 65535) (replicate 65535 4294967295)) ≡ pos 0
level = equal_amounts 1 65535 4294967295 4294967295 (omega arith)
