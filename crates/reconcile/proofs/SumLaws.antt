-- Laws of the sums over a list's sales: one sale more, and how large they are. Assumes nothing.
use Prim.Native.Nat.{ℕ, zero, suc, ◌+◌, ◌*◌, ◌≤◌, ◌<◌}
use mathlib.Core.List.{List, [], ◌∷◌, ◌++◌}
use mathlib.Core.Option.{Option, none, some}
use mathlib.Core.Path.{◌≡◌, refl, sym, ap, ◌∙◌}
use native.Mathlib.Numerals.{add-one}
use native.Mathlib.Omega.{arith}
use borrow.Table.Steps.{cases}
use lib.Dec.{eqb}
use lib.ListN.{length, get_or, take}
use lib.Seq.{take-suc}
use lib.IntN.{ℤ, nat_abs, ◌+ℤ◌, +ℤ_idl, +ℤ_idr, +ℤ_assoc}
use Rattle.reconcile.specs.Sales.{Sale, sales, amount_of}
use Rattle.reconcile.specs.Totals.{if_agreed, if_missing, if_both, sum_over, difference}
use Rattle.reconcile.proofs.SignedLaws.{sub_abs, add_abs}

abbrev sale : ℕ → ℕ → Sale
sale n a = record { number = n; amount = a }

-- the sale at a place
pub sales-length : (numbers amounts : List ℕ) → length amounts ≡ length numbers → length (sales numbers amounts) ≡ length numbers
unfolding sales
sales-length [] amounts e = refl
sales-length (n ∷ numbers) [] e = absurd (omega arith)
sales-length (n ∷ numbers) (a ∷ amounts) e = ap suc (sales-length numbers amounts (omega arith))

sale-at : (numbers amounts : List ℕ) (i : ℕ) → length amounts ≡ length numbers → i < length numbers → get_or (sales numbers amounts) i (sale 0 0) ≡ sale (get_or numbers i 0) (get_or amounts i 0)
unfolding sales
sale-at [] amounts i e l = absurd (omega arith)
sale-at (n ∷ numbers) [] i e l = absurd (omega arith)
sale-at (n ∷ numbers) (a ∷ amounts) zero e l = refl
sale-at (n ∷ numbers) (a ∷ amounts) (suc i) e l = sale-at numbers amounts i (omega arith) (omega arith)

-- one sale more
module _ (count : Option ℕ → ℕ → ℕ) (other : List Sale) where
  sum_more : (sold : List Sale) (s : Sale) → sum_over count (sold ++ (s ∷ [])) other ≡ sum_over count sold other + count (amount_of other s.number) s.amount
  unfolding sum_over
  sum_more [] s = omega arith
  sum_more (t ∷ sold) s = rw (sum_more sold s) (omega arith)

  pub sum_next : (numbers amounts : List ℕ) (i : ℕ) → length amounts ≡ length numbers → i < length numbers
      → sum_over count (take (i + 1) (sales numbers amounts)) other ≡ sum_over count (take i (sales numbers amounts)) other + count (amount_of other (get_or numbers i 0)) (get_or amounts i 0)
  sum_next numbers amounts i e l =
      ap (λ (sold : List Sale). sum_over count sold other)
      (rw (add-one i) (take-suc (sales numbers amounts) i (sale 0 0) (omega (arith, sales-length numbers amounts e))))
      ∙ sum_more (take i (sales numbers amounts)) (get_or (sales numbers amounts) i (sale 0 0))
      ∙ ap (λ (s : Sale). sum_over count (take i (sales numbers amounts)) other + count (amount_of other s.number) s.amount) (sale-at numbers amounts i e l)

difference_more : (sold other : List Sale) (s : Sale) → difference (sold ++ (s ∷ [])) other ≡ difference sold other +ℤ if_both (amount_of other s.number) s.amount
unfolding difference
difference_more [] other s = +ℤ_idr (if_both (amount_of other s.number) s.amount) ∙ sym (+ℤ_idl (if_both (amount_of other s.number) s.amount))
difference_more (t ∷ sold) other s =
    ap (λ (z : ℤ). if_both (amount_of other t.number) t.amount +ℤ z) (difference_more sold other s)
    ∙ sym (+ℤ_assoc (if_both (amount_of other t.number) t.amount) (difference sold other) (if_both (amount_of other s.number) s.amount))

pub difference_next : (other : List Sale) (numbers amounts : List ℕ) (i : ℕ) → length amounts ≡ length numbers → i < length numbers
    → difference (take (i + 1) (sales numbers amounts)) other ≡ difference (take i (sales numbers amounts)) other +ℤ if_both (amount_of other (get_or numbers i 0)) (get_or amounts i 0)
difference_next other numbers amounts i e l =
    ap (λ (sold : List Sale). difference sold other)
    (rw (add-one i) (take-suc (sales numbers amounts) i (sale 0 0) (omega (arith, sales-length numbers amounts e))))
    ∙ difference_more (take i (sales numbers amounts)) other (get_or (sales numbers amounts) i (sale 0 0))
    ∙ ap (λ (s : Sale). difference (take i (sales numbers amounts)) other +ℤ if_both (amount_of other s.number) s.amount) (sale-at numbers amounts i e l)

-- amounts of 32 bits
abbrev pub Small : List Sale → Type 0
Small [] = Unit {0}
Small (s ∷ rest) = (s.amount ≤ 4294967295) × Small rest

pub sales-small : (numbers amounts : List ℕ) → ((k : ℕ) → get_or amounts k 0 < 4294967296) → Small (sales numbers amounts)
unfolding sales
sales-small [] amounts f = tt
sales-small (n ∷ numbers) [] f = tt
sales-small (n ∷ numbers) (a ∷ amounts) f = (omega (arith, f 0), sales-small numbers amounts (λ k. f (suc k)))

pub take-small : (i : ℕ) (sold : List Sale) → Small sold → Small (take i sold)
take-small zero sold h = tt
take-small (suc i) [] h = tt
take-small (suc i) (s ∷ sold) h = (h.0, take-small i sold h.1)

-- a sum that counts of each sale at most its amount
pub sum_bound : (count : Option ℕ → ℕ → ℕ) → ((o : Option ℕ) (a : ℕ) → count o a ≤ a) → (sold other : List Sale) → Small sold → sum_over count sold other ≤ length sold * 4294967295
unfolding sum_over
sum_bound count f [] other h = omega arith
sum_bound count f (s ∷ sold) other h =
    omega (arith, f (amount_of other s.number) s.amount, h.0, sum_bound count f sold other h.1)

pub agreed-at-most : (o : Option ℕ) (a : ℕ) → if_agreed o a ≤ a
agreed-at-most none a = omega arith
agreed-at-most (some b) a = cases (eqb a b) (λ t. rw t (omega arith)) (λ t. rw t (omega arith))

pub missing_at-most : (o : Option ℕ) (a : ℕ) → if_missing o a ≤ a
missing_at-most none a = omega arith
missing_at-most (some b) a = omega arith

both_size : (other : List Sale) (n a : ℕ) → a ≤ 4294967295 → Small other → nat_abs (if_both (amount_of other n) a) ≤ 4294967295
unfolding amount_of
both_size [] n a h f = omega arith
both_size (s ∷ other) n a h f =
    cases (eqb s.number n)
    (λ t. rw t (sub_abs a s.amount 4294967295 h f.0))
    (λ t. rw t (both_size other n a h f.1))

pub difference_bound : (sold other : List Sale) → Small sold → Small other → nat_abs (difference sold other) ≤ length sold * 4294967295
unfolding difference
difference_bound [] other h f = omega arith
difference_bound (s ∷ sold) other h f =
    omega (arith, add_abs (if_both (amount_of other s.number) s.amount) (difference sold other), both_size other s.number s.amount h.0 f, difference_bound sold other h.1 f)
