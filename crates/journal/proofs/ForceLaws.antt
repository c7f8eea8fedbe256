-- What one record more adds to the sum over records in force. Assumes nothing.
use Prim.Native.Nat.{ℕ, zero, suc, ◌+◌, ◌*◌, ◌≤◌, ◌<◌}
use mathlib.Core.Bool.{Bool, true, false, cond}
use mathlib.Core.Path.{◌≡◌, refl, sym, ap, ap₂, ◌∙◌}
use native.Mathlib.Nat.{suc-mul}
use native.Mathlib.Omega.{arith}
use borrow.Table.Steps.{cases}
use borrow.Author.Tests.{eq-eqb, ne_eqb, eqb-true, eqb-false}
use lib.Dec.{eqb}
use Rattle.copies.specs.Pick.{some_below}
use Rattle.journal.specs.Takings.{sum_to, replaced_by, counts, total_of}

pub sum_same : (f h : ℕ → ℕ) (n : ℕ) → ((k : ℕ) → k < n → f k ≡ h k) → sum_to f n ≡ sum_to h n
unfolding sum_to
sum_same f h zero e = refl
sum_same f h (suc n) e = ap₂ (λ (a b : ℕ). a + b) (sum_same f h n (λ k l. e k (omega (arith, l)))) (e n (omega arith))

-- two that differ at m alone
sum_without : (f h : ℕ → ℕ) (m n : ℕ) → m < n → ((k : ℕ) → k < n → (k ≡ m → ⊥) → f k ≡ h k) → sum_to f n + h m ≡ sum_to h n + f m
unfolding sum_to
sum_without f h m zero l e = absurd (omega (arith, l))
sum_without f h m (suc n) l e =
    cases (eqb m n)
    (λ t.
    let z = eqb-true m n t in
    let less = sum_same f h n (λ k b. e k (omega (arith, b)) (λ x. omega (arith, x, z, b))) in
    let a : f n ≡ f m = ap f (sym z) in
    let b : h n ≡ h m = ap h (sym z) in
    omega (arith, less, a, b))
    (λ t.
    let x = eqb-false m n t in
    let less = sum_without f h m n (omega (arith, l, x)) (λ k b. e k (omega (arith, b))) in
    let last = e n (omega arith) (λ z. x (sym z)) in
    omega (arith, less, last))

pub sum-most : (f : ℕ → ℕ) (n m : ℕ) → ((k : ℕ) → k < n → f k ≤ m) → sum_to f n ≤ n * m
unfolding sum_to
sum-most f zero m e = omega arith
sum-most f (suc n) m e = omega (arith, sum-most f n m (λ k l. e k (omega (arith, l))), e n (omega arith), suc-mul n m)

module _ (amount target : ℕ → ℕ) (n : ℕ) (earlier : (k : ℕ) → k ≤ n → target k ≤ k) where
  -- none of the first j records replaces a record that is not before them
  pub none_later : (t j : ℕ) → j ≤ suc n → j ≤ t → replaced_by target j t ≡ false
  unfolding some_below
  none_later t zero h l = refl
  none_later t (suc j) h l = rw (ne_eqb (target j) t (λ z. omega (arith, z, earlier j (omega (arith, h)), l)), none_later t j (omega (arith, h)) (omega (arith, l)))

  -- the last record is in force, and counts
  last_counts : counts amount target (suc n) n ≡ amount n
  last_counts = rw (none_later (suc n) (suc n) (omega arith) (omega arith))

  -- a record that the last one does not replace counts as before
  pub one_more : (t : ℕ) → replaced_by target (suc n) t ≡ cond (eqb (target n) t) true (replaced_by target n t)
  unfolding some_below
  one_more t = refl

  counts_other : (k : ℕ) → (suc k ≡ target n → ⊥) → counts amount target (suc n) k ≡ counts amount target n k
  counts_other k x =
      let same : replaced_by target (suc n) (suc k) ≡ replaced_by target n (suc k) = one_more (suc k) ∙ rw (ne_eqb (target n) (suc k) (λ z. x (sym z))) in
      ap (λ (b : Bool). cond b 0 (amount k)) same

  -- it replaces none
  pub force_none : target n ≡ 0 → total_of amount target (suc n) ≡ total_of amount target n + amount n
  unfolding sum_to
  force_none z =
      ap₂ (λ (a b : ℕ). a + b) (sum_same (counts amount target (suc n)) (counts amount target n) n (λ k l. counts_other k (λ e. omega (arith, e, z)))) last_counts

  -- it replaces one that was replaced before
  pub force_again : replaced_by target n (target n) ≡ true → total_of amount target (suc n) ≡ total_of amount target n + amount n
  unfolding sum_to
  force_again t =
      ap₂ (λ (a b : ℕ). a + b)
      (sum_same (counts amount target (suc n)) (counts amount target n) n
      (λ k l.
      cases (eqb (suc k) (target n))
      (λ e.
      let z = eqb-true (suc k) (target n) e in
      let was : replaced_by target n (suc k) ≡ true = ap (replaced_by target n) z ∙ t in
      let is : replaced_by target (suc n) (suc k) ≡ true = one_more (suc k) ∙ rw (eq-eqb (target n) (suc k) (sym z)) in
      rw (was, is))
      (λ e. counts_other k (eqb-false (suc k) (target n) e))))
      last_counts

  -- it takes one out of force
  pub force_taken : (m : ℕ) → suc m ≡ target n → replaced_by target n (suc m) ≡ false → total_of amount target (suc n) + amount m ≡ total_of amount target n + amount n
  unfolding sum_to
  force_taken m z f =
      let below : m < n = omega (arith, z, earlier n (omega arith)) in
      let is : replaced_by target (suc n) (suc m) ≡ true = one_more (suc m) ∙ rw (eq-eqb (target n) (suc m) (sym z)) in
      let now : counts amount target (suc n) m ≡ 0 = rw is in
      let was : counts amount target n m ≡ amount m = rw f in
      let moved = sum_without (counts amount target (suc n)) (counts amount target n) m n below (λ k l x. counts_other k (λ e. x (omega (arith, e, z)))) in
      omega (arith, moved, now, was, last_counts)
