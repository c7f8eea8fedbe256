-- Laws of lists of sales: numbers that rise, and the amount that a list has for a number. Assumes nothing.
use Prim.Native.Nat.{ℕ, zero, suc, ◌+◌, ◌≤◌, ◌<◌}
use mathlib.Core.Bool.{Bool, true, false, cond}
use mathlib.Core.List.{List, [], ◌∷◌}
use mathlib.Core.Logic.{◌↔◌}
use mathlib.Core.Option.{Option, none, some}
use mathlib.Core.Path.{◌≡◌, refl, sym, ap, ◌∙◌}
use native.Mathlib.Numerals.{add-one}
use native.Mathlib.Omega.{arith}
use borrow.Table.Steps.{cases}
use borrow.Author.Tests.{ltb-true, lt-ltb, eqb-true, eq-eqb, ne_eqb, leb-true, le-leb}
use lib.Dec.{ltb, eqb, leb}
use lib.ListN.{length, get_or}
use Rattle.std.specs.List.{IsAllAdjacentAnswer}
use Rattle.reconcile.specs.Sales.{sales, rises, accepted, amount_of}

false_true : {P : Type 0} → ◌≡◌ {A = Bool} false true → P
false_true e = let z : ◌≡◌ {A = ℕ} 0 1 = cc in absurd (omega arith)

none_some : {a : ℕ} → ◌≡◌ {A = Option ℕ} none (some a) → ⊥
none_some e = let z : ◌≡◌ {A = ℕ} 0 1 = cc in omega arith

same_amount : {a b : ℕ} → some a ≡ some b → a ≡ b
same_amount e = cc

both : (b x : Bool) → cond b x false ≡ true → (b ≡ true) × (x ≡ true)
both true x h = (refl, h)
both false x h = false_true h

-- an accepted list, part by part
pub record Accepted (numbers amounts : List ℕ) : Type 0 where
  pub short : length numbers ≤ 65535
  pub paired : length amounts ≡ length numbers
  pub rising : rises numbers ≡ true

pub accepted_parts : (numbers amounts : List ℕ) → accepted numbers amounts ≡ true → Accepted numbers amounts
accepted_parts numbers amounts h =
    let x = both (leb (length numbers) 65535) (cond (eqb (length amounts) (length numbers)) (rises numbers) false) h in
    let y = both (eqb (length amounts) (length numbers)) (rises numbers) x.1 in
    record { short = leb-true (length numbers) 65535 x.0; paired = eqb-true (length amounts) (length numbers) y.0; rising = y.1 }

pub parts_accepted : (numbers amounts : List ℕ) → Accepted numbers amounts → accepted numbers amounts ≡ true
parts_accepted numbers amounts a = rw (le-leb (length numbers) 65535 a.short, eq-eqb (length amounts) (length numbers) a.paired, a.rising)

-- a list that rises: its first number is below the next, and the rest rises
pub rises_rest : (n : ℕ) (rest : List ℕ) → rises (n ∷ rest) ≡ true → rises rest ≡ true
unfolding rises
rises_rest n [] h = refl
rises_rest n (m ∷ rest) h = (both (ltb n m) (rises (m ∷ rest)) h).1

pub rises-first : (n : ℕ) (rest : List ℕ) → rises (n ∷ rest) ≡ true → (k : ℕ) → k < length rest → n < get_or rest k 0
unfolding rises
rises-first n [] h k l = absurd (omega arith)
rises-first n (m ∷ rest) h zero l = ltb-true n m (both (ltb n m) (rises (m ∷ rest)) h).0
rises-first n (m ∷ rest) h (suc k) l =
    let up = both (ltb n m) (rises (m ∷ rest)) h in
    let first = ltb-true n m up.0 in
    let later = rises-first m rest up.1 k (omega arith) in
    omega arith

pub rises-all : (numbers : List ℕ) → rises numbers ≡ true → (i j : ℕ) → i < j → j < length numbers → get_or numbers i 0 < get_or numbers j 0
rises-all [] h i j p l = absurd (omega arith)
rises-all (n ∷ rest) h i zero p l = absurd (omega arith)
rises-all (n ∷ rest) h zero (suc j) p l = rises-first n rest h j (omega arith)
rises-all (n ∷ rest) h (suc i) (suc j) p l = rises-all rest (rises_rest n rest h) i j (omega arith) (omega arith)

-- the other way round
pub all-rises : (numbers : List ℕ) → ((i : ℕ) → suc i < length numbers → get_or numbers i 0 < get_or numbers (suc i) 0) → rises numbers ≡ true
unfolding rises
all-rises [] f = refl
all-rises (n ∷ []) f = refl
all-rises (n ∷ (m ∷ rest)) f = rw (lt-ltb n m (f 0 (omega arith))) (all-rises (m ∷ rest) (λ i l. f (suc i) (omega arith)))

-- what std's test of a list's neighbours answers
pub rises-from_sorted : (numbers : List ℕ) (r : Bool) → IsAllAdjacentAnswer (λ x y b. b ≡ ltb x y) numbers r → r ≡ rises numbers
rises-from_sorted numbers true h = sym (all-rises numbers (λ i l. rw (← add-one i) (ltb-true _ _ (sym (h i 0 (omega arith))))))
rises-from_sorted numbers false h =
    cases (rises numbers)
    (λ t. false_true (h.2 0 ∙ lt-ltb _ _ (rises-all numbers t h.0 (h.0 + 1) (omega arith) h.1)))
    (λ t. sym t)

-- no entry has the number
pub amount_none : (numbers amounts : List ℕ) (n : ℕ) → ((k : ℕ) → k < length numbers → get_or numbers k 0 ≡ n → ⊥) → amount_of (sales numbers amounts) n ≡ none
unfolding sales amount_of
amount_none [] amounts n f = refl
amount_none (m ∷ numbers) [] n f = refl
amount_none (m ∷ numbers) (a ∷ amounts) n f =
    rw (ne_eqb m n (f 0 (omega arith))) (amount_none numbers amounts n (λ k l. f (suc k) (omega arith)))

-- the first entry that has it
pub amount_at : (numbers amounts : List ℕ) (j : ℕ) → length amounts ≡ length numbers → j < length numbers → ((k : ℕ) → k < j → get_or numbers k 0 ≡ get_or numbers j 0 → ⊥)
    → amount_of (sales numbers amounts) (get_or numbers j 0) ≡ some (get_or amounts j 0)
unfolding sales amount_of
amount_at [] amounts j e l f = absurd (omega arith)
amount_at (m ∷ numbers) [] j e l f = absurd (omega arith)
amount_at (m ∷ numbers) (a ∷ amounts) zero e l f = rw (eq-eqb m m refl)
amount_at (m ∷ numbers) (a ∷ amounts) (suc j) e l f =
    rw (ne_eqb m (get_or numbers j 0) (f 0 (omega arith)))
    (amount_at numbers amounts j (omega arith) (omega arith) (λ k l. f (suc k) (omega arith)))

-- what a list has for a number is the amount of an entry with that number
pub record Entry (numbers amounts : List ℕ) (n a : ℕ) : Type 0 where
  pub place : ℕ
  pub within : place < length numbers
  pub number_is : get_or numbers place 0 ≡ n
  pub amount_is : get_or amounts place 0 ≡ a

amount_entry : (numbers amounts : List ℕ) (n a : ℕ) → length amounts ≡ length numbers → amount_of (sales numbers amounts) n ≡ some a → Entry numbers amounts n a
unfolding sales amount_of
amount_entry [] amounts n a l e = absurd (none_some e)
amount_entry (m ∷ numbers) [] n a l e = absurd (none_some e)
amount_entry (m ∷ numbers) (b ∷ amounts) n a l e =
    cases (eqb m n)
    (λ t. record { place = 0; within = omega arith; number_is = eqb-true m n t; amount_is = same_amount (sym (rw t) ∙ e) })
    (λ t.
    let later = amount_entry numbers amounts n a (omega arith) (sym (rw t) ∙ e) in
    record { place = suc later.place; within = omega (arith, later.within); number_is = later.number_is; amount_is = later.amount_is })

pub has_exactly : (numbers amounts : List ℕ) → Accepted numbers amounts → (n a : ℕ) → (amount_of (sales numbers amounts) n ≡ some a) ↔ Entry numbers amounts n a
has_exactly numbers amounts fine n a = (
  amount_entry numbers amounts n a fine.paired,
  λ x.
      ap (amount_of (sales numbers amounts)) (sym x.number_is)
      ∙ amount_at numbers amounts x.place fine.paired x.within (λ k l e. omega (arith, e, rises-all numbers fine.rising k x.place l x.within))
      ∙ ap some x.amount_is,
)
