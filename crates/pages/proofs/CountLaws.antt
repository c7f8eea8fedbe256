-- Laws of zero bits counted by places: a row added to the counts, the sum of the counts, the rows passed. Assumes nothing.
use Prim.Native.Nat.{ℕ, zero, suc, ◌+◌, ◌-◌, ◌*◌, ◌%◌, ◌≤◌, ◌<◌, zero-le}
use mathlib.Core.List.{List, [], ◌∷◌, ◌++◌}
use mathlib.Core.Path.{◌≡◌, refl, sym, ap, ◌∙◌}
use native.Mathlib.Nat.{add-zero}
use native.Mathlib.Numerals.{add-one}
use native.Mathlib.Omega.{arith}
use lib.Count.{ones}
use Rattle.std.specs.List.{sum, sum_by}
use Rattle.std.proofs.lemmas.List.Recursion.{is_sum_by}
use lib.ListN.{length, get_or, take, drop, set, replicate, length-set, length-drop, length-append}
use lib.Seq.{take-suc, take_all, drop-drop, drop_at, get_or-set_same, get_or-set_other}
use Rattle.pages.specs.Check.{zero_bits, total}
use Rattle.pages.proofs.CheckLaws.{zero_bits-append}

by_place : {P : Type 0} (i j : ℕ) → (j ≡ i → P) → ((j ≡ i → ⊥) → P) → P
by_place zero zero f g = f refl
by_place zero (suc j) f g = g (λ e. omega (arith, e))
by_place (suc i) zero f g = g (λ e. omega (arith, e))
by_place (suc i) (suc j) f g = by_place i j (λ e. f (ap suc e)) (λ n. g (λ e. n (omega (arith, e))))

-- a count raised by v
total-raised : (xs : List ℕ) (i v : ℕ) → i < length xs → total (set xs i (get_or xs i 0 + v)) ≡ total xs + v
unfolding total
total-raised [] i v h = absurd (omega (arith, h))
total-raised (x ∷ xs) zero v h = omega arith
total-raised (x ∷ xs) (suc i) v h = omega (arith, total-raised xs i v (omega (arith, h)))

-- the zero bits of the row's first i bytes are added
pub record Added (start row counts : List ℕ) (i : ℕ) : Type 0 where
  pub same : length counts ≡ length start
  pub sum : total counts ≡ total start + zero_bits (take i row)
  pub most : (j : ℕ) → get_or counts j 0 ≤ get_or start j 0 + 8
  pub later : (j : ℕ) → i ≤ j → get_or counts j 0 ≡ get_or start j 0

pub added_none : (start row : List ℕ) → Added start row start 0
unfolding zero_bits
added_none start row = record { same = refl; sum = sym (add-zero (total start)); most = λ j. omega arith; later = λ j h. refl }

-- a place that is raised has not been raised before
pub added_more : {start row counts : List ℕ} {i : ℕ} (v : ℕ) → Added start row counts i → i < length row → i < length counts → v ≡ 8 - ones (get_or row i 0)
    → Added start row (set counts i (get_or counts i 0 + v)) (i + 1)
unfolding zero_bits
added_more {start} {row} {counts} {i} v r h l e =
    let next : List ℕ = set counts i (get_or counts i 0 + v) in
    let one : zero_bits (take (i + 1) row) ≡ zero_bits (take i row) + v =
    rw (add-one, take-suc row i 0 h, zero_bits-append (take i row) (get_or row i 0 ∷ []), e, add-zero) in
    let here : get_or next i 0 ≡ get_or counts i 0 + v = get_or-set_same counts i (get_or counts i 0 + v) 0 l in
    record {
      same = length-set counts i (get_or counts i 0 + v) ∙ r.same;
      sum = omega (arith, total-raised counts i v l, r.sum, one);
      most = λ j.
          by_place i j (λ s. rw s (omega (arith, here, e, r.later i (omega arith))))
          (λ s. rw (get_or-set_other counts i j (get_or counts i 0 + v) 0 s) (r.most j));
      later = λ j m. get_or-set_other counts i j (get_or counts i 0 + v) 0 (λ s. omega (arith, s, m)) ∙ r.later j (omega (arith, m));
    }

pub added_all : {start row counts : List ℕ} {i : ℕ} → Added start row counts i → length row ≤ i → total counts ≡ total start + zero_bits row
added_all {start} {row} {counts} {i} r h = r.sum ∙ ap (λ (xs : List ℕ). total start + zero_bits xs) (take_all i row h)

total-append : (xs ys : List ℕ) → total (xs ++ ys) ≡ total xs + total ys
unfolding total
total-append [] ys = omega arith
total-append (x ∷ xs) ys = omega (arith, total-append xs ys)

pub total-zeros : (n : ℕ) → total (replicate n 0) ≡ 0
unfolding total
total-zeros zero = refl
total-zeros (suc n) = omega (arith, total-zeros n)

zeros-place : (n j : ℕ) → ◌≡◌ {A = ℕ} (get_or (replicate n 0) j 0) 0
zeros-place zero j = refl
zeros-place (suc n) zero = refl
zeros-place (suc n) (suc j) = zeros-place n j

-- the sum and the zero bits, in the words of std
pub total_is : (xs : List ℕ) → total xs ≡ sum xs
unfolding total
total_is xs = is_sum_by total (λ x. x) refl (λ _ _. refl) xs

pub zero_bits_is : (xs : List ℕ) → zero_bits xs ≡ sum_by (λ x. 8 - ones x) xs
unfolding zero_bits
zero_bits_is xs = is_sum_by zero_bits (λ x. 8 - ones x) refl (λ _ _. refl) xs

-- the counts are those of the rows before the rest: no count is above eight a row
pub record Rows (bytes counts rest : List ℕ) (rows : ℕ) : Type 0 where
  pub within : 256 * rows ≤ length bytes
  pub rest_is : rest ≡ drop (256 * rows) bytes
  pub sum : total counts + zero_bits rest ≡ zero_bits bytes
  pub most : (j : ℕ) → get_or counts j 0 ≤ 8 * rows

pub rows_none : (bytes counts rest : List ℕ) → rest ≡ bytes → counts ≡ replicate 256 0 → Rows bytes counts rest 0
rows_none bytes counts rest s e =
    record {
      within = zero-le;
      rest_is = s;
      sum = rw (s, e, total-zeros 256) (omega arith);
      most = λ j. rw e (omega (arith, zeros-place 256 j));
    }

pub rows_more : {bytes counts next rest after : List ℕ} {rows : ℕ} (row : List ℕ) → Rows bytes counts rest rows → rest ≡ row ++ after → length row ≡ 256
    → total next ≡ total counts + zero_bits row → ((j : ℕ) → get_or next j 0 ≤ get_or counts j 0 + 8)
    → Rows bytes next after (rows + 1)
rows_more {bytes} {counts} {next} {rest} {after} {rows} row r s l e m =
    let joined : drop (256 * rows) bytes ≡ row ++ after = sym r.rest_is ∙ s in
    let long : length bytes - 256 * rows ≡ 256 + length after = sym (length-drop (256 * rows) bytes) ∙ ap length joined ∙ rw (length-append row after, l) in
    let place : 256 * (rows + 1) ≡ 256 * rows + 256 = omega arith in
    record {
      within = omega (arith, long, r.within);
      rest_is = rw place (sym (sym (drop-drop 256 (256 * rows) bytes) ∙ ap (drop 256) joined ∙ drop_at row after 256 l));
      sum = omega (arith, r.sum, e, ap zero_bits s ∙ zero_bits-append row after);
      most = λ j. omega (arith, m j, r.most j);
    }

-- where a row is still to come, its zero bits fit the counts
pub rows_fit : {bytes counts rest : List ℕ} {rows : ℕ} (row after : List ℕ) → Rows bytes counts rest rows → rest ≡ row ++ after → length row ≡ 256
    → length bytes ≤ 8191 → (j : ℕ) → get_or counts j 0 ≤ 247
rows_fit {bytes} {counts} {rest} {rows} row after r s l h j =
    let long : length bytes - 256 * rows ≡ 256 + length after =
    sym (length-drop (256 * rows) bytes) ∙ ap length (sym r.rest_is ∙ s) ∙ rw (length-append row after, l) in
    omega (arith, long, r.within, r.most j)

-- the bytes behind the last row
pub rows_all : {bytes counts rest : List ℕ} {rows : ℕ} (n m : ℕ) → Rows bytes counts rest rows → length rest < 256
    → n ≡ total counts → m ≡ zero_bits (drop (length bytes - length bytes % 256) bytes) → n + m ≡ zero_bits bytes
rows_all {bytes} {counts} {rest} {rows} n m r h e f =
    let long : length rest ≡ length bytes - 256 * rows = ap length r.rest_is ∙ length-drop (256 * rows) bytes in
    let place : length bytes - length bytes % 256 ≡ 256 * rows = omega (arith, long, r.within) in
    let last : zero_bits (drop (length bytes - length bytes % 256) bytes) ≡ zero_bits rest = rw (place, r.rest_is) in
    omega (arith, e, f ∙ last, r.sum)
