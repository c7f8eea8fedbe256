-- A record's bytes tell its fields back, it is the next record, and an erased page is none. Assumes nothing.
use Prim.Native.Nat.{ℕ, suc, ◌-◌, ◌*◌, ◌≤◌, ◌<◌}
use mathlib.Core.Bool.{true, false}
use mathlib.Core.List.{List, ◌∷◌, ◌++◌}
use mathlib.Core.Path.{◌≡◌, refl, ap₂, subst, ◌∙◌}
use native.Mathlib.Nat.{mul-le-mul}
use native.Mathlib.Omega.{arith}
use borrow.Table.Steps.{cases}
use borrow.Author.Tests.{eq-eqb, le-leb, lt-leb, eqb-true}
use lib.Dec.{eqb}
use lib.ListN.{length, drop, replicate, length-replicate}
use Rattle.cells.specs.Bytes.{Bytes}
use Rattle.pages.specs.Layout.{bytes_of, number_of, all_ones}
use Rattle.cells.proofs.CellLaws.{bytes_append, bytes_replicate, bytes_drop}
use Rattle.pages.proofs.LayoutLaws.{number_of_fits, bytes_bytes_of, bytes_cons, all_ones-replicate}
use Rattle.journal.specs.Records.{SaleFits, sale_bytes, number_in, selection_in, count_in, price_in, replaces_in, amount_in, is_next}
use Rattle.journal.specs.declared.Sale.{Sale}

module _ (main number : ℕ) (r : Sale) (number_fits : number < 65536) (f : SaleFits r) where
  abbrev page : List ℕ
  page = sale_bytes main number r

  pub number_back : number_in page ≡ number
  unfolding sale_bytes number_in bytes_of number_of
  number_back = omega arith

  pub selection_back : selection_in page ≡ r.selection
  unfolding sale_bytes selection_in bytes_of
  selection_back = refl

  pub count_back : count_in page ≡ r.count
  unfolding sale_bytes count_in bytes_of number_of
  count_back = omega (arith, f.count_fits)

  pub price_back : price_in page ≡ r.price
  unfolding sale_bytes price_in bytes_of number_of
  price_back = omega (arith, f.price_fits)

  pub replaces_back : replaces_in page ≡ r.replaces
  unfolding sale_bytes replaces_in bytes_of number_of
  replaces_back = omega (arith, f.replaces_fits)

  pub amount_back : amount_in page ≡ r.count * r.price
  unfolding amount_in
  amount_back = ap₂ (λ (x y : ℕ). x * y) count_back price_back

  tail_ones : all_ones (drop 11 page) ≡ true
  unfolding sale_bytes bytes_of
  tail_ones = all_ones-replicate (main - 11)

  pub sale_long : 11 ≤ main → length page ≡ main
  unfolding sale_bytes bytes_of
  sale_long h = omega (arith, h, length-replicate {A = ℕ} (main - 11) 255)

  pub sale_bytes_fact : Bytes page
  unfolding sale_bytes
  sale_bytes_fact =
      let n = bytes_of 2 number in
      let b = bytes_of 2 r.count in
      let c = bytes_of 4 r.price in
      let d = bytes_of 2 r.replaces in
      bytes_append (n ++ (r.selection ∷ (b ++ (c ++ d)))) (replicate (main - 11) 255)
      (bytes_append n (r.selection ∷ (b ++ (c ++ d))) (bytes_bytes_of 2 number)
      (bytes_cons r.selection (b ++ (c ++ d)) f.selection_fits
      (bytes_append b (c ++ d) (bytes_bytes_of 2 r.count) (bytes_append c d (bytes_bytes_of 4 r.price) (bytes_bytes_of 2 r.replaces)))))
      (bytes_replicate (main - 11))

  -- it is the next record after those before its number, if it replaces an earlier one or none
  pub next_made : (k : ℕ) → number ≡ suc k → r.replaces ≤ k → is_next k page ≡ true
  unfolding is_next
  next_made k e h = rw (eq-eqb (number_in page) (suc k) (number_back ∙ e), le-leb (replaces_in page) k (omega (arith, h, replaces_back)), tail_ones)

-- an erased page is no record: its number is 65,535, and it would replace itself
abbrev eleven : ℕ → ℕ
eleven m = suc (suc (suc (suc (suc (suc (suc (suc (suc (suc (suc m))))))))))

erased_number : (m : ℕ) → number_in (replicate (eleven m) 255) ≡ 65535
unfolding number_in number_of
erased_number m = refl

erased-replaces : (m : ℕ) → replaces_in (replicate (eleven m) 255) ≡ 65535
unfolding replaces_in number_of
erased-replaces m = refl

erased-from : (k m : ℕ) → is_next k (replicate (eleven m) 255) ≡ false
unfolding is_next
erased-from k m =
    let page : List ℕ = replicate (eleven m) 255 in
    cases (eqb (number_in page) (suc k))
    (λ t. rw (t, lt-leb (replaces_in page) k (omega (arith, eqb-true (number_in page) (suc k) t, erased_number m, erased-replaces m))))
    (λ t. rw t)

pub erased_no_record : (main k : ℕ) → 11 ≤ main → is_next k (replicate main 255) ≡ false
erased_no_record main k h =
    let e : eleven (main - 11) ≡ main = omega (arith, h) in
    subst (λ (m : ℕ). is_next k (replicate m 255) ≡ false) e (erased-from k (main - 11))

-- what a page says is no more than its bytes hold
pub count_most : (page : List ℕ) → Bytes page → count_in page < 65536
unfolding count_in
count_most page b = number_of_fits 2 (drop 3 page) (bytes_drop 3 page b)

pub price_most : (page : List ℕ) → Bytes page → price_in page < 4294967296
unfolding price_in
price_most page b = number_of_fits 4 (drop 5 page) (bytes_drop 5 page b)

pub replaces-most : (page : List ℕ) → Bytes page → replaces_in page < 65536
unfolding replaces_in
replaces-most page b = number_of_fits 2 (drop 9 page) (bytes_drop 9 page b)

-- 65,535 × 4,294,967,295 at the most
pub amount_most : (page : List ℕ) → Bytes page → amount_in page ≤ 281470681677825
unfolding amount_in
amount_most page b = mul-le-mul {n₂ = 65535} {m₂ = 4294967295} (omega (arith, count_most page b)) (omega (arith, price_most page b))
