-- The fields of a record by its bytes: what the code puts together and takes apart. Assumes nothing.
use Prim.Native.Nat.{ℕ, suc, ◌+◌, ◌-◌, ◌/◌, ◌%◌, ◌≤◌, ◌<◌}
use mathlib.Core.Bool.{false}
use mathlib.Core.List.{List, [], ◌∷◌, ◌++◌, append_assoc, append-nil}
use mathlib.Core.Path.{◌≡◌, refl, sym, ap, ap₂, ◌∙◌}
use native.Mathlib.Numerals.{add-one}
use native.Mathlib.Omega.{arith}
use borrow.Author.Tests.{eq-eqb, ne_eqb, le-leb, lt-leb}
use lib.ListN.{length, set, take, drop, replicate, length-append, length-replicate, drop_of_length-le}
use Rattle.std.specs.Int.{w16, w32, w64, to_le_bytes}
use Rattle.cells.specs.Part.{part, put}
use Rattle.cells.proofs.PartLaws.{length-put}
use Rattle.pages.specs.Layout.{bytes_of, number_of, all_ones}
use Rattle.pages.proofs.ByteLaws.{put_next, set_next}
use Rattle.pages.proofs.LayoutLaws.{length-bytes_of}
use Rattle.journal.specs.Records.{sale_bytes, number_in, replaces_in, is_next}
use Rattle.journal.specs.declared.Sale.{Sale}

-- the tests for the next record, in the order of the code
module _ (page : List ℕ) (k : ℕ) where
  pub next_other : (number_of (part 0 2 page) ≡ k + 1 → ⊥) → false ≡ is_next k page
  unfolding is_next number_in
  next_other x = rw (ne_eqb (number_of (part 0 2 page)) (suc k) (λ e. x (e ∙ sym (add-one k))))

  pub next_later : number_of (part 0 2 page) ≡ k + 1 → k < replaces_in page → false ≡ is_next k page
  unfolding is_next number_in
  next_later e h = rw (eq-eqb (number_of (part 0 2 page)) (suc k) (e ∙ add-one k), lt-leb (replaces_in page) k h)

  pub next_tail : number_of (part 0 2 page) ≡ k + 1 → replaces_in page ≤ k → all_ones (drop 11 page) ≡ is_next k page
  unfolding is_next number_in
  next_tail e h = rw (eq-eqb (number_of (part 0 2 page)) (suc k) (e ∙ add-one k), le-leb (replaces_in page) k h)

-- a number's bytes, low byte first
pub two_bytes : (n : ℕ) → to_le_bytes w16 n ≡ bytes_of 2 n
unfolding bytes_of
two_bytes n = refl

pub first_bytes : (n : ℕ) → take 2 (to_le_bytes w64 n) ≡ bytes_of 2 n
unfolding bytes_of
first_bytes n = refl

pub four_bytes : (n : ℕ) → to_le_bytes w32 n ≡ bytes_of 4 n
unfolding bytes_of
four_bytes n = ap₂ (λ (x y : ℕ). n % 256 ∷ n / 256 % 256 ∷ x ∷ y ∷ []) (omega arith) (omega arith)

put-whole : (ys xs : List ℕ) → length ys ≡ length xs → put 0 ys xs ≡ ys
unfolding put
put-whole ys xs e = ap (λ (zs : List ℕ). ys ++ zs) (drop_of_length-le xs {i = length ys} (omega (arith, e))) ∙ append-nil ys

-- the stores that make a record, in their order
pub record_made : (number : ℕ) (r : Sale) (xs p₁ p₂ p₃ p₄ p₅ : List ℕ) → 11 ≤ length xs → p₁ ≡ put 0 (bytes_of 2 number) xs → p₂ ≡ put 3 (bytes_of 2 r.count) (set p₁ 2 r.selection)
    → p₃ ≡ put 5 (bytes_of 4 r.price) p₂ → p₄ ≡ put 9 (bytes_of 2 r.replaces) p₃ → p₅ ≡ put 11 (replicate (length p₄ - 11) 255) p₄
    → p₅ ≡ sale_bytes (length xs) number r
unfolding sale_bytes
record_made number r xs p₁ p₂ p₃ p₄ p₅ h e₁ e₂ e₃ e₄ e₅ =
    let a : List ℕ = bytes_of 2 number in
    let b : List ℕ = a ++ (r.selection ∷ []) in
    let c : List ℕ = bytes_of 2 r.count in
    let d : List ℕ = bytes_of 4 r.price in
    let e : List ℕ = bytes_of 2 r.replaces in
    let f : List ℕ = replicate (length xs - 11) 255 in
    let z : 0 ≤ length xs = omega arith in
    let ka : length a ≡ 2 = length-bytes_of 2 number in
    let kb : length b ≡ 3 = length-append a (r.selection ∷ []) ∙ ap (λ (n : ℕ). n + 1) ka in
    let kc : length (b ++ c) ≡ 5 = length-append b c ∙ ap₂ ◌+◌ kb (length-bytes_of 2 r.count) in
    let kd : length ((b ++ c) ++ d) ≡ 9 = length-append (b ++ c) d ∙ ap₂ ◌+◌ kc (length-bytes_of 4 r.price) in
    let ke : length (((b ++ c) ++ d) ++ e) ≡ 11 = length-append ((b ++ c) ++ d) e ∙ ap₂ ◌+◌ kd (length-bytes_of 2 r.replaces) in
    let qb : set p₁ 2 r.selection ≡ put 0 b xs = rw e₁ (set_next 0 2 r.selection a xs ka (omega arith)) in
    let qc : p₂ ≡ put 0 (b ++ c) xs = e₂ ∙ rw qb (put_next 0 3 c b xs kb z) in
    let qd : p₃ ≡ put 0 ((b ++ c) ++ d) xs = e₃ ∙ rw qc (put_next 0 5 d (b ++ c) xs kc z) in
    let qe : p₄ ≡ put 0 (((b ++ c) ++ d) ++ e) xs = e₄ ∙ rw qd (put_next 0 9 e ((b ++ c) ++ d) xs kd z) in
    let same : length p₄ ≡ length xs = ap length qe ∙ length-put 0 (((b ++ c) ++ d) ++ e) xs (omega (arith, ke)) in
    let qf : p₅ ≡ put 0 ((((b ++ c) ++ d) ++ e) ++ f) xs = e₅ ∙ rw (same, qe) (put_next 0 11 f (((b ++ c) ++ d) ++ e) xs ke z) in
    let long : length ((((b ++ c) ++ d) ++ e) ++ f) ≡ length xs = length-append (((b ++ c) ++ d) ++ e) f ∙ omega (arith, ke, length-replicate {A = ℕ} (length xs - 11) 255) in
    qf ∙ put-whole ((((b ++ c) ++ d) ++ e) ++ f) xs long ∙ simp append_assoc
