-- Laws of bytes: the count of zero bits of a part, numbers of two, four and eight bytes, the stores that make a page's spare bytes. Assumes nothing.
use Rattle.pages.proofs.LayoutLaws.{Kinds, no_kind, narrow, wide, by_kind, length-bytes_of}
use Prim.Native.Nat.{ℕ, zero, suc, ◌^◌, ◌+◌, ◌-◌, ◌*◌, ◌/◌, ◌%◌, ◌≤◌, ◌<◌}
use mathlib.Core.Path.{◌≡◌, refl, sym, ap, ap₂, ◌∙◌}
use mathlib.Core.Bool.{Bool, true, false, cond, ◌&&◌}
use Rattle.std.specs.List.{list_all}
use Rattle.std.specs.Int.{w64, byte_at, bytes_low_first, to_le_bytes, from_le_bytes}
use Rattle.std.proofs.lemmas.List.{drop-replicate}
use Rattle.std.proofs.lemmas.List.Recursion.{same_from_clauses}
use mathlib.Core.List.{List, [], ◌∷◌, ◌++◌, append_assoc}
use native.Mathlib.Nat.{add-zero, add_assoc, div-div-eq-div-mul, div-one, pow-suc}
use native.Mathlib.Numerals.{add-one}
use native.Mathlib.Omega.{arith}
use lib.Dec.{eqb}
use lib.ListN.{length, get_or, take, drop, set, replicate, length-append, length-drop, length-replicate}
use lib.Seq.{length-take-le, take_all, drop-cons, drop-drop, get_or-drop, set_split, take_at, drop_at}
use Rattle.cells.specs.Part.{put}
use Rattle.cells.proofs.PartLaws.{length-put}
use Rattle.pages.specs.Check.{zero_bits}
use Rattle.pages.specs.Layout.{all_ones, bytes_of, number_of, number_width, kind_of, label_of, stored_check, counted_check, whole, encoded, label, label_bytes}

and_is-cond : (a b : Bool) → (a && b) ≡ cond a b false
and_is-cond true b = refl
and_is-cond false b = refl

-- whether every byte is FFh, in the words of std
pub all_ones_is : (xs : List ℕ) → all_ones xs ≡ list_all (λ x. eqb x 255) xs
unfolding all_ones
all_ones_is xs =
    same_from_clauses all_ones (list_all (λ x. eqb x 255)) (λ x r. cond (eqb x 255) r false)
    refl (λ _ _. refl) (λ x ys. and_is-cond (eqb x 255) (list_all (λ y. eqb y 255) ys)) xs

-- the bytes of a number, and the number of eight bytes, in the words of std
byte_at_is : (i n : ℕ) → byte_at i n ≡ n / 256 ^ i % 256
byte_at_is zero n = rw div-one
byte_at_is (suc i) n = refl

pub low_bytes : (i k n : ℕ) → bytes_low_first i k n ≡ bytes_of k (n / 256 ^ i)
unfolding bytes_of
low_bytes i zero n = refl
low_bytes i (suc k) n =
    let next : n / 256 ^ suc i ≡ n / 256 ^ i / 256 = rw pow-suc (sym (div-div-eq-div-mul n (256 ^ i) 256)) in
    ap₂ ◌∷◌ (byte_at_is i n) (low_bytes (suc i) k n ∙ ap (bytes_of k) next)

pub bytes_is : (n : ℕ) → to_le_bytes w64 n ≡ bytes_of 8 n
bytes_is n = low_bytes 0 8 n ∙ ap (bytes_of 8) (div-one n)

eight_are : (a b c d e f g h : ℕ)
    → from_le_bytes w64 (a ∷ b ∷ c ∷ d ∷ e ∷ f ∷ g ∷ h ∷ []) ≡ number_of (a ∷ b ∷ c ∷ d ∷ e ∷ f ∷ g ∷ h ∷ [])
unfolding number_of
eight_are a b c d e f g h = omega arith

pub eight_bytes_are : (xs : List ℕ) → length xs ≡ 8 → from_le_bytes w64 xs ≡ number_of xs
eight_bytes_are [] l = absurd (omega (arith, l))
eight_bytes_are (a ∷ []) l = absurd (omega (arith, l))
eight_bytes_are (a ∷ b ∷ []) l = absurd (omega (arith, l))
eight_bytes_are (a ∷ b ∷ c ∷ []) l = absurd (omega (arith, l))
eight_bytes_are (a ∷ b ∷ c ∷ d ∷ []) l = absurd (omega (arith, l))
eight_bytes_are (a ∷ b ∷ c ∷ d ∷ e ∷ []) l = absurd (omega (arith, l))
eight_bytes_are (a ∷ b ∷ c ∷ d ∷ e ∷ f ∷ []) l = absurd (omega (arith, l))
eight_bytes_are (a ∷ b ∷ c ∷ d ∷ e ∷ f ∷ g ∷ []) l = absurd (omega (arith, l))
eight_bytes_are (a ∷ b ∷ c ∷ d ∷ e ∷ f ∷ g ∷ h ∷ []) l = eight_are a b c d e f g h
eight_bytes_are (a ∷ b ∷ c ∷ d ∷ e ∷ f ∷ g ∷ h ∷ x ∷ xs) l = absurd (omega (arith, l))

-- zeros behind the bytes add nothing
pub number_of-zeros : (n : ℕ) (xs : List ℕ) → number_of (xs ++ replicate n 0) ≡ number_of xs
unfolding number_of
number_of-zeros zero [] = refl
number_of-zeros (suc n) [] = omega (arith, number_of-zeros n [])
number_of-zeros n (x ∷ xs) = ap (λ (k : ℕ). x + 256 * k) (number_of-zeros n xs)

pub number_padded : (xs ys : List ℕ) → length xs ≤ 8 → ys ≡ xs → from_le_bytes w64 (ys ++ drop (length xs) (replicate 8 0)) ≡ number_of xs
number_padded xs ys h e =
    let long : length (xs ++ replicate (8 - length xs) 0) ≡ 8 = simp (length-append, length-replicate) (omega arith) in
    rw (e, drop-replicate {X = ℕ} (length xs) 8 0) (eight_bytes_are (xs ++ replicate (8 - length xs) 0) long ∙ number_of-zeros (8 - length xs) xs)

-- a number of two bytes
pub pair_is : (at : ℕ) (xs : List ℕ) → at + 2 ≤ length xs → number_of (take 2 (drop at xs)) ≡ get_or xs at 0 + 256 * get_or xs (at + 1) 0
unfolding number_of
pair_is at xs h =
    let l : at < length xs = omega arith in
    let m : suc at < length xs = omega arith in
    rw (drop-cons xs at 0 l, drop-cons xs (suc at) 0 m, add-one) (omega arith)

pub pair_lt : (at : ℕ) (xs : List ℕ) → at + 2 ≤ length xs → get_or xs at 0 < 256 → get_or xs (at + 1) 0 < 256 → number_of (take 2 (drop at xs)) < 65536
pair_lt at xs h p q = rw (pair_is at xs h) (omega arith)

-- two bytes and those after them
number_pair : (k : ℕ) (xs : List ℕ) → 2 ≤ length xs → number_of (take (suc (suc k)) xs) ≡ number_of (take 2 xs) + 65536 * number_of (take k (drop 2 xs))
unfolding number_of
number_pair k [] h = absurd (omega (arith, h))
number_pair k (a ∷ []) h = absurd (omega (arith, h))
number_pair k (a ∷ b ∷ xs) h = omega arith

-- a number of k + 2 bytes at a place is one of two bytes and one of k
pair_and : (k at : ℕ) (xs : List ℕ) → at + 2 ≤ length xs
    → number_of (take (suc (suc k)) (drop at xs)) ≡ number_of (take 2 (drop at xs)) + 65536 * number_of (take k (drop (at + 2) xs))
pair_and k at xs h = number_pair k (drop at xs) (rw length-drop (omega (arith, h))) ∙ rw (drop-drop 2 at xs)

-- a number of four bytes is one of two numbers of two bytes
pub four_is : (at : ℕ) (xs : List ℕ) → at + 4 ≤ length xs
    → number_of (take 4 (drop at xs)) ≡ number_of (take 2 (drop at xs)) + 65536 * number_of (take 2 (drop (at + 2) xs))
four_is at xs h = pair_and 2 at xs (omega (arith, h))

-- a store of one element
pub set-put : (at v : ℕ) (xs : List ℕ) → at < length xs → set xs at v ≡ put at (v ∷ []) xs
unfolding put
set-put at v xs h =
    let e : suc at ≡ at + 1 = omega arith in
    set_split xs at v h ∙ rw (e, ← drop-drop 1 at xs)

-- a list with a part replaced, as what stands up to the part's end and what follows
pub put_split : (at : ℕ) (ys xs : List ℕ) → put at ys xs ≡ (take at xs ++ ys) ++ drop (at + length ys) xs
unfolding put
put_split at ys xs = rw (drop-drop (length ys) at xs) (sym (append_assoc (take at xs) ys _))

pub put_front : (at n : ℕ) (ys xs : List ℕ) → length ys ≡ n → at ≤ length xs → length (take at xs ++ ys) ≡ at + n
put_front at n ys xs e h = rw (length-append, length-take-le at xs h, e)

-- up to the end of a stored part
pub take_put : (at n : ℕ) (ys xs : List ℕ) → length ys ≡ n → at ≤ length xs → take (at + n) (put at ys xs) ≡ take at xs ++ ys
take_put at n ys xs e h =
    rw (put_split at ys xs) (take_at (take at xs ++ ys) (drop (at + length ys) xs) (at + n) (put_front at n ys xs e h))

pub drop-put : (at n : ℕ) (ys xs : List ℕ) → length ys ≡ n → at ≤ length xs → drop (at + n) (put at ys xs) ≡ drop (at + n) xs
drop-put at n ys xs e h =
    rw (put_split at ys xs) (drop_at (take at xs ++ ys) (drop (at + length ys) xs) (at + n) (put_front at n ys xs e h) ∙ rw e)

-- a part that is stored where another ends
pub put_next : (at n : ℕ) (zs ys xs : List ℕ) → length ys ≡ n → at ≤ length xs → put (at + n) zs (put at ys xs) ≡ put at (ys ++ zs) xs
put_next at n zs ys xs e h =
    put_split (at + n) zs (put at ys xs)
    ∙ rw (take_put at n ys xs e h, ← drop-drop (length zs) (at + n) (put at ys xs), drop-put at n ys xs e h, drop-drop (length zs) (at + n) xs)
    (rw (put_split at (ys ++ zs) xs, length-append ys zs, e, ← add_assoc at n (length zs)) (ap (λ (l : List ℕ). l ++ drop (at + n + length zs) xs) (append_assoc (take at xs) ys zs)))

pub set_next : (at n v : ℕ) (ys xs : List ℕ) → length ys ≡ n → at + n < length xs → set (put at ys xs) (at + n) v ≡ put at (ys ++ (v ∷ [])) xs
set_next at n v ys xs e h =
    let a : at ≤ length xs = omega arith in
    let b : at + length ys ≤ length xs = rw e (omega arith) in
    set-put (at + n) v (put at ys xs) (rw (length-put at ys xs b) h) ∙ put_next at n (v ∷ []) ys xs e a

-- a kind's number has four bytes or eight
pub width_eight : (k : ℕ) → (number_width k ≡ 0 → ⊥) → (number_width k ≡ 4 → ⊥) → number_width k ≡ 8
width_eight k none four = by (by_kind k)
  where
    by : Kinds k → number_width k ≡ 8
    by (no_kind e) = absurd (none e)
    by (narrow e b) = absurd (four e)
    by (wide e b) = e

pub number_none : (main : ℕ) (p : List ℕ) → number_width (kind_of main p) ≡ 0 → 0 ≡ (label_of main p).number
unfolding label_of number_of
number_none main p e = rw e

-- the number on a page, of as many bytes as its kind says
pub number_is : (main w : ℕ) (p : List ℕ) → number_width (kind_of main p) ≡ w → number_of (take w (drop (main + 5) p)) ≡ (label_of main p).number
unfolding label_of
number_is main w p e = rw (e, drop-drop 5 main p)

-- a page is whole by the tests on its bytes, where its number has w of them
pub whole_tests : (main w : ℕ) (p : List ℕ) → number_width (kind_of main p) ≡ w
    → whole main p ≡ cond (eqb w 0) false
    (cond (eqb (get_or p main 0) 255)
    (cond (all_ones (drop (main + 5 + w + 2) p)) (eqb (number_of (take 2 (drop (main + 5 + w) p))) (zero_bits (take (main + 5 + w) p))) false)
    false)
unfolding whole stored_check counted_check
whole_tests main w p e =
    let rest : main + (7 + w) ≡ main + 5 + w + 2 = omega arith in
    let check : main + (5 + w) ≡ main + 5 + w = omega arith in
    rw (e, get_or-drop main p 0 0, add-zero, drop-drop (7 + w) main p, drop-drop (5 + w) main p, rest, check)

-- what stands from a place to the end
pub take_rest : (at : ℕ) (xs : List ℕ) → take (length xs - at) (drop at xs) ≡ drop at xs
take_rest at xs = take_all (length xs - at) (drop at xs) (rw length-drop (omega arith))

-- the bytes of a label whose number has eight, as they are stored
label_bytes_lem : (kind logical place number : ℕ) → number_width kind ≡ 8
    → (255 ∷ kind ∷ (bytes_of 2 logical ++ (place ∷ []))) ++ bytes_of 8 number ≡ label_bytes (label kind logical place number)
unfolding label_bytes bytes_of
label_bytes_lem kind logical place number w = rw w

-- the stores that make a page's spare bytes, in their order
pub finished : (main kind logical place number check : ℕ) (xs p₁ p₂ p₃ p₄ : List ℕ) → main + 16 ≤ length xs → number_width kind ≡ 8
    → p₁ ≡ put (main + 2) (bytes_of 2 logical) (set (set xs main 255) (main + 1) kind)
    → p₂ ≡ put (main + 5) (bytes_of 8 number) (set p₁ (main + 4) place)
    → check ≡ zero_bits (take (main + 13) p₂)
    → p₃ ≡ put (main + 13) (bytes_of 2 check) p₂
    → p₄ ≡ take (main + 15) p₃ ++ replicate (length p₃ - (main + 15)) 255
    → p₄ ≡ encoded (length xs - main) (label kind logical place number) (take main xs)
unfolding encoded
finished main kind logical place number check xs p₁ p₂ p₃ p₄ h w e₁ e₂ e₃ e₄ e₅ =
    let m : main ≤ length xs = omega arith in
    let ls : List ℕ = bytes_of 2 logical in
    let ns : List ℕ = bytes_of 8 number in
    let cs : List ℕ = bytes_of 2 check in
    let s₁ : List ℕ = 255 ∷ [] in
    let s₂ : List ℕ = 255 ∷ kind ∷ [] in
    let s₄ : List ℕ = 255 ∷ kind ∷ ls in
    let s₅ : List ℕ = 255 ∷ kind ∷ (ls ++ (place ∷ [])) in
    let k₄ : length s₄ ≡ 4 = ap (λ (n : ℕ). suc (suc n)) (length-bytes_of 2 logical) in
    let k₅ : length s₅ ≡ 5 = ap (λ (n : ℕ). suc (suc n)) (length-append ls (place ∷ []) ∙ ap (λ (n : ℕ). n + 1) (length-bytes_of 2 logical)) in
    let k : length (s₅ ++ ns) ≡ 13 = length-append s₅ ns ∙ ap₂ ◌+◌ k₅ (length-bytes_of 8 number) in
    let kc : length ((s₅ ++ ns) ++ cs) ≡ 15 = length-append (s₅ ++ ns) cs ∙ ap₂ ◌+◌ k (length-bytes_of 2 check) in
    let q₁ : set xs main 255 ≡ put main s₁ xs = set-put main 255 xs (omega arith) in
    let q₂ : set (set xs main 255) (main + 1) kind ≡ put main s₂ xs = rw q₁ (set_next main 1 kind s₁ xs refl (omega arith)) in
    let q₄ : p₁ ≡ put main s₄ xs = e₁ ∙ rw q₂ (put_next main 2 ls s₂ xs refl m) in
    let q₅ : set p₁ (main + 4) place ≡ put main s₅ xs = rw q₄ (set_next main 4 place s₄ xs k₄ (omega arith)) in
    let q : p₂ ≡ put main (s₅ ++ ns) xs = e₂ ∙ rw q₅ (put_next main 5 ns s₅ xs k₅ m) in
    let qc : p₃ ≡ put main ((s₅ ++ ns) ++ cs) xs = e₄ ∙ rw q (put_next main 13 cs (s₅ ++ ns) xs k m) in
    let same : length p₃ ≡ length xs = ap length qc ∙ length-put main ((s₅ ++ ns) ++ cs) xs (omega (arith, kc)) in
    let counted : check ≡ zero_bits (take main xs ++ (s₅ ++ ns)) = e₃ ∙ rw (q, take_put main 13 (s₅ ++ ns) xs k m) in
    let front : take (main + 15) p₃ ≡ (take main xs ++ (s₅ ++ ns)) ++ cs = rw qc (take_put main 15 ((s₅ ++ ns) ++ cs) xs kc m ∙ sym (append_assoc (take main xs) (s₅ ++ ns) cs)) in
    let spare : length p₃ - (main + 15) ≡ length xs - main - 15 = omega arith in
    let bytes : s₅ ++ ns ≡ label_bytes (label kind logical place number) = label_bytes_lem kind logical place number w in
    e₅ ∙ rw (front, spare, w, ← bytes, ← counted) (append_assoc (take main xs ++ (s₅ ++ ns)) cs _)
