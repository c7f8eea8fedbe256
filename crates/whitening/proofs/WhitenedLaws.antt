-- Whitening undone is what was whitened; it keeps the length, and bytes are bytes. Assumes nothing.
use Prim.Native.Nat.{ℕ, zero, suc, ◌+◌, ◌*◌, ◌<◌}
use mathlib.Core.List.{List, [], ◌∷◌}
use mathlib.Core.Path.{◌≡◌, refl, sym, ap, ap₂, ◌∙◌}
use native.Mathlib.Omega.{arith}
use lib.Bits.{bit_xor, xor_lt}
use lib.ListN.{length, get_or, drop}
use lib.Seq.{ext_get_or}
use Rattle.cells.specs.Bytes.{Bytes}
use Rattle.whitening.specs.Stream.{stepped, bits_given, bytes_given, byte_given, Begins}
use Rattle.whitening.specs.Whitened.{xored, whitened}
use Rattle.whitening.proofs.BitLaws.{xor_twice}
use Rattle.whitening.proofs.StreamLaws.{stepped_add}

pub length-xored : (xs ys : List ℕ) → length (xored xs ys) ≡ length xs
unfolding xored
length-xored [] ys = refl
length-xored (x ∷ xs) ys = ap suc (length-xored xs (drop 1 ys))

pub get_or-xored : (xs ys : List ℕ) (k : ℕ) → k < length xs → get_or (xored xs ys) k 0 ≡ bit_xor (get_or xs k 0) (get_or ys k 0)
unfolding xored
get_or-xored [] ys k h = absurd (omega (arith, h))
get_or-xored (x ∷ xs) ys zero h = refl
get_or-xored (x ∷ xs) [] (suc k) h = get_or-xored xs [] k (omega (arith, h))
get_or-xored (x ∷ xs) (y ∷ ys) (suc k) h = get_or-xored xs ys k (omega (arith, h))

pub xored-twice : (xs ys : List ℕ) → xored (xored xs ys) ys ≡ xs
unfolding xored
xored-twice [] ys = refl
xored-twice (x ∷ xs) ys = ap₂ ◌∷◌ (xor_twice x (get_or ys 0 0)) (xored-twice xs (drop 1 ys))

-- the bytes of the stream
pub length-given : (n r : ℕ) → length (bytes_given n r) ≡ n
unfolding bytes_given
length-given zero r = refl
length-given (suc n) r = ap suc (length-given n (stepped 8 r))

pub get_or-given : (n r k : ℕ) → k < n → get_or (bytes_given n r) k 0 ≡ byte_given k r
unfolding bytes_given stepped
get_or-given zero r k h = absurd (omega (arith, h))
get_or-given (suc n) r zero h = refl
get_or-given (suc n) r (suc k) h =
    let eight : 8 + 8 * k ≡ 8 * suc k = omega arith in
    get_or-given n (stepped 8 r) k (omega (arith, h)) ∙ ap (bits_given 8) (sym (stepped_add 8 (8 * k) r) ∙ ap (λ (j : ℕ). stepped j r) eight)

pub given_byte : (r : ℕ) → bits_given 8 r < 256
unfolding bits_given
given_byte r = omega arith

-- UNDONE: for every page and every length, the same once more returns what was whitened
pub whitened-twice : (page : ℕ) (main : List ℕ) → whitened page (whitened page main) ≡ main
whitened-twice page main =
    let stream = bytes_given (length main) (page + 1) in
    ap (λ (n : ℕ). xored (whitened page main) (bytes_given n (page + 1))) (length-xored main stream) ∙ xored-twice main stream

pub length-whitened : (page : ℕ) (main : List ℕ) → length (whitened page main) ≡ length main
length-whitened page main = length-xored main (bytes_given (length main) (page + 1))

pub get_or-whitened : (page : ℕ) (main : List ℕ) (k : ℕ) → k < length main → get_or (whitened page main) k 0 ≡ bit_xor (get_or main k 0) (byte_given k (page + 1))
get_or-whitened page main k h =
    get_or-xored main (bytes_given (length main) (page + 1)) k h ∙ ap (bit_xor (get_or main k 0)) (get_or-given (length main) (page + 1) k h)

pub bytes_xored : (xs ys : List ℕ) → Bytes xs → Bytes ys → Bytes (xored xs ys)
unfolding xored
bytes_xored [] ys b c i = omega arith
bytes_xored (x ∷ xs) ys b c zero = xor_lt 8 x (get_or ys 0 0) (b 0) (c 0)
bytes_xored (x ∷ xs) [] b c (suc i) = bytes_xored xs [] (λ j. b (suc j)) c i
bytes_xored (x ∷ xs) (y ∷ ys) b c (suc i) = bytes_xored xs ys (λ j. b (suc j)) (λ j. c (suc j)) i

bytes_given_lem : (n r : ℕ) → Bytes (bytes_given n r)
unfolding bytes_given
bytes_given_lem zero r i = omega arith
bytes_given_lem (suc n) r zero = given_byte r
bytes_given_lem (suc n) r (suc i) = bytes_given_lem n (stepped 8 r) i

pub bytes_whitened : (page : ℕ) (main : List ℕ) → Bytes main → Bytes (whitened page main)
bytes_whitened page main b = bytes_xored main (bytes_given (length main) (page + 1)) b (bytes_given_lem (length main) (page + 1))

-- a list that begins as the stream does serves as well
pub xored_same : (xs ys zs : List ℕ) → ((k : ℕ) → k < length xs → get_or ys k 0 ≡ get_or zs k 0) → xored xs ys ≡ xored xs zs
xored_same xs ys zs same =
    ext_get_or 0 (xored xs ys) (xored xs zs) (length-xored xs ys ∙ sym (length-xored xs zs))
    (λ k h.
    let l : k < length xs = omega (arith, h, length-xored xs ys) in
    get_or-xored xs ys k l ∙ ap (bit_xor (get_or xs k 0)) (same k l) ∙ sym (get_or-xored xs zs k l))

pub begins_whitens : (page : ℕ) (main stream : List ℕ) → Begins (length main) (page + 1) stream → xored main stream ≡ whitened page main
begins_whitens page main stream b =
    xored_same main stream (bytes_given (length main) (page + 1)) (λ k h. b k h ∙ sym (get_or-given (length main) (page + 1) k h))
