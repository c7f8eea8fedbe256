-- Laws of a part of a list, and of a list with a part of it replaced.
use Prim.Native.Nat.{ℕ, zero, suc, ◌+◌, ◌-◌, ◌≤◌}
use mathlib.Core.Path.{◌≡◌, refl, sym, ap, ◌∙◌}
use mathlib.Core.List.{List, [], ◌∷◌, ◌++◌}
use native.Mathlib.Omega.{arith}
use lib.ListN.{length, take, drop, length-append, length-take, length-drop, take-append-drop}
use lib.Seq.{length-take-le, take-take, take_at, drop_at, take-append_seam, drop-append_seam, take-append-le, drop-append-le, drop-append-add, drop-drop}
use Rattle.cells.specs.Bytes.{Bytes}
use Rattle.cells.specs.Part.{part, put}
use Rattle.cells.proofs.CellLaws.{bytes_take, bytes_drop}

pub length_part : (at n : ℕ) (xs : List ℕ) → at + n ≤ length xs → length (part at n xs) ≡ n
length_part at n xs h = simp (length-take, length-drop) (omega arith)

pub length-put : (at : ℕ) (ys xs : List ℕ) → at + length ys ≤ length xs → length (put at ys xs) ≡ length xs
unfolding put
length-put at ys xs h = simp (length-append, length-take, length-drop) (omega arith)

-- the list from the replaced part on
drop-put : (at : ℕ) (ys xs : List ℕ) → at ≤ length xs → drop at (put at ys xs) ≡ ys ++ drop (length ys) (drop at xs)
unfolding put
drop-put at ys xs h = drop_at (take at xs) _ at (length-take-le at xs h)

pub part-put : (at : ℕ) (ys xs : List ℕ) → at + length ys ≤ length xs → part at (length ys) (put at ys xs) ≡ ys
part-put at ys xs h = rw (drop-put at ys xs (omega arith)) (take-append_seam ys _)

-- a part within the first of two lists
part-first : (b n : ℕ) (p q : List ℕ) → b + n ≤ length p → part b n (p ++ q) ≡ part b n p
part-first b n p q h = rw (drop-append-le b p q (omega arith)) (take-append-le n (drop b p) q (simp length-drop (omega arith)))

pub part-put-before : (b n at : ℕ) (ys xs : List ℕ) → at + length ys ≤ length xs → b + n ≤ at → part b n (put at ys xs) ≡ part b n xs
unfolding put
part-put-before b n at ys xs h before =
    let fits : b + n ≤ length (take at xs) = rw (length-take-le at xs (omega arith)) before in
    part-first b n (take at xs) _ fits ∙ sym (part-first b n (take at xs) (drop at xs) fits) ∙ ap (part b n) (take-append-drop at xs)

-- the list from any place behind the replaced part on
drop-after : (at r : ℕ) (ys xs : List ℕ) → at ≤ length xs → drop (at + (length ys + r)) (put at ys xs) ≡ drop (at + (length ys + r)) xs
drop-after at r ys xs h =
    sym (drop-drop (length ys + r) at (put at ys xs))
    ∙ ap (drop (length ys + r)) (drop-put at ys xs h)
    ∙ drop-append-add ys (drop (length ys) (drop at xs)) r
    ∙ drop-drop r (length ys) (drop at xs)
    ∙ drop-drop (length ys + r) at xs

pub part-put-after : (b n at : ℕ) (ys xs : List ℕ) → at + length ys ≤ length xs → at + length ys ≤ b → part b n (put at ys xs) ≡ part b n xs
part-put-after b n at ys xs h after =
    let e : b ≡ at + (length ys + (b - at - length ys)) = omega arith in
    rw e (ap (take n) (drop-after at (b - at - length ys) ys xs (omega arith)))

pub put-put : (at : ℕ) (zs ys xs : List ℕ) → length zs ≡ length ys → at + length ys ≤ length xs → put at zs (put at ys xs) ≡ put at zs xs
unfolding put
put-put at zs ys xs e h =
    let l : length (take at xs) ≡ at = length-take-le at xs (omega arith) in
    rw (take_at (take at xs) _ at l, drop_at (take at xs) _ at l, e, drop-append_seam ys _)

-- as a lent part of a slice comes back
pub put-lent : (at k : ℕ) (ys xs : List ℕ) → length ys ≡ k → take at xs ++ (ys ++ drop k (drop at xs)) ≡ put at ys xs
unfolding put
put-lent at k ys xs e = rw (← e)

pub bytes_part : (at n : ℕ) (xs : List ℕ) → Bytes xs → Bytes (part at n xs)
bytes_part at n xs b = bytes_take n (drop at xs) (bytes_drop at xs b)

-- a part of the first m bytes
pub part-take : (at n m : ℕ) (xs : List ℕ) → at + n ≤ m → part at n (take m xs) ≡ part at n xs
part-take zero n m xs h = take-take n m xs (omega (arith, h))
part-take (suc at) n zero xs h = absurd (omega (arith, h))
part-take (suc at) n (suc m) [] h = refl
part-take (suc at) n (suc m) (x ∷ xs) h = part-take at n m xs (omega (arith, h))
