-- Laws of programs and erases: lengths, bytes by index, a program done again, and that bytes stay bytes.
use Prim.Native.Nat.{ℕ, zero, suc, ◌+◌, ◌-◌, ◌/◌, ◌≤◌, ◌<◌}
use mathlib.Core.Path.{◌≡◌, refl, ap, ap₂, ◌∙◌}
use mathlib.Core.List.{List, [], ◌∷◌, ◌++◌, append-nil}
use native.Mathlib.Omega.{arith}
use native.Mathlib.Nat.{mod-eq_of_lt}
use lib.Arith.{bin_ind}
use lib.Bits.{bit_and, bit_or, and_step, or_step, and_comm, and_shr, or_shr, and_mask, or_add_and, or_lt}
use lib.ListN.{length, get_or, take, drop, replicate, drop_of_length-le}
use lib.Seq.{get_or-drop}
use Rattle.cells.specs.Bytes.{Bytes}
use Rattle.cells.specs.Cells.{programmed, weakened, raised, over}

pub length-programmed : (xs ds : List ℕ) → length (programmed xs ds) ≡ length xs
unfolding programmed
length-programmed [] ds = refl
length-programmed (x ∷ xs) ds = ap suc (length-programmed xs (drop 1 ds))

pub length-weakened : (ds ms : List ℕ) → length (weakened ds ms) ≡ length ds
unfolding weakened
length-weakened [] ms = refl
length-weakened (d ∷ ds) ms = ap suc (length-weakened ds (drop 1 ms))

-- the bytes of a mask behind those of the data do not matter
pub weakened-first : (n : ℕ) (ds ms : List ℕ) → length ds ≤ n → weakened ds (take n ms) ≡ weakened ds ms
unfolding weakened
weakened-first n [] ms h = refl
weakened-first zero (d ∷ ds) ms h = absurd (omega arith)
weakened-first (suc n) (d ∷ ds) [] h = refl
weakened-first (suc n) (d ∷ ds) (m ∷ ms) h = ap (λ (l : List ℕ). bit_or d (255 - m) ∷ l) (weakened-first n ds ms (omega arith))

pub length-raised : (xs ms : List ℕ) → length (raised xs ms) ≡ length xs
unfolding raised
length-raised [] ms = refl
length-raised (x ∷ xs) ms = ap suc (length-raised xs (drop 1 ms))

-- the element after the first, whether there is a first or not
get_or_next : (l : List ℕ) (i d : ℕ) → get_or (drop 1 l) i d ≡ get_or l (suc i) d
get_or_next [] i d = refl
get_or_next (x ∷ l) i d = refl

-- within a list the default does not matter
pub get_or_any : (l : List ℕ) (i d e : ℕ) → i < length l → get_or l i d ≡ get_or l i e
get_or_any [] i d e h = omega arith
get_or_any (x ∷ l) zero d e h = refl
get_or_any (x ∷ l) (suc i) d e h = get_or_any l i d e (omega arith)

pub get_or-programmed : (xs ds : List ℕ) (i : ℕ) → get_or (programmed xs ds) i 0 ≡ bit_and (get_or xs i 0) (get_or ds i 255)
unfolding programmed
get_or-programmed [] ds i = refl
get_or-programmed (x ∷ xs) ds zero = refl
get_or-programmed (x ∷ xs) ds (suc i) = rw (← get_or_next ds i 255) (get_or-programmed xs (drop 1 ds) i)

pub get_or-weakened : (ds ms : List ℕ) (i : ℕ) → i < length ds → get_or (weakened ds ms) i 255 ≡ bit_or (get_or ds i 255) (255 - get_or ms i 0)
unfolding weakened
get_or-weakened [] ms i h = omega arith
get_or-weakened (d ∷ ds) ms zero h = refl
get_or-weakened (d ∷ ds) ms (suc i) h = rw (← get_or_next ms i 0) (get_or-weakened ds (drop 1 ms) i (omega arith))

pub get_or-raised : (xs ms : List ℕ) (i : ℕ) → i < length xs → get_or (raised xs ms) i 0 ≡ bit_or (get_or xs i 0) (get_or ms i 0)
unfolding raised
get_or-raised [] ms i h = omega arith
get_or-raised (x ∷ xs) ms zero h = refl
get_or-raised (x ∷ xs) ms (suc i) h = rw (← get_or_next ms i 0) (get_or-raised xs (drop 1 ms) i (omega arith))

-- a bit that d has clear is clear, whatever of it was cleared before
and_again : (x d m : ℕ) → bit_and (bit_and x (bit_or d m)) d ≡ bit_and x d
and_again x =
    bin_ind (λ (n : ℕ). (d m : ℕ) → bit_and (bit_and n (bit_or d m)) d ≡ bit_and n d) (λ d m. refl)
    (λ n ih d m.
    let half : bit_and (bit_and n (bit_or d m) / 2) (d / 2) ≡ bit_and (n / 2) (d / 2) = rw (and_shr n (bit_or d m) 1, or_shr d m 1) (ih (d / 2) (m / 2)) in
    omega (arith, and_step (bit_and n (bit_or d m)) d, and_step n (bit_or d m), or_step d m, and_step n d)) x

-- a masked program and then the whole one is the whole one
pub programmed-again : (xs ds ms : List ℕ) → programmed (programmed xs (weakened ds ms)) ds ≡ programmed xs ds
unfolding programmed weakened
programmed-again [] ds ms = refl
programmed-again (x ∷ xs) [] ms = rw (and_again x 255 0, programmed-again xs [] [])
programmed-again (x ∷ xs) (d ∷ ds) ms = rw (and_again x d _, programmed-again xs ds (drop 1 ms))

-- all bits of a byte are kept by FFh
pub and_byte : (d : ℕ) → d < 256 → bit_and 255 d ≡ d
and_byte d h = and_comm 255 d ∙ and_mask d 8 ∙ mod-eq_of_lt h

-- a program of an erased page leaves its data
pub programmed-erased : (ds : List ℕ) → Bytes ds → programmed (replicate (length ds) 255) ds ≡ ds
unfolding programmed
programmed-erased [] b = refl
programmed-erased (d ∷ ds) b = ap₂ ◌∷◌ (and_byte d (b 0)) (programmed-erased ds (λ i. b (suc i)))

pub bytes_raised : (xs ms : List ℕ) → Bytes xs → Bytes ms → Bytes (raised xs ms)
unfolding raised
bytes_raised [] ms b c i = omega arith
bytes_raised (x ∷ xs) ms b c zero = or_lt 8 x (get_or ms 0 0) (b 0) (c 0)
bytes_raised (x ∷ xs) ms b c (suc i) =
    bytes_raised xs (drop 1 ms) (λ j. b (suc j)) (λ j. rw get_or_next (c (suc j))) i

pub bytes_replicate : (n : ℕ) → Bytes (replicate n 255)
bytes_replicate zero i = omega arith
bytes_replicate (suc n) zero = omega arith
bytes_replicate (suc n) (suc i) = bytes_replicate n i

pub bytes_append : (xs ys : List ℕ) → Bytes xs → Bytes ys → Bytes (xs ++ ys)
bytes_append [] ys b c i = c i
bytes_append (x ∷ xs) ys b c zero = b 0
bytes_append (x ∷ xs) ys b c (suc i) = bytes_append xs ys (λ j. b (suc j)) c i

pub bytes_take : (n : ℕ) (xs : List ℕ) → Bytes xs → Bytes (take n xs)
bytes_take zero xs b i = omega arith
bytes_take (suc n) [] b i = omega arith
bytes_take (suc n) (x ∷ xs) b zero = b 0
bytes_take (suc n) (x ∷ xs) b (suc i) = bytes_take n xs (λ j. b (suc j)) i

pub bytes_drop : (n : ℕ) (xs : List ℕ) → Bytes xs → Bytes (drop n xs)
bytes_drop n xs b i = rw get_or-drop (b (n + i))

pub bytes_next : (ms : List ℕ) → Bytes ms → Bytes (drop 1 ms)
bytes_next [] b i = b i
bytes_next (m ∷ ms) b i = b (suc i)

-- an erased block stays erased where an erase takes part of its effect
pub or_full : (m : ℕ) → m < 256 → bit_or 255 m ≡ 255
or_full m h = omega (arith, or_add_and 255 m, and_byte m h)

pub raised-erased : (n : ℕ) (ms : List ℕ) → Bytes ms → raised (replicate n 255) ms ≡ replicate n 255
unfolding raised
raised-erased zero ms b = refl
raised-erased (suc n) ms b = ap₂ ◌∷◌ (or_full (get_or ms 0 0) (b 0)) (raised-erased n (drop 1 ms) (bytes_next ms b))

-- all of one list over another that is as long
pub over-all : (xs ys : List ℕ) → length ys ≡ length xs → over xs ys ≡ xs
over-all xs ys e =
    ap (λ (x : List ℕ). xs ++ x) (drop_of_length-le ys {i = length xs} (omega (arith, e))) ∙ append-nil xs
