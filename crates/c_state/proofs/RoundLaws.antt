-- Every state in the range of its types is a buffer of 9,248 bytes and its kinds, and every such buffer with kinds a state. Assumes nothing.
use Prim.Native.Nat.{ℕ, zero, suc, ◌+◌, ◌*◌, ◌/◌, ◌%◌, ◌≤◌, ◌<◌, ◌^◌}
use mathlib.Core.List.{List, [], ◌∷◌, ◌++◌}
use mathlib.Core.Path.{◌≡◌, refl, sym, ap, ap₂, subst, ◌∙◌}
use native.Mathlib.Nat.{pow-suc}
use native.Mathlib.Omega.{arith}
use lib.ListN.{length, get_or, take, drop, length-append, length-drop, take-append-drop}
use lib.Seq.{take_at, drop_at, drop-drop}
use Rattle.cells.specs.Bytes.{Bytes}
use Rattle.cells.specs.Part.{part}
use Rattle.cells.proofs.CellLaws.{bytes_append, bytes_drop}
use Rattle.cells.proofs.PartLaws.{length_part, bytes_part}
use Rattle.pages.specs.Layout.{bytes_of, number_of}
use Rattle.pages.proofs.LayoutLaws.{number_of-bytes_of, length-bytes_of, bytes_bytes_of}
use Rattle.state.specs.declared.State.{State}
use Rattle.c_state.specs.StateBytes.{state_length, pairs, entries, state_bytes, bytes_state, Ranged}
use Rattle.c_state.proofs.PieceLaws.{loaded, length_pairs, length-entries}

-- a piece, and what follows it
pub piece : (k n : ℕ) (ys zs xs : List ℕ) → length ys ≡ n → drop k xs ≡ ys ++ zs → (part k n xs ≡ ys) × (drop (k + n) xs ≡ zs)
piece k n ys zs xs l e = (
  ap (take n) e ∙ take_at ys zs n l,
  sym (drop-drop n k xs) ∙ ap (drop n) e ∙ drop_at ys zs n l,
)

-- entries that fit two bytes read back
pub entries-pairs : (map : List ℕ) → ((i : ℕ) → get_or map i 0 < 65536) → entries (length map) (pairs map) ≡ map
unfolding entries pairs
entries-pairs [] h = refl
entries-pairs (x ∷ xs) h =
    let b : List ℕ = bytes_of 2 x in
    ap₂ ◌∷◌
    (ap number_of (take_at b (pairs xs) 2 (length-bytes_of 2 x)) ∙ number_of-bytes_of 2 x (h 0))
    (ap (entries (length xs)) (drop_at b (pairs xs) 2 (length-bytes_of 2 x)) ∙ entries-pairs xs (λ i. h (suc i)))

-- a state that was stored is loaded as it was
pub load_stored : (s : State) → Ranged s → bytes_state (state_bytes s) s.kinds ≡ s
unfolding state_bytes
load_stored s r =
    let xs : List ℕ = state_bytes s in
    let number : (n : ℕ) (k : ℕ) → n < 2 ^ 64 → part k 8 xs ≡ bytes_of 8 n → n ≡ number_of (part k 8 xs) = λ n k h e. sym (ap number_of e ∙ number_of-bytes_of 8 n h) in
    let t₇ : List ℕ = pairs s.map in
    let t₆ : List ℕ = s.invalid ++ t₇ in
    let t₅ : List ℕ = s.marked ++ t₆ in
    let t₄ : List ℕ = bytes_of 8 s.number ++ t₅ in
    let t₃ : List ℕ = bytes_of 8 s.last ++ t₄ in
    let t₂ : List ℕ = bytes_of 8 s.table ++ t₃ in
    let p₁ = piece 0 8 (bytes_of 8 s.status) t₂ xs (length-bytes_of 8 s.status) refl in
    let p₂ = piece 8 8 (bytes_of 8 s.table) t₃ xs (length-bytes_of 8 s.table) p₁.1 in
    let p₃ = piece 16 8 (bytes_of 8 s.last) t₄ xs (length-bytes_of 8 s.last) p₂.1 in
    let p₄ = piece 24 8 (bytes_of 8 s.number) t₅ xs (length-bytes_of 8 s.number) p₃.1 in
    let p₅ = piece 32 512 s.marked t₆ xs r.marked_long p₄.1 in
    let p₆ = piece 544 512 s.invalid t₇ xs r.invalid_long p₅.1 in
    let map : s.map ≡ entries 4096 (drop 1056 xs) =
    sym (ap (entries 4096) p₆.1 ∙ ap (λ (n : ℕ). entries n t₇) (sym r.map_long) ∙ entries-pairs s.map r.map_fits) in
    sym (loaded xs
    (number s.status 0 r.status_fits p₁.0)
    (number s.table 8 r.table_fits p₂.0)
    (number s.last 16 r.last_fits p₃.0)
    (number s.number 24 r.number_fits p₄.0)
    (sym p₅.0) (sym p₆.0) map refl)

-- the number of some bytes is stored as these bytes
pub bytes_of-number_of : (xs : List ℕ) → Bytes xs → bytes_of (length xs) (number_of xs) ≡ xs
unfolding bytes_of number_of
bytes_of-number_of [] b = refl
bytes_of-number_of (x ∷ xs) b =
    let less : x < 256 = b 0 in
    let low : (x + 256 * number_of xs) % 256 ≡ x = omega (arith, less) in
    let high : (x + 256 * number_of xs) / 256 ≡ number_of xs = omega (arith, less) in
    ap₂ ◌∷◌ low (ap (bytes_of (length xs)) high ∙ bytes_of-number_of xs (λ i. b (suc i)))

part-stored : (k n : ℕ) (xs : List ℕ) → Bytes xs → k + n ≤ length xs → bytes_of n (number_of (part k n xs)) ≡ part k n xs
part-stored k n xs b h =
    ap (λ (m : ℕ). bytes_of m (number_of (part k n xs))) (sym (length_part k n xs h)) ∙ bytes_of-number_of (part k n xs) (bytes_part k n xs b)

pub pairs-entries : (n : ℕ) (xs : List ℕ) → length xs ≡ 2 * n → Bytes xs → pairs (entries n xs) ≡ xs
unfolding entries pairs
pairs-entries zero [] h b = refl
pairs-entries zero (x ∷ xs) h b = absurd (omega (arith, h))
pairs-entries (suc n) xs h b =
    ap₂ ◌++◌ (part-stored 0 2 xs b (omega (arith, h))) (pairs-entries n (drop 2 xs) (length-drop 2 xs ∙ omega (arith, h)) (bytes_drop 2 xs b))
    ∙ take-append-drop 2 xs

-- a piece, stored before what follows it
stored_piece : (k n : ℕ) (ys zs xs : List ℕ) → ys ≡ part k n xs → zs ≡ drop (k + n) xs → ys ++ zs ≡ drop k xs
stored_piece k n ys zs xs e f = ap₂ ◌++◌ e (f ∙ sym (drop-drop n k xs)) ∙ take-append-drop n (drop k xs)

-- a buffer that was loaded is stored as it was
pub store_loaded : (xs kinds : List ℕ) → length xs ≡ state_length → Bytes xs → state_bytes (bytes_state xs kinds) ≡ xs
unfolding state_bytes bytes_state
store_loaded xs kinds long b =
    let number : (k : ℕ) → k + 8 ≤ length xs → bytes_of 8 (number_of (part k 8 xs)) ≡ part k 8 xs = λ k h. part-stored k 8 xs b h in
    let q₇ : pairs (entries 4096 (drop 1056 xs)) ≡ drop 1056 xs =
    pairs-entries 4096 (drop 1056 xs) (length-drop 1056 xs ∙ omega (arith, long)) (bytes_drop 1056 xs b) in
    let q₆ = stored_piece 544 512 (part 544 512 xs) _ xs refl q₇ in
    let q₅ = stored_piece 32 512 (part 32 512 xs) _ xs refl q₆ in
    let q₄ = stored_piece 24 8 (bytes_of 8 (number_of (part 24 8 xs))) _ xs (number 24 (omega (arith, long))) q₅ in
    let q₃ = stored_piece 16 8 (bytes_of 8 (number_of (part 16 8 xs))) _ xs (number 16 (omega (arith, long))) q₄ in
    let q₂ = stored_piece 8 8 (bytes_of 8 (number_of (part 8 8 xs))) _ xs (number 8 (omega (arith, long))) q₃ in
    stored_piece 0 8 (bytes_of 8 (number_of (part 0 8 xs))) _ xs (number 0 (omega (arith, long))) q₂

-- a state in the range of its types is stored as 9,248 bytes
pub stored-long : (s : State) → Ranged s → length (state_bytes s) ≡ state_length
unfolding state_bytes
stored-long s r =
    simp (length-append, length-bytes_of, length_pairs) (omega (arith, r.marked_long, r.invalid_long, r.map_long))

bytes_pairs : (xs : List ℕ) → Bytes (pairs xs)
unfolding pairs
bytes_pairs [] i = omega arith
bytes_pairs (x ∷ xs) i = bytes_append (bytes_of 2 x) (pairs xs) (bytes_bytes_of 2 x) (bytes_pairs xs) i

pub stored_bytes : (s : State) → Ranged s → Bytes (state_bytes s)
unfolding state_bytes
stored_bytes s r =
    bytes_append (bytes_of 8 s.status) _ (bytes_bytes_of 8 s.status)
    (bytes_append (bytes_of 8 s.table) _ (bytes_bytes_of 8 s.table)
    (bytes_append (bytes_of 8 s.last) _ (bytes_bytes_of 8 s.last)
    (bytes_append (bytes_of 8 s.number) _ (bytes_bytes_of 8 s.number)
    (bytes_append s.marked _ r.marked_bytes
    (bytes_append s.invalid _ r.invalid_bytes (bytes_pairs s.map))))))

-- bytes make a number that fits them
number_fits : (xs : List ℕ) → Bytes xs → number_of xs < 256 ^ length xs
unfolding number_of
number_fits [] b = omega arith
number_fits (x ∷ xs) b =
    let less : x < 256 = b 0 in
    omega (arith, less, number_fits xs (λ i. b (suc i)), pow-suc 256 (length xs))

part_fits : (k n : ℕ) (xs : List ℕ) → Bytes xs → k + n ≤ length xs → number_of (part k n xs) < 256 ^ n
part_fits k n xs b h =
    subst (λ (m : ℕ). number_of (part k n xs) < 256 ^ m) (length_part k n xs h) (number_fits (part k n xs) (bytes_part k n xs b))

entries_fit : (n : ℕ) (xs : List ℕ) → length xs ≡ 2 * n → Bytes xs → (i : ℕ) → get_or (entries n xs) i 0 < 65536
unfolding entries
entries_fit zero xs h b i = omega arith
entries_fit (suc n) xs h b zero = part_fits 0 2 xs b (omega (arith, h))
entries_fit (suc n) xs h b (suc i) = entries_fit n (drop 2 xs) (length-drop 2 xs ∙ omega (arith, h)) (bytes_drop 2 xs b) i

-- what is loaded is in the range of its types
pub loaded_ranged : (xs kinds : List ℕ) → length xs ≡ state_length → Bytes xs → length kinds ≡ 4096 → Bytes kinds → Ranged (bytes_state xs kinds)
unfolding bytes_state
loaded_ranged xs kinds long b kinds_long kinds_bytes =
    record {
      status_fits = part_fits 0 8 xs b (omega (arith, long));
      table_fits = part_fits 8 8 xs b (omega (arith, long));
      last_fits = part_fits 16 8 xs b (omega (arith, long));
      number_fits = part_fits 24 8 xs b (omega (arith, long));
      marked_long = length_part 32 512 xs (omega (arith, long));
      marked_bytes = bytes_part 32 512 xs b;
      invalid_long = length_part 544 512 xs (omega (arith, long));
      invalid_bytes = bytes_part 544 512 xs b;
      map_long = length-entries 4096 (drop 1056 xs);
      map_fits = entries_fit 4096 (drop 1056 xs) (length-drop 1056 xs ∙ omega (arith, long)) (bytes_drop 1056 xs b);
      kinds_long = kinds_long;
      kinds_bytes = kinds_bytes;
    }
