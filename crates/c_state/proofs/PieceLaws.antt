-- The pieces of a state in a buffer, as they are written and read: numbers, bitmaps, the map. Assumes nothing.
use Prim.Native.Nat.{ℕ, zero, suc, ◌+◌, ◌*◌, ◌≤◌, ◌<◌, zero-le}
use mathlib.Core.List.{List, [], ◌∷◌, ◌++◌, append-nil, append_assoc}
use mathlib.Core.Path.{◌≡◌, refl, sym, ap, ap₂, ◌∙◌}
use native.Mathlib.Nat.{zero-add}
use native.Mathlib.Numerals.{add-one}
use native.Mathlib.Omega.{arith}
use lib.ListN.{length, get_or, take, drop, set, length-append, length-set, take-append-drop, drop_of_length-le}
use lib.Seq.{length-take-le, take-suc, take_all, drop-drop}
use Rattle.cells.specs.Cells.{over}
use Rattle.cells.specs.Part.{part, put}
use Rattle.pages.specs.Layout.{bytes_of, number_of}
use Rattle.pages.proofs.ByteLaws.{put_next, set_next}
use Rattle.pages.proofs.LayoutLaws.{length-bytes_of}
use Rattle.state.specs.declared.State.{State}
use Rattle.c_state.specs.StateBytes.{state_length, pairs, entries, state_bytes, bytes_state}

-- bytes that replace all there are
pub over-whole : (ys xs : List ℕ) → length xs ≤ length ys → over ys xs ≡ ys
over-whole ys xs h = rw (drop_of_length-le xs {i = length ys} h, append-nil)

pub put_whole : (ys xs : List ℕ) → length xs ≤ length ys → put 0 ys xs ≡ ys
unfolding put
put_whole ys xs h = over-whole ys xs h

-- nothing replaced
pub put-none : (at : ℕ) (xs : List ℕ) → put at [] xs ≡ xs
unfolding put
put-none at xs = take-append-drop at xs

-- entries written one after the other
pub pairs-append : (xs ys : List ℕ) → pairs (xs ++ ys) ≡ pairs xs ++ pairs ys
unfolding pairs
pairs-append [] ys = refl
pairs-append (x ∷ xs) ys = ap (λ (l : List ℕ). bytes_of 2 x ++ l) (pairs-append xs ys) ∙ sym (append_assoc (bytes_of 2 x) (pairs xs) (pairs ys))

pub length_pairs : (xs : List ℕ) → length (pairs xs) ≡ 2 * length xs
unfolding pairs
length_pairs [] = refl
length_pairs (x ∷ xs) = length-append (bytes_of 2 x) (pairs xs) ∙ omega (arith, length-bytes_of 2 x, length_pairs xs)

pub pairs_next : (map : List ℕ) (l : ℕ) → l < length map → pairs (take (l + 1) map) ≡ pairs (take l map) ++ bytes_of 2 (get_or map l 0)
unfolding pairs
pairs_next map l h = rw (add-one, take-suc map l 0 h, pairs-append (take l map) (get_or map l 0 ∷ []), append-nil)

-- bytes is start with the first l entries at their places
pub record Stored (start map bytes : List ℕ) (l : ℕ) : Type 0 where
  pub within : l ≤ 4096
  pub same : length bytes ≡ length start
  pub is : bytes ≡ put 1056 (pairs (take l map)) start

pub stored-none : (start map : List ℕ) → Stored start map start 0
unfolding pairs
stored-none start map = record { within = zero-le; same = refl; is = sym (put-none 1056 start) }

pub stored_more : {start map bytes : List ℕ} {l : ℕ} (n : ℕ) (p : List ℕ) → Stored start map bytes l → l < 4096 → length map ≡ 4096 → 1056 ≤ length start
    → n ≡ get_or map l 0 → length p ≡ length bytes → p ≡ put (1056 + 2 * l) (bytes_of 2 n) bytes → Stored start map p (l + 1)
stored_more {start} {map} {bytes} {l} n p r h m long e k f =
    let ys : List ℕ = pairs (take l map) in
    let size : length ys ≡ 2 * l = length_pairs (take l map) ∙ ap (λ (i : ℕ). 2 * i) (length-take-le l map (omega (arith, h, m))) in
    record {
      within = omega (arith, h);
      same = k ∙ r.same;
      is =
          f
          ∙ ap (put (1056 + 2 * l) (bytes_of 2 n)) r.is
          ∙ put_next 1056 (2 * l) (bytes_of 2 n) ys start size long
          ∙ ap (λ (i : ℕ). put 1056 (ys ++ bytes_of 2 i) start) e
          ∙ ap (λ (l : List ℕ). put 1056 l start) (sym (pairs_next map l (omega (arith, h, m))));
    }

pub stored-all : {start map bytes : List ℕ} {l : ℕ} → Stored start map bytes l → 4096 ≤ l → length map ≡ 4096 → bytes ≡ put 1056 (pairs map) start
stored-all {start} {map} {bytes} {l} r h m =
    r.is ∙ ap (λ (ys : List ℕ). put 1056 (pairs ys) start) (take_all l map (omega (arith, h, m)))

-- entries read one after the other
pub length-entries : (n : ℕ) (xs : List ℕ) → length (entries n xs) ≡ n
unfolding entries
length-entries zero xs = refl
length-entries (suc n) xs = ap suc (length-entries n (drop 2 xs))

pub entries_next : (n : ℕ) (xs : List ℕ) → entries (suc n) xs ≡ entries n xs ++ (number_of (take 2 (drop (2 * n) xs)) ∷ [])
unfolding entries
entries_next zero xs = refl
entries_next (suc n) xs =
    let e : 2 + 2 * n ≡ 2 * suc n = omega arith in
    ap (λ (l : List ℕ). number_of (take 2 xs) ∷ l)
    (entries_next n (drop 2 xs)
    ∙ ap (λ (l : List ℕ). entries n (drop 2 xs) ++ (number_of (take 2 l) ∷ [])) (drop-drop (2 * n) 2 xs ∙ ap (λ (k : ℕ). drop k xs) e))

-- map is start with the first l entries of the buffer at their places
pub record Loaded (bytes start map : List ℕ) (l : ℕ) : Type 0 where
  pub within : l ≤ 4096
  pub same : length map ≡ length start
  pub is : map ≡ put 0 (entries l (drop 1056 bytes)) start

pub loaded_none : (bytes start : List ℕ) → Loaded bytes start start 0
unfolding entries
loaded_none bytes start = record { within = zero-le; same = refl; is = sym (put-none 0 start) }

pub loaded_more : {bytes start map : List ℕ} {l : ℕ} (n : ℕ) → Loaded bytes start map l → l < 4096 → length start ≡ 4096
    → n ≡ number_of (take 2 (drop (1056 + 2 * l) bytes)) → Loaded bytes start (set map l n) (l + 1)
loaded_more {bytes} {start} {map} {l} n r h long e =
    let ys : List ℕ = drop 1056 bytes in
    let size : length (entries l ys) ≡ l = length-entries l ys in
    let here : n ≡ number_of (take 2 (drop (2 * l) ys)) = e ∙ ap (λ (x : List ℕ). number_of (take 2 x)) (sym (drop-drop (2 * l) 1056 bytes)) in
    let next : entries l ys ++ (n ∷ []) ≡ entries (l + 1) ys =
    ap (λ (i : ℕ). entries l ys ++ (i ∷ [])) here ∙ sym (entries_next l ys) ∙ ap (λ (i : ℕ). entries i ys) (sym (add-one l)) in
    record {
      within = omega (arith, h);
      same = length-set map l n ∙ r.same;
      is =
          ap (λ (x : List ℕ). set x l n) r.is
          ∙ ap (λ (i : ℕ). set (put 0 (entries l ys) start) i n) (sym (zero-add l))
          ∙ set_next 0 l n (entries l ys) start size (omega (arith, h, long))
          ∙ ap (λ (x : List ℕ). put 0 x start) next;
    }

pub loaded_all : {bytes start map : List ℕ} {l : ℕ} → Loaded bytes start map l → 4096 ≤ l → length start ≡ 4096 → map ≡ entries 4096 (drop 1056 bytes)
loaded_all {bytes} {start} {map} {l} r h long =
    let e : l ≡ 4096 = omega (arith, h, r.within) in
    r.is
    ∙ put_whole (entries l (drop 1056 bytes)) start (omega (arith, long, length-entries l (drop 1056 bytes), e))
    ∙ ap (λ (i : ℕ). entries i (drop 1056 bytes)) e

-- a piece written where those before it end
next : (n m : ℕ) (zs ys xs p q : List ℕ) → length ys ≡ n → length zs ≡ m → p ≡ put 0 ys xs → q ≡ put n zs p → (length (ys ++ zs) ≡ n + m) × (q ≡ put 0 (ys ++ zs) xs)
next n m zs ys xs p q k l e f = (
  length-append ys zs ∙ ap₂ ◌+◌ k l,
  f ∙ ap (put n zs) e ∙ ap (λ (i : ℕ). put i zs (put 0 ys xs)) (sym (zero-add n)) ∙ put_next 0 n zs ys xs k zero-le,
)

-- the pieces of a state, written in their order
pub stored : (s : State) (xs p₁ p₂ p₃ p₄ p₅ p₆ : List ℕ) → length xs ≡ state_length → length s.marked ≡ 512 → length s.invalid ≡ 512 → length s.map ≡ 4096
    → p₁ ≡ put 0 (bytes_of 8 s.status) xs
    → p₂ ≡ put 8 (bytes_of 8 s.table) p₁
    → p₃ ≡ put 16 (bytes_of 8 s.last) p₂
    → p₄ ≡ put 24 (bytes_of 8 s.number) p₃
    → p₅ ≡ put 544 s.invalid (put 32 s.marked p₄)
    → p₆ ≡ put 1056 (pairs s.map) p₅
    → p₆ ≡ state_bytes s
unfolding state_bytes
stored s xs p₁ p₂ p₃ p₄ p₅ p₆ long k₅ k₆ k₇ e₁ e₂ e₃ e₄ e₅ e₆ =
    let f₁ : List ℕ = bytes_of 8 s.status in
    let f₂ : List ℕ = bytes_of 8 s.table in
    let f₃ : List ℕ = bytes_of 8 s.last in
    let f₄ : List ℕ = bytes_of 8 s.number in
    let f₇ : List ℕ = pairs s.map in
    let q₂ = next 8 8 f₂ f₁ xs p₁ p₂ (length-bytes_of 8 s.status) (length-bytes_of 8 s.table) e₁ e₂ in
    let q₃ = next 16 8 f₃ (f₁ ++ f₂) xs p₂ p₃ q₂.0 (length-bytes_of 8 s.last) q₂.1 e₃ in
    let q₄ = next 24 8 f₄ ((f₁ ++ f₂) ++ f₃) xs p₃ p₄ q₃.0 (length-bytes_of 8 s.number) q₃.1 e₄ in
    let q₅ = next 32 512 s.marked (((f₁ ++ f₂) ++ f₃) ++ f₄) xs p₄ (put 32 s.marked p₄) q₄.0 k₅ q₄.1 refl in
    let q₆ = next 544 512 s.invalid ((((f₁ ++ f₂) ++ f₃) ++ f₄) ++ s.marked) xs (put 32 s.marked p₄) p₅ q₅.0 k₆ q₅.1 e₅ in
    let q₇ = next 1056 8192 f₇ (((((f₁ ++ f₂) ++ f₃) ++ f₄) ++ s.marked) ++ s.invalid) xs p₅ p₆ q₆.0 (length_pairs s.map ∙ omega (arith, k₇)) q₆.1 e₆ in
    q₇.1 ∙ put_whole _ xs (omega (arith, long, q₇.0)) ∙ simp append_assoc

-- the pieces of a state, read
pub loaded : (xs : List ℕ) {status table last number : ℕ} {marked invalid map kinds kept : List ℕ}
    → status ≡ number_of (part 0 8 xs) → table ≡ number_of (part 8 8 xs) → last ≡ number_of (part 16 8 xs) → number ≡ number_of (part 24 8 xs)
    → marked ≡ part 32 512 xs → invalid ≡ part 544 512 xs → map ≡ entries 4096 (drop 1056 xs) → kinds ≡ kept
    → ◌≡◌ {A = State} (record { status = status; table = table; last = last; number = number; marked = marked; invalid = invalid; map = map; kinds = kinds }) (bytes_state xs kept)
unfolding bytes_state
loaded xs e₁ e₂ e₃ e₄ e₅ e₆ e₇ e₈ = rw (e₁, e₂, e₃, e₄, e₅, e₆, e₇, e₈)
