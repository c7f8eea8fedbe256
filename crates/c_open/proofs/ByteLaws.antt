-- The words of an open write within the bytes of a state, written and read; a state handed from call to call. Assumes nothing.
use Prim.Native.Nat.{ℕ, zero, suc, ◌+◌, ◌-◌, ◌*◌, ◌<◌, ◌≤◌}
use mathlib.Core.List.{List, [], ◌∷◌, ◌++◌, append_assoc, append-nil}
use mathlib.Core.Path.{◌≡◌, refl, sym, ap, ap₂, ◌∙◌}
use native.Mathlib.Numerals.{add-one}
use native.Mathlib.Omega.{arith}
use lib.ListN.{length, get_or, take, drop, replicate, length-append, length-replicate, length-drop, drop_of_length-le, take-append-drop}
use lib.Seq.{take_at, drop_at, length-take-le}
use Rattle.cells.specs.Part.{put}
use Rattle.pages.specs.Layout.{bytes_of}
use Rattle.pages.proofs.ByteLaws.{put_next}
use Rattle.pages.proofs.LayoutLaws.{length-bytes_of}
use Rattle.c_state.specs.StateBytes.{state_length, state_bytes}
use Rattle.state.specs.declared.State.{State}
use Rattle.open_write.specs.declared.OpenWrite.{OpenWrite}
use Rattle.open_write.specs.Open.{open_state}
use Rattle.c_open.specs.OpenBytes.{open_length, write_bytes, open_bytes, bytes_page}

-- words of eight bytes, one after the other
abbrev pub words_bytes : List ℕ → List ℕ
words_bytes [] = []
words_bytes (w ∷ ws) = bytes_of 8 w ++ words_bytes ws

long_words : (ws : List ℕ) → length (words_bytes ws) ≡ 8 * length ws
long_words [] = refl
long_words (w ∷ ws) = length-append (bytes_of 8 w) (words_bytes ws) ∙ omega (arith, length-bytes_of 8 w, long_words ws)

one_more : (i : ℕ) (ws : List ℕ) → i < length ws → words_bytes (take i ws) ++ bytes_of 8 (get_or ws i 0) ≡ words_bytes (take (suc i) ws)
one_more i [] h = absurd (omega (arith, h))
one_more zero (w ∷ ws) h = sym (append-nil (bytes_of 8 w))
one_more (suc i) (w ∷ ws) h =
    append_assoc (bytes_of 8 w) (words_bytes (take i ws)) (bytes_of 8 (get_or ws i 0))
    ∙ ap (λ (bytes : List ℕ). bytes_of 8 w ++ bytes) (one_more i ws (omega (arith, h)))

-- one word more is written
pub word_written : (i word : ℕ) (ws xs p q : List ℕ) → i < length ws → word ≡ get_or ws i 0 → 9248 ≤ length xs
    → p ≡ put 9248 (words_bytes (take i ws)) xs → q ≡ put (9248 + 8 * i) (bytes_of 8 word) p → q ≡ put 9248 (words_bytes (take (i + 1) ws)) xs
word_written i word ws xs p q h w room e f =
    let long : length (words_bytes (take i ws)) ≡ 8 * i = long_words (take i ws) ∙ ap (λ (n : ℕ). 8 * n) (length-take-le i ws (omega (arith, h))) in
    f
    ∙ ap₂ (λ (n : ℕ) (ys : List ℕ). put (9248 + 8 * i) (bytes_of 8 n) ys) w e
    ∙ put_next 9248 (8 * i) (bytes_of 8 (get_or ws i 0)) (words_bytes (take i ws)) xs long room
    ∙ ap (λ (ys : List ℕ). put 9248 ys xs) (rw add-one (one_more i ws h))

-- none is written yet
pub none_written : (xs : List ℕ) → put 9248 [] xs ≡ xs
unfolding put
none_written xs = take-append-drop 9248 xs

-- the words of a write
abbrev pub words_in : OpenWrite → List ℕ
words_in w = w.opened ∷ w.phase ∷ w.step ∷ w.logical ∷ w.first ∷ w.old ∷ w.block ∷ w.number ∷ w.page ∷ w.failed ∷ []

pub all_written : (w : OpenWrite) → words_bytes (words_in w) ≡ write_bytes w
unfolding write_bytes
all_written w = simp append-nil

pub words_long : (w : OpenWrite) → length (write_bytes w) ≡ 80
unfolding write_bytes bytes_of
words_long w = refl

-- the base state's part of the bytes
pub first-long : (xs : List ℕ) → length xs ≡ open_length → length (take (9248 - 0) (drop 0 xs)) ≡ 9248
first-long xs long = length-take-le 9248 xs (omega (arith, long))

-- a base state, the words of a write and the kinds, written one after the other: the page stays
pub stored_open : (st : State) (w : OpenWrite) (xs p q r : List ℕ) → length xs ≡ open_length → length (state_bytes st) ≡ state_length → length st.kinds ≡ 4096
    → p ≡ put 0 (state_bytes st) xs → q ≡ put 9248 (write_bytes w) p → r ≡ put 13424 st.kinds q → r ≡ open_bytes (open_state st w (bytes_page xs))
unfolding open_bytes put
stored_open st w xs p q r long k j e f h =
    let head : List ℕ = state_bytes st ++ write_bytes w in
    let page : List ℕ = bytes_page xs in
    let rest : List ℕ = drop 4096 (drop 9328 xs) in
    let all : length head ≡ 9328 = length-append (state_bytes st) (write_bytes w) ∙ ap₂ ◌+◌ k (words_long w) in
    let page-long : length page ≡ 4096 = length-take-le 4096 (drop 9328 xs) (omega (arith, length-drop 9328 xs, long)) in
    let before : length (head ++ page) ≡ 13424 = length-append head page ∙ ap₂ ◌+◌ all page-long in
    let rest_long : length rest ≤ length st.kinds = omega (arith, length-drop 4096 (drop 9328 xs), length-drop 9328 xs, long, j) in
    let there : q ≡ (head ++ page) ++ rest =
    f ∙ ap (put 9248 (write_bytes w)) e ∙ put_next 0 9248 (write_bytes w) (state_bytes st) xs k (omega arith)
    ∙ ap (λ (n : ℕ). head ++ drop n xs) all
    ∙ ap (λ (ys : List ℕ). head ++ ys) (sym (take-append-drop 4096 (drop 9328 xs)))
    ∙ sym (append_assoc head page rest) in
    h ∙ ap (put 13424 st.kinds) there
    ∙ ap₂ (λ (x y : List ℕ). x ++ (st.kinds ++ drop (length st.kinds) y)) (take_at (head ++ page) rest 13424 before) (drop_at (head ++ page) rest 13424 before)
    ∙ ap (λ (y : List ℕ). (head ++ page) ++ (st.kinds ++ y)) (drop_of_length-le rest {i = length st.kinds} rest_long)
    ∙ simp (append_assoc, append-nil)

-- the page of bytes that are lent in part
pub page-lent : (xs : List ℕ) → length xs ≡ open_length → take (13424 - 9328) (drop 9328 xs) ≡ bytes_page xs
page-lent xs long = refl

-- a page that was written in part of the bytes
pub page-put : (xs ys : List ℕ) → length xs ≡ open_length → length ys ≡ length (take (13424 - 9328) (drop 9328 xs)) → bytes_page (take 9328 xs ++ (ys ++ drop (13424 - 9328) (drop 9328 xs))) ≡ ys
page-put xs ys long e =
    let rest : List ℕ = drop (13424 - 9328) (drop 9328 xs) in
    ap (take 4096) (drop_at (take 9328 xs) (ys ++ rest) 9328 (length-take-le 9328 xs (omega (arith, long))))
    ∙ take_at ys rest 4096 (e ∙ length-take-le 4096 (drop 9328 xs) (omega (arith, length-drop 9328 xs, long)))

-- a page that was cleared
pub page_cleared : (xs zs ys : List ℕ) → length xs ≡ open_length → zs ≡ replicate (length (take (13424 - 9328) (drop 9328 xs))) 0 → ys ≡ take 9328 xs ++ (zs ++ drop (13424 - 9328) (drop 9328 xs)) → bytes_page ys ≡ replicate (length (bytes_page xs)) 0
page_cleared xs zs ys long e f =
    let same : length zs ≡ length (take (13424 - 9328) (drop 9328 xs)) = ap length e ∙ length-replicate _ 0 in
    ap bytes_page f ∙ page-put xs zs long same ∙ e ∙ ap (λ (r : List ℕ). replicate (length r) 0) (page-lent xs long)
