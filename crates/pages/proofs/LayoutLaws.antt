-- Laws of the layout of a page: what is encoded reads back, and a page with raised bits is whole only if none was raised. Assumes nothing.
use Prim.Native.Nat.{ℕ, zero, suc, ◌+◌, ◌-◌, ◌*◌, ◌/◌, ◌≤◌, ◌<◌, ◌^◌}
use mathlib.Core.Bool.{true, false, cond, true≢false}
use mathlib.Core.List.{List, [], ◌∷◌, ◌++◌, append_assoc}
use mathlib.Core.Path.{◌≡◌, refl, sym, ap, ap₂, subst, ◌∙◌}
use native.Mathlib.Nat.{pow-suc}
use native.Mathlib.Omega.{arith}
use borrow.Table.Steps.{cases}
use borrow.Author.Tests.{eqb-true, eq-eqb, ne_eqb}
use lib.Bits.{bit_and}
use lib.Dec.{eqb}
use lib.ListN.{length, get_or, take, drop, replicate, length-append, length-replicate, take-append-drop, length-take, length-drop}
use lib.Seq.{take_at, drop_at, take-append_seam, drop-append_seam, get_or-drop, drop-drop}
use Rattle.cells.specs.Bytes.{Bytes}
use Rattle.cells.proofs.CellLaws.{bytes_append, bytes_replicate}
use Rattle.bools.proofs.BoolLaws.{both, unless}
use Rattle.pages.specs.Check.{zero_bits}
use Rattle.pages.specs.Layout.{Label, label, Fits, Sized, among, narrow_kinds, wide_kinds, data_kinds, data_kind, table_kind, is_data_kind, is_table_kind, number_width, check_at, rest_at, bytes_of, number_of, label_bytes, encoded, spare_of, kind_of, width_of, label_of, all_ones, stored_check, counted_check, whole}
use Rattle.pages.specs.Over.{Over, none, more}
use Rattle.pages.proofs.CheckLaws.{zero_bits-most}
use Rattle.pages.proofs.OverLaws.{zero_bits-over, zero_bits_same, over-take, over-drop, over-length, over-get_or, and_trans, number_over, number_of-over, number_of_same}

-- the bytes of a number that fits them read back
pub number_of-bytes_of : (w n : ℕ) → n < 256 ^ w → number_of (bytes_of w n) ≡ n
unfolding number_of bytes_of
number_of-bytes_of zero n h = omega arith
number_of-bytes_of (suc w) n h =
    let less : n / 256 < 256 ^ w = omega (arith, pow-suc 256 w) in
    omega (arith, number_of-bytes_of w (n / 256) less)

-- the number of some bytes fits them
pub number_of_fits : (w : ℕ) (xs : List ℕ) → Bytes xs → number_of (take w xs) < 256 ^ w
unfolding number_of
number_of_fits zero xs b = omega arith
number_of_fits (suc w) [] b = omega (arith, pow-suc 256 w, number_of_fits w [] b)
number_of_fits (suc w) (x ∷ xs) b = omega (arith, pow-suc 256 w, b 0, number_of_fits w xs (λ i. b (suc i)))

pub length-bytes_of : (w n : ℕ) → length (bytes_of w n) ≡ w
unfolding bytes_of
length-bytes_of zero n = refl
length-bytes_of (suc w) n = ap suc (length-bytes_of w (n / 256))

pub bytes_bytes_of : (w n : ℕ) → Bytes (bytes_of w n)
unfolding bytes_of
bytes_bytes_of zero n i = omega arith
bytes_bytes_of (suc w) n zero = omega arith
bytes_bytes_of (suc w) n (suc i) = bytes_bytes_of w (n / 256) i

-- what a kind says, by cases: no kind, a narrow one, a wide one
pub data Kinds (k : ℕ) : Type 0 where
  no_kind : number_width k ≡ 0 → Kinds k
  narrow : number_width k ≡ 4 → bit_and 32 k ≡ 0 → Kinds k
  wide : number_width k ≡ 8 → bit_and 32 k ≡ 32 → Kinds k

-- what holds of each of these kinds
unfoldable All : (ℕ → Type 0) → List ℕ → Type 0
All P [] = Unit {0}
All P (x ∷ xs) = P x × All P xs

among_is : (P : ℕ → Type 0) (xs : List ℕ) (k : ℕ) → All P xs → among xs k ≡ true → P k
unfolding All
among_is P [] k a t = absurd (true≢false (sym t))
among_is P (x ∷ xs) k a t = cases (eqb k x) (λ u. subst P (sym (eqb-true k x u)) a.0) (λ u. among_is P xs k a.1 (sym (rw u) ∙ t))

-- the bit 20h tells the layouts apart
narrow_bits : All (λ k. bit_and 32 k ≡ 0) narrow_kinds
unfolding All
narrow_bits = (refl, (refl, tt))

wide_bits : All (λ k. bit_and 32 k ≡ 32) wide_kinds
unfolding All
wide_bits = (refl, (refl, (refl, tt)))

pub by_kind : (k : ℕ) → Kinds k
unfolding number_width
by_kind k =
    cases (among narrow_kinds k)
    (λ t. narrow (rw t) (among_is (λ k. bit_and 32 k ≡ 0) narrow_kinds k narrow_bits t))
    (λ t.
    cases (among wide_kinds k)
    (λ u. wide (rw (t, u)) (among_is (λ k. bit_and 32 k ≡ 32) wide_kinds k wide_bits u))
    (λ u. no_kind (rw (t, u))))

-- a number has at most eight bytes
pub width_most : (k : ℕ) → number_width k ≤ 8
width_most k = most (by_kind k)
  where
    most : Kinds k → number_width k ≤ 8
    most (no_kind e) = omega (arith, e)
    most (narrow e b) = omega (arith, e)
    most (wide e b) = omega (arith, e)

-- the two kinds, their tests and their widths
pub data_is : is_data_kind data_kind ≡ true
unfolding is_data_kind
data_is = refl

pub table_is : is_table_kind table_kind ≡ true
unfolding is_table_kind
table_is = refl

-- no kind is a data page's and a table's
data_not_table : All (λ k. is_table_kind k ≡ false) data_kinds
unfolding All is_table_kind
data_not_table = (refl, (refl, (refl, tt)))

pub kinds_apart : (k : ℕ) → is_data_kind k ≡ true → is_table_kind k ≡ false
unfolding is_data_kind
kinds_apart k t = among_is (λ k. is_table_kind k ≡ false) data_kinds k data_not_table t

pub table_no_data : is_data_kind table_kind ≡ false
unfolding is_data_kind
table_no_data = refl

-- 0 is no kind
pub width_zero : number_width 0 ≡ 0
unfolding number_width
width_zero = refl

pub data_width : number_width data_kind ≡ 8
unfolding number_width
data_width = refl

pub table_width : number_width table_kind ≡ 8
unfolding number_width
table_width = refl

pub length-label_bytes : (l : Label) → length (label_bytes l) ≡ 5 + number_width l.kind
unfolding label_bytes bytes_of
length-label_bytes l = omega (arith, length-bytes_of (number_width l.kind) l.number)

-- the bytes that are checked, of a label and main bytes
pub length-counted : (l : Label) (main : List ℕ) → length (main ++ label_bytes l) ≡ length main + check_at (number_width l.kind)
length-counted l main = rw (length-append, length-label_bytes)

pub length-encoded : (spare : ℕ) (l : Label) (main : List ℕ) → rest_at (number_width l.kind) ≤ spare → length (encoded spare l main) ≡ length main + spare
unfolding encoded
length-encoded spare l main h =
    simp (length-append, length-label_bytes, length-bytes_of, length-replicate) (omega arith)

pub bytes_cons : (x : ℕ) (xs : List ℕ) → x < 256 → Bytes xs → Bytes (x ∷ xs)
bytes_cons x xs h b zero = h
bytes_cons x xs h b (suc i) = b i

pub bytes_label_bytes : (l : Label) → Fits l → Bytes (label_bytes l)
unfolding label_bytes
bytes_label_bytes l f =
    let ns : List ℕ = bytes_of (number_width l.kind) l.number in
    let ls : List ℕ = bytes_of 2 l.logical in
    bytes_cons 255 (l.kind ∷ (ls ++ (l.page ∷ ns))) (omega arith)
    (bytes_cons l.kind (ls ++ (l.page ∷ ns)) f.kind_byte
    (bytes_append ls (l.page ∷ ns) (bytes_bytes_of 2 l.logical)
    (bytes_cons l.page ns f.page_byte (bytes_bytes_of (number_width l.kind) l.number))))

pub bytes_encoded : (spare : ℕ) (l : Label) (main : List ℕ) → Fits l → Bytes main → Bytes (encoded spare l main)
unfolding encoded
bytes_encoded spare l main f b =
    let n : ℕ = zero_bits (main ++ label_bytes l) in
    let k : ℕ = spare - rest_at (number_width l.kind) in
    bytes_append (main ++ label_bytes l) (bytes_of 2 n ++ replicate k 255) (bytes_append main (label_bytes l) b (bytes_label_bytes l f))
    (bytes_append (bytes_of 2 n) (replicate k 255) (bytes_bytes_of 2 n) (bytes_replicate k))

-- the spare bytes of what is encoded
pub encoded_spare : (spare : ℕ) (l : Label) (main : List ℕ)
    → drop (length main) (encoded spare l main)
    ≡ label_bytes l ++ (bytes_of 2 (zero_bits (main ++ label_bytes l)) ++ replicate (spare - rest_at (number_width l.kind)) 255)
unfolding encoded
encoded_spare spare l main = rw (append_assoc main) (drop-append_seam main _)

pub encoded_main : (spare : ℕ) (l : Label) (main : List ℕ) → take (length main) (encoded spare l main) ≡ main
unfolding encoded
encoded_main spare l main = rw (append_assoc main) (take-append_seam main _)

pub encoded_kind : (spare : ℕ) (l : Label) (main : List ℕ) → kind_of (length main) (encoded spare l main) ≡ l.kind
unfolding kind_of label_bytes
encoded_kind spare l main = rw (encoded_spare spare l main)

pub encoded-first : (spare : ℕ) (l : Label) (main : List ℕ) → get_or (spare_of (length main) (encoded spare l main)) 0 0 ≡ 255
unfolding label_bytes
encoded-first spare l main = rw (encoded_spare spare l main)

pub encoded_width : (spare : ℕ) (l : Label) (main : List ℕ) → width_of (length main) (encoded spare l main) ≡ number_width l.kind
encoded_width spare l main = ap number_width (encoded_kind spare l main)

pub label_same : {a b c d e f g h : ℕ} → a ≡ e → b ≡ f → c ≡ g → d ≡ h → label a b c d ≡ label e f g h
label_same p q r s = rw (p, q, r, s)

-- the label that was encoded reads back
pub encoded-label : (spare : ℕ) (l : Label) (main : List ℕ) → Fits l → label_of (length main) (encoded spare l main) ≡ l
unfolding label_of label_bytes bytes_of
encoded-label spare l main f =
    label_same (encoded_kind spare l main)
    (rw (encoded_spare spare l main) (number_of-bytes_of 2 l.logical f.logical_fits))
    (rw (encoded_spare spare l main))
    (rw (
      encoded_width spare l main,
      encoded_spare spare l main,
      take_at (bytes_of (number_width l.kind) l.number) _ (number_width l.kind) (length-bytes_of (number_width l.kind) l.number),
    )
    (number_of-bytes_of (number_width l.kind) l.number f.number_fits))

-- what a whole page has
pub record Parts (main : ℕ) (p : List ℕ) : Type 0 where
  pub width : 0 < width_of main p
  pub first : get_or (spare_of main p) 0 0 ≡ 255
  pub rest : all_ones (drop (rest_at (width_of main p)) (spare_of main p)) ≡ true
  pub check : stored_check main p ≡ counted_check main p

pub positive : (n : ℕ) → eqb n 0 ≡ false → 0 < n
positive zero h = absurd (true≢false h)
positive (suc n) h = omega arith

pub whole_parts : (main : ℕ) (p : List ℕ) → whole main p ≡ true → Parts main p
unfolding whole
whole_parts main p h =
    let a = unless (eqb (width_of main p) 0) _ h in
    let b = both (eqb (get_or (spare_of main p) 0 0) 255) _ a.1 in
    let c = both (all_ones (drop (rest_at (width_of main p)) (spare_of main p))) (eqb (stored_check main p) (counted_check main p)) b.1 in
    record { width = positive _ a.0; first = eqb-true _ _ b.0; rest = c.0; check = eqb-true _ _ c.1 }

pub parts_whole : (main : ℕ) (p : List ℕ) → Parts main p → whole main p ≡ true
unfolding whole
parts_whole main p q =
    let some : eqb (width_of main p) 0 ≡ false = ne_eqb (width_of main p) 0 (λ e. omega (arith, q.width)) in
    rw (some, eq-eqb _ _ q.first, q.rest, eq-eqb _ _ q.check)

pub all_ones-replicate : (n : ℕ) → all_ones (replicate n 255) ≡ true
unfolding all_ones
all_ones-replicate zero = refl
all_ones-replicate (suc n) = all_ones-replicate n

-- bytes FFh are FFh on both pages
pub all_ones_same : {xs ys : List ℕ} → Over xs ys → all_ones xs ≡ true → all_ones ys ≡ true → ys ≡ xs
unfolding all_ones
all_ones_same none e f = refl
all_ones_same (more {x} {y} {xs} {ys} h a b o) e f =
    let q = both (eqb x 255) (all_ones xs) e in
    let r = both (eqb y 255) (all_ones ys) f in
    ap₂ ◌∷◌ (eqb-true y 255 r.0 ∙ sym (eqb-true x 255 q.0)) (all_ones_same o q.1 r.1)

-- the check that is encoded, at its place
pub stored-encoded : (spare : ℕ) (l : Label) (main : List ℕ) → 8 * (length main + 5 + number_width l.kind) < 65536
    → stored_check (length main) (encoded spare l main) ≡ zero_bits (main ++ label_bytes l)
unfolding stored_check
stored-encoded spare l main h =
    let n : ℕ = zero_bits (main ++ label_bytes l) in
    let fits : n < 65536 = omega (arith, zero_bits-most (main ++ label_bytes l), length-counted l main) in
    rw (
      encoded_width spare l main,
      encoded_spare spare l main,
      drop_at (label_bytes l) _ (check_at (number_width l.kind)) (length-label_bytes l),
      take_at (bytes_of 2 n) _ 2 (length-bytes_of 2 n),
    )
    (number_of-bytes_of 2 n fits)

pub counted-encoded : (spare : ℕ) (l : Label) (main : List ℕ) → counted_check (length main) (encoded spare l main) ≡ zero_bits (main ++ label_bytes l)
unfolding counted_check encoded
counted-encoded spare l main =
    rw (
      encoded_width spare l main,
      take_at (main ++ label_bytes l) _ (length main + check_at (number_width l.kind)) (length-counted l main),
    )

-- behind label and check
pub encoded_rest : (spare : ℕ) (l : Label) (main : List ℕ)
    → drop (rest_at (number_width l.kind)) (drop (length main) (encoded spare l main)) ≡ replicate (spare - rest_at (number_width l.kind)) 255
encoded_rest spare l main =
    let w : ℕ = number_width l.kind in
    let cs : List ℕ = bytes_of 2 (zero_bits (main ++ label_bytes l)) in
    let long : length (label_bytes l ++ cs) ≡ rest_at w = length-append (label_bytes l) cs ∙ omega (arith, length-label_bytes l, length-bytes_of 2 (zero_bits (main ++ label_bytes l))) in
    rw (encoded_spare spare l main, ← append_assoc (label_bytes l)) (drop_at (label_bytes l ++ cs) _ (rest_at w) long)

-- what is encoded is whole
pub encoded-whole : (spare : ℕ) (l : Label) (main : List ℕ)
    → Fits l
    → 8 * (length main + 5 + number_width l.kind) < 65536
    → whole (length main) (encoded spare l main) ≡ true
encoded-whole spare l main f h =
    parts_whole (length main) (encoded spare l main)
    record {
      width = rw (encoded_width spare l main) f.width_some;
      first = encoded-first spare l main;
      rest = rw (encoded_width spare l main, encoded_rest spare l main) (all_ones-replicate (spare - rest_at (number_width l.kind)));
      check = stored-encoded spare l main h ∙ sym (counted-encoded spare l main);
    }

-- FFh is no kind, and neither is a byte that is not there
pub width_erased : (n i : ℕ) → number_width (get_or (replicate n 255) i 0) ≡ 0
unfolding number_width
width_erased zero i = refl
width_erased (suc n) zero = refl
width_erased (suc n) (suc i) = width_erased n i

-- an erased page is not whole
pub erased_not_whole : (main n : ℕ) → whole main (replicate n 255) ≡ false
unfolding whole kind_of
erased_not_whole main n =
    let blank : width_of main (replicate n 255) ≡ 0 = rw get_or-drop (width_erased n (main + 1)) in
    rw (eq-eqb (width_of main (replicate n 255)) 0 blank)

-- check and FFh bytes of a page with a number of w bytes
pub record Judged (main w : ℕ) (p : List ℕ) : Type 0 where
  pub rest : all_ones (drop (rest_at w) (drop main p)) ≡ true
  pub check : number_of (take 2 (drop (check_at w) (drop main p))) ≡ zero_bits (take (main + check_at w) p)

pub judged : (main w : ℕ) (p : List ℕ) → whole main p ≡ true → width_of main p ≡ w → Judged main w p
unfolding stored_check counted_check
judged main w p h e =
    let q = whole_parts main p h in
    subst (λ (v : ℕ). Judged main v p) e (record { rest = q.rest; check = q.check })

-- a page is the bytes that are checked, the check and the rest
pub pieces : (main w : ℕ) (p : List ℕ) → p ≡ take (main + check_at w) p ++ (take 2 (drop (check_at w) (drop main p)) ++ drop (rest_at w) (drop main p))
pieces main w p =
    let e : rest_at w ≡ check_at w + 2 = omega arith in
    sym (rw (e, ← drop-drop 2 (check_at w) (drop main p), take-append-drop 2 (drop (check_at w) (drop main p)), drop-drop (check_at w) main p)
    (take-append-drop (main + check_at w) p))

pub judged_same : (main w : ℕ) {e p : List ℕ} → Over e p → Judged main w e → Judged main w p → p ≡ e
judged_same main w {e} {p} o a b =
    let counted : Over (take (main + check_at w) e) (take (main + check_at w) p) = over-take (main + check_at w) o in
    let stored : Over (take 2 (drop (check_at w) (drop main e))) (take 2 (drop (check_at w) (drop main p))) = over-take 2 (over-drop (check_at w) (over-drop main o)) in
    let falls = zero_bits-over counted in
    let grows = number_of-over stored in
    let f = zero_bits_same counted (omega (arith, a.check, b.check)) in
    let g = number_of_same stored (omega (arith, a.check, b.check)) in
    let h = all_ones_same (over-drop (rest_at w) (over-drop main o)) a.rest b.rest in
    pieces main w p ∙ ap₂ ◌++◌ f (ap₂ ◌++◌ g h) ∙ sym (pieces main w e)

-- of two whole pages with numbers of one width, one over the other, both are the same
pub whole-over : (main : ℕ) {e p : List ℕ} → Over e p → whole main e ≡ true → whole main p ≡ true → width_of main p ≡ width_of main e → p ≡ e
whole-over main {e} {p} o a b same =
    judged_same main (width_of main e) o (judged main (width_of main e) e a refl) (judged main (width_of main e) p b same)

-- FFh bytes stay so
all_ones-over : {xs ys : List ℕ} → Over xs ys → all_ones xs ≡ true → all_ones ys ≡ true
unfolding all_ones
all_ones-over none e = refl
all_ones-over (more {x} {y} {xs} {ys} h a b o) e =
    let q = both (eqb x 255) (all_ones xs) e in
    let same : bit_and 255 y ≡ 255 = subst (λ (z : ℕ). bit_and z y ≡ z) (eqb-true x 255 q.0) h in
    let full : y ≡ 255 = omega (arith, number_over 255 y same, b) in
    rw (eq-eqb y 255 full) (all_ones-over o q.1)

-- two of them are the greatest number of two bytes
all_ones_pair : (n : ℕ) (xs : List ℕ) → n + 2 ≤ length xs → all_ones xs ≡ true → number_of (take 2 (drop n xs)) ≡ 65535
unfolding all_ones number_of
all_ones_pair zero [] h e = absurd (omega (arith, h))
all_ones_pair zero (x ∷ []) h e = absurd (omega (arith, h))
all_ones_pair zero (x ∷ y ∷ xs) h e =
    let q = both (eqb x 255) (cond (eqb y 255) (all_ones xs) false) e in
    let r = both (eqb y 255) (all_ones xs) q.1 in
    omega (arith, eqb-true x 255 q.0, eqb-true y 255 r.0)
all_ones_pair (suc n) [] h e = absurd (omega (arith, h))
all_ones_pair (suc n) (x ∷ xs) h e = all_ones_pair n xs (omega (arith, h)) (both (eqb x 255) (all_ones xs) e).1

module _ (main : ℕ) {e p : List ℕ} (size : Sized main e) (o : Over e p) (a : whole main e ≡ true) (b : whole main p ≡ true) where
  -- a page with a narrow number has FFh where a wide one has its check, more than any count
  not_wider : width_of main e ≡ 4 → width_of main p ≡ 8 → ⊥
  not_wider we wp =
      let long = over-length o in
      let ja = judged main 4 e a we in
      let jb = judged main 8 p b wp in
      let rest : all_ones (drop 11 (drop main p)) ≡ true = all_ones-over (over-drop 11 (over-drop main o)) ja.rest in
      let room : 2 + 2 ≤ length (drop 11 (drop main p)) = rw (length-drop, length-drop) (omega (arith, size.spare_least, long)) in
      let stored : number_of (take 2 (drop 13 (drop main p))) ≡ 65535 =
      ap (λ (xs : List ℕ). number_of (take 2 xs)) (sym (drop-drop 2 11 (drop main p))) ∙ all_ones_pair 2 (drop 11 (drop main p)) room rest in
      let most = zero_bits-most (take (main + 13) p) in
      let few : length (take (main + 13) p) ≤ main + 13 = rw length-take (omega arith) in
      omega (arith, stored, jb.check, most, few, size.spare_least, size.most)

  -- and a wide kind has a bit that no narrow kind has
  not_narrower : bit_and 32 (kind_of main e) ≡ 32 → bit_and 32 (kind_of main p) ≡ 0 → ⊥
  unfolding kind_of
  not_narrower be bp =
      let rises : bit_and (kind_of main e) (kind_of main p) ≡ kind_of main e = over-get_or 1 (over-drop main o) in
      omega (arith, sym (and_trans 32 (kind_of main e) (kind_of main p) be rises) ∙ bp)

  -- of two whole pages, one over the other, both are the same
  pub whole_over_any : p ≡ e
  whole_over_any = by (by_kind (kind_of main e)) (by_kind (kind_of main p))
    where
      by : Kinds (kind_of main e) → Kinds (kind_of main p) → p ≡ e
      by (no_kind we) y = absurd (omega (arith, we, (whole_parts main e a).width))
      by (narrow we be) (no_kind wp) = absurd (omega (arith, wp, (whole_parts main p b).width))
      by (narrow we be) (narrow wp bp) = whole-over main o a b (wp ∙ sym we)
      by (narrow we be) (wide wp bp) = absurd (not_wider we wp)
      by (wide we be) (no_kind wp) = absurd (omega (arith, wp, (whole_parts main p b).width))
      by (wide we be) (narrow wp bp) = absurd (not_narrower be bp)
      by (wide we be) (wide wp bp) = whole-over main o a b (wp ∙ sym we)

-- what is left of an encoded page is whole only if no bit of it was raised, whatever kind it says it is
pub raised-whole_any : (spare : ℕ) (l : Label) (main p : List ℕ)
    → Fits l
    → 16 ≤ spare
    → length main + spare ≤ 4352
    → Over (encoded spare l main) p
    → whole (length main) p ≡ true
    → p ≡ encoded spare l main
raised-whole_any spare l main p f least most o a =
    let long = length-encoded spare l main (omega (arith, least, width_most l.kind)) in
    whole_over_any (length main) (record { spare_least = omega (arith, long, least); most = omega (arith, long, most) }) o
    (encoded-whole spare l main f (omega (arith, least, most, width_most l.kind))) a
