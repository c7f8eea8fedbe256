-- Bitmaps byte by byte: a byte is 0 exactly where its eight blocks are clear. Assumes nothing.
use Prim.Native.Nat.{ℕ, zero, suc, ◌+◌, ◌-◌, ◌*◌, ◌/◌, ◌%◌, ◌^◌, ◌≤◌, ◌<◌}
use mathlib.Core.Bool.{Bool, true, false, cond}
use mathlib.Core.List.{List, [], ◌∷◌}
use mathlib.Core.Path.{◌≡◌, refl, sym, ap, ◌∙◌}
use native.Mathlib.Nat.{one-mul, zero-mul, zero-add, add-zero, add-suc, div-one, zero-div, mod-one, mod-eq_of_lt}
use native.Mathlib.Numerals.{add-one}
use native.Mathlib.Omega.{arith}
use borrow.Table.Steps.{cases}
use borrow.Author.Tests.{ne_eqb, eqb-true, eqb-false, ltb-true, ltb-false}
use lib.Dec.{eqb, ltb}
use lib.Pow.{pow_pos, shr-shr, mod-pow-add}
use lib.ListN.{length, get_or, set, replicate, length-append, length-replicate, get_or-replicate, length-set, get_or-append}
use lib.Seq.{get_or-set_same, get_or-set_other, get_or_at, ext_get_or}
use lib.Bits.{bit_and, bit_or, and_le_r, and_mask, and_lt, and_shr, and_mod, and_zero_l, or_zero_l, or_add_and}
use Rattle.bitmaps.specs.Bitmap.{bit_in, bit_at, clear_from, never_both, flag_of, flags_of, spread_bits}
use Rattle.bitmaps.proofs.BitLaws.{or_bit}

-- a number gathered by `|` is 0 exactly where each part is
pub or_zero : (a b : ℕ) → eqb (bit_or a b) 0 ≡ cond (eqb a 0) (eqb b 0) false
or_zero a b =
    cases (eqb a 0)
    (λ t. let e = eqb-true a 0 t in rw (e, or_zero_l b))
    (λ f. rw f (ne_eqb (bit_or a b) 0 (λ z. eqb-false a 0 f (omega (arith, z, or_add_and a b, and_le_r a b)))))

-- three tests in a row
pub tests_join : (a b c : Bool) → cond (cond a b false) c false ≡ cond a (cond b c false) false
tests_join true b c = refl
tests_join false b c = refl

pub tests_swap : (a b : Bool) → cond a b false ≡ cond b a false
tests_swap true true = refl
tests_swap true false = refl
tests_swap false true = refl
tests_swap false false = refl

-- the byte and the place of block j of a byte
byte_is : (i j : ℕ) → j < 8 → (8 * i + j) / 8 ≡ i
byte_is i j h = omega arith

place_of : (i j : ℕ) → j < 8 → (8 * i + j) % 8 ≡ j
place_of i j h = omega arith

bit_of : (bits : List ℕ) (i j : ℕ) → j < 8 → bit_at bits (8 * i + j) ≡ eqb (bit_in (get_or bits i 0) j) 1
unfolding bit_at
bit_of bits i j h = rw (byte_is i j h, place_of i j h)

-- a number is 0 where its low bit and its half are
low_bit : (y : ℕ) (r : Bool) → cond (eqb (y % 2) 1) false (cond (eqb (y / 2) 0) r false) ≡ cond (eqb y 0) r false
low_bit y r =
    cases (eqb y 0)
    (λ t. let e = eqb-true y 0 t in rw e)
    (λ f. cases (eqb (y % 2) 1)
    (λ u. rw (f, u))
    (λ u. rw (f, u, ne_eqb (y / 2) 0 (λ z. eqb-false y 0 f (omega (arith, z, eqb-false (y % 2) 1 u))))))

-- the m blocks from place j to the end of byte i are clear exactly where the byte is 0 from there on
module _ (bits : List ℕ) (i k : ℕ) (small : get_or bits i 0 < 256) where
  clear_rest : (m j : ℕ) → j + m ≡ 8 → clear_from bits (8 * i + j) (m + k) ≡ cond (eqb (get_or bits i 0 / 2 ^ j) 0) (clear_from bits (8 * i + 8) k) false
  unfolding clear_from
  clear_rest zero j e =
      let p : j ≡ 8 = omega arith in
      let z : get_or bits i 0 / 256 ≡ 0 = omega arith in
      rw (p, z, zero-add k)
  clear_rest (suc m) j e =
      let h : j < 8 = omega arith in
      let n : 8 * i + j + 1 ≡ 8 * i + (j + 1) = omega arith in
      let q : suc m + k ≡ suc (m + k) = omega arith in
      rw (q, bit_of bits i j h, n, clear_rest m (j + 1) (omega arith), ← shr-shr (get_or bits i 0) j 1)
      (low_bit (get_or bits i 0 / 2 ^ j) (clear_from bits (8 * i + 8) k))

  pub clear_byte : clear_from bits (8 * i) (8 + k) ≡ cond (eqb (get_or bits i 0) 0) (clear_from bits (8 * i + 8) k) false
  clear_byte = rw (add-zero (8 * i), div-one (get_or bits i 0)) at (clear_rest 8 0 refl)

-- one byte more of those up to the end: it goes into what is found
pub clear_bytes_on : (bits : List ℕ) (end i found : ℕ) → i < end → get_or bits i 0 < 256 → cond (eqb (bit_or found (get_or bits i 0)) 0) (clear_from bits (8 * (i + 1)) (8 * (end - (i + 1)))) false ≡ cond (eqb found 0) (clear_from bits (8 * i) (8 * (end - i))) false
clear_bytes_on bits end i found h small =
    let k : 8 * (end - i) ≡ 8 + 8 * (end - (i + 1)) = omega arith in
    let n : 8 * (i + 1) ≡ 8 * i + 8 = omega arith in
    rw (k, n, clear_byte bits i (8 * (end - (i + 1))) small, or_zero found (get_or bits i 0))
    (tests_join (eqb found 0) (eqb (get_or bits i 0) 0) (clear_from bits (8 * i + 8) (8 * (end - (i + 1)))))

pub clear_bytes_over : (bits : List ℕ) (end i found : ℕ) → end ≤ i → eqb found 0 ≡ cond (eqb found 0) (clear_from bits (8 * i) (8 * (end - i))) false
unfolding clear_from
clear_bytes_over bits end i found h =
    let k : 8 * (end - i) ≡ 0 = omega arith in
    rw k (tests_swap true (eqb found 0))

-- blocks up to a place, and from there on
clear_append : (bits : List ℕ) (n j k : ℕ) → clear_from bits n (j + k) ≡ cond (clear_from bits n j) (clear_from bits (n + j) k) false
unfolding clear_from
clear_append bits n zero k = rw (zero-add k, add-zero n)
clear_append bits n (suc j) k =
    let q : suc j + k ≡ suc (j + k) = omega arith in
    let p : n + 1 + j ≡ n + suc j = omega arith in
    rw q (cases (bit_at bits n) (λ t. rw t) (λ f. rw (f, clear_append bits (n + 1) j k, p)))

pub clear_split : (bits : List ℕ) (n m e : ℕ) → n ≤ m → m ≤ e → clear_from bits n (e - n) ≡ cond (clear_from bits n (m - n)) (clear_from bits m (e - m)) false
clear_split bits n m e h g =
    let p : e - n ≡ (m - n) + (e - m) = omega arith in
    let q : n + (m - n) ≡ m = omega arith in
    ap (clear_from bits n) p
    ∙ clear_append bits n (m - n) (e - m)
    ∙ ap (λ (x : ℕ). cond (clear_from bits n (m - n)) (clear_from bits x (e - m)) false) q

-- from a block to the end of its byte, whole bytes, and the rest
pub clear_parts : (bits : List ℕ) (n f l e : ℕ) → n ≤ 8 * f → f ≤ l → 8 * l ≤ e → clear_from bits n (e - n) ≡ cond (clear_from bits n (8 * f - n)) (cond (clear_from bits (8 * f) (8 * (l - f))) (clear_from bits (8 * l) (e - 8 * l)) false) false
clear_parts bits n f l e h g k =
    let w : 8 * l - 8 * f ≡ 8 * (l - f) = omega arith in
    clear_split bits n (8 * f) e h (omega arith)
    ∙ ap (λ (x : Bool). cond (clear_from bits n (8 * f - n)) x false)
    (clear_split bits (8 * f) (8 * l) e (omega arith) k ∙ ap (λ (x : ℕ). cond (clear_from bits (8 * f) x) (clear_from bits (8 * l) (e - 8 * l)) false) w)

-- no block of bits in both among those counted, then one more: by the number that both have in common
both_bits : (a b w z : ℕ) (r : Bool) → a < 2 → b < 2 → 0 < w → cond (eqb a 1) (cond (eqb b 1) false (cond (eqb z 0) r false)) (cond (eqb z 0) r false) ≡ cond (eqb (bit_and a b * w + z) 0) r false
both_bits zero b w z r h g k = rw (and_zero_l b, zero-mul w, zero-add z)
both_bits (suc zero) zero w z r h g k = rw (zero-mul w, zero-add z)
both_bits (suc zero) (suc zero) w z r h g k = rw (one-mul w, ne_eqb (w + z) 0 (λ e. omega (arith, e)))
both_bits (suc zero) (suc (suc b)) w z r h g k = absurd (omega arith)
both_bits (suc (suc a)) b w z r h g k = absurd (omega arith)

-- the first n blocks of byte i
module _ (xs ys : List ℕ) (i : ℕ) where
  abbrev common : ℕ
  common = bit_and (get_or xs i 0) (get_or ys i 0)

  common_bit : (n : ℕ) → bit_in common n ≡ bit_and (bit_in (get_or xs i 0) n) (bit_in (get_or ys i 0) n)
  common_bit n = rw (and_shr (get_or xs i 0) (get_or ys i 0) n) (and_mod (get_or xs i 0 / 2 ^ n) (get_or ys i 0 / 2 ^ n) 1)

  never_part : (n : ℕ) → n ≤ 8 → never_both xs ys (8 * i + n) ≡ cond (eqb (common % 2 ^ n) 0) (never_both xs ys (8 * i)) false
  unfolding never_both
  never_part zero h = rw (add-zero (8 * i), mod-one common)
  never_part (suc n) h =
      let g : n < 8 = omega arith in
      let q : suc n ≡ 1 + n = omega arith in
      rw (add-suc (8 * i) n, bit_of xs i n g, bit_of ys i n g, never_part n (omega arith), q, mod-pow-add common 1 n, common_bit n)
      (both_bits (bit_in (get_or xs i 0) n) (bit_in (get_or ys i 0) n) (2 ^ n) (common % 2 ^ n) (never_both xs ys (8 * i)) (omega arith) (omega arith) (pow_pos n))

  pub never_byte : get_or xs i 0 < 256 → get_or ys i 0 < 256 → never_both xs ys (8 * i + 8) ≡ cond (eqb common 0) (never_both xs ys (8 * i)) false
  never_byte h g =
      never_part 8 (omega arith)
      ∙ ap (λ (k : ℕ). cond (eqb k 0) (never_both xs ys (8 * i)) false) (mod-eq_of_lt (and_lt 8 (get_or xs i 0) (get_or ys i 0) h g))

-- one byte more: what it has in both goes into what is shared
pub share_on : (xs ys : List ℕ) (i shared : ℕ) → get_or xs i 0 < 256 → get_or ys i 0 < 256 → eqb shared 0 ≡ never_both xs ys (8 * i) → eqb (bit_or shared (bit_and (get_or xs i 0) (get_or ys i 0))) 0 ≡ never_both xs ys (8 * (i + 1))
share_on xs ys i shared h g e =
    let n : 8 * (i + 1) ≡ 8 * i + 8 = omega arith in
    rw (n, never_byte xs ys i h g, or_zero shared (bit_and (get_or xs i 0) (get_or ys i 0)), e)
    (tests_swap (never_both xs ys (8 * i)) (eqb (bit_and (get_or xs i 0) (get_or ys i 0)) 0))

-- the flags of the first n blocks
flags-length : (xs ys : List ℕ) (n : ℕ) → length (flags_of xs ys n) ≡ n
unfolding flags_of
flags-length xs ys zero = refl
flags-length xs ys (suc n) = simp length-append (omega (arith, flags-length xs ys n))

pub flag_at : (xs ys : List ℕ) (n b : ℕ) → b < n → get_or (flags_of xs ys n) b 0 ≡ flag_of xs ys b
unfolding flags_of
flag_at xs ys zero b h = absurd (omega arith)
flag_at xs ys (suc n) b h =
    cases (eqb b n)
    (λ t.
    let e = eqb-true b n t in
    rw e (get_or_at (flags_of xs ys n) (flag_of xs ys n) [] 0 n (flags-length xs ys n)))
    (λ f.
    let g : b < n = omega (arith, eqb-false b n f) in
    get_or-append (flags_of xs ys n) (flag_of xs ys n ∷ []) 0 b (omega (arith, g, flags-length xs ys n)) ∙ flag_at xs ys n b g)

-- bytes that agree with the flags of n blocks
pub flags_are : (xs ys bytes : List ℕ) (n : ℕ) → length bytes ≡ n → ((b : ℕ) → b < n → get_or bytes b 0 ≡ flag_of xs ys b) → bytes ≡ flags_of xs ys n
flags_are xs ys bytes n e f =
    ext_get_or 0 bytes (flags_of xs ys n) (e ∙ sym (flags-length xs ys n))
    (λ b h. f b (omega (arith, h, e)) ∙ sym (flag_at xs ys n b (omega (arith, h, e))))

-- the first n bits of a byte, written
module _ (x at : ℕ) (bytes : List ℕ) where
  pub spread_length : (n : ℕ) → length (spread_bits x at n bytes) ≡ length bytes
  unfolding spread_bits
  spread_length zero = refl
  spread_length (suc n) = simp length-set (spread_length n)

  pub spread_on : (n : ℕ) (now next : List ℕ) → now ≡ spread_bits x at n bytes → next ≡ set now (at + n) (bit_and (x / 2 ^ n) 1) → next ≡ spread_bits x at (n + 1) bytes
  unfolding spread_bits
  spread_on n now next e g = rw (add-one, ← e, ← and_mask (x / 2 ^ n) 1) g

  pub spread_outside : (n b : ℕ) → (at ≤ b → b < at + n → ⊥) → get_or (spread_bits x at n bytes) b 0 ≡ get_or bytes b 0
  unfolding spread_bits
  spread_outside zero b h = refl
  spread_outside (suc n) b h =
      get_or-set_other (spread_bits x at n bytes) (at + n) b (bit_in x n) 0 (λ e. h (omega (arith, e)) (omega (arith, e)))
      ∙ spread_outside n b (λ g k. h g (omega (arith, k)))

  pub spread_inside : (n k : ℕ) → at + n ≤ length bytes → k < n → get_or (spread_bits x at n bytes) (at + k) 0 ≡ bit_in x k
  unfolding spread_bits
  spread_inside zero k h g = absurd (omega arith)
  spread_inside (suc n) k h g =
      cases (eqb k n)
      (λ t.
      let e = eqb-true k n t in
      rw e (get_or-set_same (spread_bits x at n bytes) (at + n) (bit_in x n) 0 (omega (arith, h, spread_length n))))
      (λ f.
      get_or-set_other (spread_bits x at n bytes) (at + n) (at + k) (bit_in x n) 0 (λ e. eqb-false k n f (omega (arith, e)))
      ∙ spread_inside n k (omega arith) (omega (arith, eqb-false k n f)))

-- a flag by the byte that both bitmaps make
flag_bits : (a b : ℕ) → a < 2 → b < 2 → bit_or a b ≡ cond (eqb a 1) 1 (cond (eqb b 1) 1 0)
flag_bits zero zero h g = refl
flag_bits zero (suc zero) h g = refl
flag_bits zero (suc (suc b)) h g = absurd (omega arith)
flag_bits (suc zero) zero h g = refl
flag_bits (suc zero) (suc zero) h g = refl
flag_bits (suc zero) (suc (suc b)) h g = absurd (omega arith)
flag_bits (suc (suc a)) b h g = absurd (omega arith)

pub flag_in : (xs ys : List ℕ) (i k : ℕ) → k < 8 → bit_in (bit_or (get_or xs i 0) (get_or ys i 0)) k ≡ flag_of xs ys (8 * i + k)
flag_in xs ys i k h =
    rw (bit_of xs i k h, bit_of ys i k h)
    (or_bit (get_or xs i 0) (get_or ys i 0) k ∙ flag_bits (bit_in (get_or xs i 0) k) (bit_in (get_or ys i 0) k) (omega arith) (omega arith))

-- bytes that hold the flags of the blocks of the first i bytes, and 0 from there on
pub record Flagged (xs ys bytes : List ℕ) (i : ℕ) : Type 0 where
  pub size : length bytes ≡ 4096
  pub done : (b : ℕ) → b < 8 * i → get_or bytes b 0 ≡ flag_of xs ys b
  pub left : (b : ℕ) → 8 * i ≤ b → b < 4096 → get_or bytes b 0 ≡ 0

module _ (xs ys : List ℕ) where
  pub flagged_start : Flagged xs ys (replicate 4096 0) 0
  flagged_start =
      record {
        size = length-replicate {A = ℕ} 4096 0;
        done = λ b h. absurd (omega arith);
        left = λ b h g. get_or-replicate {A = ℕ} 4096 b 0 0 g;
      }

  pub flagged_all : (bytes : List ℕ) (i : ℕ) → i ≡ 512 → Flagged xs ys bytes i → bytes ≡ flags_of xs ys 4096
  flagged_all bytes i e r = flags_are xs ys bytes 4096 r.size (λ b h. r.done b (omega (arith, e, h)))

  module _ (bytes next : List ℕ) (i : ℕ) (room : i < 512) (r : Flagged xs ys bytes i) where
    abbrev both : ℕ
    both = bit_or (get_or xs i 0) (get_or ys i 0)

    -- the blocks of byte i, which are flagged next
    within : (b : ℕ) → b < 8 * (i + 1) → (b < 8 * i → ⊥) → get_or next (8 * i + (b - 8 * i)) 0 ≡ bit_in both (b - 8 * i) → get_or next b 0 ≡ flag_of xs ys b
    within b h g e =
        let p : 8 * i + (b - 8 * i) ≡ b = omega (arith, g) in
        rw p at (e ∙ flag_in xs ys i (b - 8 * i) (omega (arith, g)))

    pub flagged_zero : both ≡ 0 → next ≡ bytes → Flagged xs ys next (i + 1)
    flagged_zero z e =
        record {
          size = ap length e ∙ r.size;
          done = λ b h. cases (ltb b (8 * i))
              (λ t. ap (λ (x : List ℕ). get_or x b 0) e ∙ r.done b (ltb-true b (8 * i) t))
              (λ f. within b h (λ g. omega (arith, g, ltb-false b (8 * i) f)) (clear b h (ltb-false b (8 * i) f)));
          left = λ b h g. ap (λ (x : List ℕ). get_or x b 0) e ∙ r.left b (omega arith) g;
        }
      where
        clear : (b : ℕ) → b < 8 * (i + 1) → 8 * i ≤ b → get_or next (8 * i + (b - 8 * i)) 0 ≡ bit_in both (b - 8 * i)
        clear b h g =
            ap (λ (x : List ℕ). get_or x (8 * i + (b - 8 * i)) 0) e
            ∙ r.left (8 * i + (b - 8 * i)) (omega arith) (omega arith)
            ∙ sym (rw (z, zero-div (2 ^ (b - 8 * i))))

    pub flagged_spread : next ≡ spread_bits both (8 * i) 8 bytes → Flagged xs ys next (i + 1)
    flagged_spread e =
        record {
          size = ap length e ∙ spread_length both (8 * i) bytes 8 ∙ r.size;
          done = λ b h. cases (ltb b (8 * i))
              (λ t. outside b (λ g k. omega (arith, g, ltb-true b (8 * i) t)) ∙ r.done b (ltb-true b (8 * i) t))
              (λ f. within b h (λ g. omega (arith, g, ltb-false b (8 * i) f))
              (ap (λ (x : List ℕ). get_or x (8 * i + (b - 8 * i)) 0) e ∙ spread_inside both (8 * i) bytes 8 (b - 8 * i) (omega (arith, r.size)) (omega (arith, h))));
          left = λ b h g. outside b (λ u k. omega (arith, k, h)) ∙ r.left b (omega arith) g;
        }
      where
        outside : (b : ℕ) → (8 * i ≤ b → b < 8 * i + 8 → ⊥) → get_or next b 0 ≡ get_or bytes b 0
        outside b h = ap (λ (x : List ℕ). get_or x b 0) e ∙ spread_outside both (8 * i) bytes 8 b h
