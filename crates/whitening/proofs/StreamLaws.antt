-- The stream by bytes: eight steps at once, and each byte from two before it. Assumes nothing.
use Prim.Native.Nat.{ℕ, zero, suc, ◌+◌, ◌*◌, ◌/◌, ◌%◌, ◌^◌, ◌<◌}
use mathlib.Core.Path.{◌≡◌, refl, sym, ap, ap₂, ◌∙◌}
use native.Mathlib.Nat.{add-zero, add-suc, add_comm, mul_assoc, pow-suc}
use native.Mathlib.Omega.{arith}
use lib.Bits.{bit_xor, xor_block, xor_lt}
use lib.Pow.{field, shr-shr, mod-mod-pow}
use Rattle.whitening.specs.Stream.{bit, shifted, stepped, bits_given, Repeats}
use Rattle.whitening.proofs.BitLaws.{xor_between}

-- a bit is 0 or 1, and so is the one that comes in
bit-small : (i r : ℕ) → bit i r < 2
bit-small i r = omega arith

entering_small : (r : ℕ) → bit_xor (bit 14 r) (bit 13 r) < 2
entering_small r = xor_lt 1 (bit 14 r) (bit 13 r) (bit-small 14 r) (bit-small 13 r)

shifted_is : (r : ℕ) → shifted r ≡ r % 2 ^ 14 * 2 + bit_xor (bit 14 r) (bit 13 r)
unfolding shifted
shifted_is r = ap (λ (x : ℕ). x + bit_xor (bit 14 r) (bit 13 r)) (omega arith)

-- a register stays one of fifteen bits
pub shifted-small : (r : ℕ) → shifted r < 32768
shifted-small r = omega (arith, shifted_is r, entering_small r)

pub stepped-small : (n r : ℕ) → r < 32768 → stepped n r < 32768
unfolding stepped
stepped-small zero r h = h
stepped-small (suc n) r h = shifted-small (stepped n r)

-- each bit moves up by one, and in k steps by k
bit_up : (i j r : ℕ) → 14 ≡ j + 1 + i → bit (i + 1) (shifted r) ≡ bit i r
bit_up i j r h =
    let halved : shifted r / 2 ^ 1 ≡ r % 2 ^ 14 = omega (arith, shifted_is r, entering_small r) in
    ap (λ (k : ℕ). shifted r / 2 ^ k % 2) (add_comm i 1)
    ∙ ap (λ (x : ℕ). x % 2)
    (sym (shr-shr (shifted r) 1 i) ∙ ap (λ (x : ℕ). x / 2 ^ i) halved ∙ ap (λ (k : ℕ). r % 2 ^ k / 2 ^ i) h ∙ field r (j + 1) i)
    ∙ mod-mod-pow (r / 2 ^ i) j 1

bit_moved : (k i j l r : ℕ) → l ≡ i + k → 14 ≡ j + l → bit l (stepped k r) ≡ bit i r
unfolding stepped
bit_moved zero i j l r e h = ap (λ (k : ℕ). bit k r) (e ∙ add-zero i)
bit_moved (suc k) i j l r e h =
    ap (λ (m : ℕ). bit m (shifted (stepped k r))) (omega (arith, e)) ∙ bit_up (i + k) j (stepped k r) (omega (arith, h, e)) ∙ bit_moved k i (j + 1) (i + k) r refl (omega (arith, h, e))

-- steps after steps
pub stepped_add : (m n r : ℕ) → stepped (m + n) r ≡ stepped n (stepped m r)
unfolding stepped
stepped_add m zero r = ap (λ (k : ℕ). stepped k r) (add-zero m)
stepped_add m (suc n) r = ap (λ (k : ℕ). stepped k r) (add-suc m n) ∙ ap shifted (stepped_add m n r)

exchanged : (m n r : ℕ) → stepped n (stepped m r) ≡ stepped m (stepped n r)
exchanged m n r = sym (stepped_add m n r) ∙ ap (λ (k : ℕ). stepped k r) (add_comm m n) ∙ stepped_add n m r

-- the bit that comes in is the one given fifteen steps later: what is given is the XOR of what was given fifteen and fourteen steps before it
pub bit-again : (r : ℕ) → bit 14 (stepped 15 r) ≡ bit_xor (bit 14 r) (bit 14 (stepped 1 r))
unfolding stepped
bit-again r =
    let entered : bit 0 (shifted r) ≡ bit_xor (bit 14 r) (bit 13 r) = omega (arith, shifted_is r, entering_small r) in
    ap (bit 14) (stepped_add 1 14 r) ∙ bit_moved 14 0 0 14 (shifted r) refl refl ∙ entered
    ∙ ap (bit_xor (bit 14 r)) (sym (bit_up 13 0 r refl))

-- the same over any distance that it doubles to
abbrev pub Again : ℕ → Type 0
Again m = (r : ℕ) → bit 14 (stepped (15 * m) r) ≡ bit_xor (bit 14 r) (bit 14 (stepped m r))

pub again-twice : (m : ℕ) → Again m → Again (m + m)
again-twice m a r =
    let far = stepped (15 * m) r in
    let there : bit 14 (stepped m far) ≡ bit_xor (bit 14 (stepped m r)) (bit 14 (stepped (m + m) r)) =
    ap (bit 14) (exchanged (15 * m) m r) ∙ a (stepped m r) ∙ ap (λ (s : ℕ). bit_xor (bit 14 (stepped m r)) (bit 14 s)) (sym (stepped_add m m r)) in
    let twice : 15 * (m + m) ≡ 15 * m + 15 * m = omega arith in
    ap (bit 14) (ap (λ (k : ℕ). stepped k r) twice ∙ stepped_add (15 * m) (15 * m) r) ∙ a far ∙ ap₂ bit_xor (a r) there
    ∙ xor_between (bit 14 r) (bit 14 (stepped m r)) (bit 14 (stepped (m + m) r))

-- of several bits at once
bits_again : (m n r : ℕ) → Again m → bits_given n (stepped (15 * m) r) ≡ bit_xor (bits_given n r) (bits_given n (stepped m r))
unfolding bits_given
bits_again m zero r a = refl
bits_again m (suc n) r a =
    let next : bit 14 (stepped n (stepped (15 * m) r)) ≡ bit_xor (bit 14 (stepped n r)) (bit 14 (stepped n (stepped m r))) =
    ap (bit 14) (exchanged (15 * m) n r) ∙ a (stepped n r) ∙ ap (λ (s : ℕ). bit_xor (bit 14 (stepped n r)) (bit 14 s)) (exchanged n m r) in
    ap₂ (λ (x y : ℕ). x * 2 + y) (bits_again m n r a) next
    ∙ sym (xor_block 1 (bits_given n r) (bits_given n (stepped m r)) (bit 14 (stepped n r)) (bit 14 (stepped n (stepped m r))) (bit-small 14 (stepped n r)) (bit-small 14 (stepped n (stepped m r))))

-- and so of bytes, at distances of whole bytes
pub byte_again : (n : ℕ) → Again (8 * n) → Repeats n
byte_again n a k r =
    let s = stepped (8 * k) r in
    let far : 8 * (k + 15 * n) ≡ 8 * k + 15 * (8 * n) = omega arith in
    let near : 8 * (k + n) ≡ 8 * k + 8 * n = omega arith in
    ap (λ (j : ℕ). bits_given 8 (stepped j r)) far ∙ ap (bits_given 8) (stepped_add (8 * k) (15 * (8 * n)) r) ∙ bits_again (8 * n) 8 s a
    ∙ ap (λ (t : ℕ). bit_xor (bits_given 8 s) (bits_given 8 t)) (sym (stepped_add (8 * k) (8 * n) r) ∙ ap (λ (j : ℕ). stepped j r) (sym near))

again_1 : Again 1
again_1 r = bit-again r

again_8 : Again 8
again_8 = again-twice 4 (again-twice 2 (again-twice 1 again_1))

again_64 : Again 64
again_64 = again-twice 32 (again-twice 16 (again-twice 8 again_8))

pub repeats_1 : Repeats 1
repeats_1 = byte_again 1 again_8

pub repeats_4 : Repeats 4
repeats_4 = byte_again 4 (again-twice 16 (again-twice 8 again_8))

pub repeats_16 : Repeats 16
repeats_16 = byte_again 16 (again-twice 64 again_64)

-- the first k of fifteen bits are the register's top k
top_bits : (k i r : ℕ) → 15 ≡ i + k → r < 32768 → bits_given k r ≡ r / 2 ^ i
unfolding bits_given
top_bits zero i r e h = sym (ap (λ (j : ℕ). r / 2 ^ j) (sym (add-zero i) ∙ sym e) ∙ omega (arith, h))
top_bits (suc k) i r e h =
    let half : r / 2 ^ (i + 1) ≡ r / 2 ^ i / 2 = sym (shr-shr r i 1) in
    let above : bits_given k r ≡ r / 2 ^ (i + 1) = top_bits k (i + 1) r (omega (arith, e)) h in
    let next : bit 14 (stepped k r) ≡ r / 2 ^ i % 2 = bit_moved k i 0 14 r (omega (arith, e)) refl in
    omega (arith, half, above, next)

-- bits after bits
bits_add : (m n r : ℕ) → bits_given (m + n) r ≡ bits_given m r * 2 ^ n + bits_given n (stepped m r)
unfolding bits_given
bits_add m zero r = ap (λ (k : ℕ). bits_given k r) (add-zero m) ∙ omega arith
bits_add m (suc n) r =
    let twice : bits_given m r * 2 ^ suc n ≡ bits_given m r * 2 ^ n * 2 = ap (λ (k : ℕ). bits_given m r * k) (pow-suc 2 n) ∙ sym (mul_assoc (bits_given m r) (2 ^ n) 2) in
    let last : bit 14 (stepped (m + n) r) ≡ bit 14 (stepped n (stepped m r)) = ap (bit 14) (stepped_add m n r) in
    ap (λ (k : ℕ). bits_given k r) (add-suc m n) ∙ omega (arith, bits_add m n r, twice, last)

-- EIGHT STEPS AT ONCE: the byte that they give is the register's top eight bits; its low seven stay, and the XOR of the top eight with the eight below bit 14 comes in
pub byte_out_lem : (r : ℕ) → r < 32768 → bits_given 8 r ≡ r / 128
byte_out_lem r h = top_bits 8 7 r refl h

pub byte_stepped : (r : ℕ) → r < 32768 → stepped 8 r ≡ r % 128 * 256 + bit_xor (r / 128) (r / 64 % 256)
unfolding stepped
byte_stepped r h =
    let s = stepped 8 r in
    let whole : bits_given 15 s ≡ s / 1 = top_bits 15 0 s refl (stepped-small 8 r h) in
    let parts : bits_given 15 s ≡ bits_given 7 s * 256 + bits_given 8 (stepped 7 s) = bits_add 7 8 s in
    let kept : bits_given 15 r ≡ bits_given 8 r * 128 + bits_given 7 s = bits_add 8 7 r in
    let all : bits_given 15 r ≡ r / 1 = top_bits 15 0 r refl h in
    let below : bits_given 8 (shifted r) ≡ r / 64 % 256 = byte_out_lem (shifted r) (shifted-small r) ∙ omega (arith, shifted_is r, entering_small r) in
    let entered : bits_given 8 (stepped 7 s) ≡ bit_xor (r / 128) (r / 64 % 256) =
    ap (bits_given 8) (sym (stepped_add 8 7 r)) ∙ bits_again 1 8 r again_1 ∙ ap₂ bit_xor (byte_out_lem r h) below in
    omega (arith, whole, parts, kept, all, entered, byte_out_lem r h)

-- a register that is not 0 never becomes 0
some : (n : ℕ) → (n ≡ 0 → ⊥) → 0 < n
some zero f = absurd (f refl)
some (suc n) f = omega arith

top_only : (r q : ℕ) → r ≡ q * 16384 → r < 32768 → 0 < r → r ≡ 16384
top_only r zero e h z = absurd (omega (arith, e, z))
top_only r (suc zero) e h z = omega (arith, e)
top_only r (suc (suc q)) e h z = absurd (omega (arith, e, h))

shifted_some : (r : ℕ) → r < 32768 → 0 < r → 0 < shifted r
unfolding shifted
shifted_some r h z =
    some (shifted r)
    (λ e.
    let low : r % 2 ^ 14 ≡ 0 = omega (arith, shifted_is r, e) in
    let only : r ≡ 16384 = top_only r (r / 16384) (omega (arith, low)) h z in
    let one : shifted r ≡ 1 = ap shifted only in
    omega (arith, one, e))

pub stepped_some : (n r : ℕ) → r < 32768 → 0 < r → 0 < stepped n r
unfolding stepped
stepped_some zero r h z = z
stepped_some (suc n) r h z = shifted_some (stepped n r) (stepped-small n r h) (stepped_some n r h z)
