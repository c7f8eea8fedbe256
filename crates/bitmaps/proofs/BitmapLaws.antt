-- Bitmaps with no bit past the last block. Assumes nothing.
use mathlib.Core.Bool.{true, false, cond}
use Prim.Native.Nat.{ℕ, zero, suc, ◌≤◌, ◌<◌, ◌^◌}
use mathlib.Core.List.{List}
use mathlib.Core.Path.{◌≡◌, refl, sym, ap, subst, ◌∙◌}
use native.Mathlib.Nat.{zero-div}
use native.Mathlib.Omega.{arith}
use borrow.Table.Steps.{cases}
use borrow.Author.Tests.{eqb-true, eqb-false}
use lib.Bits.{bit_or, or_lt}
use lib.Dec.{eqb}
use lib.ListN.{length, get_or, set, replicate, length-set, length-replicate}
use lib.Seq.{get_or-set_same, get_or-set_other}
use Rattle.cells.specs.Bytes.{Bytes}
use Rattle.bitmaps.specs.Bitmap.{bit_at, with_bit, byte_of, place_of, bitmap_bytes}
use Rattle.bitmaps.proofs.BitLaws.{bit-set, bit_kept, power_small}
use Rattle.bools.proofs.BoolLaws.{or_none, one_true}

-- a bitmap that has no bit past the last block
pub record Bitmap (blocks : ℕ) (bits : List ℕ) : Type 0 where
  pub long : length bits ≡ 512
  pub bytes : Bytes bits
  pub past : (j : ℕ) → bitmap_bytes blocks ≤ j → get_or bits j 0 ≡ 0
  pub clear : (b : ℕ) → blocks ≤ b → b < 4096 → bit_at bits b ≡ false

-- nothing is listed at first
zeros : (n j : ℕ) → ◌≡◌ {A = ℕ} (get_or (replicate n 0) j 0) 0
zeros zero j = refl
zeros (suc n) zero = refl
zeros (suc n) (suc j) = zeros n j

pub blank-bit : (n b : ℕ) → bit_at (replicate n 0) b ≡ false
unfolding bit_at
blank-bit n b = rw (zeros n (byte_of b), zero-div (2 ^ place_of b))

pub bits_none : (blocks : ℕ) → Bitmap blocks (replicate 512 0)
bits_none blocks =
    record {
      long = length-replicate {A = ℕ} 512 0;
      bytes = λ i. subst (λ (x : ℕ). x < 256) (sym (zeros 512 i)) (omega arith);
      past = λ j h. zeros 512 j;
      clear = λ b h l. blank-bit 512 b;
    }

-- one more is
pub bits_more : (blocks : ℕ) (bits : List ℕ) (b : ℕ) → blocks ≤ 4096 → b < blocks → Bitmap blocks bits → Bitmap blocks (with_bit bits b)
unfolding with_bit
bits_more blocks bits b most h r =
    let byte : ℕ = bit_or (get_or bits (byte_of b) 0) (2 ^ place_of b) in
    let small : byte < 256 = or_lt 8 (get_or bits (byte_of b) 0) (2 ^ place_of b) (r.bytes (byte_of b)) (power_small (place_of b) (omega arith)) in
    let room : byte_of b < length bits = omega (arith, h, most, r.long) in
    record {
      long = length-set bits (byte_of b) byte ∙ r.long;
      bytes = λ i.
          cases (eqb i (byte_of b))
          (λ e. subst (λ (k : ℕ). get_or (set bits (byte_of b) byte) k 0 < 256) (sym (eqb-true i (byte_of b) e)) (subst (λ (x : ℕ). x < 256) (sym (get_or-set_same bits (byte_of b) byte 0 room)) small))
          (λ e. subst (λ (x : ℕ). x < 256) (sym (get_or-set_other bits (byte_of b) i byte 0 (eqb-false i (byte_of b) e))) (r.bytes i));
      past = λ j l. get_or-set_other bits (byte_of b) j byte 0 (λ e. omega (arith, e, l, h)) ∙ r.past j l;
      clear = λ c l k. bit_kept bits b c (λ e. omega (arith, e, l, h)) ∙ r.clear c l k;
    }

-- its bits are those before, and that one
pub bit_more : (bits : List ℕ) (n b : ℕ) → byte_of n < length bits → cond (bit_at bits b) true (cond (eqb n b) true false) ≡ bit_at (with_bit bits n) b
bit_more bits n b h =
    cases (eqb n b)
    (λ e. rw e (one_true (bit_at bits b)) ∙ sym (ap (bit_at (with_bit bits n)) (sym (eqb-true n b e)) ∙ bit-set bits n h))
    (λ e. rw e (or_none (bit_at bits b)) ∙ sym (bit_kept bits n b (λ x. eqb-false n b e (sym x))))
