-- The bits of a bitmap to which those of another are added. Assumes nothing.
use Prim.Native.Nat.{ℕ, zero, suc, ◌+◌, ◌≤◌, ◌<◌}
use mathlib.Core.Bool.{Bool, true, false, cond}
use mathlib.Core.List.{List}
use mathlib.Core.Path.{◌≡◌, refl, sym, ap, ◌∙◌}
use native.Mathlib.Numerals.{add-one}
use native.Mathlib.Omega.{arith}
use borrow.Table.Steps.{cases}
use borrow.Author.Tests.{eqb-true, eqb-false, lt-ltb, le-ltb, ltb-true, ltb-false}
use lib.Dec.{eqb, ltb}
use lib.ListN.{length, length-set}
use Rattle.bitmaps.specs.Bitmap.{bit_at, with_bit, byte_of}
use Rattle.bitmaps.proofs.BitLaws.{bit-set, bit_kept}
use Rattle.bitmaps.proofs.BitmapLaws.{Bitmap, bits_more}
use Rattle.bools.proofs.BoolLaws.{or_none, one_true, clash}
use Rattle.geometry.specs.declared.Geometry.{Geometry}
use Rattle.format_scan.specs.declared.Survey.{Survey}
use Rattle.format_scan.specs.Survey.{union_to, passed_over}

module _ (bits more : List ℕ) where
  -- as long as the first
  pub union_long : (n : ℕ) → length (union_to bits more n) ≡ length bits
  unfolding union_to with_bit
  union_long zero = refl
  union_long (suc n) =
      cases (bit_at more n)
      (λ t. rw t (length-set (union_to bits more n) (byte_of n) _ ∙ union_long n))
      (λ t. rw t (union_long n))

  module _ (n : ℕ) (k : ℕ) where
    -- one block more: its own bit is that of either bitmap, the others are as they were
    own : byte_of n < length bits → bit_at (union_to bits more n) n ≡ cond (bit_at bits n) true (cond (ltb n n) (bit_at more n) false)
        → bit_at (union_to bits more (suc n)) n ≡ cond (bit_at bits n) true (bit_at more n)
    unfolding union_to
    own room less =
        cases (bit_at more n)
        (λ t. rw t (bit-set (union_to bits more n) n (omega (arith, room, union_long n)) ∙ sym (one_true (bit_at bits n))))
        (λ t. rw t (less ∙ rw (le-ltb n n (omega arith))))

    other : (k ≡ n → ⊥) → bit_at (union_to bits more (suc n)) k ≡ bit_at (union_to bits more n) k
    unfolding union_to
    other x = cases (bit_at more n) (λ t. rw t (bit_kept (union_to bits more n) n k x)) (λ t. rw t)

    below_next : (k ≡ n → ⊥) → ltb k (suc n) ≡ ltb k n
    below_next x =
        cases (ltb k n)
        (λ t. lt-ltb k (suc n) (omega (arith, ltb-true k n t)) ∙ sym t)
        (λ t. le-ltb k (suc n) (omega (arith, ltb-false k n t, x)) ∙ sym t)

  -- the bit of a block is that of the first bitmap, or, of the first n blocks, that of the other
  pub union_bit : (n k : ℕ) → n ≤ 4096 → length bits ≡ 512 → bit_at (union_to bits more n) k ≡ cond (bit_at bits k) true (cond (ltb k n) (bit_at more k) false)
  unfolding union_to
  union_bit zero k h long = sym (ap (λ (x : Bool). cond (bit_at bits k) true (cond x (bit_at more k) false)) (le-ltb k 0 (omega arith)) ∙ or_none (bit_at bits k))
  union_bit (suc n) k h long =
      cases (eqb k n)
      (λ e.
      ap (bit_at (union_to bits more (suc n))) (eqb-true k n e)
      ∙ own n k (omega (arith, h, long)) (union_bit n n (omega (arith, h)) long)
      ∙ sym (ap (λ (j : ℕ). cond (bit_at bits j) true (cond (ltb j (suc n)) (bit_at more j) false)) (eqb-true k n e)
      ∙ ap (λ (x : Bool). cond (bit_at bits n) true (cond x (bit_at more n) false)) (lt-ltb n (suc n) (omega arith))))
      (λ e.
      other n k (eqb-false k n e)
      ∙ union_bit n k (omega (arith, h)) long
      ∙ sym (ap (λ (x : Bool). cond (bit_at bits k) true (cond x (bit_at more k) false)) (below_next n k (eqb-false k n e))))

  -- it has no bit past the last block
  pub union_bits : (blocks n : ℕ) → blocks ≤ 4096 → n ≤ blocks → Bitmap blocks bits → Bitmap blocks (union_to bits more n)
  unfolding union_to
  union_bits blocks zero most h r = r
  union_bits blocks (suc n) most h r =
      cases (bit_at more n)
      (λ t. rw t (bits_more blocks (union_to bits more n) n most (omega (arith, h)) (union_bits blocks n most (omega (arith, h)) r)))
      (λ t. rw t (union_bits blocks n most (omega (arith, h)) r))

  -- the same, told by its two ways
  pub union_first : (n k : ℕ) → n ≤ 4096 → length bits ≡ 512 → bit_at bits k ≡ true → bit_at (union_to bits more n) k ≡ true
  union_first n k h long t = union_bit n k h long ∙ rw t

  pub union_second : (n k : ℕ) → n ≤ 4096 → length bits ≡ 512 → k < n → bit_at more k ≡ true → bit_at (union_to bits more n) k ≡ true
  union_second n k h long l t = union_bit n k h long ∙ rw (lt-ltb k n l, t) (one_true (bit_at bits k))

  pub union_neither : (n k : ℕ) → n ≤ 4096 → length bits ≡ 512 → k < n → bit_at (union_to bits more n) k ≡ false → (bit_at bits k ≡ false) × (bit_at more k ≡ false)
  union_neither n k h long l f = (
    cases (bit_at bits k) (λ t. clash (union_first n k h long t) f) (λ t. t),
    cases (bit_at more k) (λ t. clash (union_second n k h long l t) f) (λ t. t),
  )

-- one step of a loop that adds them
module _ (bits more : List ℕ) (n : ℕ) (here next : List ℕ) where
  pub union_added : bit_at more n ≡ true → here ≡ union_to bits more n → next ≡ with_bit here n → next ≡ union_to bits more (n + 1)
  unfolding union_to
  union_added t e h = h ∙ ap (λ (x : List ℕ). with_bit x n) e ∙ sym (ap (union_to bits more) (add-one n) ∙ rw t)

  pub union_kept : bit_at more n ≡ false → here ≡ union_to bits more n → next ≡ here → next ≡ union_to bits more (n + 1)
  unfolding union_to
  union_kept f e h = h ∙ e ∙ sym (ap (union_to bits more) (add-one n) ∙ rw f)

-- the blocks that the first round passes over
module _ (g : Geometry) (v : Survey) where
  pub over_table : v.old < 4096 → (bits next : List ℕ) → bits ≡ union_to v.marked v.carried g.blocks → next ≡ with_bit bits v.old → next ≡ passed_over g v
  unfolding passed_over
  over_table h bits next e k = k ∙ ap (λ (x : List ℕ). with_bit x v.old) e ∙ sym (rw (lt-ltb v.old 4096 h))

  pub over_none : 4096 ≤ v.old → (bits : List ℕ) → bits ≡ union_to v.marked v.carried g.blocks → bits ≡ passed_over g v
  unfolding passed_over
  over_none h bits e = e ∙ sym (rw (le-ltb v.old 4096 h))
