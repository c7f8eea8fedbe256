-- The bits of the blocks that hold something current. Assumes nothing.
use Prim.Native.Nat.{ℕ, zero, suc, ◌<◌}
use mathlib.Core.Bool.{true, false}
use mathlib.Core.List.{List}
use mathlib.Core.Path.{◌≡◌, refl, sym, subst, ◌∙◌}
use native.Mathlib.Omega.{arith}
use borrow.Table.Steps.{cases}
use borrow.Author.Tests.{eqb-true, eqb-false, lt-ltb}
use lib.Dec.{eqb, ltb}
use lib.ListN.{length, get_or, replicate, length-replicate}
use Rattle.bools.proofs.BoolLaws.{clash}
use Rattle.bitmaps.specs.Bitmap.{bit_at, with_bit}
use Rattle.bitmaps.proofs.BitLaws.{bit_kept}
use Rattle.state.specs.State.{add_block, copy_bits, held_bits}
use Rattle.state.specs.declared.State.{State}
use Rattle.state.proofs.StateLaws.{with_length}
use Rattle.state.proofs.MountedLaws.{set_named}

-- one block more
module _ (b : ℕ) (bits : List ℕ) (long : length bits ≡ 512) where
  add_own : b < 4096 → bit_at (add_block b bits) b ≡ true
  add_own h = rw (lt-ltb b 4096 h) (set_named bits b long h)

  add_long : length (add_block b bits) ≡ 512
  add_long = cases (ltb b 4096) (λ t. rw t (with_length bits (with_bit bits b) b 512 refl long)) (λ f. rw f long)

  set_kept : (c : ℕ) → c < 4096 → bit_at bits c ≡ true → bit_at (with_bit bits b) c ≡ true
  set_kept c h t =
      cases (eqb c b)
      (λ e. let same = eqb-true c b e in subst (λ (k : ℕ). bit_at (with_bit bits b) k ≡ true) (sym same) (set_named bits b long (omega (arith, h, same))))
      (λ e. bit_kept bits b c (eqb-false c b e) ∙ t)

  add_kept : (c : ℕ) → c < 4096 → bit_at bits c ≡ true → bit_at (add_block b bits) c ≡ true
  add_kept c h t = cases (ltb b 4096) (λ u. rw u (set_kept c h t)) (λ u. rw u t)

-- the blocks of the first n entries
module _ (map bits : List ℕ) (long : length bits ≡ 512) where
  copies_long : (n : ℕ) → length (copy_bits map n bits) ≡ 512
  unfolding copy_bits
  copies_long zero = long
  copies_long (suc n) = add_long (get_or map n 0) (copy_bits map n bits) (copies_long n)

  copies_kept : (n c : ℕ) → c < 4096 → bit_at bits c ≡ true → bit_at (copy_bits map n bits) c ≡ true
  unfolding copy_bits
  copies_kept zero c h t = t
  copies_kept (suc n) c h t = add_kept (get_or map n 0) (copy_bits map n bits) (copies_long n) c h (copies_kept n c h t)

  copies_own : (n l : ℕ) → l < n → get_or map l 0 < 4096 → bit_at (copy_bits map n bits) (get_or map l 0) ≡ true
  unfolding copy_bits
  copies_own zero l h k = absurd (omega (arith, h))
  copies_own (suc n) l h k =
      cases (eqb l n)
      (λ e.
      let same = eqb-true l n e in
      subst (λ (i : ℕ). bit_at (copy_bits map (suc n) bits) (get_or map i 0) ≡ true) (sym same)
      (add_own (get_or map n 0) (copy_bits map n bits) (copies_long n) (subst (λ (i : ℕ). get_or map i 0 < 4096) same k)))
      (λ e. add_kept (get_or map n 0) (copy_bits map n bits) (copies_long n) (get_or map l 0) k (copies_own n l (omega (arith, h, eqb-false l n e)) k))

module _ (s : State) (n : ℕ) where
  blank_long : length {A = ℕ} (replicate 512 0) ≡ 512
  blank_long = length-replicate {A = ℕ} 512 0

  start_long : length (add_block s.table (replicate 512 0)) ≡ 512
  start_long = add_long s.table (replicate 512 0) blank_long

  pub held_table : s.table < 4096 → bit_at (held_bits s n) s.table ≡ true
  held_table h = copies_kept s.map (add_block s.table (replicate 512 0)) start_long n s.table h (add_own s.table (replicate 512 0) blank_long h)

  pub held_entry : (l : ℕ) → l < n → get_or s.map l 0 < 4096 → bit_at (held_bits s n) (get_or s.map l 0) ≡ true
  held_entry l h k = copies_own s.map (add_block s.table (replicate 512 0)) start_long n l h k

  -- a block without its bit is neither the table's nor one of these copies'
  module _ (b : ℕ) (below : b < 4096) (free : bit_at (held_bits s n) b ≡ false) where
    pub free_table : b ≡ s.table → ⊥
    free_table e = clash (held_table (omega (arith, e, below))) (subst (λ (k : ℕ). bit_at (held_bits s n) k ≡ false) e free)

    pub free_entry : (l : ℕ) → l < n → get_or s.map l 0 ≡ b → ⊥
    free_entry l h e = clash (held_entry l h (omega (arith, e, below))) (subst (λ (k : ℕ). bit_at (held_bits s n) k ≡ false) (sym e) free)
