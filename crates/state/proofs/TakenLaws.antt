-- The entries of the map against one byte a block, not 0 where the block is taken, decide as the walk over bitmaps does. Assumes nothing.
use Prim.Native.Nat.{ℕ, zero, suc, ◌+◌, ◌-◌, ◌≤◌, ◌<◌}
use mathlib.Core.Bool.{Bool, true, false, cond}
use mathlib.Core.List.{List}
use mathlib.Core.Path.{◌≡◌, refl, ap, ◌∙◌}
use native.Mathlib.Omega.{arith}
use borrow.Table.Steps.{cases}
use borrow.Author.Tests.{eq-eqb, ne_eqb, eqb-true, eqb-false, ltb-true, lt-ltb, le-ltb}
use lib.Bits.{bit_or}
use lib.Dec.{eqb, ltb}
use lib.ListN.{length, get_or, set, replicate, length-set, length-replicate}
use lib.Seq.{get_or-set_same, get_or-set_other}
use Rattle.bitmaps.specs.Bitmap.{byte_of, bit_at, with_bit, flag_of, flags_of}
use Rattle.bitmaps.proofs.BitLaws.{bit-set, bit_kept}
use Rattle.bitmaps.proofs.ByteLaws.{or_zero, tests_join, tests_swap, flag_at}
use Rattle.state_choose.specs.Choose.{permitted}
use Rattle.state.specs.State.{sound_from}
use Rattle.state.specs.declared.State.{State}
use Rattle.state.proofs.StateLaws.{with_length}
use Rattle.bitmaps.proofs.BitmapLaws.{blank-bit}

-- each of the k entries from n on is empty, or of a block of the chip that is not taken, and takes it
unfoldable pub takes_from : List ℕ → ℕ → List ℕ → ℕ → ℕ → Bool
takes_from map blocks taken n zero = true
takes_from map blocks taken n (suc k) =
    let skip = takes_from map blocks taken (n + 1) k in
    let more = takes_from map blocks (set taken (get_or map n 0) 1) (n + 1) k in
    cond (ltb (get_or map n 0) blocks)
    (cond (eqb (get_or taken (get_or map n 0) 0) 0) more false)
    (cond (eqb (get_or map n 0) 65535) skip false)

-- an entry from n on, of a block of the chip, of none, empty: what is unsound after it and the entries left decide as before it
module _ (map : List ℕ) (blocks : ℕ) (taken next : List ℕ) (m n unsound after b : ℕ) (h : n < m) (at : b ≡ get_or map n 0) where
  abbrev Same : Type 0
  Same = cond (eqb after 0) (takes_from map blocks next (n + 1) (m - (n + 1))) false ≡ cond (eqb unsound 0) (takes_from map blocks taken n (m - n)) false

  more : m - n ≡ suc (m - (n + 1))
  more = omega arith

  pub takes_block : b < blocks → next ≡ set taken b 1 → after ≡ bit_or unsound (get_or taken b 0) → Same
  unfolding takes_from
  takes_block l e u =
      rw (more, ← at, lt-ltb b blocks l, e, u, or_zero unsound (get_or taken b 0))
      (tests_join (eqb unsound 0) (eqb (get_or taken b 0) 0) (takes_from map blocks (set taken b 1) (n + 1) (m - (n + 1))))

  pub takes_past : blocks ≤ b → (b ≡ 65535 → ⊥) → after ≡ 1 → Same
  unfolding takes_from
  takes_past l z u = rw (more, ← at, le-ltb b blocks l, ne_eqb b 65535 z, u) (tests_swap false (eqb unsound 0))

  pub takes_none : blocks ≤ b → b ≡ 65535 → next ≡ taken → after ≡ unsound → Same
  unfolding takes_from
  takes_none l z e u = rw (more, ← at, le-ltb b blocks l, eq-eqb b 65535 z, e, u)

-- no entry left
pub takes-over : (map : List ℕ) (blocks : ℕ) (taken : List ℕ) (m n unsound : ℕ) → m ≤ n → eqb unsound 0 ≡ cond (eqb unsound 0) (takes_from map blocks taken n (m - n)) false
unfolding takes_from
takes-over map blocks taken m n unsound h =
    let e : m - n ≡ 0 = omega arith in
    rw e (tests_swap true (eqb unsound 0))

-- a block is not taken exactly where it is permitted
abbrev Free : List ℕ → List ℕ → List ℕ → List ℕ → Type 0
Free marked invalid named taken = (b : ℕ) → b < 4096 → eqb (get_or taken b 0) 0 ≡ permitted marked invalid named b

module _ (marked invalid named : List ℕ) (size : length named ≡ 512) where
  named_refused : (b : ℕ) → b < 4096 → false ≡ permitted marked invalid (with_bit named b) b
  unfolding permitted
  named_refused b h =
      let at : byte_of b < length named = omega (arith, size) in
      rw (bit-set named b at)
      (cases (bit_at marked b) (λ t. rw t) (λ f. rw f (cases (bit_at invalid b) (λ t. rw t) (λ g. rw g))))

  named_others : (b c : ℕ) → (c ≡ b → ⊥) → permitted marked invalid named c ≡ permitted marked invalid (with_bit named b) c
  unfolding permitted
  named_others b c h = rw (bit_kept named b c h)

  -- one block more is taken and named
  free_next : (taken : List ℕ) (b : ℕ) → length taken ≡ 4096 → b < 4096 → Free marked invalid named taken → Free marked invalid (with_bit named b) (set taken b 1)
  free_next taken b most h f c g =
      cases (eqb c b)
      (λ t.
      let e = eqb-true c b t in
      rw e (ap (λ (x : ℕ). eqb x 0) (get_or-set_same taken b 1 0 (omega (arith, most))) ∙ named_refused b h))
      (λ u.
      let d = eqb-false c b u in
      ap (λ (x : ℕ). eqb x 0) (get_or-set_other taken b c 1 0 d) ∙ f c g ∙ named_others b c d)

-- both walks decide alike
module _ (s : State) (blocks : ℕ) (room : blocks ≤ 4096) where
  abbrev entry : ℕ → ℕ
  entry n = get_or s.map n 0

  pub takes_sound : (k n : ℕ) (named taken : List ℕ) → length named ≡ 512 → length taken ≡ 4096 → Free s.marked s.invalid named taken → takes_from s.map blocks taken n k ≡ sound_from s blocks named n k
  unfolding takes_from sound_from
  takes_sound zero n named taken size most f = refl
  takes_sound (suc k) n named taken size most f =
      cases (ltb (entry n) blocks)
      (λ t.
      let h : entry n < blocks = ltb-true (entry n) blocks t in
      let on = takes_sound k (n + 1) (with_bit named (entry n)) (set taken (entry n) 1)
      (with_length named (with_bit named (entry n)) (entry n) 512 refl size)
      (length-set taken (entry n) 1 ∙ most)
      (free_next s.marked s.invalid named size taken (entry n) most (omega arith) f) in
      rw (t, ne_eqb (entry n) 65535 (λ z. omega (arith, z, h, room)), f (entry n) (omega arith), on))
      (λ t. rw (t, takes_sound k (n + 1) named taken size most f))

-- the flags of marked and invalid blocks, and the table's block
module _ (marked invalid : List ℕ) where
  flag_free : (b : ℕ) → eqb (flag_of marked invalid b) 0 ≡ permitted marked invalid (replicate 512 0) b
  unfolding permitted
  flag_free b =
      rw (blank-bit 512 b)
      (cases (bit_at marked b) (λ t. rw t) (λ f. rw f (cases (bit_at invalid b) (λ t. rw t) (λ g. rw g))))

  pub free_flags : (taken : List ℕ) → taken ≡ flags_of marked invalid 4096 → Free marked invalid (replicate 512 0) taken
  free_flags taken e b h =
      ap (λ (x : List ℕ). eqb (get_or x b 0) 0) e
      ∙ ap (λ (x : ℕ). eqb x 0) (flag_at marked invalid 4096 b h)
      ∙ flag_free b

-- the walk from the flags on, with the table's block taken, is the walk from the bits of the table's block on
pub takes_all : (s : State) (blocks logical : ℕ) (taken : List ℕ) → blocks ≤ 4096 → s.table < blocks → length taken ≡ 4096 → taken ≡ flags_of s.marked s.invalid 4096 → takes_from s.map blocks (set taken s.table 1) 0 logical ≡ sound_from s blocks (with_bit (replicate 512 0) s.table) 0 logical
takes_all s blocks logical taken room h most e =
    let size : length {A = ℕ} (replicate 512 0) ≡ 512 = length-replicate {A = ℕ} 512 0 in
    takes_sound s blocks room logical 0 (with_bit (replicate 512 0) s.table) (set taken s.table 1)
    (with_length (replicate 512 0) (with_bit (replicate 512 0) s.table) s.table 512 refl size)
    (length-set taken s.table 1 ∙ most)
    (free_next s.marked s.invalid (replicate 512 0) size taken s.table most (omega arith) (free_flags s.marked s.invalid taken e))
