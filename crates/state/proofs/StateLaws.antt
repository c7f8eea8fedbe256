-- Laws of what the methods of the state walk over: bitmaps and the map, one block or entry at a time. Assumes nothing.
use Prim.Native.Nat.{ℕ, suc, ◌+◌, ◌-◌, ◌≤◌, ◌<◌}
use mathlib.Core.Bool.{true, false, cond, false≢true}
use mathlib.Core.List.{List}
use mathlib.Core.Path.{◌≡◌, sym, ap, ◌∙◌}
use native.Mathlib.Numerals.{add-one}
use native.Mathlib.Omega.{arith}
use borrow.Table.Steps.{cases}
use borrow.Author.Tests.{eqb-true, eqb-false, ne_eqb, lt-ltb, le-ltb, ltb-true}
use lib.Bits.{bit_or}
use lib.Dec.{eqb, ltb}
use lib.ListN.{length, get_or, length-set}
use Rattle.bitmaps.specs.Bitmap.{with_bit}
use Rattle.bitmaps.proofs.ByteLaws.{or_zero, tests_join, tests_swap}
use Rattle.state.specs.State.{add_block, copy_bits, empty_from, sound_block}

-- an entry goes into what is other than empty, and no entry left
other_one : (e : ℕ) → e ≤ 65535 → eqb (65535 - e) 0 ≡ eqb e 65535
other_one e h =
    cases (eqb e 65535)
    (λ t. let z = eqb-true e 65535 t in rw z)
    (λ f. rw f (ne_eqb (65535 - e) 0 (λ z. eqb-false e 65535 f (omega arith))))

pub empty_on : (map : List ℕ) (m n other : ℕ) → n < m → get_or map n 0 ≤ 65535 → cond (eqb (bit_or other (65535 - get_or map n 0)) 0) (empty_from map (n + 1) (m - (n + 1))) false ≡ cond (eqb other 0) (empty_from map n (m - n)) false
unfolding empty_from
empty_on map m n other h g =
    let e : m - n ≡ suc (m - (n + 1)) = omega arith in
    rw (e, or_zero other (65535 - get_or map n 0), other_one (get_or map n 0) g)
    (tests_join (eqb other 0) (eqb (get_or map n 0) 65535) (empty_from map (n + 1) (m - (n + 1))))

pub empty-over : (map : List ℕ) (m n other : ℕ) → m ≤ n → eqb other 0 ≡ cond (eqb other 0) (empty_from map n (m - n)) false
unfolding empty_from
empty-over map m n other h =
    let e : m - n ≡ 0 = omega arith in
    rw e (tests_swap true (eqb other 0))

-- a bitmap keeps its length
pub with_length : (bits next : List ℕ) (b k : ℕ) → next ≡ with_bit bits b → length bits ≡ k → length next ≡ k
unfolding with_bit
with_length bits next b k e h = ap length e ∙ simp length-set h

-- a block added to a bitmap, and a number that is no block
pub add_block_lem : (bits next : List ℕ) (b : ℕ) → b < 4096 → next ≡ with_bit bits b → next ≡ add_block b bits
add_block_lem bits next b h e = rw (lt-ltb b 4096 h) e

pub add_none : (bits next : List ℕ) (b : ℕ) → 4096 ≤ b → next ≡ bits → next ≡ add_block b bits
add_none bits next b h e = rw (le-ltb b 4096 h) e

-- one entry more of the map
pub copy_next : (map start bits next : List ℕ) (n b : ℕ) → b ≡ get_or map n 0 → bits ≡ copy_bits map n start → next ≡ add_block b bits → next ≡ copy_bits map (n + 1) start
unfolding copy_bits
copy_next map start bits next n b e h x = rw (add-one, ← e, ← h) x

-- a sound block is on the chip
pub sound_below : (marked invalid named : List ℕ) (blocks b : ℕ) → sound_block marked invalid named blocks b ≡ true → b < blocks
sound_below marked invalid named blocks b h =
    cases (ltb b blocks)
    (λ t. ltb-true b blocks t)
    (λ t. absurd (false≢true (sym (rw t) ∙ h)))
