-- The block that the next fill takes, and how many there are to take.
use Rattle.std.specs.Prelude.{ℕ, zero, suc, ◌+◌, Bool, true, false, cond, List, eqb, Option, Some, None}
use Rattle.bitmaps.specs.Bitmap.{bit_at}

-- a block may be filled if it is unmarked, not invalid, and held by nothing
unfoldable pub permitted : List ℕ → List ℕ → List ℕ → ℕ → Bool
permitted marked invalid held b =
    cond (bit_at marked b) false (cond (bit_at invalid b) false (cond (bit_at held b) false true))

-- the block after b, wrapping
abbrev pub next_block : ℕ → ℕ → ℕ
next_block blocks b = cond (eqb (b + 1) blocks) 0 (b + 1)

-- the first permitted one of the n blocks after b
unfoldable pub search_after : (ℕ → Bool) → ℕ → ℕ → ℕ → Option ℕ
search_after test blocks zero b = None
search_after test blocks (suc n) b =
    let more = search_after test blocks n (next_block blocks b) in
    cond (test (next_block blocks b)) (Some (next_block blocks b)) more

-- the next block after the one filled last that may be filled, that one itself as the last candidate
abbrev pub chosen : List ℕ → List ℕ → List ℕ → ℕ → ℕ → Option ℕ
chosen marked invalid held blocks last = search_after (permitted marked invalid held) blocks blocks last

-- how many of the first n blocks may be filled
unfoldable pub count_permitted : List ℕ → List ℕ → List ℕ → ℕ → ℕ
count_permitted marked invalid held zero = 0
count_permitted marked invalid held (suc n) =
    count_permitted marked invalid held n + cond (permitted marked invalid held n) 1 0
