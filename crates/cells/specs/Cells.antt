-- The effect of programs and erases on bytes. A byte is a number below 256, and a list of them a page, a block or the array.
use Rattle.std.specs.Prelude.{ℕ, ◌-◌, List, [], ◌∷◌, ◌++◌, length, get_or, drop}
use Rattle.std.specs.Int.Bits.{bit_and, bit_or}

-- a page after a program of data: each bit that data has clear is cleared, where data is shorter nothing is
unfoldable pub programmed : List ℕ → List ℕ → List ℕ
programmed [] ds = []
programmed (x ∷ xs) ds = bit_and x (get_or ds 0 255) ∷ programmed xs (drop 1 ds)

-- the data whose program clears just those bits that ds has clear and the mask has set
unfoldable pub weakened : List ℕ → List ℕ → List ℕ
weakened [] ms = []
weakened (d ∷ ds) ms = bit_or d (255 - get_or ms 0 0) ∷ weakened ds (drop 1 ms)

-- a block after an erase that took effect on the bits that the mask has set
unfoldable pub raised : List ℕ → List ℕ → List ℕ
raised [] ms = []
raised (x ∷ xs) ms = bit_or x (get_or ms 0 0) ∷ raised xs (drop 1 ms)

-- xs with ys over its first bytes
abbrev pub over : List ℕ → List ℕ → List ℕ
over ys xs = ys ++ drop (length ys) xs
