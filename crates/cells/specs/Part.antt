-- A part of a list, and a list with a part of it replaced.
use Rattle.std.specs.Prelude.{ℕ, List, ◌++◌, length, take, drop}

-- n elements from the place at
abbrev pub part : ℕ → ℕ → List ℕ → List ℕ
part at n xs = take n (drop at xs)

-- xs with ys in the place of as many elements from the place at
unfoldable pub put : ℕ → List ℕ → List ℕ → List ℕ
put at ys xs = take at xs ++ (ys ++ drop (length ys) (drop at xs))
