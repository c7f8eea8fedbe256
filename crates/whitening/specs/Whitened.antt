-- Main bytes as whitened pages store them: XORed with a stream that depends on the page alone. The same once more gives them back.
use Rattle.std.specs.Prelude.{ℕ, ◌+◌, List, [], ◌∷◌, length, get_or, drop}
use Rattle.std.specs.Int.Bits.{bit_xor}
use Rattle.whitening.specs.Stream.{bytes_given}

-- each byte of xs XORed with the one of ys at its place
unfoldable pub xored : List ℕ → List ℕ → List ℕ
xored [] ys = []
xored (x ∷ xs) ys = bit_xor x (get_or ys 0 0) ∷ xored xs (drop 1 ys)

-- the register is seeded with page + 1
abbrev pub whitened : ℕ → List ℕ → List ℕ
whitened page main = xored main (bytes_given (length main) (page + 1))
