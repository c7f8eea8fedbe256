-- Where one pass over both lists stands: the number at a place, and past the end 2^32, which is above every number.
use Rattle.std.specs.Prelude.{ℕ, cond, List, ltb, length, get_or}

abbrev pub number_at : List ℕ → ℕ → ℕ
number_at numbers i = cond (ltb i (length numbers)) (get_or numbers i 0) 4294967296
