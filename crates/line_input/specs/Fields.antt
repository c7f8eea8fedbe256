-- What a line holds at a place: digits, numbers, fields.
use Rattle.std.specs.Prelude.{ℕ, suc, ◌+◌, ◌-◌, ◌*◌, cond, List, [], ◌∷◌, eqb, leb, ltb, get_or, length, drop, Option, Some, None}
use Rattle.line_input.specs.declared.Number.{Number}

-- the value of a digit, in either case of its letter, 255 for any other byte
unfoldable pub digit_value : ℕ → ℕ
digit_value b =
    cond (ltb b 48) 255 (cond (leb b 57) (b - 48) (cond (ltb b 65) 255 (cond (leb b 70) (b - 55) (cond (ltb b 97) 255 (cond (leb b 102) (b - 87) 255)))))

-- the value of a byte that is a digit of a base
abbrev pub digit_of : ℕ → ℕ → Option ℕ
digit_of base byte = cond (ltb (digit_value byte) base) (Some (digit_value byte)) None

-- a number one digit on; numbers above 32 bits count as 4,294,967,296
unfoldable pub appended : ℕ → ℕ → ℕ → ℕ
appended number base digit = cond (ltb 4294967296 (number * base + digit)) 4294967296 (number * base + digit)

-- on from a number: the digits up to the first byte that is none
unfoldable pub digits_from : ℕ → ℕ → ℕ → List ℕ → Number
digits_from base number end [] = record { value = number; end = end }
digits_from base number end (byte ∷ bytes) =
    let more = digits_from base (appended number base (digit_value byte)) (suc end) bytes in
    cond (leb base (digit_value byte)) (record { value = number; end = end }) more

-- a number that ends where it begins is none
abbrev pub some_digit : ℕ → Number → Option Number
some_digit first number = cond (eqb number.end first) None (Some number)

-- the number at a place: at least one digit
unfoldable pub number_at : List ℕ → ℕ → ℕ → Option Number
number_at line at base = some_digit at (digits_from base 0 at (drop at line))

-- the field at a place: one space and a number
unfoldable pub field_at : List ℕ → ℕ → ℕ → Option Number
field_at line at base =
    cond (leb (length line) at) None (cond (eqb (get_or line at 0) 32) (number_at line (at + 1) base) None)
