-- Numbers and fields of lines, computed. Assumes nothing.
use mathlib.Core.List.{[], ◌∷◌}
use mathlib.Core.Path.{◌≡◌, refl}
use Rattle.std.proofs.Common.{Some, None}
use Rattle.line_input.specs.Fields.{digit_value, appended, digits_from, number_at, field_at}

-- 10 is ten
ten : number_at (49 ∷ 48 ∷ []) 0 10 ≡ Some (record { value = 10; end = 2 })
unfolding number_at digits_from appended digit_value
ten = refl

-- 4294967295 is the greatest of 32 bits
greatest : number_at (52 ∷ 50 ∷ 57 ∷ 52 ∷ 57 ∷ 54 ∷ 55 ∷ 50 ∷ 57 ∷ 53 ∷ []) 0 10 ≡ Some (record { value = 4294967295; end = 10 })
unfolding number_at digits_from appended digit_value
greatest = refl

-- 99999999999 counts as one above it
above : number_at (57 ∷ 57 ∷ 57 ∷ 57 ∷ 57 ∷ 57 ∷ 57 ∷ 57 ∷ 57 ∷ 57 ∷ 57 ∷ []) 0 10 ≡ Some (record { value = 4294967296; end = 11 })
unfolding number_at digits_from appended digit_value
above = refl

-- W 0 aF: the field of its byte
byte : field_at (87 ∷ 32 ∷ 48 ∷ 32 ∷ 97 ∷ 70 ∷ []) 3 16 ≡ Some (record { value = 175; end = 6 })
unfolding field_at number_at digits_from appended digit_value
byte = refl

-- a decimal number ends before a letter
letter : number_at (49 ∷ 97 ∷ []) 0 10 ≡ Some (record { value = 1; end = 1 })
unfolding number_at digits_from appended digit_value
letter = refl

-- two spaces: no field
spaces : field_at (32 ∷ 32 ∷ 49 ∷ []) 0 10 ≡ None
unfolding field_at number_at digits_from appended digit_value
spaces = refl
