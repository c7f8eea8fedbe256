-- Lines of sales, computed. Assumes nothing.
use mathlib.Core.List.{[], ◌∷◌}
use mathlib.Core.Path.{◌≡◌, refl}
use Rattle.line_input.specs.Fields.{digit_value, appended, digits_from, number_at, field_at}
use Rattle.std.proofs.Common.{Some, None}
use Rattle.demo_journal.specs.Lines.{fitting, parsed}

-- 7 2 30 1
sale : parsed (55 ∷ 32 ∷ 50 ∷ 32 ∷ 51 ∷ 48 ∷ 32 ∷ 49 ∷ []) ≡ Some (record { selection = 7; count = 2; price = 30; replaces = 1 })
unfolding parsed fitting field_at number_at digits_from appended digit_value
sale = refl

-- 256 0 0 0: no selection of 8 bits
wide_selection : parsed (50 ∷ 53 ∷ 54 ∷ 32 ∷ 48 ∷ 32 ∷ 48 ∷ 32 ∷ 48 ∷ []) ≡ None
unfolding parsed fitting field_at number_at digits_from appended digit_value
wide_selection = refl

-- 1 1 1: three numbers
three : parsed (49 ∷ 32 ∷ 49 ∷ 32 ∷ 49 ∷ []) ≡ None
unfolding parsed fitting field_at number_at digits_from appended digit_value
three = refl

-- 1 1 1 0 and a space
trailing : parsed (49 ∷ 32 ∷ 49 ∷ 32 ∷ 49 ∷ 32 ∷ 48 ∷ 32 ∷ []) ≡ None
unfolding parsed fitting field_at number_at digits_from appended digit_value
trailing = refl
