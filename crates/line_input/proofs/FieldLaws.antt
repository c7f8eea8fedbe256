-- Laws of numbers and fields, byte by byte. Assumes nothing.
use Prim.Native.Nat.{ℕ, ◌+◌, ◌-◌, ◌<◌, ◌≤◌}
use mathlib.Core.Bool.{Bool, true, false, cond}
use mathlib.Core.List.{List}
use mathlib.Core.Path.{◌≡◌, refl, sym, ap, ◌∙◌}
use native.Mathlib.Numerals.{add-one}
use native.Mathlib.Omega.{arith}
use borrow.Author.Tests.{eq-eqb, le-leb, lt-leb, ltb-true, ltb-false}
use lib.Dec.{ltb}
use lib.ListN.{get_or, length, drop, drop_of_length-le}
use lib.Seq.{drop-cons}
use Rattle.std.proofs.lemmas.List.{length-drop, take_all}
use Rattle.std.specs.List.{slice_range}
use Rattle.std.proofs.Common.{Option, Some, None}
use Rattle.line_input.specs.Fields.{digit_value, digit_of, appended, digits_from, some_digit, number_at}

some_is : (b : Bool) (v value : ℕ) → cond b (Some v) None ≡ Some value → (b ≡ true) × (v ≡ value)
some_is true v value e = (refl, cc)
some_is false v value e = cc

none_is : (b : Bool) (v : ℕ) → ◌≡◌ {A = Option ℕ} (cond b (Some v) None) None → b ≡ false
none_is true v e = cc
none_is false v e = refl

-- a digit goes to the number
pub digits_next : (bytes : List ℕ) (base number end i value next : ℕ) → i < length bytes → Some value ≡ digit_of base (get_or bytes i 0) → next ≡ appended number base value
    → digits_from base next (end + 1) (drop (i + 1) bytes) ≡ digits_from base number end (drop i bytes)
unfolding digits_from
digits_next bytes base number end i value next h d n =
    let told = some_is (ltb (digit_value (get_or bytes i 0)) base) (digit_value (get_or bytes i 0)) value (sym d) in
    let below : digit_value (get_or bytes i 0) < base = ltb-true _ _ told.0 in
    rw (n, ← told.1) (sym (rw (drop-cons bytes i 0 h, lt-leb base (digit_value (get_or bytes i 0)) below, add-one, add-one)))

-- another byte ends it
pub digits_stop : (bytes : List ℕ) (base number end i : ℕ) → i < length bytes → ◌≡◌ {A = Option ℕ} None (digit_of base (get_or bytes i 0)) → digits_from base number end (drop i bytes) ≡ record { value = number; end = end }
unfolding digits_from
digits_stop bytes base number end i h d =
    let none = none_is (ltb (digit_value (get_or bytes i 0)) base) (digit_value (get_or bytes i 0)) (sym d) in
    let above : base ≤ digit_value (get_or bytes i 0) = ltb-false _ _ none in
    rw (drop-cons bytes i 0 h, le-leb base (digit_value (get_or bytes i 0)) above)

-- and so does the end of the line
pub digits_end : (bytes : List ℕ) (base number end i : ℕ) → length bytes ≤ i → digits_from base number end (drop i bytes) ≡ record { value = number; end = end }
unfolding digits_from
digits_end bytes base number end i h = rw (drop_of_length-le bytes {i = i} h)

-- the bytes of the line from a place on
pub rest_is : (line rest : List ℕ) (at : ℕ) → rest ≡ slice_range line at (length line) → rest ≡ drop at line
rest_is line rest at e = e ∙ take_all (length line - at) (drop at line) (omega (arith, length-drop at line))

-- the number, once its digits have ended
pub number_is : (line rest bytes : List ℕ) (at base number end : ℕ) → rest ≡ slice_range line at (length line) → digits_from base number end bytes ≡ digits_from base 0 at rest
    → digits_from base number end bytes ≡ record { value = number; end = end } → some_digit at (record { value = number; end = end }) ≡ number_at line at base
unfolding number_at
number_is line rest bytes at base number end r e n =
    ap (some_digit at) (sym n ∙ e ∙ ap (digits_from base 0 at) (rest_is line rest at r))

-- no number past the end
pub number_short : (line : List ℕ) (at base : ℕ) → length line < at → None ≡ number_at line at base
unfolding number_at digits_from
number_short line at base h = rw (drop_of_length-le line {i = at} (omega arith), eq-eqb at at refl)
