-- The journal's definitions, computed on small pages. Assumes nothing.
use Prim.Native.Nat.{ℕ}
use mathlib.Core.Bool.{true, false}
use mathlib.Core.List.{List, [], ◌∷◌, ◌++◌}
use mathlib.Core.Path.{◌≡◌, refl}
use lib.ListN.{get_or, set, replicate}
use Rattle.pages.specs.Layout.{bytes_of, number_of, all_ones}
use Rattle.copies.specs.Pick.{some_below}
use Rattle.journal.specs.Records.{Pages, sale_bytes, number_in, count_in, price_in, replaces_in, amount_in, is_next, records}
use Rattle.journal.specs.Takings.{sum_to, in_force, takings, takings_of}
use Rattle.journal.specs.declared.Sale.{Sale}

abbrev sale : ℕ → ℕ → ℕ → ℕ → Sale
sale selection count price replaces = record { selection = selection; count = count; price = price; replaces = replaces }

abbrev erased : List ℕ
erased = replicate 32 255

-- pages of 32 bytes: these, and then erased ones
abbrev holding : List (List ℕ) → Pages
holding pages k = get_or pages k erased

-- the bytes, in the order of the request
bytes_are : sale_bytes 32 258 (sale 7 772 84281096 1286) ≡ (2 ∷ 1 ∷ 7 ∷ 4 ∷ 3 ∷ 8 ∷ 7 ∷ 6 ∷ 5 ∷ 6 ∷ 5 ∷ []) ++ replicate 21 255
unfolding sale_bytes bytes_of
bytes_are = refl

-- no record
none_there : records (holding []) 5 ≡ 0
unfolding records is_next number_in number_of
none_there = refl

none-taken : takings_of (holding []) 5 ≡ 0
unfolding takings sum_to records is_next number_in number_of
none-taken = refl

abbrev first : List ℕ
first = sale_bytes 32 1 (sale 1 2 150 0)

abbrev second : List ℕ
second = sale_bytes 32 2 (sale 2 1 300 0)

abbrev three : Pages
three = holding (first ∷ second ∷ sale_bytes 32 3 (sale 3 1 1000 0) ∷ [])

three_there : records three 5 ≡ 3
unfolding records is_next number_in replaces_in number_of sale_bytes bytes_of all_ones
three_there = refl

three-taken : takings_of three 5 ≡ 1600
unfolding takings sum_to some_below amount_in count_in price_in records is_next number_in replaces_in number_of sale_bytes bytes_of all_ones
three-taken = refl

-- a stuck bar is refunded: the second record is replaced by one of no bar
abbrev corrected : Pages
corrected = holding (first ∷ second ∷ sale_bytes 32 3 (sale 2 0 300 2) ∷ [])

corrected-taken : takings_of corrected 5 ≡ 300
unfolding takings sum_to some_below amount_in count_in price_in records is_next number_in replaces_in number_of sale_bytes bytes_of all_ones
corrected-taken = refl

-- the correction is corrected: the first record stays out of force
abbrev again : Pages
again = holding (first ∷ sale_bytes 32 2 (sale 1 1 150 1) ∷ sale_bytes 32 3 (sale 1 3 150 2) ∷ [])

again-taken : takings_of again 5 ≡ 450
unfolding takings sum_to some_below amount_in count_in price_in records is_next number_in replaces_in number_of sale_bytes bytes_of all_ones
again-taken = refl

first_out : in_force again 3 1 ≡ false
unfolding in_force some_below replaces_in number_of sale_bytes bytes_of
first_out = refl

third_in : in_force again 3 3 ≡ true
unfolding in_force some_below replaces_in number_of sale_bytes bytes_of
third_in = refl

-- a target replaced twice: both are records, and what they replace goes once
abbrev twice : Pages
twice = holding (first ∷ sale_bytes 32 2 (sale 1 1 150 1) ∷ sale_bytes 32 3 (sale 1 1 150 1) ∷ [])

twice_there : records twice 5 ≡ 3
unfolding records is_next number_in replaces_in number_of sale_bytes bytes_of all_ones
twice_there = refl

twice-taken : takings_of twice 5 ≡ 300
unfolding takings sum_to some_below amount_in count_in price_in records is_next number_in replaces_in number_of sale_bytes bytes_of all_ones
twice-taken = refl

-- a number skipped ends the journal, and so do a later record replaced, and a byte of the tail that is not FFh
skipped : records (holding (first ∷ sale_bytes 32 3 (sale 1 1 1 0) ∷ [])) 5 ≡ 1
unfolding records is_next number_in replaces_in number_of sale_bytes bytes_of all_ones
skipped = refl

itself_replaced : records (holding (first ∷ sale_bytes 32 2 (sale 1 1 1 2) ∷ [])) 5 ≡ 1
unfolding records is_next number_in replaces_in number_of sale_bytes bytes_of all_ones
itself_replaced = refl

wrong_tail : records (holding (first ∷ set second 31 0 ∷ [])) 5 ≡ 1
unfolding records is_next number_in replaces_in number_of sale_bytes bytes_of all_ones
wrong_tail = refl

-- what lies past the end is no record, whatever number it bears
past_end : records (holding (first ∷ erased ∷ sale_bytes 32 3 (sale 3 1 1000 0) ∷ [])) 5 ≡ 1
unfolding records is_next number_in replaces_in number_of sale_bytes bytes_of all_ones
past_end = refl

-- no more are counted than there is room for
room_used : records three 2 ≡ 2
unfolding records is_next number_in replaces_in number_of sale_bytes bytes_of all_ones
room_used = refl

-- an erased page at place 65,534, where its number would be next
erased_last : is_next 65534 erased ≡ false
unfolding is_next number_in replaces_in number_of all_ones
erased_last = refl

last_record : is_next 65534 (sale_bytes 32 65535 (sale 1 1 1 65534)) ≡ true
unfolding is_next number_in replaces_in number_of sale_bytes bytes_of all_ones
last_record = refl
