-- Tables of price rules, computed.
use mathlib.Core.Bool.{true, false}
use mathlib.Core.List.{[], ◌∷◌}
use mathlib.Core.Path.{◌≡◌, refl}
use Rattle.price_rules.specs.Rules.{selectable, within, wrong, fault_of, wrong_with, covering, any_faulted, price_among}
use Rattle.price_rules.specs.Faults.{found, sold, refusal_at, fault_from, shaped, checking, pricing}

-- one rule's ends: 0, 1, 99, 100, last below first
ends : (wrong 1 99 ≡ false) × (wrong 0 99 ≡ true) × (wrong 1 100 ≡ true) × (wrong 99 99 ≡ false) × (wrong 100 100 ≡ true) × (wrong 5 4 ≡ true) × (wrong 5 0 ≡ true)
unfolding selectable wrong
ends = (refl, refl, refl, refl, refl, refl, refl)

-- the selection at fault is the first, 1 if that is outside
faults : (fault_of 5 ≡ 5) × (fault_of 99 ≡ 99) × (fault_of 0 ≡ 1) × (fault_of 100 ≡ 1) × (fault_of 255 ≡ 1)
unfolding selectable fault_of
faults = (refl, refl, refl, refl, refl)

-- three rules that leave nothing out
accepted : checking (1 ∷ 50 ∷ 20 ∷ []) (19 ∷ 99 ∷ 49 ∷ []) (150 ∷ 300 ∷ 200 ∷ []) ≡ found 0 0
unfolding selectable within wrong fault_of wrong_with covering any_faulted refusal_at fault_from shaped checking
accepted = refl

-- the price is that of the selection's rule
prices : (pricing (1 ∷ 50 ∷ 20 ∷ []) (19 ∷ 99 ∷ 49 ∷ []) (150 ∷ 300 ∷ 200 ∷ []) 19 ≡ sold 0 150)
    × (pricing (1 ∷ 50 ∷ 20 ∷ []) (19 ∷ 99 ∷ 49 ∷ []) (150 ∷ 300 ∷ 200 ∷ []) 20 ≡ sold 0 200)
    × (pricing (1 ∷ 50 ∷ 20 ∷ []) (19 ∷ 99 ∷ 49 ∷ []) (150 ∷ 300 ∷ 200 ∷ []) 99 ≡ sold 0 300)
    × (pricing (1 ∷ 50 ∷ 20 ∷ []) (19 ∷ 99 ∷ 49 ∷ []) (150 ∷ 300 ∷ 200 ∷ []) 0 ≡ sold 2 0)
    × (pricing (1 ∷ 50 ∷ 20 ∷ []) (19 ∷ 99 ∷ 49 ∷ []) (150 ∷ 300 ∷ 200 ∷ []) 100 ≡ sold 2 0)
    × (pricing (1 ∷ 50 ∷ []) (19 ∷ 99 ∷ []) (150 ∷ 300 ∷ []) 1 ≡ sold 17 0)
    × (pricing (1 ∷ 50 ∷ []) (19 ∷ 99 ∷ []) (150 ∷ []) 1 ≡ sold 2 0)
unfolding selectable within wrong fault_of wrong_with covering any_faulted price_among refusal_at fault_from shaped checking pricing
prices = (refl, refl, refl, refl, refl, refl, refl)

-- a gap, the last selection left out, an overlap, an empty table
refused : (checking (1 ∷ 50 ∷ []) (19 ∷ 99 ∷ []) (1 ∷ 2 ∷ []) ≡ found 17 20)
    × (checking (1 ∷ []) (98 ∷ []) (1 ∷ []) ≡ found 17 99)
    × (checking (1 ∷ 19 ∷ []) (19 ∷ 99 ∷ []) (1 ∷ 2 ∷ []) ≡ found 18 19)
    × (checking [] [] [] ≡ found 17 1)
unfolding selectable within wrong fault_of wrong_with covering any_faulted refusal_at fault_from shaped checking
refused = (refl, refl, refl, refl)

-- gap and overlap: the smaller selection decides; at one selection, 18
both_faults : (checking (1 ∷ 30 ∷ 40 ∷ []) (19 ∷ 40 ∷ 99 ∷ []) (1 ∷ 2 ∷ 3 ∷ []) ≡ found 17 20)
    × (checking (1 ∷ 10 ∷ 40 ∷ []) (10 ∷ 20 ∷ 99 ∷ []) (1 ∷ 2 ∷ 3 ∷ []) ≡ found 18 10)
    × (checking (1 ∷ 50 ∷ 20 ∷ []) (19 ∷ 99 ∷ 10 ∷ []) (1 ∷ 2 ∷ 3 ∷ []) ≡ found 18 20)
unfolding selectable within wrong fault_of wrong_with covering any_faulted refusal_at fault_from shaped checking
both_faults = (refl, refl, refl)

-- wrong rules beside rules that cover every selection: ends at 0, 100, last below first
wrong_rules : (checking (1 ∷ 0 ∷ []) (99 ∷ 0 ∷ []) (1 ∷ 2 ∷ []) ≡ found 18 1)
    × (checking (1 ∷ 100 ∷ []) (99 ∷ 100 ∷ []) (1 ∷ 2 ∷ []) ≡ found 18 1)
    × (checking (1 ∷ 50 ∷ []) (49 ∷ 100 ∷ []) (1 ∷ 2 ∷ []) ≡ found 18 50)
    × (checking (1 ∷ 7 ∷ []) (99 ∷ 6 ∷ []) (1 ∷ 2 ∷ []) ≡ found 18 7)
unfolding selectable within wrong fault_of wrong_with covering any_faulted refusal_at fault_from shaped checking
wrong_rules = (refl, refl, refl, refl)

-- slices of different lengths, 200 and 201 rules
shapes : (checking (1 ∷ []) (99 ∷ []) [] ≡ found 2 0)
    × (checking (1 ∷ []) [] (1 ∷ []) ≡ found 2 0)
    × (shaped 200 200 200 ≡ true)
    × (shaped 201 201 201 ≡ false)
unfolding selectable within wrong fault_of wrong_with covering any_faulted refusal_at fault_from shaped checking
shapes = (refl, refl, refl, refl)
