-- The definitions computed on small lists. Assumes nothing.
use Prim.Native.Nat.{ℕ}
use mathlib.Core.List.{List, [], ◌∷◌}
use mathlib.Core.Path.{◌≡◌, refl}
use lib.IntN.{pos, negsuc}
use Rattle.reconcile.specs.Sales.{sales, rises, amount_of}
use Rattle.reconcile.specs.Totals.{sum_over, difference, refused, reconciled}

-- sales 1, 2, 5 and 7 of the box, 1, 3, 5 and 7 of the mechanism: 1 agrees, 2 and 3 are in one list, 5 has 10 more in the box, 7 has 30 fewer
box_numbers : List ℕ
box_numbers = 1 ∷ 2 ∷ 5 ∷ 7 ∷ []

box_amounts : List ℕ
box_amounts = 100 ∷ 150 ∷ 60 ∷ 20 ∷ []

mechanism_numbers : List ℕ
mechanism_numbers = 1 ∷ 3 ∷ 5 ∷ 7 ∷ []

mechanism_amounts : List ℕ
mechanism_amounts = 100 ∷ 80 ∷ 50 ∷ 50 ∷ []

four_sales : reconciled box_numbers box_amounts mechanism_numbers mechanism_amounts ≡ record { answer = 0; agreed = 100; only_box = 150; only_mechanism = 80; difference = negsuc 19 }
unfolding box_numbers box_amounts mechanism_numbers mechanism_amounts reconciled sales rises amount_of sum_over difference
four_sales = refl

-- the lists exchanged: the sign changes, and the totals of one list only change places
exchanged : reconciled mechanism_numbers mechanism_amounts box_numbers box_amounts ≡ record { answer = 0; agreed = 100; only_box = 80; only_mechanism = 150; difference = pos 20 }
unfolding box_numbers box_amounts mechanism_numbers mechanism_amounts reconciled sales rises amount_of sum_over difference
exchanged = refl

-- one sale in both: no difference, the greatest and the least
one_level : reconciled (9 ∷ []) (250 ∷ []) (9 ∷ []) (250 ∷ []) ≡ record { answer = 0; agreed = 250; only_box = 0; only_mechanism = 0; difference = pos 0 }
unfolding reconciled sales rises amount_of sum_over difference
one_level = refl

one_greatest : reconciled (9 ∷ []) (4294967295 ∷ []) (9 ∷ []) (0 ∷ []) ≡ record { answer = 0; agreed = 0; only_box = 0; only_mechanism = 0; difference = pos 4294967295 }
unfolding reconciled sales rises amount_of sum_over difference
one_greatest = refl

one_least : reconciled (9 ∷ []) (0 ∷ []) (9 ∷ []) (4294967295 ∷ []) ≡ record { answer = 0; agreed = 0; only_box = 0; only_mechanism = 0; difference = negsuc 4294967294 }
unfolding reconciled sales rises amount_of sum_over difference
one_least = refl

-- differences of both signs that cancel
cancelled : reconciled (1 ∷ 2 ∷ []) (30 ∷ 10 ∷ []) (1 ∷ 2 ∷ []) (10 ∷ 30 ∷ []) ≡ record { answer = 0; agreed = 0; only_box = 0; only_mechanism = 0; difference = pos 0 }
unfolding reconciled sales rises amount_of sum_over difference
cancelled = refl

-- an empty list is accepted
both_empty : reconciled [] [] [] [] ≡ record { answer = 0; agreed = 0; only_box = 0; only_mechanism = 0; difference = pos 0 }
unfolding reconciled sales rises amount_of sum_over difference
both_empty = refl

box_empty : reconciled [] [] (1 ∷ 4 ∷ []) (10 ∷ 20 ∷ []) ≡ record { answer = 0; agreed = 0; only_box = 0; only_mechanism = 30; difference = pos 0 }
unfolding reconciled sales rises amount_of sum_over difference
box_empty = refl

-- a number twice, one that falls, an amount too few: refused, whichever list it is
repeated : reconciled (1 ∷ 1 ∷ []) (10 ∷ 20 ∷ []) [] [] ≡ refused
unfolding reconciled rises
repeated = refl

falling : reconciled [] [] (1 ∷ 3 ∷ 2 ∷ []) (10 ∷ 20 ∷ 30 ∷ []) ≡ refused
unfolding reconciled rises
falling = refl

amount_missing : reconciled (1 ∷ 2 ∷ []) (10 ∷ []) [] [] ≡ refused
unfolding reconciled rises
amount_missing = refl
