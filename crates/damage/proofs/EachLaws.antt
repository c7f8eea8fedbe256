-- Each or some of the array operations of a list are so. Assumes nothing.
use mathlib.Core.Bool.{Bool, true, false, cond}
use mathlib.Core.List.{List, [], ◌∷◌, ◌++◌}
use Rattle.operations.specs.Trace.{ArrayOperation}
use Rattle.damage.specs.Touched.{Each, Some, first, later}

module _ (P : ArrayOperation → Type 0) where
  pub each_append : (xs ys : List ArrayOperation) → Each P xs → Each P ys → Each P (xs ++ ys)
  unfolding Each
  each_append [] ys a b = b
  each_append (x ∷ xs) ys a b = (a.0, each_append xs ys a.1 b)

  pub each_left : (xs ys : List ArrayOperation) → Each P (xs ++ ys) → Each P xs
  unfolding Each
  each_left [] ys a = tt
  each_left (x ∷ xs) ys a = (a.0, each_left xs ys a.1)

  pub each_right : (xs ys : List ArrayOperation) → Each P (xs ++ ys) → Each P ys
  unfolding Each
  each_right [] ys a = a
  each_right (x ∷ xs) ys a = each_right xs ys a.1

  -- one operation, where its confirm cycle was sent
  pub each_one : (c : Bool) (o : ArrayOperation) → P o → Each P (cond c [] (o ∷ []))
  unfolding Each
  each_one true o a = tt
  each_one false o a = (a, tt)

module _ {P : ArrayOperation → Type 0} where
  pub some_append_left : {xs : List ArrayOperation} (ys : List ArrayOperation) → Some P xs → Some P (xs ++ ys)
  some_append_left ys (first a) = first a
  some_append_left ys (later a) = later (some_append_left ys a)

  pub some_append_right : (xs : List ArrayOperation) {ys : List ArrayOperation} → Some P ys → Some P (xs ++ ys)
  some_append_right [] a = a
  some_append_right (x ∷ xs) a = later (some_append_right xs a)

pub each_map : (P Q : ArrayOperation → Type 0) → ((o : ArrayOperation) → P o → Q o) → (os : List ArrayOperation) → Each P os → Each Q os
unfolding Each
each_map P Q f [] a = tt
each_map P Q f (o ∷ os) a = (f o a.0, each_map P Q f os a.1)
