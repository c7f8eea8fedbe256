-- What the parameter page tells: sizes within the limits, or a refusal with four zeros. Assumes nothing.
use Prim.Native.Nat.{ℕ}
use mathlib.Core.List.{List}
use mathlib.Core.Path.{◌≡◌, refl}
use borrow.Table.Steps.{cases}
use Rattle.std.specs.Prelude.{Option, None, Some}
use Rattle.geometry.specs.Limits.{Valid, valid}
use Rattle.geometry.proofs.LimitLaws.{limits}
use Rattle.parameters.specs.Page.{Told, geometry_of, refused_with, judged, first_good_of, told_of, told}
use Rattle.parameters.specs.declared.Sizes.{Sizes}

pub data Tells (logical : ℕ) (t : Told) : Type 0 where
  tells_sizes : t.answer ≡ 0 → Valid (geometry_of t.sizes logical) → Tells logical t
  breaks_limit : t ≡ refused_with 1 → Tells logical t
  has_none : t ≡ refused_with 12 → Tells logical t

judged_so : (z : Sizes) (logical : ℕ) → Tells logical (judged z logical)
unfolding judged
judged_so z logical =
    cases (valid (geometry_of z logical))
    (λ t. rw t (tells_sizes refl (limits (geometry_of z logical) t)))
    (λ f. rw f (breaks_limit refl))

of_copy : (copy : Option (List ℕ)) (logical : ℕ) → Tells logical (told_of copy logical)
of_copy None logical = has_none refl
of_copy (Some copy) logical = judged_so _ logical

pub told_so : (page : List ℕ) (logical : ℕ) → Tells logical (told page logical)
unfolding told
told_so page logical = of_copy (first_good_of page) logical
