-- Laws of a mounted state and its number. Assumes nothing.
use Prim.Native.Nat.{ℕ, ◌<◌}
use mathlib.Core.List.{List}
use mathlib.Core.Path.{◌≡◌, sym, ◌∙◌}
use native.Mathlib.Omega.{arith}
use borrow.Author.Tests.{eqb-true, eqb-false, le-leb, lt-leb}
use borrow.Table.Steps.{cases}
use lib.Dec.{eqb}
use Rattle.state.specs.State.{mounted_with, next_number, number_end, spent}
use Rattle.state.specs.declared.State.{State}

-- a mounted state is told by its fields
pub mounted-told : (s : State) {n table last : ℕ} {marked invalid map kinds : List ℕ}
    → s.status ≡ 1 → s.number ≡ n → s.table ≡ table → s.last ≡ last → s.marked ≡ marked → s.invalid ≡ invalid → s.map ≡ map → s.kinds ≡ kinds
    → s ≡ mounted_with n table last marked invalid map kinds
mounted-told s a n t l m i p k =
    λ j. record { status = a j; table = t j; last = l j; number = n j; marked = m j; invalid = i j; map = p j; kinds = k j }

-- no number is left exactly where the last one was taken
pub spent_last : (s : State) → s.number < number_end → eqb s.number 18446744073709551615 ≡ spent s
spent_last s h =
    cases (eqb s.number 18446744073709551615)
    (λ t. t ∙ sym (le-leb number_end (next_number s) (omega (arith, eqb-true s.number 18446744073709551615 t))))
    (λ f. f ∙ sym (lt-leb number_end (next_number s) (omega (arith, h, eqb-false s.number 18446744073709551615 f))))
