-- The numbers on a block, and those of two: the greatest of both, and 0 where there is none. Assumes nothing.
use Prim.Native.Nat.{ℕ, max}
use mathlib.Core.Bool.{Bool, cond}
use mathlib.Core.List.{List}
use mathlib.Core.Path.{◌≡◌, ap}
use native.Mathlib.Omega.{arith}
use borrow.Author.Tests.{eqb-true, ltb-true, ltb-false}
use borrow.Table.Steps.{cases}
use lib.Dec.{eqb, ltb}
use Rattle.geometry.specs.declared.Geometry.{Geometry}
use Rattle.copies.specs.Blocks.{any_to}
use Rattle.copies.proofs.NumberLaws.{none_to}
use Rattle.format_erase.specs.declared.Numbers.{Numbers}
use Rattle.format_erase.specs.Round.{numbers_of, joined}

pub numbers_none : (g : Geometry) (block : List ℕ) → (numbers_of g block).any ≡ 0 → (numbers_of g block).greatest ≡ 0
numbers_none g block z =
    cases (any_to g block g.pages) (λ t. absurd (omega (arith, z, ap {B = ℕ} (λ (b : Bool). cond b 1 0) t))) (λ f. none_to g block g.pages f)

module _ (a b : Numbers) where
  module _ (none-a : a.any ≡ 0 → a.greatest ≡ 0) (none-b : b.any ≡ 0 → b.greatest ≡ 0) where
    pub joined_most : (joined a b).greatest ≡ max a.greatest b.greatest
    unfolding joined
    joined_most =
        cases (eqb b.any 0) (λ t. rw t (omega (arith, none-b (eqb-true b.any 0 t))))
        (λ f. cases (eqb a.any 0) (λ t. rw (f, t) (omega (arith, none-a (eqb-true a.any 0 t))))
        (λ e. cases (ltb a.greatest b.greatest) (λ t. rw (f, e, t) (omega (arith, ltb-true a.greatest b.greatest t))) (λ t. rw (f, e, t) (omega (arith, ltb-false a.greatest b.greatest t)))))

    pub joined_none : (joined a b).any ≡ 0 → (joined a b).greatest ≡ 0
    unfolding joined
    joined_none =
        cases (eqb b.any 0) (λ t. rw t none-a)
        (λ f. cases (eqb a.any 0) (λ t. rw (f, t) none-b)
        (λ e. cases (ltb a.greatest b.greatest) (λ t. rw (f, e, t) none-b) (λ t. rw (f, e, t) none-a)))
