-- Traces that spare bad blocks, put together from their parts. Assumes nothing.
use Prim.Native.Nat.{ℕ}
use mathlib.Core.Bool.{Bool, true, false, cond}
use mathlib.Core.List.{List, [], ◌∷◌, ◌++◌}
use mathlib.Core.Logic.{inl, ⊎_elim}
use mathlib.Core.Path.{◌≡◌, sym, ap, subst, fun_ext, ◌∙◌}
use lib.Dec.{eqb}
use Rattle.geometry.specs.declared.Geometry.{Geometry}
use Rattle.bus_polling.specs.Outcomes.{is_failed}
use Rattle.operations.specs.Trace.{ArrayOperation}
use Rattle.damage.specs.Run.{failed_in}
use Rattle.damage.specs.Touched.{Each, Steady}
use Rattle.damage.proofs.TraceLaws.{or_assoc, failed_append}
use Rattle.bools.proofs.BoolLaws.{or_none, and_none}
use Rattle.recovery.specs.Calls.{failed_after}
use Rattle.recovery.specs.Recovery.{SparedBy, Spared}

-- the blocks that failed before and in one trace, and then in another
pub failed_after-append : (failed : ℕ → Bool) (xs ys : List ArrayOperation) (b : ℕ) → failed_after failed (xs ++ ys) b ≡ failed_after (failed_after failed xs) ys b
failed_after-append failed xs ys b = ap (cond (failed b) true) (failed_append b xs ys) ∙ sym (or_assoc (failed b) (failed_in b xs) (failed_in b ys))

-- the blocks that failed before, and that of one operation if it failed
abbrev failed_by : (ℕ → Bool) → ArrayOperation → ℕ → Bool
failed_by failed o b = cond (failed b) true (cond (eqb o.block b) (is_failed o.answer) false)

module _ (g : Geometry) (marked : ℕ → Bool) where
  -- by the same failed blocks
  pub spared_same : (failed other : ℕ → Bool) → ((b : ℕ) → failed b ≡ other b) → (os : List ArrayOperation) → Spared g marked failed os → Spared g marked other os
  spared_same failed other e os = subst (λ (f : ℕ → Bool). Spared g marked f os) (fun_ext e)

  pub spared_append : (failed : ℕ → Bool) (xs ys : List ArrayOperation) → Spared g marked failed xs → Spared g marked (failed_after failed xs) ys → Spared g marked failed (xs ++ ys)
  unfolding Spared failed_in
  spared_append failed [] ys a c = spared_same (failed_after failed []) failed (λ b. or_none (failed b)) ys c
  spared_append failed (x ∷ xs) ys a c = (
    a.0,
    spared_append (failed_by failed x) xs ys a.1
        (spared_same (failed_after failed (x ∷ xs)) (failed_after (failed_by failed x) xs) (λ b. sym (or_assoc (failed b) (cond (eqb x.block b) (is_failed x.answer) false) (failed_in b xs))) ys c),
  )

  -- where none but the last failed, each by the blocks that failed before
  pub spared_steady : (failed : ℕ → Bool) (os : List ArrayOperation) → Each (SparedBy g marked failed) os → Steady os → Spared g marked failed os
  unfolding Spared Each Steady
  spared_steady failed [] a w = tt
  spared_steady failed (o ∷ os) a w = (
    a.0,
    ⊎_elim
        (λ f. spared_same failed (failed_by failed o) (λ b. sym (ap (λ (x : Bool). cond (failed b) true (cond (eqb o.block b) x false)) f ∙ ap (cond (failed b) true) (and_none (eqb o.block b)) ∙ or_none (failed b))) os (spared_steady failed os a.1 w.1))
        (λ e. subst (Spared g marked (failed_by failed o)) (sym e) tt)
        w.0,
  )

  pub spared_reads : (failed : ℕ → Bool) (os : List ArrayOperation) → Each (λ o. o.kind ≡ 1) os → Spared g marked failed os
  unfolding Spared Each
  spared_reads failed [] a = tt
  spared_reads failed (o ∷ os) a = (inl a.0, spared_reads (failed_by failed o) os a.1)
