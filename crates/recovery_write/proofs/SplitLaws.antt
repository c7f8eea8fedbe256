-- A trace that spares bad blocks spares them from any place on. Assumes nothing.
use Prim.Native.Nat.{ℕ}
use mathlib.Core.Bool.{Bool, true, false, cond}
use mathlib.Core.List.{List, [], ◌∷◌, ◌++◌}
use mathlib.Core.Path.{sym}
use lib.Dec.{eqb}
use Rattle.geometry.specs.declared.Geometry.{Geometry}
use Rattle.bus_polling.specs.Outcomes.{is_failed}
use Rattle.operations.specs.Trace.{ArrayOperation}
use Rattle.damage.specs.Run.{failed_in}
use Rattle.damage.proofs.TraceLaws.{or_assoc}
use Rattle.bools.proofs.BoolLaws.{or_none}
use Rattle.recovery.specs.Calls.{failed_after}
use Rattle.recovery.specs.Recovery.{Spared}
use Rattle.recovery.proofs.SparedLaws.{spared_same}

pub spared_split : (g : Geometry) (marked failed : ℕ → Bool) (xs ys : List ArrayOperation) → Spared g marked failed (xs ++ ys) → Spared g marked (failed_after failed xs) ys
unfolding Spared failed_in
spared_split g marked failed [] ys a = spared_same g marked failed (failed_after failed []) (λ b. sym (or_none (failed b))) ys a
spared_split g marked failed (x ∷ xs) ys a =
    let fails : ℕ → Bool = λ b. cond (eqb x.block b) (is_failed x.answer) false in
    let now : ℕ → Bool = λ b. cond (failed b) true (fails b) in
    spared_same g marked (failed_after now xs) (failed_after failed (x ∷ xs)) (λ b. or_assoc (failed b) (fails b) (failed_in b xs)) ys
    (spared_split g marked now xs ys a.1)
