-- The failures in a request's trace, operation by operation. Assumes nothing.
use Prim.Native.Nat.{ℕ}
use mathlib.Core.Bool.{Bool, true, false, cond}
use mathlib.Core.List.{List, [], ◌∷◌, ◌++◌}
use mathlib.Core.Logic.{inl, inr}
use mathlib.Core.Path.{◌≡◌, refl, sym, ap, ◌∙◌}
use native.Mathlib.Omega.{arith}
use borrow.Table.Steps.{cases}
use lib.Dec.{eqb, leb, ltb}
use borrow.Author.Tests.{leb-true, lt-ltb}
use Rattle.chip_interface.specs.Interface.{busy_of}
use Rattle.chip_array.specs.Device.{Setting}
use Rattle.bus.specs.Line.{Line}
use Rattle.bus_polling.specs.Outcomes.{is_failed}
use Rattle.operations.specs.Ends.{ends_as, total_for, word_for}
use Rattle.operations.specs.Trace.{ArrayOperation}
use Rattle.progress.specs.Progress.{Progress}
use Rattle.damage.specs.Run.{failed_in, FailedMore, NoneFailed}
use Rattle.damage.specs.Touched.{Each, Steady}
use Rattle.bools.proofs.BoolLaws.{or_none, and_none}

pub or_assoc : (a b c : Bool) → cond (cond a true b) true c ≡ cond a true (cond b true c)
or_assoc true b c = refl
or_assoc false b c = refl

-- failures before and since
pub failed_append : (b : ℕ) (os ps : List ArrayOperation) → failed_in b (os ++ ps) ≡ cond (failed_in b os) true (failed_in b ps)
unfolding failed_in
failed_append b [] ps = refl
failed_append b (o ∷ os) ps = rw (failed_append b os ps) (sym (or_assoc (cond (eqb o.block b) (is_failed o.answer) false) (failed_in b os) (failed_in b ps)))

-- an operation that is cut before its confirm cycle did not fail
pub cut-unfailed : (s : Setting) (l : Line) (op m : ℕ) → leb l.left m ≡ true → is_failed (ends_as s l op m) ≡ false
unfolding is_failed
cut-unfailed s l op m t = rw (lt-ltb l.left (total_for s l.chip m) (omega (arith, leb-true l.left m t)))

-- one operation, where its confirm cycle was sent
pub failed_one : (b : ℕ) (o : ArrayOperation) (c : Bool) → (c ≡ true → is_failed o.answer ≡ false) → failed_in b (cond c [] (o ∷ [])) ≡ cond (eqb o.block b) (is_failed o.answer) false
unfolding failed_in
failed_one b o true f = sym (rw (f refl) (and_none (eqb o.block b)))
failed_one b o false f = or_none (cond (eqb o.block b) (is_failed o.answer) false)

-- a read does not fail
pub read_unfailed : (s : Setting) (l : Line) (m : ℕ) → is_failed (ends_as s l 1 m) ≡ false
unfolding is_failed
read_unfailed s l m =
    cases (ltb l.left (total_for s l.chip m))
    (λ t. rw t)
    (λ t. cases (ltb (busy_of (word_for s l.chip)) 256) (λ u. rw (t, u)) (λ u. rw (t, u)))

-- a list of which no operation failed, and one of which none but the last did
pub none_failed : (b : ℕ) (os : List ArrayOperation) → Each (λ o. is_failed o.answer ≡ false) os → failed_in b os ≡ false
unfolding failed_in Each
none_failed b [] a = refl
none_failed b (o ∷ os) a = rw (a.0, none_failed b os a.1) (ap (λ (x : Bool). cond x true false) (and_none (eqb o.block b)))

pub steady_append : (xs ys : List ArrayOperation) → Each (λ o. is_failed o.answer ≡ false) xs → Steady ys → Steady (xs ++ ys)
unfolding Each Steady
steady_append [] ys a b = b
steady_append (x ∷ xs) ys a b = (inl a.0, steady_append xs ys a.1 b)

pub steady_one : (c : Bool) (o : ArrayOperation) → Steady (cond c [] (o ∷ []))
unfolding Steady
steady_one true o = tt
steady_one false o = (inr refl, tt)

pub steady_unfailed : (os : List ArrayOperation) → Each (λ o. is_failed o.answer ≡ false) os → Steady os
unfolding Each Steady
steady_unfailed [] a = tt
steady_unfailed (o ∷ os) a = (inl a.0, steady_unfailed os a.1)

-- what did not fail adds nothing
pub unfailed-none : (p q : Progress) (block : ℕ) → is_failed q.outcome ≡ false → FailedMore p q block → NoneFailed p q
unfailed-none p q block f more b =
    more b ∙ ap (λ (x : Bool). cond (failed_in b p.started) true (cond (eqb block b) x false)) f
    ∙ ap (cond (failed_in b p.started) true) (and_none (eqb block b)) ∙ or_none (failed_in b p.started)

pub none-unfailed : (p q : Progress) (block : ℕ) → is_failed q.outcome ≡ false → NoneFailed p q → FailedMore p q block
none-unfailed p q block f none b =
    none b
    ∙ sym (ap (λ (x : Bool). cond (failed_in b p.started) true (cond (eqb block b) x false)) f
    ∙ ap (cond (failed_in b p.started) true) (and_none (eqb block b)) ∙ or_none (failed_in b p.started))
