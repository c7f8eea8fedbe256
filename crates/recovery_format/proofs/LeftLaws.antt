-- Traces that leave listed blocks alone, put together from their parts. Assumes nothing.
use Prim.Native.Nat.{ℕ}
use mathlib.Core.Bool.{Bool, true, false, cond}
use mathlib.Core.List.{List, [], ◌∷◌, ◌++◌}
use mathlib.Core.Logic.{inl, inr}
use mathlib.Core.Path.{◌≡◌, refl, sym, ap, subst, fun_ext, ◌∙◌}
use native.Mathlib.Omega.{arith}
use borrow.Table.Steps.{cases}
use borrow.Author.Tests.{ne_eqb}
use lib.Dec.{eqb}
use Rattle.geometry.specs.declared.Geometry.{Geometry}
use Rattle.bools.proofs.BoolLaws.{or_none, and_none}
use Rattle.chip_array.specs.Device.{Setting}
use Rattle.bus_polling.specs.Outcomes.{is_passed}
use Rattle.operations.specs.Trace.{ArrayOperation, read_starts}
use Rattle.progress.specs.Progress.{Progress, read_on}
use Rattle.damage.specs.Touched.{Each}
use Rattle.damage.proofs.TouchLaws.{reads_only}
use Rattle.damage.proofs.TraceLaws.{or_assoc}
use Rattle.recovery_format.specs.Carries.{programs, programmed_in, LeavesListed, LeftBy, LeftAlone}
use Rattle.recovery_format.proofs.EraseTouches.{Erases}

-- programs before and since
pub programmed-append : (b : ℕ) (os ps : List ArrayOperation) → programmed_in b (os ++ ps) ≡ cond (programmed_in b os) true (programmed_in b ps)
unfolding programmed_in
programmed-append b [] ps = refl
programmed-append b (o ∷ os) ps = rw (programmed-append b os ps) (sym (or_assoc (programs b o) (programmed_in b os) (programmed_in b ps)))

-- an operation that is no program
pub not_programs : (k : ℕ) → (k ≡ 2 → ⊥) → (b : ℕ) (o : ArrayOperation) → o.kind ≡ k → programs b o ≡ false
not_programs k x b o e = ap (λ (y : Bool). cond (eqb o.block b) y false) (ne_eqb o.kind 2 (λ z. x (sym e ∙ z))) ∙ and_none (eqb o.block b)

pub none-programmed : (k : ℕ) → (k ≡ 2 → ⊥) → (b : ℕ) (os : List ArrayOperation) → Each (λ o. o.kind ≡ k) os → programmed_in b os ≡ false
unfolding programmed_in Each
none-programmed k x b [] a = refl
none-programmed k x b (o ∷ os) a = rw (none-programmed k x b os a.1) (ap (λ (y : Bool). cond y true false) (not_programs k x b o a.0))

module _ (g : Geometry) (array : List ℕ) where
  left_same : (filled other : ℕ → Bool) → ((b : ℕ) → filled b ≡ other b) → (os : List ArrayOperation) → LeftAlone g array filled os → LeftAlone g array other os
  left_same filled other e os = subst (λ (f : ℕ → Bool). LeftAlone g array f os) (fun_ext e)

  -- the blocks programmed before and in a trace
  abbrev pub since : (ℕ → Bool) → List ArrayOperation → ℕ → Bool
  since filled os b = cond (filled b) true (programmed_in b os)

  pub left_append : (filled : ℕ → Bool) (xs ys : List ArrayOperation) → LeftAlone g array filled xs → LeftAlone g array (since filled xs) ys → LeftAlone g array filled (xs ++ ys)
  unfolding LeftAlone programmed_in
  left_append filled [] ys a c = left_same (since filled []) filled (λ b. or_none (filled b)) ys c
  left_append filled (x ∷ xs) ys a c = (
    a.0,
    left_append (λ b. cond (filled b) true (programs b x)) xs ys a.1
        (left_same (since filled (x ∷ xs)) (since (λ b. cond (filled b) true (programs b x)) xs) (λ b. sym (or_assoc (filled b) (programs b x) (programmed_in b xs))) ys c),
  )

  -- where each operation is so by any blocks of which all but some were programmed before
  pub left_each : (P : ArrayOperation → Type 0) (Filled : (ℕ → Bool) → Type 0) → ((filled : ℕ → Bool) (o : ArrayOperation) → Filled filled → P o → LeftBy g array filled o × Filled (λ b. cond (filled b) true (programs b o)))
      → (filled : ℕ → Bool) → Filled filled → (os : List ArrayOperation) → Each P os → LeftAlone g array filled os
  unfolding LeftAlone Each
  left_each P Filled step filled f [] a = tt
  left_each P Filled step filled f (o ∷ os) a =
      let here = step filled o f a.0 in
      (here.0, left_each P Filled step (λ b. cond (filled b) true (programs b o)) here.1 os a.1)

  pub left_reads : (filled : ℕ → Bool) (os : List ArrayOperation) → Each (λ o. o.kind ≡ 1) os → LeftAlone g array filled os
  left_reads filled os a = left_each (λ o. o.kind ≡ 1) (λ f. Unit {0}) (λ f o u e. (inl e, tt)) filled tt os a

  -- erases of one block
  pub left_erases : (filled : ℕ → Bool) (before : List ℕ) (k : ℕ) → ((o : ArrayOperation) → Erases before k o → LeavesListed g array filled o) → (os : List ArrayOperation) → Each (Erases before k) os
      → LeftAlone g array filled os
  left_erases filled before k leaves os a =
      left_each (Erases before k) (λ f. (b : ℕ) → f b ≡ filled b)
      (λ f o same e. (
        inr (subst (λ (h : ℕ → Bool). LeavesListed g array h o) (fun_ext (λ b. sym (same b))) (leaves o e)),
        λ b. ap (cond (f b) true) (not_programs 3 (λ z. omega (arith, z)) b o e.kind_is) ∙ or_none (f b) ∙ same b,
      ))
      filled (λ b. refl) os a

  -- at each place of a trace
  pub left_at : (filled : ℕ → Bool) (xs ys : List ArrayOperation) (o : ArrayOperation) → LeftAlone g array filled (xs ++ (o ∷ ys)) → LeftBy g array (since filled xs) o
  unfolding LeftAlone programmed_in
  left_at filled [] ys o a = subst (λ (f : ℕ → Bool). LeftBy g array f o) (fun_ext (λ b. sym (or_none (filled b)))) a.0
  left_at filled (x ∷ xs) ys o a =
      subst (λ (f : ℕ → Bool). LeftBy g array f o) (fun_ext (λ b. or_assoc (filled b) (programs b x) (programmed_in b xs))) (left_at (λ b. cond (filled b) true (programs b x)) xs ys o a.1)

-- a trace that has left listed blocks alone and programmed none, and reads on
pub record Unfilled (g : Geometry) (array : List ℕ) (p : Progress) : Type 0 where
  pub left : LeftAlone g array (λ b. false) p.started
  pub none : (b : ℕ) → programmed_in b p.started ≡ false

pub unfilled-append : (g : Geometry) (array : List ℕ) (p : Progress) → Unfilled g array p → (os : List ArrayOperation) → LeftAlone g array (λ b. false) os → ((b : ℕ) → programmed_in b os ≡ false) → (q : Progress) → q.started ≡ p.started ++ os → Unfilled g array q
unfilled-append g array p x os l n q e =
    record {
      left = subst (LeftAlone g array (λ b. false)) (sym e)
          (left_append g array (λ b. false) p.started os x.left (subst (λ (f : ℕ → Bool). LeftAlone g array f os) (fun_ext (λ b. sym (x.none b))) l));
      none = λ b. ap (programmed_in b) e ∙ programmed-append b p.started os ∙ rw (x.none b) (n b);
    }

pub read_unfilled : (g : Geometry) (array : List ℕ) (s : Setting) (row column n : ℕ) (p : Progress) → Unfilled g array p → Unfilled g array (read_on s row column n p)
unfolding read_on
read_unfilled g array s row column n p x =
    let os = read_starts s p.line row column in
    cases (is_passed p.outcome)
    (λ t. rw t (unfilled-append g array p x os (left_reads g array (λ b. false) os (reads_only s p.line row column)) (λ b. none-programmed 1 (λ e. omega (arith, e)) b os (reads_only s p.line row column)) _ refl))
    (λ t. rw t x)
