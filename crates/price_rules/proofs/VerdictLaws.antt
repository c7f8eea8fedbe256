-- What the refusal of a selection means. Assumes nothing.
use Prim.Native.Nat.{ℕ}
use mathlib.Core.Bool.{false}
use mathlib.Core.List.{List}
use mathlib.Core.Logic.{◌⊎◌, inl, inr, ⊎_elim}
use mathlib.Core.Path.{◌≡◌, sym}
use native.Mathlib.Omega.{arith}
use borrow.Table.Steps.{cases}
use lib.ListN.{length}
use Rattle.bools.proofs.BoolLaws.{clash}
use Rattle.price_rules.specs.Rules.{any_faulted}
use Rattle.price_rules.specs.Faults.{refusal_at}
use Rattle.price_rules.specs.Meaning.{Gap, Two, Wrong, Clear}
use Rattle.price_rules.proofs.RuleLaws.{refused_wrong, refused_overlap, refused_gap, refused_not}
use Rattle.price_rules.proofs.CountLaws.{Counted, none, one, two, counted, wrong_found, found_wrong, gap_of, one_of, two_of, one_not_two, gap_not_one, gap_not_two}

module _ (first last : List ℕ) (s : ℕ) where
  pub data Verdict : Type 0 where
    clear : refusal_at first last s ≡ 0 → Clear first last s → Verdict
    gap : refusal_at first last s ≡ 17 → Gap first last s → (Wrong first last s → ⊥) → Verdict
    in_dispute : refusal_at first last s ≡ 18 → Two first last s ⊎ Wrong first last s → Verdict

  by_count : any_faulted first last s (length first) ≡ false → Counted first last s (length first) → Verdict
  by_count h (none e f) = gap (sym (refused_gap first last s h e)) (gap_of first last s f) (λ w. clash (found_wrong first last s w) h)
  by_count h (one e x) =
      clear (sym (refused_not first last s h e)) (record { one = one_of first last s x; none_wrong = λ w. clash (found_wrong first last s w) h })
  by_count h (two e x) = in_dispute (sym (refused_overlap first last s h e)) (inl (two_of first last s x))

  pub verdict : Verdict
  verdict =
      cases (any_faulted first last s (length first))
      (λ t. in_dispute (sym (refused_wrong first last s t)) (inr (wrong_found first last s t)))
      (λ t. by_count t (counted first last s (length first)))

  clear_from_fact : Clear first last s → Verdict → refusal_at first last s ≡ 0
  clear_from_fact c (clear e x) = e
  clear_from_fact c (gap e g w) = absurd (gap_not_one first last s g c.one)
  clear_from_fact c (in_dispute e y) = absurd (⊎_elim (one_not_two first last s c.one) c.none_wrong y)

  pub clear_so : Clear first last s → refusal_at first last s ≡ 0
  clear_so c = clear_from_fact c verdict

  gap_from : Gap first last s → (Wrong first last s → ⊥) → Verdict → refusal_at first last s ≡ 17
  gap_from g w (clear e x) = absurd (gap_not_one first last s g x.one)
  gap_from g w (gap e h v) = e
  gap_from g w (in_dispute e y) = absurd (⊎_elim (gap_not_two first last s g) w y)

  pub gap_so : Gap first last s → (Wrong first last s → ⊥) → refusal_at first last s ≡ 17
  gap_so g w = gap_from g w verdict

  disputed_from : Two first last s ⊎ Wrong first last s → Verdict → refusal_at first last s ≡ 18
  disputed_from y (clear e x) = absurd (⊎_elim (one_not_two first last s x.one) x.none_wrong y)
  disputed_from y (gap e g w) = absurd (⊎_elim (gap_not_two first last s g) w y)
  disputed_from y (in_dispute e x) = e

  pub disputed_so : Two first last s ⊎ Wrong first last s → refusal_at first last s ≡ 18
  disputed_so y = disputed_from y verdict

  so_clear_from : refusal_at first last s ≡ 0 → Verdict → Clear first last s
  so_clear_from h (clear e x) = x
  so_clear_from h (gap e g w) = absurd (omega (arith, h, e))
  so_clear_from h (in_dispute e y) = absurd (omega (arith, h, e))

  pub so_clear : refusal_at first last s ≡ 0 → Clear first last s
  so_clear h = so_clear_from h verdict
