-- How a request is answered by the tag of the operation's outcome, and what sizes that go together mean. Assumes nothing.
use Prim.Native.Nat.{ℕ, ◌-◌, ◌≤◌}
use mathlib.Core.Bool.{true, false, cond}
use mathlib.Core.Logic.{◌⊎◌, inl, inr, ⊎_elim}
use mathlib.Core.Path.{◌≡◌, ◌∙◌}
use native.Mathlib.Omega.{arith}
use borrow.Table.Steps.{cases}
use borrow.Author.Tests.{eq-eqb, eqb-true}
use denote.Enum.Declared.{tag_of}
use lib.Dec.{eqb}
use lib.ListN.{length, take, drop, replicate, length-replicate}
use Rattle.geometry.specs.declared.Geometry.{Geometry}
use Rattle.geometry.specs.Sizes.{block_size}
use Rattle.bools.proofs.BoolLaws.{both}
use Rattle.geometry.proofs.LimitLaws.{holds}
use Rattle.cells.proofs.PartLaws.{length_part}
use Rattle.chip_array.specs.Device.{Setting, fitting, Fitting}
use Rattle.chip_array.proofs.DeviceLaws.{fits}
use Rattle.bus_polling.specs.declared.Outcome.{Outcome}
use Rattle.bus_polling.specs.Outcomes.{is_passed, is_silent, is_cut_off, is_read_end}
use Rattle.bus_polling.proofs.OutcomeLaws.{silent_tag, cut_tag, stopped_so}
use Rattle.bus_polling.specs.contracts.Outcome.{the_type}
use Rattle.bus.specs.Line.{Line}
use Rattle.operations.specs.Ends.{Called}
use Rattle.state.specs.State.{blank}
use Rattle.state.specs.declared.State.{State}
use Rattle.request.specs.Call.{sized, sized_for, stop_answer, answer_for, state_for}

abbrev pub answer_by_tag : ℕ → ℕ
answer_by_tag k = cond (eqb k 2) 10 (cond (eqb k 3) 11 255)

pub by_tag : (o : Outcome) → answer_by_tag (tag_of the_type o) ≡ stop_answer o
unfolding stop_answer
by_tag o = rw (silent_tag o, cut_tag o)

-- a request that is not done after resets and reads is silent or cut
pub stop_answer_lem : (o : Outcome) → is_read_end o ≡ true → is_passed o ≡ false → (stop_answer o ≡ 10) ⊎ (stop_answer o ≡ 11)
unfolding stop_answer
stop_answer_lem o r f = ⊎_elim (λ s. inl (rw s)) (λ c. inr (rw (c.0, c.1))) (stopped_so o r f)

pub stop_silent : (o : Outcome) → stop_answer o ≡ 10 → is_silent o ≡ true
unfolding stop_answer
stop_silent o z =
    cases (is_silent o) (λ s. s)
    (λ s. cases (is_cut_off o) (λ c. absurd (omega (arith, rw (s, c) at z))) (λ c. absurd (omega (arith, rw (s, c) at z))))

pub stop_cut : (o : Outcome) → stop_answer o ≡ 11 → is_cut_off o ≡ true
unfolding stop_answer
stop_cut o z =
    cases (is_silent o)
    (λ s. absurd (omega (arith, rw s at z)))
    (λ s. cases (is_cut_off o) (λ c. c) (λ c. absurd (omega (arith, rw (s, c) at z))))

-- an operation that did not pass is answered by 10 or more
pub stop_least : (o : Outcome) → 10 ≤ stop_answer o
unfolding stop_answer
stop_least o =
    cases (is_silent o) (λ s. rw s (omega arith)) (λ s. cases (is_cut_off o) (λ c. rw (s, c) (omega arith)) (λ c. rw (s, c) (omega arith)))

-- no operation is answered by 1
pub answer_least : (o : Outcome) → answer_for o ≡ 1 → ⊥
answer_least o z = cases (is_passed o) (λ t. omega (arith, rw t at z)) (λ f. omega (arith, rw f at z, stop_least o))

pub answer_silent : (o : Outcome) → answer_for o ≡ 10 → is_silent o ≡ true
answer_silent o z = cases (is_passed o) (λ t. absurd (omega (arith, rw t at z))) (λ f. stop_silent o (rw f at z))

pub answer_cut : (o : Outcome) → answer_for o ≡ 11 → is_cut_off o ≡ true
answer_cut o z = cases (is_passed o) (λ t. absurd (omega (arith, rw t at z))) (λ f. stop_cut o (rw f at z))

pub answer_passed : (o : Outcome) → answer_for o ≡ 0 → is_passed o ≡ true
answer_passed o z = cases (is_passed o) (λ t. t) (λ f. absurd (omega (arith, rw f at z, stop_least o)))

pub answer_stopped : (o : Outcome) (st : State) → (answer_for o ≡ 0 → ⊥) → state_for o st ≡ blank 2
answer_stopped o st x = cases (is_passed o) (λ t. absurd (x (rw t))) (λ f. rw f)

-- sizes that go together
pub record Sized (g : Geometry) (a r h m : ℕ) : Type 0 where
  pub chip_fits : Fitting g a r h
  pub mask_long : m ≡ block_size g

pub sizes : (g : Geometry) (a r h m : ℕ) → sized g a r h m ≡ true → Sized g a r h m
unfolding sized
sizes g a r h m t =
    let b = both (fitting g a r h) (eqb m (block_size g)) t in
    record { chip_fits = fits g a r h b.0; mask_long = eqb-true m (block_size g) b.1 }

-- a page buffer that is lent as long as a page
pub lent-page : (n k : ℕ) → n ≤ 4352 → n ≡ k → length (take (n - 0) (drop 0 (replicate {A = ℕ} 4352 0))) ≡ k
lent-page n k h e = length_part 0 (n - 0) (replicate {A = ℕ} 4352 0) (omega (arith, h, length-replicate {A = ℕ} 4352 0)) ∙ omega (arith, e)

-- a chip that takes the next operation has sizes that go together
pub called_sized : (s : Setting) (l : Line) → Called s l → sized_for s l.chip ≡ true
unfolding sized fitting
called_sized s l c =
    rw (holds s.geometry c.is_valid, eq-eqb _ _ c.array_long, eq-eqb _ _ c.register_long, eq-eqb _ _ c.history_long, eq-eqb _ _ c.mask_long)
