-- The answers of the call: no others come, each leaves the state that it should, and sizes are told with 0 only. Assumes nothing.
use Prim.Native.Nat.{ℕ, ◌≤◌}
use mathlib.Core.Bool.{true, false}
use mathlib.Core.List.{List}
use mathlib.Core.Logic.{◌⊎◌, ⊎_elim}
use mathlib.Core.Path.{◌≡◌, sym, ap, subst, ◌∙◌}
use native.Mathlib.Omega.{arith}
use borrow.Author.Tests.{eq-eqb, eqb-true}
use borrow.Table.Steps.{cases}
use lib.Dec.{eqb, ltb}
use lib.ListN.{length}
use Rattle.geometry.specs.Limits.{Valid}
use Rattle.chip_interface.specs.Interface.{output_phase}
use Rattle.chip_array.specs.Device.{Device, setting}
use Rattle.bus_polling.specs.Outcomes.{is_passed}
use Rattle.bus_polling.specs.declared.Outcome.TheVariants.{Passed}
use Rattle.parameters.specs.Page.{Told, geometry_of, told}
use Rattle.parameters.specs.declared.Sizes.{Sizes}
use Rattle.parameters.proofs.ToldLaws.{Tells, told_so}
use Rattle.parameters.proofs.ToldLaws.Tells.{tells_sizes, breaks_limit, has_none}
use Rattle.state.specs.State.{blank}
use Rattle.state.specs.declared.State.{State}
use Rattle.request.specs.Call.{result_of}
use Rattle.identify.specs.Identify.{Identified, no_sizes, unknown, identify_run, identify_end, identify_request, identifying}
use Rattle.identify.specs.Ends.{busy_reads, identify_total, IdentifyAnswer}
use Rattle.identify.specs.Ends.IdentifyAnswer.{is_done, is_geometry, is_silent_fact, is_cut, is_untold}
use Rattle.identify.proofs.EndLaws.{run_ends, run_ready, identify_ends}

module _ (mask fates : List ℕ) (d : Device) (n : ℕ) (state : State) (page : List ℕ) (logical : ℕ) where
  abbrev r : Identified
  r = identifying mask fates d n state page logical

  -- one of the four ways that it ends
  pub data Ends : Type 0 where
    unfit : r.returned.answer ≡ 1 → r.returned.state ≡ state → r.sizes ≡ no_sizes → r.returned.chip ≡ d → Ends
    cut : r.returned.answer ≡ 11 → r.returned.state ≡ blank 2 → r.sizes ≡ no_sizes → Ends
    silent : r.returned.answer ≡ 10 → r.returned.state ≡ blank 2 → r.sizes ≡ no_sizes → Ends
    tells : r.returned.answer ≡ (told page logical).answer → r.returned.state ≡ state → r.sizes ≡ (told page logical).sizes → r.returned.chip.interface.phase ≤ output_phase → Ends

  same_chip : eqb (length page) 768 ≡ false → r.returned.chip ≡ d
  unfolding result_of identify_request
  same_chip f = rw f

  ready : length page ≡ 768 → is_passed (identify_run (setting unknown mask fates) d n page).outcome ≡ true → r.returned.chip.interface.phase ≤ output_phase
  unfolding result_of identify_request identify_end
  ready h t = rw (eq-eqb (length page) 768 h, t) (omega (arith, run_ready (setting unknown mask fates) d n page h t))

  pub identify_so : Ends
  unfolding is_passed
  identify_so =
      let e = identify_ends mask fates d n state page logical in
      cases (eqb (length page) 768)
      (λ t. cases (ltb n (identify_total fates))
      (λ u. cut (e.answer_is ∙ rw (t, u)) (e.state_is ∙ rw (t, u)) (e.sizes_are ∙ rw (t, u)))
      (λ u. cases (ltb (busy_reads fates) 256)
      (λ v.
      let h = eqb-true (length page) 768 t in
      let o : (identify_run (setting unknown mask fates) d n page).outcome ≡ Passed = (run_ends (setting unknown mask fates) d n page h).outcome_is ∙ rw (u, v) in
      tells (e.answer_is ∙ rw (t, u, v)) (e.state_is ∙ rw (t, u, v)) (e.sizes_are ∙ rw (t, u, v)) (ready h (ap is_passed o)))
      (λ v. silent (e.answer_is ∙ rw (t, u, v)) (e.state_is ∙ rw (t, u, v)) (e.sizes_are ∙ rw (t, u, v)))))
      (λ f. unfit (e.answer_is ∙ rw f) (e.state_is ∙ rw f) (e.sizes_are ∙ rw f) (same_chip f))

  answer_of_fact : {k j : ℕ} → k ≡ j → IdentifyAnswer j → IdentifyAnswer k
  answer_of_fact e x = subst IdentifyAnswer (sym e) x

  -- no answer but 0, 1, 10, 11 and 12 comes
  pub identify_answers : IdentifyAnswer r.returned.answer
  identify_answers = by_end identify_so
    where
      by_page : Tells logical (told page logical) → IdentifyAnswer (told page logical).answer
      by_page (tells_sizes z v) = answer_of_fact z is_done
      by_page (breaks_limit e) = answer_of_fact (ap (λ (t : Told). t.answer) e) is_geometry
      by_page (has_none e) = answer_of_fact (ap (λ (t : Told). t.answer) e) is_untold

      by_end : Ends → IdentifyAnswer r.returned.answer
      by_end (unfit a s z c) = answer_of_fact a is_geometry
      by_end (cut a s z) = answer_of_fact a is_cut
      by_end (silent a s z) = answer_of_fact a is_silent_fact
      by_end (tells a s z p) = answer_of_fact a (by_page (told_so page logical))

  -- what it tells with 0 lies within the limits, and every refusal has four zeros
  pub identify_valid : r.returned.answer ≡ 0 → Valid (geometry_of r.sizes logical)
  identify_valid = by_end identify_so
    where
      by_page : Tells logical (told page logical) → (told page logical).answer ≡ 0 → Valid (geometry_of (told page logical).sizes logical)
      by_page (tells_sizes z v) y = v
      by_page (breaks_limit e) y = absurd (omega (arith, y, ap (λ (t : Told). t.answer) e))
      by_page (has_none e) y = absurd (omega (arith, y, ap (λ (t : Told). t.answer) e))

      by_end : Ends → r.returned.answer ≡ 0 → Valid (geometry_of r.sizes logical)
      by_end (unfit a s z c) y = absurd (omega (arith, y, a))
      by_end (cut a s z) y = absurd (omega (arith, y, a))
      by_end (silent a s z) y = absurd (omega (arith, y, a))
      by_end (tells a s z p) y =
          subst (λ (x : Sizes). Valid (geometry_of x logical)) (sym z) (by_page (told_so page logical) (sym a ∙ y))

  pub identify_zeros : (r.returned.answer ≡ 0 → ⊥) → r.sizes ≡ no_sizes
  identify_zeros = by_end identify_so
    where
      by_page : Tells logical (told page logical) → ((told page logical).answer ≡ 0 → ⊥) → (told page logical).sizes ≡ no_sizes
      by_page (tells_sizes z v) y = absurd (y z)
      by_page (breaks_limit e) y = ap (λ (t : Told). t.sizes) e
      by_page (has_none e) y = ap (λ (t : Told). t.sizes) e

      by_end : Ends → (r.returned.answer ≡ 0 → ⊥) → r.sizes ≡ no_sizes
      by_end (unfit a s z c) y = z
      by_end (cut a s z) y = z
      by_end (silent a s z) y = z
      by_end (tells a s z p) y = z ∙ by_page (told_so page logical) (λ x. y (a ∙ x))

  -- 10 and 11 stop the state, and nothing else changes it
  told_below : ((told page logical).answer ≡ 10 → ⊥) × ((told page logical).answer ≡ 11 → ⊥)
  told_below = by_page (told_so page logical)
    where
      by_page : Tells logical (told page logical) → ((told page logical).answer ≡ 10 → ⊥) × ((told page logical).answer ≡ 11 → ⊥)
      by_page (tells_sizes z v) = (λ y. omega (arith, y, z), λ y. omega (arith, y, z))
      by_page (breaks_limit e) =
          let z = ap (λ (t : Told). t.answer) e in
          (λ y. omega (arith, y, z), λ y. omega (arith, y, z))
      by_page (has_none e) =
          let z = ap (λ (t : Told). t.answer) e in
          (λ y. omega (arith, y, z), λ y. omega (arith, y, z))

  pub identify_stops : (r.returned.answer ≡ 10) ⊎ (r.returned.answer ≡ 11) → r.returned.state ≡ blank 2
  identify_stops = by_end identify_so
    where
      by_end : Ends → (r.returned.answer ≡ 10) ⊎ (r.returned.answer ≡ 11) → r.returned.state ≡ blank 2
      by_end (unfit a s z c) y = absurd (⊎_elim (λ x. omega (arith, a, x)) (λ x. omega (arith, a, x)) y)
      by_end (cut a s z) y = s
      by_end (silent a s z) y = s
      by_end (tells a s z p) y = absurd (⊎_elim (λ x. told_below.0 (sym a ∙ x)) (λ x. told_below.1 (sym a ∙ x)) y)

  pub identify_keeps : (r.returned.answer ≡ 10 → ⊥) → (r.returned.answer ≡ 11 → ⊥) → r.returned.state ≡ state
  identify_keeps x y = by_end identify_so
    where
      by_end : Ends → r.returned.state ≡ state
      by_end (unfit a s z c) = s
      by_end (cut a s z) = absurd (y a)
      by_end (silent a s z) = absurd (x a)
      by_end (tells a s z p) = s
