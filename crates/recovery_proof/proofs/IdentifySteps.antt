-- The chip asked for its size after a list, with a write open or not: the invariant is kept, no operation is started, and the array stays. Assumes
-- nothing.
use Prim.Native.Nat.{ℕ, ◌≤◌}
use mathlib.Core.Bool.{Bool, true, false}
use mathlib.Core.List.{List, []}
use mathlib.Core.Path.{◌≡◌, refl, sym, ap, subst, ◌∙◌}
use native.Mathlib.Omega.{arith}
use Rattle.geometry.specs.declared.Geometry.{Geometry}
use Rattle.chip_interface.specs.Interface.{output_phase}
use Rattle.chip_array.specs.Device.{Device, lengths_fit}
use Rattle.chip_laws.proofs.LengthLaws.{lengths_fit_lem}
use Rattle.state.specs.State.{blank}
use Rattle.request.specs.Call.{Performed, result_of, sent_in, started_in}
use Rattle.identify.specs.Identify.{Identified, identify_request}
use Rattle.identify.proofs.EndLaws.{identify_ends}
use Rattle.identify.proofs.SentLaws.{identify_sent, identify_starts}
use Rattle.identify.proofs.AnswerLaws.{Ends, identify_so, identify_keeps}
use Rattle.identify.proofs.AnswerLaws.Ends.{unfit, cut, silent, tells}
use Rattle.parameters.specs.Page.{Told, told}
use Rattle.parameters.proofs.ToldLaws.{Tells, told_so}
use Rattle.parameters.proofs.ToldLaws.Tells.{tells_sizes, breaks_limit, has_none}
use Rattle.open_write.specs.Open.{mounted_open}
use Rattle.open_write.specs.Requests.{stops, open_identify_request}
use Rattle.recovery.specs.Calls.{Lent, to_identify, Store, store, state_of, answer_of, trace_of, failed_after, failed_next, step, chip_of}
use Rattle.recovery.specs.Book.{fed}
use Rattle.recovery.specs.Recovery.{Spared}
use Rattle.recovery_proof.specs.Invariant.{Inv}
use Rattle.recovery_proof.proofs.InvariantLaws.{stopped_inv, failed_none, found_inv, left_with, left_state, left_kept}
use Rattle.recovery_proof.proofs.OpenLaws.{stops-small, kept_inv}

-- what the parameter page tells stops nothing
told_goes : (page : List ℕ) (logical : ℕ) → stops (told page logical).answer ≡ false
unfolding stops
told_goes page logical = by_page (told_so page logical)
  where
    by_page : Tells logical (told page logical) → stops (told page logical).answer ≡ false
    by_page (tells_sizes z v) = ap stops z
    by_page (breaks_limit e) = ap (λ (t : Told). stops t.answer) e
    by_page (has_none e) = ap (λ (t : Told). stops t.answer) e

module _ (g : Geometry) (y : Store) (a : Lent) (parameters : List ℕ) (logical : ℕ) where
  -- the call, on the base state
  abbrev base : Performed Identified
  base = identify_request a.mask a.fates (chip_of a y.chip) a.allowed y.state parameters logical

  abbrev q : Identified
  q = result_of base

  -- what it leaves
  abbrev lifted : Bool → Store
  lifted b = left_with b y q.returned.state q.returned.chip y.account (failed_after y.failed (started_in base))

  lifted_is : step g (to_identify a parameters logical) y ≡ lifted (stops q.returned.answer)
  unfolding result_of sent_in started_in step open_identify_request fed failed_next
  lifted_is = refl

  identify_array : q.returned.chip.array ≡ y.chip.array
  identify_array =
      (identify_ends a.mask a.fates (chip_of a y.chip) a.allowed y.state parameters logical).same_array

  pub array_kept : (step g (to_identify a parameters logical) y).chip.array ≡ y.chip.array
  array_kept = ap (λ (z : Store). z.chip.array) lifted_is ∙ identify_array

  still_fits : lengths_fit g q.returned.chip ≡ lengths_fit g (chip_of a y.chip)
  still_fits =
      lengths_fit_lem g (identify_sent a.mask a.fates (chip_of a y.chip) a.allowed y.state parameters logical).same_lengths

  none_started : started_in base ≡ []
  none_started = identify_starts a.mask a.fates (chip_of a y.chip) a.allowed y.state parameters logical

  pub trace_none : trace_of g (to_identify a parameters logical) y ≡ []
  unfolding started_in open_identify_request
  trace_none = none_started

  failed_kept : failed_after y.failed (started_in base) ≡ y.failed
  failed_kept = ap (failed_after y.failed) none_started ∙ failed_none y.failed

  -- the state stays, and what is open on it
  stays : stops q.returned.answer ≡ false → q.returned.state ≡ y.state → lifted (stops q.returned.answer) ≡ store (state_of y) q.returned.chip y.account y.marked y.failed
  stays e s = ap lifted e ∙ (λ k. left_with false y (s k) q.returned.chip y.account (failed_kept k))

  module _ (i : Inv g y) where
    -- it leaves everything, stops the state, or leaves it with the chip ready for a command
    refused : stops q.returned.answer ≡ false → q.returned.state ≡ y.state → q.returned.chip ≡ chip_of a y.chip → Inv g (lifted (stops q.returned.answer))
    refused e s c =
        subst (Inv g) (sym (stays e s ∙ ap (λ (d : Device). store (state_of y) d y.account y.marked y.failed) c)) (found_inv g a y i)

    stopped : (b : Bool) → q.returned.state ≡ blank 2 → Inv g (lifted b)
    stopped b s =
        let f = failed_after y.failed (started_in base) in
        stopped_inv g y i (lifted b) (still_fits ∙ i.fits) (left_kept y q.returned.state q.returned.chip y.account f b ∙ i.kept) identify_array refl refl
        (left_state y q.returned.state q.returned.chip y.account f b ∙ s)

    leaves : stops q.returned.answer ≡ false → q.returned.state ≡ y.state → q.returned.chip.interface.phase ≤ output_phase → Inv g (lifted (stops q.returned.answer))
    leaves e s p =
        subst (Inv g) (sym (stays e s))
        (kept_inv g y i q.returned.chip (still_fits ∙ i.fits) identify_array (identify_ends a.mask a.fates (chip_of a y.chip) a.allowed y.state parameters logical).same_history p)

    pub identify_step : Inv g (step g (to_identify a parameters logical) y)
    identify_step = subst (Inv g) (sym lifted_is) (by_end (identify_so a.mask a.fates (chip_of a y.chip) a.allowed y.state parameters logical))
      where
        by_end : Ends a.mask a.fates (chip_of a y.chip) a.allowed y.state parameters logical → Inv g (lifted (stops q.returned.answer))
        by_end (unfit n s z c) = refused (ap stops n ∙ stops-small 1 (omega arith)) s c
        by_end (cut n s z) = stopped (stops q.returned.answer) s
        by_end (silent n s z) = stopped (stops q.returned.answer) s
        by_end (tells n s z p) = leaves (ap stops n ∙ told_goes parameters logical) s p

  pub identify_spared : Spared g y.marked y.failed (trace_of g (to_identify a parameters logical) y)
  unfolding Spared
  identify_spared = subst (Spared g y.marked y.failed) (sym trace_none) tt

  -- answered 0 it leaves a mounted state mounted
  pub identify_mounted : mounted_open g (state_of y) ≡ true → answer_of g (to_identify a parameters logical) y ≡ 0 → mounted_open g (state_of (step g (to_identify a parameters logical) y)) ≡ true
  unfolding result_of open_identify_request
  identify_mounted m z =
      ap (λ (x : Store). mounted_open g (state_of x))
      (lifted_is
      ∙ stays (ap stops z ∙ stops-small 0 (omega arith)) (identify_keeps a.mask a.fates (chip_of a y.chip) a.allowed y.state parameters logical (λ e. omega (arith, e, z)) (λ e. omega (arith, e, z))))
      ∙ m
