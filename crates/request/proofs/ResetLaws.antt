-- The reset with which a call begins: its sizes, its line, and the chip ready for the next operation. Assumes nothing.
use Prim.Native.Nat.{ℕ, ◌≤◌}
use mathlib.Core.Bool.{true, cond, false≢true}
use mathlib.Core.Path.{◌≡◌, refl, sym, ap, subst, ◌∙◌}
use native.Mathlib.Omega.{arith}
use borrow.Table.Steps.{cases}
use borrow.Author.Tests.{ltb-false}
use lib.Dec.{ltb}
use lib.ListN.{length}
use Rattle.chip_array.specs.Device.{Device, Setting}
use Rattle.bus.specs.Line.{Line, send_all}
use Rattle.bus.proofs.LineLaws.{sent_counts}
use Rattle.bus_polling.specs.Outcomes.{is_passed}
use Rattle.bus_polling.specs.Polling.{ended_as}
use Rattle.bus_polling.specs.declared.Outcome.{Outcome}
use Rattle.bus_polling.specs.declared.Outcome.TheVariants.{Passed, Cut}
use Rattle.bus_sequences.specs.Cycles.{reset_cycles}
use Rattle.operations.specs.Ends.{Called, End, end_of_reset, reset_end}
use Rattle.operations.proofs.ResetLaws.{reset_ends, reset_next}
use Rattle.request.specs.Call.{sized_for, call_line}
use Rattle.request.proofs.CallLaws.{sizes}

-- a reset passes only if three cycles are allowed
pub reset_enough : (s : Setting) (d : Device) (n : ℕ) → is_passed (ended_as (send_all s (call_line d n) reset_cycles)) ≡ true → 3 ≤ n
unfolding end_of_reset reset_end is_passed
reset_enough s d n p =
    let ends : ended_as (send_all s (call_line d n) reset_cycles) ≡ cond (ltb n 3) Cut Passed = ap (λ (x : End). x.outcome) (reset_ends s (call_line d n) refl refl) in
    cases (ltb n 3)
    (λ u.
    let cut : ended_as (send_all s (call_line d n) reset_cycles) ≡ Cut = ends ∙ rw u in
    absurd (false≢true (sym (ap is_passed cut) ∙ p)))
    (λ u. ltb-false n 3 u)

module _ (s : Setting) (d : Device) (n : ℕ) (t : sized_for s d ≡ true) (m : Line) (o : Outcome) (e : m ≡ send_all s (call_line d n) reset_cycles) (q : o ≡ ended_as m) where
  pub reset_left : m.left ≤ n
  reset_left = omega (arith, sent_counts s (call_line d n) reset_cycles, ap (λ (x : Line). x.left) e)

  pub reset_outcome : o ≡ ended_as (send_all s (call_line d n) reset_cycles)
  reset_outcome = q ∙ ap ended_as e

  -- it passed: the chip takes the next operation
  pub reset_called : is_passed o ≡ true → Called s m
  reset_called p =
      let z = sizes s.geometry (length d.array) (length d.register) (length d.history) (length s.mask) t in
      subst (Called s) (sym e)
      (reset_next s (call_line d n) refl refl (reset_enough s d n (ap is_passed (sym reset_outcome) ∙ p)) z.chip_fits.is_valid z.chip_fits.array_long z.chip_fits.register_long z.chip_fits.history_long z.mask_long)
