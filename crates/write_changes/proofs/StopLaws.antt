-- Data fills of a request that has stopped before the first of them: nothing more is sent. Assumes nothing.
use Prim.Native.Nat.{ℕ, ◌<◌}
use mathlib.Core.Bool.{Bool, false, false≢true}
use mathlib.Core.List.{List}
use mathlib.Core.Path.{◌≡◌, refl, sym, ap, ◌∙◌}
use native.Mathlib.Nat.{add-zero}
use native.Mathlib.Omega.{arith}
use Rattle.chip_array.specs.Device.{Setting}
use Rattle.bus_polling.specs.Outcomes.{is_passed, is_failed}
use Rattle.pages.specs.Layout.{data_kind}
use Rattle.state.specs.State.{next_number, numbers_left}
use Rattle.state.specs.declared.State.{State}
use Rattle.request.proofs.CallLaws.{stop_least}
use Rattle.progress.specs.Progress.{Progress}
use Rattle.progress.specs.Steps.{erase_on}
use Rattle.progress.proofs.StepLaws.{erase_stopped}
use Rattle.fill.specs.Fill.{copy, pages_filled}
use Rattle.fill.proofs.FillLaws.{fill_stopped}
use Rattle.write_changes.specs.Changes.{Update, update_source, Copied, copy_filled, copies_filled}
use Rattle.write_changes.proofs.LoopLaws.{Copying, copies_end}

module _ (s : Setting) (held : List ℕ) (u : Update) (p₀ : Progress) (unpassed : is_passed p₀.outcome ≡ false) (unfailed : is_failed p₀.outcome ≡ false) where
  fill_same : (st : State) (b : ℕ) → copy_filled s u st b p₀ ≡ p₀
  unfolding pages_filled
  fill_same st b =
      let erased = erase_stopped s b p₀ unpassed in
      let c = copy data_kind u.logical (next_number st) in
      let pages = update_source s.geometry st u in
      ap (λ (k : ℕ). pages_filled s b c pages k (erase_on s b p₀)) (sym (add-zero s.geometry.pages))
      ∙ fill_stopped s b c pages 0 (erase_on s b p₀) (ap (λ (p : Progress). is_passed p.outcome) erased ∙ unpassed) s.geometry.pages
      ∙ erased

  abbrev Before : State → Bool → Progress → Type 0
  Before st f p = (st.last < s.geometry.blocks) × (p ≡ p₀)

  abbrev Ends : Copied → Type 0
  Ends c = (c.progress ≡ p₀) × (c.answer ≡ 0 → ⊥)

  filled_same : (st : State) (b : ℕ) (p : Progress) → p ≡ p₀ → copy_filled s u st b p ≡ p₀
  filled_same st b p e = ap (copy_filled s u st b) e ∙ fill_same st b

  stopping : Copying s held u Before Ends
  stopping =
      record {
        last_below = λ st f p x. x.0;
        spent = λ st f p x h. (x.1, λ z. omega (arith, z));
        worn = λ st f p x h none. (x.1, λ z. omega (arith, z));
        passed = λ st f p x h b below may y. absurd (false≢true (sym (ap (λ (q : Progress). is_passed q.outcome) (filled_same st b p x.1) ∙ unpassed) ∙ y));
        failed = λ st f p x h b below may y. absurd (false≢true (sym (ap (λ (q : Progress). is_failed q.outcome) (filled_same st b p x.1) ∙ unfailed) ∙ y));
        stopped = λ st f p x h b below may y w. (filled_same st b p x.1, λ z. omega (arith, z, stop_least (copy_filled s u st b p).outcome));
      }

  pub copies_stopped : (st : State) → st.last < s.geometry.blocks → Ends (copies_filled s held u (numbers_left st) false st p₀)
  copies_stopped st below = copies_end s held u Before Ends stopping (numbers_left st) st false p₀ (below, refl) refl
