-- Where a fill stops. Assumes nothing.
use Prim.Native.Nat.{ℕ, zero, suc, ◌+◌, ◌-◌}
use mathlib.Core.Bool.{false}
use mathlib.Core.Path.{◌≡◌, ap, ◌∙◌}
use native.Mathlib.Nat.{zero-add}
use native.Mathlib.Omega.{arith}
use Rattle.chip_array.specs.Device.{Setting}
use Rattle.bus_polling.specs.Outcomes.{is_passed}
use Rattle.progress.specs.Progress.{Progress}
use Rattle.fill.specs.Fill.{Copy, Source, main_read, page_filled, pages_filled, filled}
use Rattle.fill.proofs.MainLaws.{main_stopped}
use Rattle.progress.proofs.StepLaws.{program_stopped}

-- once a page has not passed no further one is filled
pub page-stopped : (s : Setting) (block : ℕ) (c : Copy) (n : ℕ) (source : Source) (p : Progress) → is_passed p.outcome ≡ false → page_filled s block c n source p ≡ p
unfolding page_filled
page-stopped s block c n source p f =
    let read = main_stopped s n source p f in
    program_stopped s block n _ (main_read s n source p) (ap (λ (x : Progress). is_passed x.outcome) read ∙ f) ∙ read

pub fill_stopped : (s : Setting) (block : ℕ) (c : Copy) (source : ℕ → Source) (n : ℕ) (p : Progress) → is_passed (pages_filled s block c source n p).outcome ≡ false → (k : ℕ) → pages_filled s block c source (k + n) p ≡ pages_filled s block c source n p
unfolding pages_filled
fill_stopped s block c source n p f zero = ap (λ (x : ℕ). pages_filled s block c source x p) (zero-add n)
fill_stopped s block c source n p f (suc k) =
    let less = fill_stopped s block c source n p f k in
    let e : suc k + n ≡ suc (k + n) = omega arith in
    ap (λ (x : ℕ). pages_filled s block c source x p) e
    ∙ page-stopped s block c (k + n) (source (k + n)) (pages_filled s block c source (k + n) p) (ap (λ (x : Progress). is_passed x.outcome) less ∙ f)
    ∙ less
