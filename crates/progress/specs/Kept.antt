-- Properties of requests on their way that every operation keeps: such a property is kept by every request.
use Rattle.std.specs.Prelude.{ℕ, true, List, ◌≡◌}
use Rattle.chip_array.specs.Device.{Setting}
use Rattle.bus_polling.specs.Outcomes.{is_failed}
use Rattle.progress.specs.Progress.{Progress, read_on, reset_on}
use Rattle.progress.specs.Steps.{erase_on, program_on, resumed}

pub record Kept (s : Setting) (P : Progress → Type 0) : Type 0 where
  pub reset : (p : Progress) → P p → P (reset_on s p)
  pub read : (row column n : ℕ) (p : Progress) → P p → P (read_on s row column n p)
  pub erase : (block : ℕ) (p : Progress) → P p → P (erase_on s block p)
  pub program : (block page : ℕ) (bytes : List ℕ) (p : Progress) → P p → P (program_on s block page bytes p)
  pub resume : (p : Progress) → is_failed p.outcome ≡ true → P p → P (resumed p)
