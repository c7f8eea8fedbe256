-- All refusals of a write that is to be opened, in their order: 1, 7, 15, 2, 3.
use Rattle.std.specs.Prelude.{ℕ, Bool, cond, eqb}
use Rattle.geometry.specs.declared.Geometry.{Geometry}
use Rattle.request_refusals.specs.Refusals.{refusal}
use Rattle.open_write.specs.Open.{OpenState, is_opened}
use Rattle.open_write.specs.Requests.{open_refusal}

unfoldable pub opening_refusal : Geometry → Bool → OpenState → ℕ → ℕ → ℕ → ℕ
opening_refusal g fits x logical page long =
    cond (eqb (open_refusal g fits x (is_opened x)) 0) (refusal g fits x.state logical page long) (open_refusal g fits x (is_opened x))
