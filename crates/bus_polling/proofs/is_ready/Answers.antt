-- `bus_polling::is_ready` meets its contract: bit 6 is the remainder of the sixty-fourth part by 2. Assumes nothing.
use Prim.Native.Nat.{ℕ}
use mathlib.Core.Bool.{not}
use mathlib.Core.Path.{ap, ◌∙◌}
use lib.Dec.{eqb}
use lib.Bits.{and_high}
use Rattle.bus_polling.proofs.PollLaws.{ready-bit}
use Rattle.bus_polling.proofs.is_ready.Goals as goal

pub returns : goal.returns
returns c = ap (λ (x : ℕ). not (eqb x 0)) (and_high c.args.status 1 6) ∙ ready-bit c.args.status
