-- `bus_polling::is_writable` meets its contract: bit 7 is the remainder of the hundred and twenty-eighth part by 2. Assumes nothing.
use Prim.Native.Nat.{ℕ}
use mathlib.Core.Bool.{not}
use mathlib.Core.Path.{ap, ◌∙◌}
use lib.Dec.{eqb}
use lib.Bits.{and_high}
use Rattle.bus_polling.proofs.PollLaws.{writable-bit}
use Rattle.bus_polling.proofs.is_writable.Goals as goal

pub returns : goal.returns
returns c = ap (λ (x : ℕ). not (eqb x 0)) (and_high c.args.status 1 7) ∙ writable-bit c.args.status
