-- `bus::Bus::spend` meets its contract. Assumes nothing.
use mathlib.Core.Path.{refl}
use Rattle.bus.proofs.Bus.spend.Goals as goal

pub returns : goal.returns
returns c = refl
