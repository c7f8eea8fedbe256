-- `bitmaps::byte_of` meets its contract. Assumes nothing.
use mathlib.Core.Path.{refl}
use Rattle.bitmaps.proofs.byte_of.Goals as goal

pub returns : goal.returns
returns c = refl
