-- `fill_driver::content_of` meets its contract. Assumes nothing.
use mathlib.Core.Path.{refl}
use Rattle.fill_driver.proofs.content_of.Goals as goal

pub returns : goal.returns
returns c = refl
