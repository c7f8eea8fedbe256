-- `c_buffers::interface_of` meets its contract. Assumes nothing.
use Rattle.c_buffers.specs.Buffers.{interface_of}
use mathlib.Core.Path.{refl}
use Rattle.c_buffers.proofs.interface_of.Goals as goal

pub returns : goal.returns
unfolding interface_of
returns c = refl
