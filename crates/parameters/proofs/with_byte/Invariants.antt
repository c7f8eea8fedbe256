-- `parameters::with_byte` meets its contract. Assumes nothing.
use mathlib.Core.Path.{◌≡◌}
use Rattle.parameters.specs.Crc.{bits_into, byte_into}
use Rattle.parameters.proofs.with_byte.Given as goal

abbrev pub invariant-loop-place : goal.invariant-loop-place
invariant-loop-place l = bits_into l.place l.register l.byte ≡ byte_into l.crc l.byte
