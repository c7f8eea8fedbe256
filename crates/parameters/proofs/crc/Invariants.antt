-- `parameters::crc` meets its contract. Assumes nothing.
use mathlib.Core.Path.{◌≡◌}
use lib.ListN.{drop}
use Rattle.parameters.specs.Crc.{bytes_into, integrity}
use Rattle.parameters.proofs.crc.Given as goal

abbrev pub invariant-loop-byte : goal.invariant-loop-byte
invariant-loop-byte l = bytes_into l.register (drop l.byte-index l.bytes) ≡ integrity l.bytes
