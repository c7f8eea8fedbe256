-- `parameters::with_bit` meets its contract. Assumes nothing.
use borrow.Author.Tests.{eq-eqb, ne_eqb}
use Rattle.parameters.specs.Crc.{bit_into}
use Rattle.parameters.proofs.with_bit.Goals as goal

pub returns-then-crc-bit : goal.returns-then-crc-bit
unfolding bit_into
returns-then-crc-bit c = search eq-eqb

pub returns-else-crc-bit : goal.returns-else-crc-bit
unfolding bit_into
returns-else-crc-bit c = search ne_eqb
