-- `geometry::low_byte` meets its contract. Assumes nothing.
use lib.Bits.{and_mask, mask_lt}
use Rattle.geometry.proofs.low_byte.Goals as goal

pub overflow_cast-result : goal.overflow_cast-result
overflow_cast-result c = record { fits = mask_lt c.args.address 8 }

pub returns : goal.returns
returns c = and_mask c.args.address 8
