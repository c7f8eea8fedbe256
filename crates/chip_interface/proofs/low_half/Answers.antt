-- `chip_interface::low_half` meets its contract. Assumes nothing.
use lib.Bits.{and_mask}
use Rattle.chip_interface.proofs.low_half.Goals as goal

pub returns : goal.returns
returns c = and_mask c.args.x 16
