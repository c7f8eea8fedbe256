-- `chip_interface::fail_bit` meets its contract. Assumes nothing.
use Prim.Native.Nat.{◌/◌}
use lib.Bits.{and_mask}
use Rattle.chip_interface.proofs.fail_bit.Goals as goal

pub returns : goal.returns
returns c = and_mask (c.args.word / 65536) 1
