-- `c_state::write_bits` meets its contract. Assumes nothing.
use Prim.Native.Nat.{◌+◌, ◌-◌}
use native.Mathlib.Omega.{arith}
use Rattle.cells.proofs.PartLaws.{put-lent}
use Rattle.c_state.proofs.write_bits.Goals as goal

pub returns : goal.returns
returns c =
    rw c.copy_from_slice.ensures.after (put-lent c.args.at (c.args.at + 512 - c.args.at) c.args.bits.now c.args.bytes.now (omega arith))
