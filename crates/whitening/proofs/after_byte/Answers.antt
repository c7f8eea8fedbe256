-- `whitening::after_byte` meets its contract. Assumes nothing.
use Prim.Native.Nat.{◌/◌, ◌%◌}
use mathlib.Core.Path.{sym}
use native.Mathlib.Omega.{arith}
use lib.Bits.{xor_lt}
use Rattle.whitening.proofs.StreamLaws.{byte_stepped, stepped-small}
use Rattle.whitening.proofs.after_byte.Goals as goal

pub overflow_add-result : goal.overflow_add-result
overflow_add-result c =
    omega (arith, xor_lt 8 (c.args.register / 128) (c.args.register / 64 % 256) (omega arith) (omega arith))

pub returns : goal.returns
returns c =
    (sym (byte_stepped c.args.register (omega arith)), omega (arith, byte_stepped c.args.register (omega arith), stepped-small 8 c.args.register (omega arith)))
