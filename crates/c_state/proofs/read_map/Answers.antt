-- `c_state::read_map` meets its contract. Assumes nothing.
use Prim.Native.Nat.{◌+◌, ◌*◌, ◌<◌}
use native.Mathlib.Omega.{arith}
use Rattle.pages.proofs.ByteLaws.{pair_lt}
use Rattle.c_state.proofs.PieceLaws.{loaded_none, loaded_more, loaded_all}
use Rattle.c_state.proofs.read_map.Goals as goal

pub loop-l-init : goal.loop-l-init
loop-l-init c = loaded_none _ _

pub overflow_cast-map : goal.overflow_cast-map
overflow_cast-map c =
    let at = 1056 + 2 * c.loop-l.l in
    let less : c.pair_at.result < 65536 =
    rw c.pair_at.ensures (pair_lt at c.args.bytes.now (omega arith) (omega (arith, c.type_inv.bytes at)) (omega (arith, c.type_inv.bytes (at + 1)))) in
    omega (arith, less)

pub loop-l-preserved : goal.loop-l-preserved
loop-l-preserved c = loaded_more c.pair_at.result c.loop-l.invariant c.loop-l-test.true c.requires.map_len c.pair_at.ensures

pub returns : goal.returns
returns c = loaded_all c.loop-l.invariant (omega arith) c.requires.map_len
