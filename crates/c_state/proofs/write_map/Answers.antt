-- `c_state::write_map` meets its contract. Assumes nothing.
use native.Mathlib.Omega.{arith}
use Rattle.c_state.proofs.PieceLaws.{stored-none, stored_more, stored-all}
use Rattle.c_state.proofs.write_map.Goals as goal

pub loop-l-init : goal.loop-l-init
loop-l-init c = stored-none _ _

pub loop-l-preserved : goal.loop-l-preserved
loop-l-preserved c =
    stored_more c.from.result c.write_pair.new.bytes c.loop-l.invariant (omega arith) c.requires.map_len (omega (arith, c.requires.bytes_len))
    c.from.ensures c.write_pair.auto.bytes c.write_pair.ensures

pub returns : goal.returns
returns c = stored-all c.loop-l.invariant (omega arith) c.requires.map_len
