-- `c_state::load` meets its contract. Assumes nothing.
use Rattle.c_state.proofs.PieceLaws.{loaded}
use Rattle.c_state.proofs.load.Goals as goal

pub returns : goal.returns
returns c =
    loaded c.args.bytes.now c.number_at.ensures c.number_at-2.ensures c.number_at-3.ensures c.number_at-4.ensures
    c.bits_at.ensures c.bits_at-2.ensures c.read_map.ensures c.kinds_of.ensures
