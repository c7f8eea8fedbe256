-- `c_state::store` meets its contract. Assumes nothing.
use mathlib.Core.Path.{◌≡◌}
use lib.ListN.{length}
use Rattle.c_state.proofs.PieceLaws.{stored}
use borrow.Author.Rules.{rules}
use Rattle.c_state.proofs.store.Goals as goal

pub returns : goal.returns
returns c =
    let marked_long : length c.args.state.marked ≡ 512 = search rules in
    let invalid_long : length c.args.state.invalid ≡ 512 = search rules in
    let map_long : length c.args.state.map ≡ 4096 = search rules in
    stored c.args.state c.args.bytes.now
    c.write_number.new.bytes c.write_number-2.new.bytes c.write_number-3.new.bytes c.write_number-4.new.bytes
    c.write_bitmaps.new.bytes c.write_map.new.bytes
    c.requires (marked_long) (invalid_long) (map_long)
    c.write_number.ensures c.write_number-2.ensures c.write_number-3.ensures c.write_number-4.ensures
    c.write_bitmaps.ensures c.write_map.ensures
