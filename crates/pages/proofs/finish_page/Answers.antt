-- `pages::finish_page` meets its contract: its stores, in their order, make the spare bytes. Assumes nothing.
use native.Mathlib.Omega.{arith}
use Rattle.pages.proofs.ByteLaws.{finished}
use Rattle.pages.proofs.finish_page.Goals as goal

pub returns : goal.returns
returns c =
    finished c.args.main c.args.kind c.args.logical c.args.place c.args.number c.zero_bits-check.result c.args.page.now
    c.write_pair.new.bytes c.write_number.new.bytes c.write_pair-2.new.bytes c.fill_ones.new.bytes
    (omega arith) c.requires.kind_value
    c.write_pair.ensures c.write_number.ensures c.zero_bits-check.ensures c.write_pair-2.ensures c.fill_ones.ensures
