-- `format_scan::passed_over` meets its contract. Assumes nothing.
use mathlib.Core.Path.{◌≡◌, sym, ap, ◌∙◌}
use native.Mathlib.Omega.{arith}
use borrow.Author.Rules.{rules}
use lib.ListN.{length}
use Rattle.format_scan.proofs.UnionLaws.{union_long, over_table, over_none}
use Rattle.format_scan.proofs.passed_over.Goals as goal

pub add_bits-requires : goal.add_bits-requires
add_bits-requires c =
    let long : length c.args.survey.marked ≡ 512 = search rules in record { blocks_bound = omega (arith, c.requires.blocks_most); bits_len = long }

pub slice_bounds-set_bit-end : goal.slice_bounds-set_bit-end
slice_bounds-set_bit-end c =
    let long : length c.args.survey.marked ≡ 512 = search rules in
    sym (ap length c.add_bits.ensures ∙ union_long c.args.survey.marked c.args.survey.carried c.args.g.blocks ∙ long)

pub set_bit-requires : goal.set_bit-requires
set_bit-requires c =
    let long : length c.args.survey.marked ≡ 512 = search rules in
    omega (arith, c.if-old-lt4096.true, ap length c.add_bits.ensures, union_long c.args.survey.marked c.args.survey.carried c.args.g.blocks, long)

pub returns-then-old-lt4096 : goal.returns-then-old-lt4096
returns-then-old-lt4096 c =
    over_table c.args.g c.args.survey c.if-old-lt4096.true _ _ c.add_bits.ensures c.set_bit.ensures

pub returns-else-old-lt4096 : goal.returns-else-old-lt4096
returns-else-old-lt4096 c =
    over_none c.args.g c.args.survey c.if-old-lt4096.false _ c.add_bits.ensures
