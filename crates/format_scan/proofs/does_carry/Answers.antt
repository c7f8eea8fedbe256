-- `format_scan::does_carry` meets its contract. Assumes nothing.
use mathlib.Core.Path.{◌≡◌}
use native.Mathlib.Omega.{arith}
use lib.ListN.{length}
use borrow.Author.Rules.{rules}
use Rattle.std.proofs.lemmas.Grind.{common_steps}
use Rattle.format_scan.specs.Survey.{carries}
use Rattle.format_scan.proofs.does_carry.Goals as goal

pub returns-then-not-found : goal.returns-then-not-found
unfolding carries
returns-then-not-found c = grind (arith, common_steps)

pub returns-then-right-eq0 : goal.returns-then-right-eq0
unfolding carries
returns-then-right-eq0 c = grind (arith, common_steps)

pub is_never_both-requires : goal.is_never_both-requires
is_never_both-requires c =
    let h : length c.args.found.marked ≡ 512 = search rules in
    let k : length c.args.found.bits ≡ 512 = search rules in record { blocks_bound = omega (arith, h, c.requires.valid.blocks_most); blocks_bound_2 = omega (arith, k, c.requires.valid.blocks_most) }

pub returns-then-not-is_never_both : goal.returns-then-not-is_never_both
unfolding carries
returns-then-not-is_never_both c = grind (arith, common_steps)

pub is_set-requires : goal.is_set-requires
is_set-requires c =
    let k : length c.args.found.bits ≡ 512 = search rules in
    omega (arith, k, c.requires.table_bound)

pub returns-then-is_set : goal.returns-then-is_set
unfolding carries
returns-then-is_set c = grind (arith, common_steps)

pub returns : goal.returns
unfolding carries
returns c = grind (arith, common_steps)
