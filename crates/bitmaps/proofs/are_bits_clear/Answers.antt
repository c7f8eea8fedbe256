-- `bitmaps::are_bits_clear` meets its contract. Assumes nothing.
use Rattle.bitmaps.proofs.BitLaws.{clear_hit, clear_on, clear_over}
use mathlib.Core.Path.{refl, sym, ◌∙◌}
use Rattle.bitmaps.proofs.are_bits_clear.Goals as goal

pub loop-block-init : goal.loop-block-init
loop-block-init c = refl

pub returns-then-is_set : goal.returns-then-is_set
returns-then-is_set c = clear_hit c.args.bits.now c.args.end c.loop-block.block c.loop-block-test.true (sym c.is_set.ensures ∙ c.if-is_set.true) ∙ c.loop-block.invariant

pub loop-block-preserved : goal.loop-block-preserved
loop-block-preserved c = clear_on c.args.bits.now c.args.end c.loop-block.block c.loop-block-test.true (sym c.is_set.ensures ∙ c.if-is_set.false) ∙ c.loop-block.invariant

pub returns : goal.returns
returns c = clear_over c.args.bits.now c.args.end c.loop-block.block c.loop-block-test.false ∙ c.loop-block.invariant
