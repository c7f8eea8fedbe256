-- `dearest::dearest_write` meets its contract. Assumes nothing.
use mathlib.Core.Path.{sym, ap₂, ◌∙◌}
use native.Mathlib.Omega.{arith}
use Rattle.geometry.proofs.LimitLaws.{limits}
use Rattle.dearest.specs.Dearest.{told}
use Rattle.dearest.proofs.ToldLaws.{told_geometry, told_many, told_length, told_done}
use Rattle.dearest.proofs.dearest_write.Goals as goal

pub returns-then-not-is_valid : goal.returns-then-not-is_valid
returns-then-not-is_valid c =
    told_geometry c.args.g c.args.failed c.args.fates.now (sym c.is_valid.ensures ∙ c.if-not-is_valid.true)

pub overflow_sub-g : goal.overflow_sub-g
overflow_sub-g c =
    let v = limits c.args.g (sym c.is_valid.ensures ∙ c.if-not-is_valid.false) in
    omega (arith, v.blocks_least)

pub returns-then-g-failed : goal.returns-then-g-failed
returns-then-g-failed c =
    told_many c.args.g c.args.failed c.args.fates.now (sym c.is_valid.ensures ∙ c.if-not-is_valid.false) c.if-g-failed.true

pub invariant_of-bearable : goal.invariant_of-bearable
invariant_of-bearable c = record { within = limits c.args.g (sym c.is_valid.ensures ∙ c.if-not-is_valid.false); few = c.if-g-failed.false }

pub returns-then-fates-word_count : goal.returns-then-fates-word_count
returns-then-fates-word_count c =
    told_length c.args.g c.args.failed c.args.fates.now (sym c.is_valid.ensures ∙ c.if-not-is_valid.false) c.if-g-failed.false
    (λ e. c.if-fates-word_count.true (e ∙ sym c.word_count.ensures))

pub write_words-requires : goal.write_words-requires
write_words-requires c = c.if-fates-word_count.false ∙ c.word_count.ensures

pub returns : goal.returns
returns c =
    let t = sym c.is_valid.ensures ∙ c.if-not-is_valid.false in
    ap₂ (told 0) c.cycle_count.ensures c.write_words.ensures
    ∙ told_done c.args.g c.args.failed c.args.fates.now t c.if-g-failed.false (c.if-fates-word_count.false ∙ c.word_count.ensures)
