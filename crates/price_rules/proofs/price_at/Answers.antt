-- `price_rules::price_at` meets its contract. Assumes nothing.
use Rattle.std.proofs.Common.{◌≡◌, true, false, length, refl, sym, ◌∙◌, arith, rules, length-append}
use Rattle.std.specs.List.{zip}
use Rattle.std.proofs.lemmas.Iterator.{YieldsList-from_slice, YieldsList-from_zip}
use Rattle.std.proofs.lemmas.Iterator.Consumers.{YieldsList-turn, YieldsList-end}
use Rattle.std.proofs.lemmas.Slice.Zip.{length-zip}
use Rattle.price_rules.specs.Rules.{price_among, falls}
use Rattle.price_rules.proofs.RuleLaws.{rule_at, price_here, price_kept}
use Rattle.price_rules.proofs.price_at.Goals as goal

pub loop-from-init : goal.loop-from-init
unfolding price_among
loop-from-init c = refl

pub loop-from-preserved-then-is_within : goal.loop-from-preserved-then-is_within
loop-from-preserved-then-is_within c =
    let xs = c.args.first.now in
    let ys = c.args.last.now in
    let zs = c.args.price.now in
    let turn = YieldsList-turn (YieldsList-from_zip (YieldsList-from_zip (YieldsList-from_slice xs (search rules)) (YieldsList-from_slice ys (search rules))) (YieldsList-from_slice zs (search rules))) c.loop-from.yielded _ c.loop-from.yielded_by _ c.next.new.self _ c.in-Some.is c.next.ensures.steps in
    let rule = rule_at xs ys zs (length c.loop-from.yielded) _ _ _ turn.0 turn.1 in
    let hit : falls xs ys c.args.s (length c.loop-from.yielded) ≡ true = cc (rule.0, rule.1, c.is_within.ensures) in
    rw length-append (rule.2 ∙ sym (price_here xs ys zs c.args.s (length c.loop-from.yielded) hit))

pub loop-from-preserved : goal.loop-from-preserved
loop-from-preserved c =
    let xs = c.args.first.now in
    let ys = c.args.last.now in
    let zs = c.args.price.now in
    let turn = YieldsList-turn (YieldsList-from_zip (YieldsList-from_zip (YieldsList-from_slice xs (search rules)) (YieldsList-from_slice ys (search rules))) (YieldsList-from_slice zs (search rules))) c.loop-from.yielded _ c.loop-from.yielded_by _ c.next.new.self _ c.in-Some.is c.next.ensures.steps in
    let rule = rule_at xs ys zs (length c.loop-from.yielded) _ _ _ turn.0 turn.1 in
    let missed : falls xs ys c.args.s (length c.loop-from.yielded) ≡ false = cc (rule.0, rule.1, c.is_within.ensures) in
    rw length-append (c.loop-from.invariant ∙ sym (price_kept xs ys zs c.args.s (length c.loop-from.yielded) missed))

pub returns : goal.returns
returns c =
    let xs = c.args.first.now in
    let ys = c.args.last.now in
    let zs = c.args.price.now in
    let end = YieldsList-end (YieldsList-from_zip (YieldsList-from_zip (YieldsList-from_slice xs (search rules)) (YieldsList-from_slice ys (search rules))) (YieldsList-from_slice zs (search rules))) c.loop-from.yielded _ c.loop-from.yielded_by _ c.next.new.self c.in-None.is c.next.ensures.steps in
    let whole : length c.loop-from.yielded ≡ length xs = omega (arith, end.1, length-zip (zip xs ys) zs, length-zip xs ys) in
    rw whole at c.loop-from.invariant
