-- `price_rules::check_selection` meets its contract. Assumes nothing.
use Rattle.std.proofs.Common.{◌≡◌, true, false, length, refl, sym, ◌∙◌, arith, rules, length-append}
use Rattle.std.proofs.lemmas.Slice.Zip.{zip_turn, zip_end}
use Rattle.price_rules.specs.Rules.{covering, any_faulted, falls, faulted}
use Rattle.price_rules.proofs.RuleLaws.{cover_more, cover_same, none_more, any_at, told_wrong, told_overlap, told_gap, told_not}
use Rattle.price_rules.proofs.check_selection.Goals as goal

pub loop-from-init : goal.loop-from-init
unfolding covering any_faulted
loop-from-init c = record { counted = refl; none_wrong = refl; fits = omega arith }

pub returns-then-is_wrong_with : goal.returns-then-is_wrong_with
returns-then-is_wrong_with c =
    let xs = c.args.first.now in
    let ys = c.args.last.now in
    let turn = zip_turn xs ys c.loop-from.yielded _ _ c.next.new.self _ (search rules) (search rules) c.loop-from.yielded_by _ c.in-Some.is c.next.ensures.steps in
    let n = length c.loop-from.yielded in
    let hit : faulted xs ys c.args.s n ≡ true = cc (turn.2 0, turn.3 0, c.is_wrong_with.ensures) in
    told_wrong xs ys c.args.s (any_at xs ys c.args.s (length xs) n turn.0 hit)

pub loop-from-preserved-then-is_within : goal.loop-from-preserved-then-is_within
loop-from-preserved-then-is_within c =
    let xs = c.args.first.now in
    let ys = c.args.last.now in
    let turn = zip_turn xs ys c.loop-from.yielded _ _ c.next.new.self _ (search rules) (search rules) c.loop-from.yielded_by _ c.in-Some.is c.next.ensures.steps in
    let n = length c.loop-from.yielded in
    let right : faulted xs ys c.args.s n ≡ false = cc (turn.2 0, turn.3 0, c.is_wrong_with.ensures) in
    let hit : falls xs ys c.args.s n ≡ true = cc (turn.2 0, turn.3 0, c.is_within.ensures) in
    rw length-append record {
      counted = omega (arith, cover_more xs ys c.args.s n hit);
      none_wrong = none_more xs ys c.args.s n right c.loop-from.invariant.none_wrong;
      fits = omega arith;
    }

pub loop-from-preserved : goal.loop-from-preserved
loop-from-preserved c =
    let xs = c.args.first.now in
    let ys = c.args.last.now in
    let turn = zip_turn xs ys c.loop-from.yielded _ _ c.next.new.self _ (search rules) (search rules) c.loop-from.yielded_by _ c.in-Some.is c.next.ensures.steps in
    let n = length c.loop-from.yielded in
    let right : faulted xs ys c.args.s n ≡ false = cc (turn.2 0, turn.3 0, c.is_wrong_with.ensures) in
    let missed : falls xs ys c.args.s n ≡ false = cc (turn.2 0, turn.3 0, c.is_within.ensures) in
    rw length-append record {
      counted = omega (arith, cover_same xs ys c.args.s n missed);
      none_wrong = none_more xs ys c.args.s n right c.loop-from.invariant.none_wrong;
      fits = omega arith;
    }

pub returns-in-0 : goal.returns-in-0
returns-in-0 c =
    let xs = c.args.first.now in
    let ys = c.args.last.now in
    let end = zip_end xs ys c.loop-from.yielded _ _ c.next.new.self _ (search rules) (search rules) c.loop-from.yielded_by c.in-None.is c.next.ensures.steps in
    let whole : length c.loop-from.yielded ≡ length xs = omega (arith, end) in
    told_gap xs ys c.args.s (rw whole at c.loop-from.invariant.none_wrong) (sym (rw whole at c.loop-from.invariant.counted) ∙ c.in-0.is)

pub returns-in-1 : goal.returns-in-1
returns-in-1 c =
    let xs = c.args.first.now in
    let ys = c.args.last.now in
    let end = zip_end xs ys c.loop-from.yielded _ _ c.next.new.self _ (search rules) (search rules) c.loop-from.yielded_by c.in-None.is c.next.ensures.steps in
    let whole : length c.loop-from.yielded ≡ length xs = omega (arith, end) in
    told_not xs ys c.args.s (rw whole at c.loop-from.invariant.none_wrong) (sym (rw whole at c.loop-from.invariant.counted) ∙ c.in-1.is)

pub returns-in_default : goal.returns-in_default
returns-in_default c =
    let xs = c.args.first.now in
    let ys = c.args.last.now in
    let end = zip_end xs ys c.loop-from.yielded _ _ c.next.new.self _ (search rules) (search rules) c.loop-from.yielded_by c.in-None.is c.next.ensures.steps in
    let whole : length c.loop-from.yielded ≡ length xs = omega (arith, end) in
    told_overlap xs ys c.args.s (rw whole at c.loop-from.invariant.none_wrong) (omega (arith, rw whole at c.loop-from.invariant.counted, c.in_default))
