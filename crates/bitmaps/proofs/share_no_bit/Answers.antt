-- `bitmaps::share_no_bit` meets its contract: what is shared is 0 exactly where no block passed has both bits. Assumes nothing.
use Prim.Native.Nat.{ℕ, ◌*◌, ◌<◌}
use mathlib.Core.Path.{◌≡◌, refl, ap, ◌∙◌}
use native.Mathlib.Omega.{arith}
use lib.ListN.{take, length}
use lib.Seq.{get_or-take, length-take-le}
use Rattle.std.proofs.lemmas.Slice.Zip.{zip_turn, zip_end}
use Rattle.std.proofs.lemmas.List.{length_push}
use Rattle.bitmaps.specs.Bitmap.{never_both}
use Rattle.bitmaps.proofs.ByteLaws.{share_on}
use Rattle.bitmaps.proofs.share_no_bit.Goals as goal

pub loop-one-init : goal.loop-one-init
unfolding never_both
loop-one-init c = refl

pub loop-one-preserved : goal.loop-one-preserved
loop-one-preserved c =
    let xs = c.args.first.now in
    let ys = c.args.second.now in
    let i = length c.loop-one.yielded in
    let t = zip_turn (take c.args.bytes xs) (take c.args.bytes ys) c.loop-one.yielded c.into_iter-one-iterator.result c.loop-one.one-iterator c.next.new.self c.next.result (cc) (cc) c.loop-one.yielded_by (c.in-Some.one, c.in-Some.other) c.in-Some.is c.next.ensures.steps in
    let all = length-take-le c.args.bytes xs (omega arith) in
    let below : i < c.args.bytes = omega (arith, t.0, all) in
    rw (length_push, t.2 0 ∙ get_or-take c.args.bytes xs i 0 below, t.3 0 ∙ get_or-take c.args.bytes ys i 0 below)
    (share_on xs ys i c.loop-one.shared (omega (arith, c.type_inv.first i)) (omega (arith, c.type_inv.second i)) c.loop-one.invariant)

pub returns : goal.returns
returns c =
    let xs = c.args.first.now in
    let ys = c.args.second.now in
    let t = zip_end (take c.args.bytes xs) (take c.args.bytes ys) c.loop-one.yielded c.into_iter-one-iterator.result c.loop-one.one-iterator c.next.new.self c.next.result (cc) (cc) c.loop-one.yielded_by c.in-None.is c.next.ensures.steps in
    let e : length c.loop-one.yielded ≡ c.args.bytes = omega (arith, t, length-take-le c.args.bytes xs (omega arith), length-take-le c.args.bytes ys (omega arith)) in
    c.loop-one.invariant ∙ ap (λ (n : ℕ). never_both xs ys (8 * n)) e
