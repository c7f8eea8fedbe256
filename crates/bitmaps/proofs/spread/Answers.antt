-- `bitmaps::spread` meets its contract: the bits passed are written. Assumes nothing.
use Prim.Native.Nat.{ℕ}
use mathlib.Core.Path.{◌≡◌, refl, ap, ◌∙◌}
use native.Mathlib.Omega.{arith}
use Rattle.bitmaps.specs.Bitmap.{spread_bits}
use Rattle.bitmaps.proofs.ByteLaws.{spread_on}
use Rattle.bitmaps.proofs.spread.Goals as goal

pub loop-place-init : goal.loop-place-init
unfolding spread_bits
loop-place-init c = refl

pub loop-place-preserved : goal.loop-place-preserved
loop-place-preserved c =
    spread_on c.args.byte c.args.at c.args.flags.now c.loop-place.place c.loop-place.flags _ c.loop-place.invariant refl

pub returns : goal.returns
returns c =
    let e : c.loop-place.place ≡ 8 = omega arith in
    c.loop-place.invariant ∙ ap (λ (n : ℕ). spread_bits c.args.byte c.args.at n c.args.flags.now) e
