-- `open_write::is_stopping` meets its contract. Assumes nothing.
use Prim.Native.Nat.{◌≤◌, ◌<◌}
use mathlib.Core.Path.{◌≡◌, refl}
use borrow.Author.Tests.{le-leb, lt-leb, ne_eqb}
use native.Mathlib.Omega.{arith}
use Rattle.open_write.specs.Requests.{stops}
use Rattle.open_write.proofs.is_stopping.Goals as goal

pub returns-in_default : goal.returns-in_default
unfolding stops
returns-in_default c =
    let below : c.args.answer < 8 = omega arith in
    rw (lt-leb 8 c.args.answer below)

pub returns-in_default-2 : goal.returns-in_default-2
unfolding stops
returns-in_default-2 c =
    let above : 11 < c.args.answer = omega arith in
    let other : c.args.answer ≡ 255 → ⊥ = λ e. omega (arith, e) in
    rw (le-leb 8 c.args.answer (omega arith), lt-leb c.args.answer 11 above, ne_eqb c.args.answer 255 other)

pub returns-in-8-to-11-2 : goal.returns-in-8-to-11-2
unfolding stops
returns-in-8-to-11-2 c =
    let low : 8 ≤ c.args.answer = omega arith in
    let high : c.args.answer ≤ 11 = omega arith in
    rw (le-leb 8 c.args.answer low, le-leb c.args.answer 11 high)

pub returns-in-8-to-11 : goal.returns-in-8-to-11
unfolding stops
returns-in-8-to-11 c =
    let is : c.args.answer ≡ 255 = omega arith in
    rw is refl
