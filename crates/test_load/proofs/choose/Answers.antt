-- `test_load::choose` meets its contract. Assumes nothing.
use Rattle.std.proofs.Common.{arith, rules}
use Prim.Native.Nat.{ℕ, ◌%◌}
use mathlib.Core.Path.{◌≡◌, ap, ◌∙◌}
use borrow.Author.Tests.{ne_eqb, lt-ltb, le-ltb}
use lib.Bits.{bit_and, and_mask}
use Rattle.geometry.proofs.LimitLaws.{page-count_bounds}
use Rattle.geometry.proofs.ShiftLaws.{mask_remainder}
use Rattle.test_load.specs.Draws.{drawn}
use Rattle.test_load.specs.Requests.{request_from}
use Rattle.test_load.proofs.choose.Goals as goal

-- the low three bits of a draw are its remainder by 8
low_bits : (k d : ℕ) → k ≡ d → bit_and k 7 ≡ d % 8
low_bits k d e = and_mask k 3 ∙ ap (λ (x : ℕ). x % 8) e

pub overflow_sub-page : goal.overflow_sub-page
overflow_sub-page c = omega (arith, (page-count_bounds c.args.pages c.requires.pages_value).0)

pub returns-then-kind-lt4 : goal.returns-then-kind-lt4
unfolding request_from
returns-then-kind-lt4 c =
    let low = low_bits c.draw-kind.result (drawn c.args.last) c.draw-kind.ensures in
    rw (mask_remainder c.args.pages c.requires.pages_value c.draw-third.result, ne_eqb (drawn c.args.last % 8) 0 (λ e. c.if-kind-eq0.false (low ∙ e)), lt-ltb (drawn c.args.last % 8) 4 (omega (arith, low, c.if-kind-lt4.true))) (search rules)

pub returns-else-kind-lt4 : goal.returns-else-kind-lt4
unfolding request_from
returns-else-kind-lt4 c =
    let low = low_bits c.draw-kind.result (drawn c.args.last) c.draw-kind.ensures in
    rw (mask_remainder c.args.pages c.requires.pages_value c.draw-third.result, ne_eqb (drawn c.args.last % 8) 0 (λ e. c.if-kind-eq0.false (low ∙ e)), le-ltb (drawn c.args.last % 8) 4 (omega (arith, low, c.if-kind-lt4.false))) (search rules)
