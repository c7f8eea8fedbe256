-- `parameters::four_at` meets its contract. Assumes nothing.
use Prim.Native.Nat.{ℕ, ◌+◌}
use mathlib.Core.Path.{◌≡◌, ap}
use native.Mathlib.Omega.{arith}
use lib.ListN.{get_or}
use Rattle.pages.proofs.ByteLaws.{pair_is, four_is}
use Rattle.parameters.proofs.four_at.Goals as goal

pub returns : goal.returns
returns c =
    let at = c.args.at in
    let xs = c.args.copy.now in
    let last : get_or xs (at + 2 + 1) 0 ≡ get_or xs (at + 3) 0 = ap (λ (k : ℕ). get_or xs k 0) (omega arith) in
    omega (arith, c.from_le_bytes.ensures, four_is at xs (omega arith), pair_is at xs (omega arith), pair_is (at + 2) xs (omega arith), last)
