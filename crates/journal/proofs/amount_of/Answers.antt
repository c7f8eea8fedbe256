-- `journal::amount_of` meets its contract. Assumes nothing.
use Prim.Native.Nat.{◌≤◌}
use mathlib.Core.Path.{◌≡◌}
use native.Mathlib.Nat.{mul-le-mul}
use native.Mathlib.Omega.{arith}
use Rattle.cells.specs.Part.{part}
use Rattle.pages.specs.Layout.{number_of}
use Rattle.pages.proofs.ByteLaws.{pair_is, four_is}
use Rattle.journal.proofs.amount_of.Goals as goal

pub returns : goal.returns
returns c =
    let xs = c.args.bytes.now in
    let count : c.from.result ≡ number_of (part 0 2 xs) = omega (arith, c.from.ensures, c.from_le_bytes-count.ensures, pair_is 0 xs (omega arith)) in
    let price : c.from-2.result ≡ number_of (part 2 4 xs) = omega (arith, c.from-2.ensures, c.from_le_bytes-price.ensures, four_is 2 xs (omega (arith, c.requires)), pair_is 2 xs (omega arith), pair_is 4 xs (omega (arith, c.requires))) in
    let count-most : c.from.result ≤ 65535 = omega arith in
    let price-most : c.from-2.result ≤ 4294967295 = omega arith in
    (rw (← count, ← price), mul-le-mul count-most price-most)
