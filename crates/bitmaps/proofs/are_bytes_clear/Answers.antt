-- `bitmaps::are_bytes_clear` meets its contract: what is found and the bytes left decide as all do. Assumes nothing.
use Prim.Native.Nat.{◌+◌, ◌-◌, ◌<◌}
use mathlib.Core.Path.{◌≡◌, ◌∙◌}
use native.Mathlib.Omega.{arith}
use lib.ListN.{drop, length-drop}
use lib.Seq.{get_or-drop, get_or-take, length-take-le}
use Rattle.bitmaps.proofs.ByteLaws.{clear_bytes_on, clear_bytes_over}
use Rattle.bitmaps.proofs.are_bytes_clear.Goals as goal

pub loop-byte-preserved : goal.loop-byte-preserved
loop-byte-preserved c =
    let bits = c.args.bits.now in
    let i = c.loop-byte.byte-index in
    let all = length-take-le (c.args.end - c.args.from) (drop c.args.from bits) (rw length-drop (omega arith)) in
    let below : i < c.args.end - c.args.from = omega (arith, all) in
    let here = get_or-take (c.args.end - c.args.from) (drop c.args.from bits) i 0 below ∙ get_or-drop c.args.from bits i 0 in
    let next : c.args.from + (i + 1) ≡ c.args.from + i + 1 = omega arith in
    rw (here, next)
    (clear_bytes_on bits c.args.end (c.args.from + i) c.loop-byte.found (omega arith) (omega (arith, c.type_inv.bits (c.args.from + i)))
    ∙ c.loop-byte.invariant)

pub returns : goal.returns
returns c =
    let bits = c.args.bits.now in
    let all = length-take-le (c.args.end - c.args.from) (drop c.args.from bits) (rw length-drop (omega arith)) in
    clear_bytes_over bits c.args.end (c.args.from + c.loop-byte.byte-index) c.loop-byte.found (omega (arith, all)) ∙ c.loop-byte.invariant
