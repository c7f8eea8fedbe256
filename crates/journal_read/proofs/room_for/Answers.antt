-- `journal_read::room_for` meets its contract. Assumes nothing.
use native.Mathlib.Nat.{mul-le-mul}
use native.Mathlib.Omega.{arith}
use borrow.Author.Tests.{le-leb, lt-leb}
use Prim.Native.Nat.{◌*◌, ◌≤◌}
use Rattle.journal.specs.Records.{room}
use Rattle.journal_read.proofs.room_for.Goals as goal

pub overflow_mul-pages : goal.overflow_mul-pages
overflow_mul-pages c =
    let most : c.args.g.logical * c.args.g.pages ≤ 4096 * 64 = mul-le-mul {n₂ = 4096} {m₂ = 64} (omega (arith, c.requires.logical_most, c.requires.blocks_most)) c.requires.pages_most in
    omega (arith, most)

pub returns-then-pages-le-MOST_RECORDS : goal.returns-then-pages-le-MOST_RECORDS
unfolding room
returns-then-pages-le-MOST_RECORDS c = rw (le-leb (c.args.g.logical * c.args.g.pages) 65535 c.if-pages-le-MOST_RECORDS.true)

pub returns : goal.returns
unfolding room
returns c = rw (lt-leb (c.args.g.logical * c.args.g.pages) 65535 c.if-pages-le-MOST_RECORDS.false)
