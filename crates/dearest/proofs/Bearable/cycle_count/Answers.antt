-- `dearest::Bearable::cycle_count` meets its contract. Assumes nothing.
use native.Mathlib.Omega.{arith}
use borrow.Author.Tests.{eq-eqb, ne_eqb}
use Rattle.dearest.specs.Dearest.{dearest_cycles}
use Rattle.dearest.proofs.CycleLaws.{reads_most, programs-most, copies_most}
use Rattle.dearest.proofs.Bearable.cycle_count.Goals as goal

pub overflow_mul-reads : goal.overflow_mul-reads
overflow_mul-reads c = omega (arith, reads_most c.args.self.g c.args.self.within)

pub overflow_mul-programs : goal.overflow_mul-programs
overflow_mul-programs c = rw c.page_size.ensures (omega (arith, programs-most c.args.self.g c.args.self.within))

pub overflow_add-copies-2 : goal.overflow_add-copies-2
overflow_add-copies-2 c =
    rw c.page_size.ensures (omega (arith, reads_most c.args.self.g c.args.self.within, programs-most c.args.self.g c.args.self.within))

pub overflow_add-copies-3 : goal.overflow_add-copies-3
overflow_add-copies-3 c =
    rw c.page_size.ensures (omega (arith, reads_most c.args.self.g c.args.self.within, programs-most c.args.self.g c.args.self.within))

pub overflow_mul-copies : goal.overflow_mul-copies
overflow_mul-copies c =
    rw c.page_size.ensures (omega (arith, copies_most c.args.self.g c.args.self.within c.args.self.failed c.args.self.few))

pub overflow_add-copies-4 : goal.overflow_add-copies-4
overflow_add-copies-4 c =
    rw c.page_size.ensures (omega (arith, copies_most c.args.self.g c.args.self.within c.args.self.failed c.args.self.few))

pub returns-then-self-eq0 : goal.returns-then-self-eq0
unfolding dearest_cycles
returns-then-self-eq0 c =
    rw (c.page_size.ensures, eq-eqb c.args.self.failed 0 c.if-self-eq0.true) (omega arith)

pub overflow_add-result : goal.overflow_add-result
overflow_add-result c =
    rw c.page_size.ensures (omega (arith, programs-most c.args.self.g c.args.self.within))

pub returns-else-self-eq0 : goal.returns-else-self-eq0
unfolding dearest_cycles
returns-else-self-eq0 c =
    rw (c.page_size.ensures, ne_eqb c.args.self.failed 0 c.if-self-eq0.false)
