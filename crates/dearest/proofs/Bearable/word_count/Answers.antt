-- `dearest::Bearable::word_count` meets its contract. Assumes nothing.
use native.Mathlib.Omega.{arith}
use borrow.Author.Tests.{eq-eqb, ne_eqb}
use Rattle.dearest.specs.Dearest.{dearest_length}
use Rattle.dearest.proofs.CycleLaws.{words_most}
use Rattle.dearest.proofs.Bearable.word_count.Goals as goal

pub overflow_mul-copies-2 : goal.overflow_mul-copies-2
overflow_mul-copies-2 c = omega (arith, words_most c.args.self.g c.args.self.within c.args.self.failed c.args.self.few)

pub returns-then-self-eq0 : goal.returns-then-self-eq0
unfolding dearest_length
returns-then-self-eq0 c = rw (eq-eqb c.args.self.failed 0 c.if-self-eq0.true) (omega arith)

pub returns-else-self-eq0 : goal.returns-else-self-eq0
unfolding dearest_length
returns-else-self-eq0 c = rw (ne_eqb c.args.self.failed 0 c.if-self-eq0.false)
