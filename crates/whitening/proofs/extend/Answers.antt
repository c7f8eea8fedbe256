-- `whitening::extend` meets its contract: a list that began as the stream does goes on as it does. Assumes nothing.
use mathlib.Core.Path.{◌∙◌}
use native.Mathlib.Omega.{arith}
use borrow.Author.Rules.{rules}
use lib.ListN.{length-set}
use Rattle.whitening.proofs.BeginLaws.{begins_fewer, begins_again}
use Rattle.whitening.proofs.extend.Goals as goal

pub loop-at-init : goal.loop-at-init
loop-at-init c = (search rules, λ r b. b)

pub loop-at-preserved : goal.loop-at-preserved
loop-at-preserved c = (
  length-set c.loop-at.stream c.loop-at.at _ ∙ c.loop-at.invariant.0,
  λ r b. begins_again c.loop-at.at c.args.apart r c.loop-at.stream (search rules) (omega arith) (search rules) (omega arith) (c.loop-at.invariant.1 r b),
)

pub returns : goal.returns
returns c = record { stream_len_2 = c.loop-at.invariant.0; by_index = λ r b. begins_fewer c.loop-at.at c.args.end r c.loop-at.stream (omega arith) (c.loop-at.invariant.1 r b) }
