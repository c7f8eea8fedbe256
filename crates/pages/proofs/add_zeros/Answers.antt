-- `pages::add_zeros` meets its contract: at every turn the bytes passed are added, each at its place. Assumes nothing.
use native.Mathlib.Omega.{arith}
use Rattle.pages.proofs.CountLaws.{added_none, added_more, added_all}
use Rattle.pages.proofs.add_zeros.Goals as goal

pub loop-i-init : goal.loop-i-init
loop-i-init c = added_none _ _

pub loop-i-preserved : goal.loop-i-preserved
loop-i-preserved c =
    added_more _ c.loop-i.invariant (omega arith) (omega (arith, c.loop-i.invariant.same, c.requires.counts_len)) c.zeros_of.ensures.0

pub returns : goal.returns
returns c = record { counts_len_2 = omega (arith, c.loop-i.invariant.same, c.requires.counts_len); counts_after = added_all c.loop-i.invariant (omega arith); by_index_2 = c.loop-i.invariant.most }
